-- The theorem over sets of cuts: where no edge hangs, the leaves meet face to face, and mark their shared faces alike.
use Rattle.std.specs.Prelude.{◌≡◌, ◌⊎◌, ◌≢◌, ℕ, ◌<◌}
use Rattle.std.proofs.Common.{sym, ap, ◌∙◌, inl, inr, ⊎_elim}
use Rattle.laws.specs.Below.{either}
use Rattle.cuts_names.specs.Names.{Name}
use Rattle.cuts_names.specs.Lists.{both_ways}
use Rattle.cuts_names.specs.Pieces.{Piece, Node, piece_at}
use Rattle.cuts_names.specs.Base.{SameFace}
use Rattle.cuts.specs.Sets.{Cuts, Leaf, NoneHangs}
use Rattle.cuts.specs.Depth.{there_rooted}
use Rattle.cuts.specs.Least.{same_node, node_equality}
use Rattle.cuts.specs.Faces.{shared_face_one_mark}
use Rattle.cuts_faces.specs.FaceToFace.{ProperlyMarked, InTwo, InOne, FaceToFace, MarkedAlike}
use Rattle.cuts_faces.specs.Apart.{leaves_apart, apart_not_same}
use Rattle.cuts_faces.proofs.AtMost.{proper_marked, never_three, never_beyond}
use Rattle.cuts_faces.specs.Twin.{TwinOf, Outside, twin, leaf_twin}

-- Two nodes are the same or not.
node_or : (n m : Node) → (n ≡ m) ⊎ (n ≢ m)
node_or n m =
    ⊎_elim (λ t. inl (node_equality.only n m t)) (λ f. inr (λ e. both_ways (ap (same_node n) (sym e) ∙ node_equality.self n) f)) (either (same_node n m))

module _ {count : ℕ} {base : ℕ → Piece Name} (proper : ProperlyMarked count base) (C : Cuts count) where
  -- A leaf comes from a base piece.
  leaf_rooted : (n : Node) → Leaf C n → n.root < count
  leaf_rooted n leaf = there_rooted C n leaf.there

  module _ (rests : NoneHangs base C) (n : Node) (leaf : Leaf C n) (i : ℕ) (l : i < 4) where
    -- Where another leaf has the face, a third does not.
    two : (t : TwinOf (proper_marked proper) C rests n i) → Leaf C t.m → InTwo base C n i
    two t other =
        record {
          other = t.m;
          leaf = other;
          apart = λ e. apart_not_same n t.m t.apart (sym e);
          j = t.j;
          face = t.face;
          same = t.same;
          only = only;
        }
      where
        only : (m : Node) → Leaf C m → (k : ℕ) → k < 4 → SameFace (piece_at base n) i (piece_at base m) k → (m ≡ n) ⊎ (m ≡ t.m)
        only m third k h f =
            ⊎_elim inl
            (λ (d : m ≢ n).
            inr (⊎_elim (λ e. e)
            (λ (d' : m ≢ t.m).
            absurd (never_three proper n t.m m (leaf_rooted n leaf) (leaf_rooted t.m other) (leaf_rooted m third) t.apart
            (leaves_apart C n m leaf third (λ e. d (sym e))) (leaves_apart C t.m m other third (λ e. d' (sym e))) i t.j k l t.face h t.same f))
            (node_or m t.m)))
            (node_or m n)

    -- Where it lies in a base face of one base piece, another leaf does not have it.
    one : Outside (proper_marked proper) C rests n i → InOne base C n i
    one o = record { only = only; r = o.r; piece = o.piece; g = o.g; face = o.face; lies = o.lies; alone = o.alone }
      where
        only : (m : Node) → Leaf C m → (k : ℕ) → k < 4 → SameFace (piece_at base n) i (piece_at base m) k → m ≡ n
        only m second k h f =
            ⊎_elim (λ e. e)
            (λ (d : m ≢ n).
            absurd (never_beyond proper n m (leaf_rooted n leaf) (leaf_rooted m second) (leaves_apart C n m leaf second (λ e. d (sym e))) i k l h f o.r o.g o.piece o.face o.lies o.alone))
            (node_or m n)

  -- Each face of a leaf is in two leaves, or in one and lies in a base face of one base piece. No finiteness is asked: a set with no hanging edge may be any set.
  pub face_to_face_lem : NoneHangs base C → FaceToFace base C
  face_to_face_lem rests n leaf i l =
      ⊎_elim (λ t. let (u, other) = leaf_twin (proper_marked proper) C rests n leaf i l t in inl (two rests n leaf i l u other)) (λ o. inr (one rests n leaf i l o))
      (twin (proper_marked proper) C rests n leaf.there i l)

  -- Two leaves that share a face mark it alike, whether or not an edge hangs.
  pub marked_alike : MarkedAlike base C
  marked_alike n m leaf second i j h h' f = shared_face_one_mark (proper_marked proper) n m (leaf_rooted n leaf) (leaf_rooted m second) i j h h' f
