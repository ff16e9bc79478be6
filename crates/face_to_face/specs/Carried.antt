-- From the set of cuts that accepted tables represent to the tables: faces over names are faces over vertex numbers.
use Rattle.std.specs.Prelude.{◌≡◌, refl, ◌⊎◌, ℕ, ◌<◌}
use Rattle.std.proofs.Common.{sym, ap, ◌∙◌, inl, inr, ⊎_elim, arith}
use Rattle.laws.specs.Pairs.{SamePair}
use Rattle.piece_edges.specs.Edges.{low_slot, high_slot, slots_small}
use Rattle.piece.specs.Shape.{Shape, shape_of, mark}
use Rattle.piece.specs.Ends.{corner_at}
use Rattle.stored.specs.Layout.{Stored}
use Rattle.mesh_tables.specs.Tables.{Tables, tables_of, all_vertices, base_records, all_records, piece_at}
use Rattle.check_meaning.specs.Accepted.{OnRecordFace, SameRecordFace, marked_ends, Leaf, RightFaces, NoneHangs, Accepted}
use Rattle.check_meaning.specs.Cuts.{is_leaf, stored_four}
use Rattle.check_meaning.proofs.Cuts.{rule10_holds}
use Rattle.build_meaning.specs.Edges.{ends_same}
use Rattle.cuts_names.specs.Names.{Name, mid, mid_not_base_lem}
use Rattle.cuts_names.proofs.Names.{mid_injective_lem}
use Rattle.cuts_names.specs.Pieces as Pieces
use Rattle.cuts_names.specs.Pieces.{Piece, Node, mid_of}
use Rattle.cuts_names.specs.Base as Named
use Rattle.cuts_names.specs.Base.{marked_at}
use Rattle.cuts_names.specs.Macro.{Alike, mid_alike}
use Rattle.cuts.specs.Sets as Sets
use Rattle.cuts.specs.Sets.{Cuts}
use Rattle.cuts.specs.Tables.{Lawful, name_of, piece_of, node_of, Represents}
use Rattle.cuts.specs.LinkNames.{base_or_beyond, name_base, name_made, names_distinct_lem, marked}
use Rattle.cuts.specs.LinkAlike.{alike_self, alike_back}
use Rattle.cuts.specs.LinkNodes.{linked, nodes_distinct_lem}
use Rattle.cuts.specs.LinkSets.{cuts_of, represented, uncut_leaf_lem, leaf_uncut_lem}
use Rattle.cuts.specs.LinkGrown.{grown_rests_lem}
use Rattle.cuts_faces.specs.FaceToFace as Over
use Rattle.cuts_faces.specs.FaceToFace.{ProperlyMarked, MarkedAlike}
use Rattle.cuts_faces.proofs.Proved.{face_to_face_lem, marked_alike}
use Rattle.demands_proofs.specs.Link.{link}
use Rattle.demands_proofs.specs.Lawful.{accepted_lawful}
use Rattle.demands_proofs.specs.MarkedBase.{before_or_same}
use Rattle.demands_proofs.specs.Hanging.{none_hangs}
use Rattle.face_to_face.specs.Words.{LiesIn, corner, descends, InTwo, InOne, FaceToFace}

-- ---- pieces that are alike

-- They have the same faces.
on_alike : {p q : Piece Name} → Alike p q → (i : ℕ) (x : Name) → Named.OnFace p i x → Named.OnFace q i x
on_alike a i x (k, l, o, e) = (k, l, o, sym (a.corner k l) ∙ e)

face_alike : {p p' q q' : Piece Name} → Alike p p' → Alike q q' → (i j : ℕ) → Named.SameFace p i q j → Named.SameFace p' i q' j
face_alike a b i j f x = (
  λ h. on_alike b j x ((f x).0 (on_alike (alike_back a) i x h)),
  λ h. on_alike a i x ((f x).1 (on_alike (alike_back b) j x h)),
)

-- They mark them alike.
mark_alike : {p q : Piece Name} → Alike p q → (i : ℕ) → marked_at p i ≡ marked_at q i
mark_alike {p} {q} a i = mid_alike a (mark p.shape i) ∙ ap (λ (s : Shape). mid_of q (mark s i)) a.shape

module _ (m : Tables) (l : Lawful (link m)) where
  -- ---- vertex numbers and names

  -- A vertex's name, a record's piece over names, its node, and the piece at its node.
  abbrev name : ℕ → Name
  name = name_of (link m)

  abbrev base : ℕ → Piece Name
  base = piece_of (link m)

  abbrev node_at : ℕ → Node
  node_at = node_of (link m)

  abbrev at_node : ℕ → Piece Name
  at_node r = Pieces.piece_at (piece_of (link m)) (node_of (link m) r)

  -- A base record is a record.
  base_record : {r : ℕ} → r < base_records m → r < all_records m
  base_record h = omega (arith, l.record_counts)

  -- The corners of records are vertices, so one name is one number.
  one_number : (r s : ℕ) → r < all_records m → s < all_records m → (j k : ℕ) → j < 4 → k < 4 → name (corner_at (piece_at m r) j) ≡ name (corner_at (piece_at m s) k) → corner_at (piece_at m r) j ≡ corner_at (piece_at m s) k
  one_number r s hr hs j k bj bk = names_distinct_lem (link m) l (corner_at (piece_at m r) j) (corner_at (piece_at m s) k) ((linked (link m) l r hr).corners j bj) ((linked (link m) l s hs).corners k bk)

  -- ---- faces

  -- What holds of the numbers of a face's corners holds of their names.
  on_named : (r i s j : ℕ) → ((x : ℕ) → OnRecordFace (piece_at m r) i x → OnRecordFace (piece_at m s) j x) → (x : Name) → Named.OnFace (base r) i x → Named.OnFace (base s) j x
  on_named r i s j f x (k, b, o, e) = let (n, c, o', d) = f (corner_at (piece_at m r) k) (k, b, o, refl) in (n, c, o', ap name d ∙ e)

  face_named : (r i s j : ℕ) → SameRecordFace (piece_at m r) i (piece_at m s) j → Named.SameFace (base r) i (base s) j
  face_named r i s j f x = (on_named r i s j (λ y. (f y).0) x, on_named s j r i (λ y. (f y).1) x)

  -- What holds of their names holds of their numbers.
  on_numbered : (r i s j : ℕ) → r < all_records m → s < all_records m → ((x : Name) → Named.OnFace (base r) i x → Named.OnFace (base s) j x) → (x : ℕ) → OnRecordFace (piece_at m r) i x → OnRecordFace (piece_at m s) j x
  on_numbered r i s j hr hs f x (k, b, o, e) = let (n, c, o', d) = f (name (corner_at (piece_at m r) k)) (k, b, o, refl) in (n, c, o', one_number s r hs hr n k c b d ∙ e)

  face_numbered : (r i s j : ℕ) → r < all_records m → s < all_records m → Named.SameFace (base r) i (base s) j → SameRecordFace (piece_at m r) i (piece_at m s) j
  face_numbered r i s j hr hs f x = (on_numbered r i s j hr hs (λ y. (f y).0) x, on_numbered s j r i hs hr (λ y. (f y).1) x)

  -- Two records have a face in common just where their nodes have.
  face_nodes : (r i s j : ℕ) → r < all_records m → s < all_records m → SameRecordFace (piece_at m r) i (piece_at m s) j → Named.SameFace (at_node r) i (at_node s) j
  face_nodes r i s j hr hs f = face_alike (linked (link m) l r hr).piece (linked (link m) l s hs).piece i j (face_named r i s j f)

  face_records : (r i s j : ℕ) → r < all_records m → s < all_records m → Named.SameFace (at_node r) i (at_node s) j → SameRecordFace (piece_at m r) i (piece_at m s) j
  face_records r i s j hr hs f = face_numbered r i s j hr hs (face_alike (alike_back (linked (link m) l r hr).piece) (alike_back (linked (link m) l s hs).piece) i j f)

  -- ---- the marked edge of a face

  -- Edges with one midpoint have the same two vertex numbers.
  edge_numbered : (r e s f : ℕ) → r < all_records m → s < all_records m → mid_of (base r) e ≡ mid_of (base s) f →
      SamePair (corner_at (piece_at m r) (low_slot e)) (corner_at (piece_at m r) (high_slot e)) (corner_at (piece_at m s) (low_slot f)) (corner_at (piece_at m s) (high_slot f))
  edge_numbered r e s f hr hs q =
      let a = slots_small e in
      let b = slots_small f in
      ⊎_elim
      (λ h. inl (one_number r s hr hs (low_slot e) (low_slot f) a.0 b.0 h.0, one_number r s hr hs (high_slot e) (high_slot f) a.1 b.1 h.1))
      (λ h. inr (one_number r s hr hs (low_slot e) (high_slot f) a.0 b.1 h.0, one_number r s hr hs (high_slot e) (low_slot f) a.1 b.0 h.1))
      (mid_injective_lem ((base r).corner (low_slot e)) ((base r).corner (high_slot e)) ((base s).corner (low_slot f)) ((base s).corner (high_slot f)) q)

  -- Faces that the nodes mark alike are marked alike in the records.
  mark_records : (r i s j : ℕ) → r < all_records m → s < all_records m → marked_at (at_node r) i ≡ marked_at (at_node s) j → marked_ends (piece_at m r) i ≡ marked_ends (piece_at m s) j
  mark_records r i s j hr hs q =
      let e = mark (shape_of (piece_at m r)) i in
      let f = mark (shape_of (piece_at m s)) j in
      ends_same (piece_at m r) (piece_at m s) e f
      (edge_numbered r e s f hr hs (mark_alike (linked (link m) l r hr).piece i ∙ q ∙ sym (mark_alike (linked (link m) l s hs).piece j)))

  -- ---- lying in a base face

  -- A vertex whose name is the midpoint of two names that lie in it is made, and its parents have these two names.
  halfway_lies : (r g : ℕ) (a b : Name) → ((v : ℕ) → v < all_vertices m → name v ≡ a → LiesIn m r g v) → ((v : ℕ) → v < all_vertices m → name v ≡ b → LiesIn m r g v) →
      (v : ℕ) → v < all_vertices m → name v ≡ mid a b → LiesIn m r g v
  halfway_lies r g a b at_a at_b v h e =
      ⊎_elim
      (λ below. absurd (mid_not_base_lem a b v (sym e ∙ name_base (link m) l v below)))
      (λ beyond.
      let o = l.parents v (beyond, h) in
      let p = (m.vertex_at v).p in
      let q = (m.vertex_at v).q in
      let there : (p < all_vertices m) × (q < all_vertices m) = (omega arith, omega arith) in
      ⊎_elim
      (λ s. descends (record { beyond = beyond; there = h }) (at_a p there.0 s.0) (at_b q there.1 s.1))
      (λ s. descends (record { beyond = beyond; there = h }) (at_b p there.0 s.0) (at_a q there.1 s.1))
      (mid_injective_lem (name p) (name q) a b (sym (name_made (link m) l v (beyond, h)) ∙ e)))
      (base_or_beyond v (link m).base_vertices)

  -- What lies in a base face by its name lies in it by its number.
  lies : (r g : ℕ) → r < all_records m → {x : Name} → Over.LiesIn (base r) g x → (v : ℕ) → v < all_vertices m → name v ≡ x → LiesIn m r g v
  lies r g hr (Over.corner (k, b, o, e)) v h q = corner (k, b, o, names_distinct_lem (link m) l (corner_at (piece_at m r) k) v ((linked (link m) l r hr).corners k b) h (e ∙ sym q))
  lies r g hr (Over.midpoint {a = a} {b = b} at_a at_b e) v h q = halfway_lies r g a b (lies r g hr at_a) (lies r g hr at_b) v h (q ∙ e)

  -- ---- the base

  module _ (f : RightFaces m) where
    -- No three base records, in the order of their numbers, have face i of record r.
    not_in_three : (r i p q n g h k : ℕ) → p < q → q < n → n < base_records m → g < 4 → h < 4 → k < 4 →
        SameRecordFace (piece_at m r) i (piece_at m p) g → SameRecordFace (piece_at m r) i (piece_at m q) h → SameRecordFace (piece_at m r) i (piece_at m n) k → ⊥
    not_in_three r i p q n g h k pq qn there bg bh bk a b c =
        f.in_two p q n g h k pq qn there bg bh bk (λ x. (λ y. (c x).0 ((a x).1 y), λ y. (a x).0 ((c x).1 y))) (λ x. (λ y. (c x).0 ((b x).1 y), λ y. (b x).0 ((c x).1 y)))

    -- So of three that have it, whatever their order, two are one record.
    in_two : (r s n : ℕ) → r < base_records m → s < base_records m → n < base_records m → (i j k : ℕ) → i < 4 → j < 4 → k < 4 →
        SameRecordFace (piece_at m r) i (piece_at m s) j → SameRecordFace (piece_at m r) i (piece_at m n) k → (r ≡ s) ⊎ ((r ≡ n) ⊎ (s ≡ n))
    in_two r s n hr hs hn i j k bi bj bk a b =
        let own : SameRecordFace (piece_at m r) i (piece_at m r) i = λ x. (λ y. y, λ y. y) in
        ⊎_elim
        (λ rs.
        ⊎_elim
        (λ rn.
        ⊎_elim (λ sn. absurd (not_in_three r i r s n i j k rs sn hn bi bj bk own a b))
        (⊎_elim (λ e. inr (inr e)) (λ ns. absurd (not_in_three r i r n s i k j rn ns hs bi bk bj own b a)))
        (before_or_same s n))
        (⊎_elim (λ e. inr (inl e)) (λ nr. absurd (not_in_three r i n r s k i j nr rs hs bk bi bj b own a)))
        (before_or_same r n))
        (⊎_elim inl
        (λ sr.
        ⊎_elim
        (λ rn. absurd (not_in_three r i s r n j i k sr rn hn bj bi bk a own b))
        (⊎_elim (λ e. inr (inl e))
        (λ nr.
        ⊎_elim (λ sn. absurd (not_in_three r i s n r j k i sn nr hr bj bk bi a b own))
        (⊎_elim (λ e. inr (inr e)) (λ ns. absurd (not_in_three r i n s r k j i ns sr hr bk bj bi b a own)))
        (before_or_same s n)))
        (before_or_same r n)))
        (before_or_same r s)

    -- The base records are a properly marked base.
    properly_marked : ProperlyMarked (base_records m) base
    properly_marked =
        let b = marked (link m) l in
        record {
          valid = b.valid;
          unset = b.unset;
          corners = b.corners;
          different = b.different;
          alone = b.alone;
          in_two =
              λ r s n hr hs hn i j k bi bj bk x y.
              in_two r s n hr hs hn i j k bi bj bk (face_numbered r i s j (base_record hr) (base_record hs) x) (face_numbered r i n k (base_record hr) (base_record hn) y);
          one_mark = b.shared;
        }

  -- ---- the faces of a leaf

  module _ (C : Cuts (base_records m)) (rep : Represents (link m) C) where
    -- Where no edge of the tables hangs, none of the set does.
    rests : NoneHangs m → Sets.NoneHangs base C
    rests none = grown_rests_lem (record { lawful = l; represents = rep; alike = λ r b. alike_self (base r) }) (none_hangs m l ((rule10_holds m).1 none))

    -- A leaf's node is a leaf.
    leaf_node : (n : ℕ) → n < all_records m → Leaf m n → Sets.Leaf C (node_at n)
    leaf_node n h leaf = uncut_leaf_lem (link m) l C rep n h ((is_leaf m n).1 leaf)

    -- A face that is in exactly two leaves of the set is in exactly two leaves of the tables.
    two_leaves : (n i : ℕ) → n < all_records m → Over.InTwo base C (node_at n) i → InTwo m n i
    two_leaves n i h x =
        let (c, there, uncut, q) = leaf_uncut_lem (link m) l C rep x.other x.leaf in
        record {
          other = c;
          there = there;
          leaf = (is_leaf m c).0 uncut;
          apart = λ e. x.apart (sym q ∙ ap node_at e);
          j = x.j;
          face = x.face;
          same = face_records n i c x.j h there (rw q x.same);
          only =
              λ k hk leaf g b same.
              ⊎_elim (λ e. inl (nodes_distinct_lem (link m) l k n hk h e)) (λ e. inr (nodes_distinct_lem (link m) l k c hk there (e ∙ sym q)))
              (x.only (node_at k) (leaf_node k hk leaf) g b (face_nodes n i k g h hk same));
        }

    -- A face that is in one leaf of the set, and lies in a base face that is in one base piece only, is so in the tables.
    one_leaf : (n i : ℕ) → n < all_records m → Over.InOne base C (node_at n) i → InOne m n i
    one_leaf n i h x =
        let hr : x.r < all_records m = base_record x.piece in
        record {
          only = λ k hk leaf g b same. nodes_distinct_lem (link m) l k n hk h (x.only (node_at k) (leaf_node k hk leaf) g b (face_nodes n i k g h hk same));
          r = x.r;
          base = x.piece;
          g = x.g;
          face = x.face;
          lies =
              λ v (k, b, o, e).
              let there = (linked (link m) l n h).corners k b in
              lies x.r x.g hr (x.lies (name v) (on_alike (linked (link m) l n h).piece i (name v) (k, b, o, ap name e))) v (omega (arith, there, e)) refl;
          one_record = λ b hb g bg same. x.alone b hb g bg (face_named x.r x.g b g same);
        }

    -- A set that meets face to face, with shared faces marked alike, gives tables that do.
    tables_meet : Over.FaceToFace base C → MarkedAlike base C → FaceToFace m
    tables_meet meets alike =
        record {
          faces = λ n h leaf i b. ⊎_elim (λ x. inl (two_leaves n i h x)) (λ x. inr (one_leaf n i h x)) (meets (node_at n) (leaf_node n h leaf) i b);
          alike =
              λ n k hn hk leaf leaf' i j bi bj same.
              mark_records n i k j hn hk (alike (node_at n) (node_at k) (leaf_node n hn leaf) (leaf_node k hk leaf') i j bi bj (face_nodes n i k j hn hk same));
        }

-- Every accepted mesh meets face to face.
pub accepted_meets : (s : Stored) → Accepted s → FaceToFace (tables_of s)
accepted_meets s a =
    let m = tables_of s in
    let l = accepted_lawful m a.mesh (stored_four s) in
    let C = cuts_of (link m) l in
    let rep = represented (link m) l in
    let proper = properly_marked m l a.mesh.faces in
    tables_meet m l C rep (face_to_face_lem proper C (rests m l C rep a.none_hangs)) (marked_alike proper C)
