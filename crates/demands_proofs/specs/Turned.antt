-- Two base meshes that differ in the order of their pieces' corners alone: what is asked of corners and faces as sets holds of both or of neither.
-- Assumes nothing.
use Rattle.std.specs.Prelude.{◌≡◌, ◌↔◌, ℕ, ◌<◌}
use Rattle.std.proofs.Math.Path.{sym, ap}
use Rattle.std.proofs.Common.{◌∙◌, subst, arith}
use Rattle.grid.specs.declared.Place.{Place}
use Rattle.grid.specs.Places.{Point, point_of}
use Rattle.grid_volume.specs.Volume.{sixfold_of}
use Rattle.grid_inside.specs.Weights.{WeightedMean}
use Rattle.demands_words.specs.Words.{BaseMesh, point_at, BaseCornerOf, OnBaseFace, SameBaseCorners, SameBaseFace, RightPieces, RightTogether, AllUsed, HangsOn, NoVertexHangs, SomeVertexHangs}

-- Slot k of piece r in one is slot `slot r k` in the other, and back.
pub record Turned (b b' : BaseMesh) : Type 0 where
  pub vertices : b.vertices ≡ b'.vertices
  pub pieces : b.pieces ≡ b'.pieces
  pub place : (v : ℕ) → b.place_at v ≡ b'.place_at v
  pub slot : ℕ → ℕ → ℕ
  pub small : (r k : ℕ) → k < 4 → slot r k < 4
  pub twice : (r k : ℕ) → k < 4 → slot r (slot r k) ≡ k
  pub corner : (r k : ℕ) → k < 4 → b.corner_at r k ≡ b'.corner_at r (slot r k)
  pub sixfold : (r : ℕ) → sixfold_of (λ k. point_at b (b.corner_at r k)) ≡ sixfold_of (λ k. point_at b' (b'.corner_at r k))
  -- the same points lie in the closed piece
  pub closed : (r : ℕ) (p : Point) → WeightedMean (λ k. point_at b (b.corner_at r k)) p ↔ WeightedMean (λ k. point_at b' (b'.corner_at r k)) p

pub turned_back : {b b' : BaseMesh} → Turned b b' → Turned b' b
turned_back {b} {b'} t =
    record {
      vertices = sym t.vertices;
      pieces = sym t.pieces;
      place = λ v. sym (t.place v);
      slot = t.slot;
      small = t.small;
      twice = t.twice;
      corner = λ r k l. ap (b'.corner_at r) (sym (t.twice r k l)) ∙ sym (t.corner r (t.slot r k) (t.small r k l));
      sixfold = λ r. sym (t.sixfold r);
      closed = λ r p. let (there, back) = t.closed r p in (back, there);
    }

-- ---- corners and faces

corner_turned : {b b' : BaseMesh} → Turned b b' → (r x : ℕ) → BaseCornerOf b r x → BaseCornerOf b' r x
corner_turned t r x (k, l, e) = (t.slot r k, t.small r k l, sym (t.corner r k l) ∙ e)

face_turned : {b b' : BaseMesh} (t : Turned b b') (r i : ℕ) → i < 4 → (x : ℕ) → OnBaseFace b r i x → OnBaseFace b' r (t.slot r i) x
face_turned t r i li x (k, l, other, e) =
    (t.slot r k, t.small r k l, (λ s. other (sym (t.twice r k l) ∙ ap (t.slot r) s ∙ t.twice r i li)), sym (t.corner r k l) ∙ e)

-- Face i in the second mesh is the face in the first that the slot says.
face_from : {b b' : BaseMesh} (t : Turned b b') (r i : ℕ) → i < 4 → (x : ℕ) → OnBaseFace b r (t.slot r i) x → OnBaseFace b' r i x
face_from {b} {b'} t r i li x f = subst (λ (j : ℕ). OnBaseFace b' r j x) (t.twice r i li) (face_turned t r (t.slot r i) (t.small r i li) x f)

same_corners_from : {b b' : BaseMesh} → Turned b b' → (r s : ℕ) → SameBaseCorners b' r s → SameBaseCorners b r s
same_corners_from t r s same x = (
  λ c. corner_turned (turned_back t) s x ((same x).0 (corner_turned t r x c)),
  λ c. corner_turned (turned_back t) r x ((same x).1 (corner_turned t s x c)),
)

same_face_from : {b b' : BaseMesh} (t : Turned b b') (r i s j : ℕ) → i < 4 → j < 4 → SameBaseFace b' r i s j → SameBaseFace b r (t.slot r i) s (t.slot s j)
unfolding turned_back
same_face_from t r i s j li lj same x = (
  λ f. face_turned (turned_back t) s j lj x ((same x).0 (face_from t r i li x f)),
  λ f. face_turned (turned_back t) r i li x ((same x).1 (face_from t s j lj x f)),
)

-- ---- what build's rules ask

module _ {b b' : BaseMesh} (t : Turned b b') where
  pub pieces_turned : RightPieces b → RightPieces b'
  unfolding turned_back
  pieces_turned a r l =
      let x = a r (omega (arith, t.pieces)) in
      let back = (turned_back t).corner r in
      record {
        different = λ j k lj lk e.
            sym (t.twice r j lj) ∙ ap (t.slot r) (x.different (t.slot r j) (t.slot r k) (t.small r j lj) (t.small r k lk) (sym (back j lj) ∙ e ∙ back k lk)) ∙ t.twice r k lk;
        in_base_lem = λ k s. omega (arith, back k s, x.in_base_lem (t.slot r k) (t.small r k s), t.vertices);
        volume = λ e. x.volume (t.sixfold r ∙ e);
      }

  pub together_turned : RightTogether b → RightTogether b'
  together_turned a =
      record {
        in_two = λ r s n i j k hr hs hn hi hj hk x y.
            a.in_two r s n (t.slot r i) (t.slot s j) (t.slot n k) hr hs (omega (arith, t.pieces)) (t.small r i hi) (t.small s j hj) (t.small n k hk)
            (same_face_from t r i n k hi hk x) (same_face_from t s j n k hj hk y);
        alone = λ r s h hs x. a.alone r s h (omega (arith, t.pieces)) (same_corners_from t r s x);
      }

  pub used_turned : AllUsed b → AllUsed b'
  used_turned a v l =
      let (r, h, x) = a v (omega (arith, t.vertices)) in
      (r, omega (arith, t.pieces), corner_turned t r v x)

  hangs_turned : (v r : ℕ) → HangsOn b v r → HangsOn b' v r
  hangs_turned v r x =
      record {
        lies_in = subst (λ (p : Place). WeightedMean (λ k. point_at b' (b'.corner_at r k)) (point_of p)) (t.place v) ((t.closed r (point_at b v)).0 x.lies_in);
        no_corner = λ c. x.no_corner (corner_turned (turned_back t) r v c);
      }

  pub some_turned : SomeVertexHangs b → SomeVertexHangs b'
  some_turned (v, r, lv, lr, x) = (v, r, omega (arith, t.vertices), omega (arith, t.pieces), hangs_turned v r x)

pub none_turned : {b b' : BaseMesh} → Turned b b' → NoVertexHangs b → NoVertexHangs b'
none_turned t a v r lv lr x = let (v, r, lv, lr, x) = some_turned (turned_back t) (v, r, lv, lr, x) in a v r lv lr x
