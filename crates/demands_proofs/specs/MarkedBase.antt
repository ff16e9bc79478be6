-- A properly marked base mesh, over names, is a marked base as the theory of cuts has it. Assumes nothing.
use Rattle.std.specs.Prelude.{◌≡◌, refl, ◌⊎◌, [], ℕ, ◌<◌, ltb}
use Rattle.std.proofs.Common.{sym, ap₂, ◌∙◌, inl, inr, ⊎_elim, arith, ltb-true, ltb-false}
use Rattle.laws.specs.Below.{either}
use Rattle.laws.specs.Pairs.{SamePair}
use Rattle.piece.specs.declared.Piece as Declared
use Rattle.piece.specs.Shape.{Shape, Valid}
use Rattle.check_meaning.proofs.Bases.{marks_valid}
use Rattle.cuts_names.specs.Names as Names
use Rattle.cuts_names.specs.Names.{Name, mid}
use Rattle.cuts_names.proofs.Names.{mid_sym}
use Rattle.cuts_names.specs.Base as Base
use Rattle.cuts_names.specs.Base.{Marked, HasCorner, marked_at}
use Rattle.demands_words.specs.Words.{BaseMesh, named, BaseCornerOf, OnBaseFace, SameBaseCorners, SameBaseFace, SameBaseMark, ValidlyMarked, ProperlyMarked}

-- A validly marked shape whose flag is not set is valid.
valid_shape_lem : (s : Shape) → ValidlyMarked s → s.flag ≡ 0 → Valid s
valid_shape_lem s v unset =
    let p : Declared.Piece = record { corners = []; edge = s.edge; marks = s.marks; flag = s.flag; generation = 0; material = 0 } in
    marks_valid p unset v.four (record { edge = v.edge; marks = v.marks; refinement_faces = v.refinement_faces })

-- Names in the same pair have one midpoint.
pub pair_mid : (a b c d : Name) → SamePair a b c d → mid a b ≡ mid c d
pair_mid a b c d = ⊎_elim (λ e. ap₂ mid e.0 e.1) (λ e. ap₂ mid e.0 e.1 ∙ mid_sym d c)

-- Base vertices with one name have one number.
base_once : (m n : ℕ) → Names.base m ≡ Names.base n → m ≡ n
base_once m n e = cc

-- Of two numbers one is less, or they are one.
pub before_or_same : (r s : ℕ) → (r < s) ⊎ ((r ≡ s) ⊎ (s < r))
before_or_same r s =
    ⊎_elim
    (λ t. inl (ltb-true r s t))
    (λ f. ⊎_elim (λ t. inr (inr (ltb-true s r t))) (λ g. inr (inl (omega (arith, ltb-false r s f, ltb-false s r g)))) (either (ltb s r)))
    (either (ltb r s))

module _ (b : BaseMesh) where
  -- What holds of the names of corners holds of their numbers.
  corner_too : (r s : ℕ) → ((x : Name) → HasCorner (named b r) x → HasCorner (named b s) x) → (x : ℕ) → BaseCornerOf b r x → BaseCornerOf b s x
  corner_too r s f x (k, l, e) = let (j, m, d) = f (Names.base (b.corner_at r k)) (k, l, refl) in (j, m, base_once _ _ d ∙ e)

  same_corners_lem : (r s : ℕ) → Base.SameCorners (named b r) (named b s) → SameBaseCorners b r s
  same_corners_lem r s f x = (corner_too r s (λ y. (f y).0) x, corner_too s r (λ y. (f y).1) x)

  face_too : (r i s j : ℕ) → ((x : Name) → Base.OnFace (named b r) i x → Base.OnFace (named b s) j x) → (x : ℕ) → OnBaseFace b r i x → OnBaseFace b s j x
  face_too r i s j f x (k, l, o, e) = let (n, m, o', d) = f (Names.base (b.corner_at r k)) (k, l, o, refl) in (n, m, o', base_once _ _ d ∙ e)

  same_face_lem : (r i s j : ℕ) → Base.SameFace (named b r) i (named b s) j → SameBaseFace b r i s j
  same_face_lem r i s j f x = (face_too r i s j (λ y. (f y).0) x, face_too s j r i (λ y. (f y).1) x)

  -- Marked edges with the same two vertices have one midpoint.
  same_mark_lem : (r i s j : ℕ) → SameBaseMark b r i s j → marked_at (named b r) i ≡ marked_at (named b s) j
  same_mark_lem r i s j = ⊎_elim (λ e. ap₂ both e.0 e.1) (λ e. ap₂ both e.0 e.1 ∙ mid_sym _ _)
    where
      both : ℕ → ℕ → Name
      both x y = mid (Names.base x) (Names.base y)

  module _ (p : ProperlyMarked b) where
    -- A piece has no face twice.
    one_face : (r i j : ℕ) → r < b.pieces → j < 4 → SameBaseFace b r i r j → i ≡ j
    one_face r i j h l f = ⊎_elim (λ t. absurd (apart (λ e. omega arith))) (⊎_elim (λ e. e) (λ t. absurd (apart (λ e. omega arith)))) (before_or_same i j)
      where
        apart : (j ≡ i → ⊥) → ⊥
        apart d = let (k, m, o, e) = (f (b.corner_at r j)).0 (j, l, d, refl) in o ((p.pieces r h).different k j m l e)

    -- A properly marked base mesh is a marked base.
    pub properly_marked : Marked b.pieces (named b)
    properly_marked =
        record {
          valid = λ r h. valid_shape_lem (b.shape_at r) (p.pieces r h).marked (p.pieces r h).flag;
          unset = λ r h. (p.pieces r h).flag;
          corners = λ r h k l. (b.corner_at r k, refl);
          different = λ r h j k lj lk e. (p.pieces r h).different j k lj lk (base_once _ _ e);
          alone = λ r s hr hs f. alone r s hr hs (same_corners_lem r s f) (same_corners_lem s r (λ x. ((f x).1, (f x).0)));
          shared = λ r s hr hs i j li lj f. shared r s hr hs i j li lj (same_face_lem r i s j f) (same_face_lem s j r i (λ x. ((f x).1, (f x).0)));
        }
      where
        alone : (r s : ℕ) → r < b.pieces → s < b.pieces → SameBaseCorners b r s → SameBaseCorners b s r → r ≡ s
        alone r s hr hs f g = ⊎_elim (λ l. absurd (p.alone r s l hs f)) (⊎_elim (λ e. e) (λ l. absurd (p.alone s r l hr g))) (before_or_same r s)

        itself : (r s : ℕ) → r ≡ s → r < b.pieces → (i j : ℕ) → j < 4 → SameBaseFace b r i s j → marked_at (named b r) i ≡ marked_at (named b s) j
        itself r s e hr i j lj f =
            let f' : SameBaseFace b r i r j = rw (← e) at f in
            ap₂ (λ (s i : ℕ). marked_at (named b s) i) e (one_face r i j hr lj f')

        shared : (r s : ℕ) → r < b.pieces → s < b.pieces → (i j : ℕ) → i < 4 → j < 4 → SameBaseFace b r i s j → SameBaseFace b s j r i → marked_at (named b r) i ≡ marked_at (named b s) j
        shared r s hr hs i j li lj f g =
            ⊎_elim
            (λ l. same_mark_lem r i s j (p.one_mark r s i j l hs li lj f))
            (⊎_elim (λ e. itself r s e hr i j lj f) (λ l. sym (same_mark_lem s j r i (p.one_mark s r j i l hr lj li g))))
            (before_or_same r s)
