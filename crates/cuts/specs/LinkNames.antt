-- Vertex numbers and names: distinct numbers have distinct names, and the base records are a properly marked base.
use Rattle.std.specs.Prelude.{◌≡◌, refl, ◌⊎◌, ltb}
use Rattle.std.proofs.Common.{sym, ap₂, ◌∙◌, inl, inr, arith, ltb-true, ltb-false, lt-ltb, le-ltb}
use Rattle.std.proofs.Math.Logic.{⊎_elim}
use Prim.Native.Nat.{ℕ, ◌≤◌, ◌<◌}
use Rattle.laws.specs.Below.{either}
use Rattle.laws.specs.Pairs.{SamePair}
use Rattle.piece_edges.specs.Edges.{low_slot, high_slot}
use Rattle.piece.specs.Shape.{mark}
use Rattle.cuts_names.specs.Names as Names
use Rattle.cuts_names.specs.Names.{Name, mid, mid_not_base_lem}
use Rattle.cuts_names.proofs.Names.{mid_sym, mid_injective_lem}
use Rattle.cuts_names.specs.Base.{Marked, HasCorner, OnFace}
use Rattle.cuts.specs.Smaller.{by_smaller, one_step}
use Rattle.cuts.specs.Tables.{Tables, Made, Lawful, HasVertex, FaceHas, name_step, name_of, piece_of}

-- A number below a count is below the base count or beyond it.
pub base_or_beyond : (v b : ℕ) → (v < b) ⊎ (b ≤ v)
base_or_beyond v b = ⊎_elim (λ t. inl (ltb-true v b t)) (λ f. inr (ltb-false v b f)) (either (ltb v b))

-- The same two vertex numbers have one midpoint.
pub pair_mid : (t : Tables) (a b c d : ℕ) → SamePair a b c d → mid (name_of t a) (name_of t b) ≡ mid (name_of t c) (name_of t d)
pair_mid t a b c d =
    ⊎_elim (λ e. ap₂ (λ (x y : ℕ). mid (name_of t x) (name_of t y)) e.0 e.1)
    (λ e. ap₂ (λ (x y : ℕ). mid (name_of t x) (name_of t y)) e.0 e.1 ∙ mid_sym (name_of t d) (name_of t c))

module _ (t : Tables) (l : Lawful t) where
  name_step_lem : (v : ℕ) → v < t.vertices → name_of t v ≡ name_step t (name_of t) v
  unfolding name_of name_step
  name_step_lem v h = one_step (Names.base 0) (name_step t) t.vertices smaller v h
    where
      smaller : (v : ℕ) → v < t.vertices → (f g : ℕ → Name) → ((u : ℕ) → u < v → f u ≡ g u) → name_step t f v ≡ name_step t g v
      smaller v h f g same =
          ⊎_elim
          (λ b. rw (lt-ltb v t.base_vertices b))
          (λ b. let o = l.parents v (b, h) in rw (le-ltb v t.base_vertices b) (ap₂ mid (same (t.p v) (omega arith)) (same (t.q v) (omega arith))))
          (base_or_beyond v t.base_vertices)

  -- A base vertex is named by its number.
  pub name_base : (v : ℕ) → v < t.base_vertices → name_of t v ≡ Names.base v
  unfolding name_step
  name_base v h = name_step_lem v (omega (arith, l.vertex_counts)) ∙ rw (lt-ltb v t.base_vertices h)

  -- A made vertex is named by its parents.
  pub name_made : (v : ℕ) → Made t v → name_of t v ≡ mid (name_of t (t.p v)) (name_of t (t.q v))
  unfolding name_step
  name_made v m = name_step_lem v m.1 ∙ rw (le-ltb v t.base_vertices m.0)

  -- Distinct vertex numbers have distinct names.
  pub names_distinct_lem : (v w : ℕ) → v < t.vertices → w < t.vertices → name_of t v ≡ name_of t w → v ≡ w
  names_distinct_lem v w hv hw = by_smaller (λ u. (w : ℕ) → u < t.vertices → w < t.vertices → name_of t u ≡ name_of t w → u ≡ w) step v w hv hw
    where
      apart : (v w : ℕ) → v < t.base_vertices → Made t w → name_of t v ≡ name_of t w → ⊥
      apart v w b m e = mid_not_base_lem (name_of t (t.p w)) (name_of t (t.q w)) v (sym (name_made w m) ∙ sym e ∙ name_base v b)

      step : (v : ℕ) → ((u : ℕ) → u < v → (w : ℕ) → u < t.vertices → w < t.vertices → name_of t u ≡ name_of t w → u ≡ w) → (w : ℕ) → v < t.vertices → w < t.vertices → name_of t v ≡ name_of t w → v ≡ w
      step v below w hv hw e =
          ⊎_elim
          (λ bv.
          ⊎_elim
          (λ bw. let q : Names.base v ≡ Names.base w = sym (name_base v bv) ∙ e ∙ name_base w bw in cc)
          (λ mw. absurd (apart v w bv (mw, hw) e))
          (base_or_beyond w t.base_vertices))
          (λ mv.
          ⊎_elim
          (λ bw. absurd (apart w v bw (mv, hv) (sym e)))
          (λ mw.
          let o = l.parents v (mv, hv) in
          let o' = l.parents w (mw, hw) in
          let same : (a b : ℕ) → a < v → b < w → name_of t a ≡ name_of t b → a ≡ b = λ a b la lb. below a la b (omega arith) (omega arith) in
          ⊎_elim
          (λ s. l.pair_once v w (mv, hv) (mw, hw) (same (t.p v) (t.p w) (omega arith) (omega arith) s.0) (same (t.q v) (t.q w) (omega arith) (omega arith) s.1))
          (λ s. absurd (omega (arith, same (t.p v) (t.q w) (omega arith) (omega arith) s.0, same (t.q v) (t.p w) (omega arith) (omega arith) s.1)))
          (mid_injective_lem (name_of t (t.p v)) (name_of t (t.q v)) (name_of t (t.p w)) (name_of t (t.q w)) (sym (name_made v (mv, hv)) ∙ e ∙ name_made w (mw, hw))))
          (base_or_beyond w t.base_vertices))
          (base_or_beyond v t.base_vertices)

  -- The base records' pieces are a properly marked base.
  pub marked : Marked t.base_records (piece_of t)
  marked =
      record {
        valid = l.base_valid;
        unset = l.base_unset;
        corners = λ r h k b. (t.corner r k, name_base (t.corner r k) (l.base_corners r h k b));
        different = λ r h j k bj bk e. l.base_different r h j k bj bk (same r r h h j k bj bk e);
        alone = λ r s hr hs f. l.base_alone r s hr hs (λ x. (corner_too r s hr hs (λ y. (f y).0) x, corner_too s r hs hr (λ y. (f y).1) x));
        shared =
            λ r s hr hs i j bi bj f.
            let m = mark (t.shape r) i in
            let n = mark (t.shape s) j in
            pair_mid t (t.corner r (low_slot m)) (t.corner r (high_slot m)) (t.corner s (low_slot n)) (t.corner s (high_slot n))
            (l.base_shared r s hr hs i j bi bj (λ x. (face_too r s hr hs i j (λ y. (f y).0) x, face_too s r hs hr j i (λ y. (f y).1) x)));
      }
    where
      same : (r s : ℕ) → r < t.base_records → s < t.base_records → (j k : ℕ) → j < 4 → k < 4 → name_of t (t.corner r j) ≡ name_of t (t.corner s k) → t.corner r j ≡ t.corner s k
      same r s hr hs j k bj bk = names_distinct_lem (t.corner r j) (t.corner s k) (omega (arith, l.base_corners r hr j bj, l.vertex_counts)) (omega (arith, l.base_corners s hs k bk, l.vertex_counts))

      corner_too : (r s : ℕ) → r < t.base_records → s < t.base_records → ((x : Name) → HasCorner (piece_of t r) x → HasCorner (piece_of t s) x) → (x : ℕ) → HasVertex t r x → HasVertex t s x
      corner_too r s hr hs f x (k, b, e) = let (j, c, d) = f (name_of t (t.corner r k)) (k, b, refl) in (j, c, same s r hs hr j k c b d ∙ e)

      face_too : (r s : ℕ) → r < t.base_records → s < t.base_records → (i j : ℕ) → ((x : Name) → OnFace (piece_of t r) i x → OnFace (piece_of t s) j x) → (x : ℕ) → FaceHas t r i x → FaceHas t s j x
      face_too r s hr hs i j f x (k, b, o, e) = let (m, c, o', d) = f (name_of t (t.corner r k)) (k, b, o, refl) in (m, c, o', same s r hs hr m k c b d ∙ e)
