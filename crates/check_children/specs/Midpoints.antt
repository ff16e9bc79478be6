-- The second table that refusal 9 keeps: how often each vertex is the one halfway on a cut record's refinement edge. Of several vertices with the same parents
-- the first counts for all of them.
use Rattle.std.specs.Prelude.{◌≡◌, true, cond, ◌&&◌, ◌||◌, List, length, get_or, replicate, leb}
use Rattle.std.proofs.Math.Path.{refl, sym, ap}
use Rattle.std.proofs.Common.{◌∙◌, arith}
use Rattle.std.proofs.Math.Bool.{Bool, not, false≢true, or-false}
use Rattle.std.proofs.Math.Logic.{⊎_elim}
use Prim.Native.Nat.{ℕ, ◌≤◌, ◌<◌}
use Rattle.std.proofs.Math.Dec.{eqb}
use borrow.Author.Tests.{eq-eqb, ne_eqb, lt-ltb}
use Rattle.laws.specs.Below.{any_below, any_same, any_is, any_first, first_where, either}
use Rattle.laws.specs.Links.{counted_at, counted_long}
use Rattle.piece.specs.declared.Ends.{Ends}
use Rattle.stored.specs.Layout.{parents_of}
use Rattle.mesh_tables.specs.Tables.{Tables, base_vertices, all_vertices, all_records, piece_at, is_leaf, is_cut, has_parents, vertex_with, refinement_ends}
use Rattle.check_refusals.specs.Refusals.{is_midpoint_of, no_midpoint}
use Rattle.mesh_parents.specs.Pairs.{parents_are}
use Rattle.laws.specs.Counts.{counts_below, marked, counted_marked, Marking, counts_zero}

-- One more at the vertex halfway on record n's refinement edge, if the record is cut.
unfoldable pub midpoint_counted : Tables → List ℕ → ℕ → List ℕ
midpoint_counted m midpoints n =
    let more = counted_at midpoints (vertex_with m (refinement_ends (piece_at m n))) in
    cond (is_leaf m n) midpoints more

pub midpoint_marking : (m : Tables) → Marking (midpoint_counted m) (λ n x. is_cut m n && eqb (vertex_with m (refinement_ends (piece_at m n))) x)
unfolding midpoint_counted
midpoint_marking m = record { long = long; marks = marks }
  where
    long : (t : List ℕ) (n : ℕ) → length (midpoint_counted m t n) ≡ length t
    long t n =
        ⊎_elim (λ u. rw u) (λ f. rw f (counted_long t (vertex_with m (refinement_ends (piece_at m n))))) (either (is_leaf m n))

    marks : (t : List ℕ) (n x : ℕ) → x < length t → marked (midpoint_counted m t n) x ≡ (marked t x || (is_cut m n && eqb (vertex_with m (refinement_ends (piece_at m n))) x))
    marks t n x l =
        let w = vertex_with m (refinement_ends (piece_at m n)) in
        ⊎_elim (λ u. rw u (sym (or-false (marked t x)))) (λ f. rw f (counted_marked t w x l)) (either (is_leaf m n))

-- The table of all records, with room for so many vertices.
abbrev pub midpoints_in : Tables → ℕ → List ℕ
midpoints_in m room = counts_below (midpoint_counted m) (replicate room 0) (all_records m)

-- ---- vertices with the same parents

-- A made vertex, and the first that has its parents.
module _ (m : Tables) (v : ℕ) (made : leb (base_vertices m) v ≡ true) (within : v < all_vertices m) where
  own : Ends
  own = parents_of (m.vertex_at v)

  has_own : has_parents m own v ≡ true
  unfolding has_parents own
  has_own = rw (made, eq-eqb (m.vertex_at v).p (m.vertex_at v).p refl, eq-eqb (m.vertex_at v).q (m.vertex_at v).q refl)

  -- It is a vertex, and has these parents.
  first_within : vertex_with m own < all_vertices m
  unfolding vertex_with
  first_within = (first_where (has_parents m own) (all_vertices m) (any_is (has_parents m own) (all_vertices m) v within has_own)).0

  first_has : (ends : Ends) → vertex_with m ends < all_vertices m → has_parents m ends (vertex_with m ends) ≡ true
  unfolding vertex_with
  first_has ends l =
      (first_where (has_parents m ends) (all_vertices m) (any_first (has_parents m ends) (all_vertices m) ∙ lt-ltb (vertex_with m ends) (all_vertices m) l)).1

  -- Two pairs that the same vertex is the first to have are one.
  same_ends : (ends : Ends) → vertex_with m own ≡ vertex_with m ends → own ≡ ends
  same_ends ends q =
      sym (parents_are m own (vertex_with m own) (first_has own first_within))
      ∙ ap (λ (u : ℕ). parents_of (m.vertex_at u)) q
      ∙ parents_are m ends (vertex_with m ends) (first_has ends (rw (← q) first_within))

  -- So v has a pair as its parents exactly if the first vertex with the pair is the first with v's own.
  has_is : (ends : Ends) → has_parents m ends v ≡ eqb (vertex_with m ends) (vertex_with m own)
  unfolding own
  has_is ends =
      ⊎_elim
      (λ t. t ∙ sym (eq-eqb (vertex_with m ends) (vertex_with m own) (sym (ap (vertex_with m) (parents_are m ends v t)))))
      (λ f. f ∙ sym (ne_eqb (vertex_with m ends) (vertex_with m own) (λ q. false≢true (sym f ∙ ap (λ (e : Ends). has_parents m e v) (sym (same_ends ends (sym q))) ∙ has_own))))
      (either (has_parents m ends v))

  -- By the table: v is halfway on some cut record's refinement edge if the first with its parents has been counted.
  no_midpoint_made : (room : ℕ) → all_vertices m ≤ room → eqb (get_or (midpoints_in m room) (vertex_with m own) 0) 0 ≡ not (any_below (all_records m) (is_midpoint_of m v))
  unfolding is_midpoint_of
  no_midpoint_made room fits =
      let P : ℕ → ℕ → Bool = λ n x. is_cut m n && eqb (vertex_with m (refinement_ends (piece_at m n))) x in
      let w = vertex_with m own in
      let below = first_within in
      counts_zero (midpoint_counted m) P (midpoint_marking m) room (all_records m) w (omega (arith, below, fits))
      ∙ ap not (any_same (all_records m) (λ n. P n w) (is_midpoint_of m v) (λ n l. ap (λ (b : Bool). is_cut m n && b) (sym (has_is (refinement_ends (piece_at m n))))))

-- By the table: a made vertex whose parents' first vertex has not been counted.
unfoldable pub no_midpoint_by : Tables → List ℕ → ℕ → Bool
no_midpoint_by m midpoints v = leb (base_vertices m) v && eqb (get_or midpoints (vertex_with m (parents_of (m.vertex_at v))) 0) 0

no_midpoint_is : (m : Tables) (room v : ℕ) → all_vertices m ≤ room → v < all_vertices m → no_midpoint_by m (midpoints_in m room) v ≡ no_midpoint m v
unfolding no_midpoint_by no_midpoint own
no_midpoint_is m room v fits within =
    ⊎_elim (λ t. rw t (no_midpoint_made m v t within room fits)) (λ f. rw f) (either (leb (base_vertices m) v))

-- The table refuses what the rule refuses.
pub any_no_midpoint_is : (m : Tables) (midpoints : List ℕ) (room : ℕ) → all_vertices m ≤ room → midpoints ≡ midpoints_in m room → any_below (all_vertices m) (no_midpoint_by m midpoints) ≡ any_below (all_vertices m) (no_midpoint m)
any_no_midpoint_is m midpoints room fits is =
    any_same (all_vertices m) (no_midpoint_by m midpoints) (no_midpoint m) (λ v l. rw is (no_midpoint_is m room v fits l))
