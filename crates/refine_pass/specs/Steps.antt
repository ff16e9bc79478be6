-- The passes in two slices, turn by turn: from what each call leaves to what the definition says.
use Rattle.std.specs.Prelude.{◌≡◌, Bool, cond, ◌&&◌, List, length, eqb, leb}
use Rattle.std.proofs.Math.Path.{refl, ap, ap₂}
use Rattle.std.proofs.Common.{sym, ◌∙◌, add-one}
use Rattle.std.proofs.Math.Bool.{true, false, not}
use Prim.Native.Nat.{ℕ, zero, suc, ◌+◌, ◌*◌, ◌≤◌, ◌<◌}
use Rattle.std.proofs.Math.Nat.{le_refl}
use native.Mathlib.Omega.{arith}
use borrow.Author.Tests.{le-leb, lt-leb, le-ltb, lt-ltb}
use Rattle.laws.specs.Below.{and_false, or_true}
use Rattle.laws.specs.Links.{short, Roomy, not_short}
use Rattle.piece.specs.declared.Ends.{Ends}
use Rattle.stored.specs.declared.Limits.{Limits}
use Rattle.stored.specs.declared.Kind.{Kind}
use Rattle.stored.specs.declared.Layout.{Layout}
use Rattle.stored.specs.declared.Header.{Header}
use Rattle.stored.specs.Layout.{vertex_width, record_width, vertex_in, record_in, numbers_reach}
use Rattle.mesh_tables.specs.Tables.{vertex_with, refinement_ends, hanging_edge}
use Rattle.refine_cut.specs.Cut.{midpoint_of, one_vertex_more, two_records_more}
use Rattle.refine_cut.specs.Slices.{Slices, tables_in, vertex_put, headed, midpoint_put, children_put, has_room, cut_with, cut_put}
use Rattle.refine_pass.specs.Passes.{exceeds}
use Rattle.refine_pass.specs.Puts.{turn_put, turns_put, pass_put, closing_put, refined_put, work, can_work, too_short, refined_within}

-- ---- the header after a cut

module _ (l : Layout) (s : Slices) (n : ℕ) where
  -- A vertex is appended or none.
  midpoint_header : (P : Header → Type 0) (ends : Ends) (w : ℕ) → P s.header → P (one_vertex_more s.header) → P (midpoint_put l s ends w).header
  unfolding midpoint_put
  midpoint_header P ends w there more = go (eqb w s.header.vertices) (vertex_put l s s.header.vertices (midpoint_of (vertex_in l s.base s.grown) ends))
    where
      go : (fresh : Bool) (t : Slices) → P (cond fresh (headed (one_vertex_more s.header) t) s).header
      go true t = more
      go false t = there

  -- There is no room, or two records are appended with it.
  pub cut_header : (P : Header → Type 0) → P s.header → P (two_records_more s.header) → P (two_records_more (one_vertex_more s.header)) → P (cut_put l s n).header
  unfolding cut_put cut_with children_put
  cut_header P none two more =
      let r = record_in l s.base s.grown n in
      let w = vertex_with (tables_in l s) (refinement_ends r.piece) in
      go (has_room l s.header) (children_put l (midpoint_put l s (refinement_ends r.piece) w) n r w) (midpoint_header (λ h. P (two_records_more h)) (refinement_ends r.piece) w two more)
    where
      go : (room : Bool) (t : Slices) → P t.header → P (cond room t s).header
      go true t p = p
      go false t p = none

module _ (most : Limits) (l : Layout) where
  -- ---- the turn of a record that is chosen

  pub turn_exceeds : (n : ℕ) (s : Slices) → exceeds most s.header ≡ true → s ≡ turn_put most l true n s
  unfolding turn_put
  turn_exceeds n s e = rw e

  pub turn_cut : (n : ℕ) (s t : Slices) → exceeds most s.header ≡ false → t ≡ cut_put l s n → t ≡ turn_put most l true n s
  unfolding turn_put
  turn_cut n s t e is = rw e is

  -- No record is lost by it.
  turn_records : (chosen : Bool) (n : ℕ) (s : Slices) → s.header.records ≤ (turn_put most l chosen n s).header.records
  unfolding turn_put
  turn_records chosen n s = go (chosen && not (exceeds most s.header))
    where
      go : (b : Bool) → s.header.records ≤ (cond b (cut_put l s n) s).header.records
      go true = cut_header l s n (λ h. s.header.records ≤ h.records) (le_refl s.header.records) (omega arith) (omega arith)
      go false = le_refl s.header.records

  -- ---- a pass

  module _ (chosen : ℕ → Bool) (start : Slices) where
    pub turns_none : start ≡ turns_put most l chosen 0 start
    unfolding turns_put
    turns_none = refl

    turns_more : (n : ℕ) (s t : Slices) (b : Bool) → s ≡ turns_put most l chosen n start → chosen n ≡ b → t ≡ turn_put most l b n s → t ≡ turns_put most l chosen (n + 1) start
    unfolding turns_put
    turns_more n s t b so is turned = turned ∙ ap₂ (λ (c : Bool) (x : Slices). turn_put most l c n x) (sym is) so ∙ ap (λ (k : ℕ). turns_put most l chosen k start) (sym (add-one n))

    -- A record that is not chosen, and one that is.
    pub turns_past : (n : ℕ) (s : Slices) → s ≡ turns_put most l chosen n start → chosen n ≡ false → s ≡ turns_put most l chosen (n + 1) start
    unfolding turn_put
    turns_past n s so is = turns_more n s s false so is refl

    pub turns_next : (n : ℕ) (s t : Slices) → s ≡ turns_put most l chosen n start → chosen n ≡ true → t ≡ turn_put most l true n s → t ≡ turns_put most l chosen (n + 1) start
    turns_next n s t so is turned = turns_more n s t true so is turned

    pub turns_all : (n : ℕ) (s : Slices) → n ≤ start.header.records → start.header.records ≤ n → s ≡ turns_put most l chosen n start → s ≡ pass_put most l chosen start
    unfolding pass_put
    turns_all n s below above so = so ∙ ap (λ (k : ℕ). turns_put most l chosen k start) (omega arith)

    -- No turn loses a record.
    pub turns_records : (n : ℕ) → start.header.records ≤ (turns_put most l chosen n start).header.records
    unfolding turns_put
    turns_records zero = le_refl start.header.records
    turns_records (suc n) = let t : Slices = turns_put most l chosen n start in omega (arith, turns_records n, turn_records (chosen n) n t)

    pub turns_there : (n : ℕ) (t : Slices) → t ≡ turns_put most l chosen n start → start.header.records ≤ t.header.records
    turns_there n t so = rw so (turns_records n)

  -- A pass goes by what is chosen of the records that there are.
  pub pass_same : (chosen other : ℕ → Bool) (s t : Slices) → ((k : ℕ) → k < s.header.records → chosen k ≡ other k) → t ≡ pass_put most l chosen s → t ≡ pass_put most l other s
  unfolding pass_put turns_put
  pass_same chosen other s t same by = by ∙ go s.header.records same
    where
      go : (n : ℕ) → ((k : ℕ) → k < n → chosen k ≡ other k) → turns_put most l chosen n s ≡ turns_put most l other n s
      go zero is = refl
      go (suc n) is = ap₂ (λ (b : Bool) (t : Slices). turn_put most l b n t) (is n (le_refl (suc n))) (go n (λ k b. is k (omega arith)))

  -- ---- the closing

  -- It ends where the tables exceed their limits, and where no leaf hangs.
  closing_rests : (passes : ℕ) (s : Slices) → (hanging_edge (tables_in l s) && not (exceeds most s.header)) ≡ false → s ≡ closing_put most l passes s
  unfolding closing_put
  closing_rests zero s e = refl
  closing_rests (suc passes) s e = rw e

  pub closing_exceeds : (passes : ℕ) (s : Slices) → exceeds most s.header ≡ true → s ≡ closing_put most l passes s
  closing_exceeds passes s e = closing_rests passes s (rw e (and_false (hanging_edge (tables_in l s))))

  pub closing_none : (passes : ℕ) (s : Slices) → hanging_edge (tables_in l s) ≡ false → s ≡ closing_put most l passes s
  closing_none passes s e = closing_rests passes s (rw e)

  pub closing_out : (passes : ℕ) (s : Slices) → passes ≤ 0 → closing_put most l passes s ≡ s
  unfolding closing_put
  closing_out zero s e = refl
  closing_out (suc passes) s e = absurd (omega arith)

  -- ---- all passes

  pub refined_is : (chosen : ℕ → Bool) (s t u : Slices) → t ≡ pass_put most l chosen s → u ≡ closing_put most l most.records t → u ≡ refined_put most l chosen s
  unfolding refined_put
  refined_is chosen s t u first all = all ∙ ap (closing_put most l most.records) first

-- ---- for every input

module _ (k : Kind) (lacking : Bool) (chosen : ℕ → Bool) (s : Slices) where
  cannot_work : can_work k s ≡ false → s ≡ refined_within k lacking chosen s
  unfolding refined_within
  cannot_work e = rw e

  pub out_of_reach_stays : numbers_reach k ≡ false → s ≡ refined_within k lacking chosen s
  unfolding can_work
  out_of_reach_stays e = cannot_work (rw e)

  pub exceeds_stays : exceeds k.limits s.header ≡ true → s ≡ refined_within k lacking chosen s
  unfolding can_work
  exceeds_stays e = cannot_work (rw (e, and_false (numbers_reach k)))

  pub short_base_stays : length s.base < vertex_width k.format * (k.limits.vertices + 1) → s ≡ refined_within k lacking chosen s
  unfolding can_work
  short_base_stays e = cannot_work (rw (lt-leb (vertex_width k.format * (k.limits.vertices + 1)) (length s.base) e, and_false (not (exceeds k.limits s.header)), and_false (numbers_reach k)))

  pub short_growth_stays : length s.grown < record_width k.format * (k.limits.records + 2) → s ≡ refined_within k lacking chosen s
  unfolding can_work
  short_growth_stays e =
      cannot_work
      (rw (
        lt-leb (record_width k.format * (k.limits.records + 2)) (length s.grown) e,
        and_false (leb (vertex_width k.format * (k.limits.vertices + 1)) (length s.base)),
        and_false (not (exceeds k.limits s.header)),
        and_false (numbers_reach k),
      ))

  pub lacking_stays : lacking ≡ true → s ≡ refined_within k lacking chosen s
  unfolding refined_within
  lacking_stays e = rw (e, and_false (can_work k s))

  -- Where the passes can be made, they are.
  pub refined_within_lem : numbers_reach k ≡ true → lacking ≡ false → exceeds k.limits s.header ≡ false → vertex_width k.format * (k.limits.vertices + 1) ≤ length s.base → record_width k.format * (k.limits.records + 2) ≤ length s.grown →
      refined_within k lacking chosen s ≡ refined_put k.limits (work k) chosen s
  unfolding refined_within can_work
  refined_within_lem reach enough few long deep =
      rw (reach, enough, few, le-leb (vertex_width k.format * (k.limits.vertices + 1)) (length s.base) long, le-leb (record_width k.format * (k.limits.records + 2)) (length s.grown) deep)

-- What is lent is too short for the links, or for the records.
module _ (most : Limits) (heads nexts table : List ℕ) where
  pub short_links : short heads nexts (most.vertices + 1) ≡ true → too_short most heads nexts table ≡ true
  unfolding too_short
  short_links e = rw e

  pub short_table : length table < most.records → too_short most heads nexts table ≡ true
  unfolding too_short
  short_table l = rw (lt-ltb (length table) most.records l, or_true (short heads nexts (most.vertices + 1)))

  -- Or for neither.
  pub long_enough : Roomy heads nexts (most.vertices + 1) → most.records ≤ length table → too_short most heads nexts table ≡ false
  unfolding too_short
  long_enough room places = rw (not_short heads nexts (most.vertices + 1) room, le-ltb (length table) most.records places)
