-- The tables that are left by the definitions of taking back are those of `FromTables`: what is left of a stored mesh by a good request is taken back.
use Rattle.std.specs.Prelude.{◌≡◌, refl, Bool, true, false, ◌&&◌, ◌⊎◌, [], ℕ, zero, suc, ◌+◌, ◌≤◌, ◌<◌, length, ltb}
use Rattle.std.proofs.Math.Path.{sym, ap}
use Rattle.std.proofs.Common.{◌∙◌, arith}
use Rattle.std.proofs.Math.Logic.{inl, inr, ⊎_elim}
use Rattle.std.proofs.Math.Dec.{eqb}
use borrow.Author.Tests.{eqb-true, eq-eqb, ltb-true}
use Rattle.laws.specs.Below.{and_left, any_below, any_is, any_where}
use Rattle.laws_remaining.specs.Remaining.{old_below}
use Rattle.piece.specs.Ends.{corner_at}
use Rattle.stored.specs.Layout.{none, mesh_bytes, Stored, of_kind, stored_as, StoredSelection, named_in}
use Rattle.mesh_tables.specs.Tables as Check
use Rattle.mesh_tables.specs.Tables.{tables_of, base_vertices, all_vertices, base_records, all_records, is_cut}
use Rattle.check_refusals.specs.Refusals.{is_child_of}
use Rattle.check_meaning.specs.Tests.{Passes, reads, equal, below, and_passes, or_passes, not_passes, not_fails, at_most, and_fails}
use Rattle.refine_selection.specs.Selected.{is_named}
use Rattle.takeback_remains.specs.Remains.{cut_vertex, leaf_children, freed, holds_vertex, taken_away, vertex_remains, stays_cut, record_remains, renumbered, vertex_again, piece_again, record_again, closed_up}
use Rattle.cuts.specs.LinkNames.{base_or_beyond}
use Rattle.demands_words.specs.Words.{Numbering, StoredMesh, count_in}
use Rattle.demands_proofs.specs.GrownStores.{mesh_for}
use Rattle.demands_proofs.specs.FromStored as From
use Rattle.demands_taken_back.specs.Words.{GoodRequestFor, TakenBackFrom}
use Rattle.demands_taken_back.specs.ByNumbers.{NamedNumber, Holder, ParentStays, ByNumbers}
use Rattle.demands_taken_back.specs.ByTables.{cut_is, first_is, cut_vertex_lem}
use Rattle.demands_taken_back.specs.TablesLeft.{NewNumber, TablesLeft}
use Rattle.demands_taken_back.proofs.FromTables.{tables_taken_back, tables_in_one, tables_no_longer}

-- What remains of tables is left of them, entry by entry.
new_number : (stays : ℕ → Bool) (x : ℕ) → NewNumber stays x (renumbered stays x)
unfolding renumbered
new_number stays x = record { remains = λ t. rw t; gone = λ f. rw f }

closed_left : (m : Check.Tables) (named : ℕ → Bool) → TablesLeft m (closed_up m named) (vertex_remains m named) (record_remains m named)
unfolding closed_up old_below vertex_again record_again piece_again renumbered
closed_left m named =
    record {
      base_vertices_lem = refl;
      vertices = refl;
      base_records_lem = refl;
      records = refl;
      vertex_at = λ k h. record { place = refl; p = new_number _ _; q = new_number _ _ };
      record_at = λ k h. record { four = refl; corner = corner k; edge = refl; marks = refl; flag = refl; generation = refl; material = refl; first = new_number _ _ };
    }
  where
    corner : (k j : ℕ) → j < 4 → NewNumber (vertex_remains m named) (corner_at (m.record_at (old_below (all_records m) (record_remains m named) k)).piece j) (corner_at ((closed_up m named).record_at k).piece j)
    corner k zero l = new_number _ _
    corner k (suc zero) l = new_number _ _
    corner k (suc (suc zero)) l = new_number _ _
    corner k (suc (suc (suc zero))) l = new_number _ _
    corner k (suc (suc (suc (suc j)))) l = absurd (omega arith)

module _ (s : Stored) (x : StoredMesh s) (request : StoredSelection) (good : GoodRequestFor x request) where
  abbrev m : Check.Tables
  m = tables_of s

  abbrev N : Numbering
  N = x.stores.numbers

  abbrev named : ℕ → Bool
  named = is_named (count_in request) (named_in request)

  abbrev vertex_stays : ℕ → Bool
  vertex_stays = vertex_remains m named

  abbrev record_stays : ℕ → Bool
  record_stays = record_remains m named

  is_named_lem : (r : ℕ) → Passes (named r) (NamedNumber request r)
  unfolding is_named
  is_named_lem r = (
    λ t. let (i, l, e) = any_where (λ i. eqb (named_in request i) r) (count_in request) t in (i, l, eqb-true (named_in request i) r e),
    λ (i, l, e). any_is (λ i. eqb (named_in request i) r) (count_in request) i l (eq-eqb (named_in request i) r e),
  )

  -- Both children of a cut record.
  children_below : (r : ℕ) → r < N.records → x.cuts.has (N.node_at r) ≡ true → N.first_at r + 1 < N.records
  children_below r h t = (x.stores.records_numbered.cut r h t).there

  freed_exactly : (r : ℕ) → r < N.records → x.cuts.has (N.node_at r) ≡ true →
      Passes (freed m.record_at named r) (NamedNumber request r × ((N.first_at (N.first_at r) ≡ none) × (N.first_at (N.first_at r + 1) ≡ none)))
  unfolding freed leaf_children
  freed_exactly r h t =
      let next = children_below r h t in
      let f = first_is s x r h in
      let first : (m.record_at (m.record_at r).first_child).first_child ≡ N.first_at (N.first_at r) = ap (λ (k : ℕ). (m.record_at k).first_child) f ∙ first_is s x (N.first_at r) (omega arith) in
      let second : (m.record_at ((m.record_at r).first_child + 1)).first_child ≡ N.first_at (N.first_at r + 1) = ap (λ (k : ℕ). (m.record_at (k + 1)).first_child) f ∙ first_is s x (N.first_at r + 1) next in
      and_passes (is_named_lem r)
      (and_passes
      (reads (equal (m.record_at (m.record_at r).first_child).first_child none) (λ e. sym first ∙ e) (λ e. first ∙ e))
      (reads (equal (m.record_at ((m.record_at r).first_child + 1)).first_child none) (λ e. sym second ∙ e) (λ e. second ∙ e)))

  -- A record that holds v.
  holds_exactly : (v n : ℕ) → Passes (holds_vertex m named v n) (((is_cut m n ≡ true) × (freed m.record_at named n ≡ false)) × (cut_vertex m n ≡ v))
  unfolding holds_vertex
  holds_exactly v n = and_passes (and_passes (λ t. t, λ t. t) (not_passes (λ f. f, λ f. f))) (equal (cut_vertex m n) v)

  holder_exactly : (v : ℕ) → Passes (any_below (all_records m) (holds_vertex m named v)) (Holder x.base x.cuts N (cut_vertex m) (freed m.record_at named) v)
  holder_exactly v = (
    λ t.
        let (n, l, e) = any_where (holds_vertex m named v) (all_records m) t in
        let (holds, at) = (holds_exactly v n).0 e in
        let h : n < N.records = omega (arith, l, (From.holds s x).records) in
        record { holder = n; there = h; is_cut_lem = sym (cut_is s x n h) ∙ holds.0; cut_at = at; not_freed = holds.1 },
    λ a.
        any_is (holds_vertex m named v) (all_records m) a.holder (omega (arith, a.there, (From.holds s x).records))
        ((holds_exactly v a.holder).1 ((cut_is s x a.holder a.there ∙ a.is_cut_lem, a.not_freed), a.cut_at)),
  )

  vertex_exactly : (v : ℕ) → v < N.vertices → Passes (vertex_stays v) ((v < x.base.vertices) ⊎ Holder x.base x.cuts N (cut_vertex m) (freed m.record_at named) v)
  unfolding vertex_remains taken_away
  vertex_exactly v h =
      let base : base_vertices m ≡ x.base.vertices = (From.holds s x).base_vertices_lem in
      reads (and_passes (below v (all_vertices m)) (not_passes (and_fails (at_most (base_vertices m) v) (not_fails (holder_exactly v)))))
      (λ (l, f). ⊎_elim (λ o. inl (omega (arith, o, base))) (λ o. inr (f (omega arith))) (base_or_beyond v (base_vertices m)))
      (λ e. (omega (arith, h, (From.holds s x).vertices), λ o. ⊎_elim (λ l. absurd (omega (arith, l, base))) (λ a. a) e))

  child_exactly : (c n : ℕ) → n < N.records → Passes (is_child_of (m.record_at n) c && stays_cut m named n)
      ((x.cuts.has (N.node_at n) ≡ true) × ((vertex_stays (cut_vertex m n) ≡ true) × ((c ≡ N.first_at n) ⊎ (c ≡ N.first_at n + 1))))
  unfolding is_child_of stays_cut
  child_exactly c n h =
      let f = first_is s x n h in
      reads
      (and_passes (and_passes (λ t. t, λ t. t) (or_passes (equal (m.record_at n).first_child c) (equal ((m.record_at n).first_child + 1) c))) (and_passes (λ t. t, λ t. t) (λ t. t, λ t. t)))
      (λ ((cut, which), (again, stays)). (sym (cut_is s x n h) ∙ cut, (stays, ⊎_elim (λ e. inl (sym e ∙ f)) (λ e. inr (sym e ∙ ap (λ (k : ℕ). k + 1) f)) which)))
      (λ (cut, (stays, which)).
      let is = cut_is s x n h ∙ cut in
      ((is, ⊎_elim (λ e. inl (f ∙ sym e)) (λ e. inr (ap (λ (k : ℕ). k + 1) f ∙ sym e)) which), (is, stays)))

  record_exactly : (c : ℕ) → c < N.records → Passes (record_stays c) ((c < x.base.pieces) ⊎ ParentStays x.base x.cuts N (cut_vertex m) vertex_stays c)
  unfolding record_remains
  record_exactly c h =
      let holds = From.holds s x in
      reads (and_passes (below c (all_records m)) (or_passes (below c (base_records m)) parents))
      (λ (l, e). ⊎_elim (λ b. inl (omega (arith, b, holds.base_records_lem))) inr e)
      (λ e. (omega (arith, h, holds.records), ⊎_elim (λ b. inl (omega (arith, b, holds.base_records_lem))) inr e))
    where
      parents : Passes (any_below (all_records m) (λ n. is_child_of (m.record_at n) c && stays_cut m named n)) (ParentStays x.base x.cuts N (cut_vertex m) vertex_stays c)
      parents = (
        λ t.
            let (n, l, e) = any_where (λ n. is_child_of (m.record_at n) c && stays_cut m named n) (all_records m) t in
            let h : n < N.records = omega (arith, l, (From.holds s x).records) in
            let (cut, rest) = (child_exactly c n h).0 e in
            record { parent = n; there = h; is_cut_lem = cut; stays = rest.0; child = rest.1 },
        λ a.
            any_is (λ n. is_child_of (m.record_at n) c && stays_cut m named n) (all_records m) a.parent (omega (arith, a.there, (From.holds s x).records))
            ((child_exactly c a.parent a.there).1 (a.is_cut_lem, (a.stays, a.child))),
      )

  by_numbers : ByNumbers x.base x.cuts N request (cut_vertex m) (freed m.record_at named) vertex_stays record_stays
  unfolding cut_vertex
  by_numbers =
      record {
        cut_below = λ r h t. (cut_vertex_lem s x r h t).0;
        cut_at = λ r h t. (cut_vertex_lem s x r h t).1;
        freed_exactly = freed_exactly;
        vertices = vertex_exactly;
        records = record_exactly;
      }

  vertices_below : (v : ℕ) → vertex_stays v ≡ true → v < N.vertices
  unfolding vertex_remains
  vertices_below v t = let l = ltb-true v (all_vertices m) (and_left (ltb v (all_vertices m)) _ t) in omega (arith, l, (From.holds s x).vertices)

  records_below : (r : ℕ) → record_stays r ≡ true → r < N.records
  unfolding record_remains
  records_below r t = let l = ltb-true r (all_records m) (and_left (ltb r (all_records m)) _ t) in omega (arith, l, (From.holds s x).records)

  -- The tables that are left are what is taken back.
  pub left_taken_back : TakenBackFrom x request (stored_as s.kind s.right (mesh_for x.job (x.round + 1) (closed_up m named)))
  left_taken_back = tables_taken_back s x request good (cut_vertex m) (freed m.record_at named) vertex_stays record_stays by_numbers vertices_below records_below (closed_up m named) (closed_left m named)

  pub left_in_one : s.kind.two ≡ false → stored_as s.kind s.right (mesh_for x.job (x.round + 1) (closed_up m named)) ≡ of_kind s (mesh_bytes s.kind.format (mesh_for x.job (x.round + 1) (closed_up m named))) []
  left_in_one = tables_in_one s x request good (cut_vertex m) (freed m.record_at named) vertex_stays record_stays by_numbers vertices_below records_below (closed_up m named) (closed_left m named)

  pub left_no_longer : s.kind.two ≡ false → length (mesh_bytes s.kind.format (mesh_for x.job (x.round + 1) (closed_up m named))) ≤ length s.base
  left_no_longer = tables_no_longer s x request good (cut_vertex m) (freed m.record_at named) vertex_stays record_stays by_numbers vertices_below records_below (closed_up m named) (closed_left m named)
