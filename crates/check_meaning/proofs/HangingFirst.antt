-- Of specs/HangingFirst.antt, the theorems that an edit of a definition breaks, and what only they need.
use Rattle.std.specs.Prelude.{◌≡◌, Bool, false, ◌⊎◌, ℕ, ◌≤◌, ◌<◌, ltb}
use Rattle.std.proofs.Common.{sym, ap, ◌∙◌, subst, true≢false, eq-or-lt_of_le, ltb-true, ltb-false}
use Rattle.std.proofs.Math.Bool.{true}
use Rattle.std.proofs.Math.Logic.{inl, inr, ⊎_elim}
use Rattle.laws.specs.Below.{either, any_below, any_is, any_fails_at, first_below, first_where}
use Rattle.piece.specs.Ends.{ends_of}
use Rattle.stored.specs.Layout.{none, Stored}
use Rattle.mesh_tables.specs.Tables.{Tables, tables_of, all_vertices, all_records, piece_at, hangs, hangs_at, leaf_hangs, hanging_edge}
use Rattle.check_refusals.specs.Check.{check_number, first_hanging, hanging_report, report_of, check_of}
use Rattle.check_refusals.specs.Rows.{report_number}
use Rattle.check_meaning.specs.Tests.{Passes, reads, equal, and_passes, any_passes}
use Rattle.check_meaning.specs.Accepted.{first_child}
use Rattle.check_meaning.specs.Vertices.{parents_are}
use Rattle.check_meaning.proofs.Cuts.{rule10_holds}
use Rattle.check_meaning.proofs.Exactly.{refuses_exactly}
use Rattle.check_meaning.specs.HangingFirst.{HangingEdge}

-- What fails below k and passes at n: n is not below k.
not_before : (P : ℕ → Bool) (k n : ℕ) → any_below k P ≡ false → P n ≡ true → k ≤ n
not_before P k n none here =
    ⊎_elim (λ t. absurd (true≢false (sym here ∙ any_fails_at P k n none (ltb-true n k t)))) (λ f. ltb-false n k f) (either (ltb n k))

module _ (m : Tables) where
  -- The test for a hanging edge of a record.
  edge_hangs : (n e : ℕ) → n < all_records m → e < 6 → Passes (hangs_at m n e) (HangingEdge m n e)
  unfolding hangs_at hangs
  edge_hangs n e there code =
      reads
      (and_passes (equal (first_child m n) none) (any_passes (all_vertices m) λ v l. parents_are m (ends_of (piece_at m n) e) v))
      (λ h.
      record {
        there = there;
        leaf = h.0;
        code = code;
        vertex = h.1.0;
        made = record { beyond = h.1.2.0; there = h.1.1 };
        parents = h.1.2.1;
      })
      (λ h. (h.leaf, (h.vertex, h.made.there, (h.made.beyond, h.parents))))

  -- The first of the records that has one, and the first of its edges that is one.
  first_found : hanging_edge m ≡ true → let n = first_hanging m in let e = first_below 6 (hangs_at m n) in
      HangingEdge m n e × ((n' e' : ℕ) → HangingEdge m n' e' → (n < n') ⊎ ((n ≡ n') × (e ≤ e')))
  unfolding hanging_edge leaf_hangs first_hanging
  first_found broken =
      let n = first_hanging m in
      let e = first_below 6 (hangs_at m n) in
      let (there, leaf, none_before) = first_where (leaf_hangs m) (all_records m) broken in
      let (code, hanging, none_below) = first_where (hangs_at m n) 6 leaf in (
        (edge_hangs n e there code).0 hanging,
        λ n' e' h.
            let t : hangs_at m n' e' ≡ true = (edge_hangs n' e' h.there h.code).1 h in
            ⊎_elim
            (λ q. inr (q, not_before (hangs_at m n) e e' none_below (subst (λ (k : ℕ). hangs_at m k e' ≡ true) (sym q) t)))
            inl
            (eq-or-lt_of_le (not_before (leaf_hangs m) n n' none_before (any_is (hangs_at m n') 6 e' h.code t))),
      )

-- With 10, record and edge are the first leaf edge that hangs, by record and then edge code.
pub hanging_first : (s : Stored) → (check_of s).number ≡ 10 →
    HangingEdge (tables_of s) (check_of s).«record» (check_of s).edge
    × ((n e : ℕ) → HangingEdge (tables_of s) n e → ((check_of s).«record» < n) ⊎ (((check_of s).«record» ≡ n) × ((check_of s).edge ≤ e)))
unfolding check_of report_of
hanging_first s ten =
    let number : check_number s ≡ 10 = sym (report_number s) ∙ ten in
    let reported : check_of s ≡ hanging_report (tables_of s) = ap (report_of (tables_of s)) number in
    let (h1, (h2, (h3, (h4, (h5, (h22, (h6, (h7, (h8, (h23, (h9, hanging))))))))))) = (refuses_exactly s 10).0 number in
    rw reported (first_found (tables_of s) (⊎_elim (λ t. t) (λ f. absurd (hanging ((rule10_holds (tables_of s)).0 f))) (either (hanging_edge (tables_of s)))))
