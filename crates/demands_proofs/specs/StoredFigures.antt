-- What check reports of a stored mesh is its set's; and a byte string stores one base and one set only. Assumes nothing.
use Rattle.std.specs.Prelude.{◌≡◌, List, [], ℕ, ◌<◌}
use Rattle.std.proofs.Common.{sym, ap, subst, ◌∙◌, arith}
use Rattle.laws.specs.Below.{sum_below, sum_same}
use Rattle.check_refusals.specs.declared.Report.{Report}
use Rattle.stored.specs.Layout.{Stored}
use Rattle.mesh_tables.specs.Tables.{tables_of, base_records}
use Rattle.check_refusals.specs.Check.{check_number, accepted, report_of, check_of, leaves, deepest, sixfold}
use Rattle.check_meaning.proofs.Exactly.{accepts_exactly}
use Rattle.check_meaning.specs.Cuts.{stored_four}
use Rattle.check_meaning.specs.Volumes.{volume}
use Rattle.check_meaning.proofs.Volumes.{volume_kept}
use Rattle.cuts_names.specs.Pieces.{Node}
use Rattle.cuts.specs.Count.{LeafList}
use Rattle.cuts.specs.LinkNodes.{node_root}
use Rattle.demands_proofs.specs.Link.{link}
use Rattle.demands_words.specs.Words.{StoredMesh, Figures, sixfold_at, sum_of, SameBase}
use Rattle.demands_proofs.specs.FiguresOf.{figures_held, record_sixfold}
use Rattle.demands_proofs.specs.OneSet as OneSet
use Rattle.demands_proofs.specs.AcceptedOf.{accepted_of_stored}
use Rattle.demands_proofs.specs.FromStored as From

-- An accepted mesh's report.
report_accepted : (s : Stored) → check_number s ≡ 0 → check_of s ≡ accepted (tables_of s)
unfolding check_of report_of
report_accepted s e = rw e

module _ (s : Stored) (x : StoredMesh s) where
  pub stored_figures : Figures x.base x.cuts (check_of s).leaves (check_of s).deepest (check_of s).sixfold
  stored_figures =
      let y = x.stores in
      let report = report_accepted s ((accepts_exactly s).1 (accepted_of_stored s x)) in
      subst (λ (r : Report). Figures x.base x.cuts r.leaves r.deepest r.sixfold) (sym report)
      (figures_held (tables_of s) x.base x.cuts y.numbers (From.holds s x) y.vertices_numbered y.records_numbered (From.marks_four s x) (From.few s x) (From.lawful s x) x.right.marked)

  -- The leaves' summed volume is that of the base pieces.
  pub stored_volume : (l : List Node) → LeafList x.cuts l → sum_of (sixfold_at x.base) l ≡ sum_below x.base.pieces (λ r. sixfold_at x.base (record { root = r; path = [] }))
  stored_volume l listed =
      let y = x.stores in
      let a = accepted_of_stored s x in
      let m = tables_of s in
      let report = report_accepted s ((accepts_exactly s).1 a) in
      let held = From.holds s x in
      let each : (r : ℕ) → r < base_records m → volume m r ≡ sixfold_at x.base (record { root = r; path = [] }) =
      λ r h. record_sixfold m x.base x.cuts y.numbers held y.vertices_numbered y.records_numbered (From.marks_four s x) (From.few s x) (From.lawful s x) r (omega (arith, h, a.mesh.counts.records_within))
      ∙ ap (sixfold_at x.base) (node_root (link m) (From.lawful s x) r h) in
      stored_figures.sixfold_is l listed
      ∙ ap (λ (r : Report). r.sixfold) report
      ∙ volume_kept m a.mesh (stored_four s)
      ∙ sum_same (base_records m) (volume m) (λ r. sixfold_at x.base (record { root = r; path = [] })) each
      ∙ ap (λ (n : ℕ). sum_below n (λ r. sixfold_at x.base (record { root = r; path = [] }))) held.base_records_lem

module _ (s : Stored) (x x' : StoredMesh s) where
  pub stored_one_base : SameBase x.base x'.base
  stored_one_base =
      let y = x.stores in
      let y' = x'.stores in
      OneSet.one_base (tables_of s) (From.lawful s x)
      x.base x.cuts y.numbers (From.holds s x) y.vertices_numbered y.records_numbered (From.marks_four s x) (From.few s x)
      x'.base x'.cuts y'.numbers (From.holds s x') y'.vertices_numbered y'.records_numbered (From.marks_four s x') (From.few s x')

  pub stored_one_set : (n : Node) → x.cuts.has n ≡ x'.cuts.has n
  stored_one_set =
      let y = x.stores in
      let y' = x'.stores in
      OneSet.one_set (tables_of s) (From.lawful s x)
      x.base x.cuts y.numbers (From.holds s x) y.vertices_numbered y.records_numbered (From.marks_four s x) (From.few s x)
      x'.base x'.cuts y'.numbers (From.holds s x') y'.vertices_numbered y'.records_numbered (From.marks_four s x') (From.few s x')
