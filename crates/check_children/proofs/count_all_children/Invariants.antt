-- `check_children::count_all_children` has counted the children of the records before n.
-- Assumes nothing.
use mathlib.Core.Path.{◌≡◌}
use Rattle.laws.specs.Counts.{counts_below}
use Rattle.check_children.specs.Children.{children_counted}
use Rattle.check_children.proofs.count_all_children.Given as goal
use Rattle.stored_entries.specs.Mesh.{record_read}

abbrev pub invariant-loop-n : goal.invariant-loop-n
invariant-loop-n l = l.children ≡ counts_below (λ t m. children_counted t (record_read l.mesh m)) l.initial.children l.n
