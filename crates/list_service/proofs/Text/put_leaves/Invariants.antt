-- `list_service::Text::put_leaves` has put the leaves below n.
-- Assumes nothing.
use mathlib.Core.Path.{◌≡◌}
use Rattle.stored.specs.Layout.{stored1, header_of}
use Rattle.mesh_tables.specs.Tables.{tables}
use Rattle.list_service.specs.Listing.{leaf_lines, text_of}
use Rattle.list_service.specs.Putting.{followed}
use Rattle.list_service.proofs.Text.put_leaves.Given as goal

abbrev pub invariant-loop-n : goal.invariant-loop-n
invariant-loop-n l = l.self ≡ followed l.initial.self (text_of (leaf_lines (tables (header_of (stored1 l.mesh)) l.read.layout l.read.base.now l.read.grown.now) l.n))
