-- `refine_pass::choose_hanging` has chosen, of the records before n, those that hang.
-- Assumes nothing.
use Rattle.mesh_tables.specs.Tables.{tables_read, leaf_hangs}
use Rattle.refine_pass.specs.Chosen.{Chosen}
use Rattle.refine_pass.proofs.choose_hanging.Given as goal

abbrev pub invariant-loop-n : goal.invariant-loop-n
invariant-loop-n l = Chosen (leaf_hangs (tables_read l.linked.mesh.now)) l.n l.chosen l.some
