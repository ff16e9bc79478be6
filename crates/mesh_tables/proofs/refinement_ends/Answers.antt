-- `mesh_tables::refinement_ends`: the corners in the refinement edge's two slots, the lower first.
-- Assumes nothing.
use Rattle.std.proofs.Common.{rules}
use Rattle.piece.specs.Ends.{ends_at, ends_at_lem}
use Rattle.mesh_tables.proofs.refinement_ends.Goals as goal
use Rattle.stored_entries.specs.Mesh.{record_read}

pub returns : goal.returns
unfolding ends_at
returns c =
    let p = (record_read c.args.mesh.now c.args.n).piece in
    let ends = ends_at_lem p p.edge in
    search (rules, ends)
