-- `grid_volume::determinant` meets its contract: minors and the row's sum are what the definition has, and nothing overflows. Assumes nothing.
use Rattle.grid_volume.specs.VolumeLaws.{entry_passed, minor_returned, determinant_returned}
use Rattle.grid_volume.specs.Exact.{bounded}
use Rattle.grid_volume.proofs.determinant.Goals as goal

pub minor-x-requires : goal.minor-x-requires
minor-x-requires c =
    let e = entry_passed c.args.m c.requires in
    (bounded (e 1 1), bounded (e 1 2), bounded (e 2 1), bounded (e 2 2))

pub minor-y-requires : goal.minor-y-requires
minor-y-requires c =
    let e = entry_passed c.args.m c.requires in
    (bounded (e 1 0), bounded (e 1 2), bounded (e 2 0), bounded (e 2 2))

pub minor-z-requires : goal.minor-z-requires
minor-z-requires c =
    let e = entry_passed c.args.m c.requires in
    (bounded (e 1 0), bounded (e 1 1), bounded (e 2 0), bounded (e 2 1))

pub row_sum-requires : goal.row_sum-requires
row_sum-requires c =
    let e = entry_passed c.args.m c.requires in
    let minor = minor_returned c.args.m c.requires in record { a_bound = (bounded (e 0 0), bounded (e 0 1), bounded (e 0 2)); x_bound = (bounded (minor 1 2 _ c.minor-x.ensures), bounded (minor 0 2 _ c.minor-y.ensures), bounded (minor 0 1 _ c.minor-z.ensures)) }

pub returns : goal.returns
returns c =
    let minor = minor_returned c.args.m c.requires in
    determinant_returned c.args.m c.requires
    (minor 1 2 _ c.minor-x.ensures) (minor 0 2 _ c.minor-y.ensures) (minor 0 1 _ c.minor-z.ensures)
    c.row_sum.ensures
