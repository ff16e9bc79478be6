-- `grid_volume::difference` meets its contract: a place's numbers are read as they are, and their differences are small. Assumes nothing.
use native.Mathlib.Omega.{arith}
use Rattle.grid_volume.specs.Exact.{unsigned, difference, fits, stored}
use Rattle.grid_volume.specs.VolumeLaws.{difference_of_places}
use Rattle.grid.specs.Places.{greatest_place}
use Rattle.grid_volume.proofs.difference.Goals as goal

pub overflow_sub-result : goal.overflow_sub-result
overflow_sub-result c =
    let args = c.args in
    fits (difference (unsigned greatest_place args.p.x (omega arith) tt) (unsigned greatest_place args.q.x (omega arith) tt)) tt

pub overflow_sub-result-2 : goal.overflow_sub-result-2
overflow_sub-result-2 c =
    let args = c.args in
    fits (difference (unsigned greatest_place args.p.y (omega arith) tt) (unsigned greatest_place args.q.y (omega arith) tt)) tt

pub overflow_sub-result-3 : goal.overflow_sub-result-3
overflow_sub-result-3 c =
    let args = c.args in
    fits (difference (unsigned greatest_place args.p.z (omega arith) tt) (unsigned greatest_place args.q.z (omega arith) tt)) tt

pub returns : goal.returns
returns c =
    let args = c.args in
    difference_of_places args.p args.q (omega arith) (omega arith)
    (stored (difference (unsigned greatest_place args.p.x (omega arith) tt) (unsigned greatest_place args.q.x (omega arith) tt)) tt).is
    (stored (difference (unsigned greatest_place args.p.y (omega arith) tt) (unsigned greatest_place args.q.y (omega arith) tt)) tt).is
    (stored (difference (unsigned greatest_place args.p.z (omega arith) tt) (unsigned greatest_place args.q.z (omega arith) tt)) tt).is
