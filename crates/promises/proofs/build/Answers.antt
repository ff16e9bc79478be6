-- `promises::build` meets its contract: the arguments have the types that they have.
use native.Mathlib.Omega.{arith}
use lib.ListN.{length}
use Rattle.promises.specs.Promises.{build_promised}
use Rattle.promises.proofs.build.Goals as goal

pub returns : goal.returns
returns c =
    let a = c.args in
    let called = c.tmb_build in
    build_promised a.job a.coordinates.now a.corners.now (length a.out.now) called.result called.new.out
    (record {
      u32_job = omega (arith, c.ranges.job);
      i16_coordinates = c.are_i16.ensures.each;
      u16_corners = λ k l. omega (arith, c.shared_slice_known-1.given k);
    })
    called.ensures
