-- `promises::list` meets its contract: a slice of u8 holds bytes.
use native.Mathlib.Omega.{arith}
use lib.ListN.{length}
use Rattle.promises.specs.Promises.{list_promised}
use Rattle.promises.proofs.list.Goals as goal

pub returns : goal.returns
returns c =
    let a = c.args in
    let called = c.tmb_list in
    list_promised a.mesh.now (length a.out.now) called.result called.new.out
    (record { byte = λ k. omega (arith, c.shared_slice_known-1.given k) })
    called.ensures
