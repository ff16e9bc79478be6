-- `promises::take_back` meets its contract: a slice of u8 holds bytes.
use mathlib.Core.Path.{refl}
use native.Mathlib.Omega.{arith}
use lib.ListN.{length}
use Rattle.laws.specs.Lists.{bytes_none}
use Rattle.stored.specs.Layout.{stored1, selection1}
use Rattle.promises.specs.TakeBack.{take_back_promised}
use Rattle.promises.proofs.take_back.Goals as goal

pub returns : goal.returns
returns c =
    let a = c.args in
    let called = c.tmb_take_back in
    take_back_promised (stored1 a.mesh.now) refl (selection1 a.request.now) (length a.out.now) called.result called.new.out
    (record { byte = λ k. omega (arith, c.shared_slice_known-1.given k) })
    bytes_none
    called.ensures
