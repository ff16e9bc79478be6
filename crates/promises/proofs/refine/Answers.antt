-- `promises::refine` meets its contract: a slice of u8 holds bytes.
use mathlib.Core.Path.{refl}
use native.Mathlib.Omega.{arith}
use lib.ListN.{length}
use Rattle.laws.specs.Lists.{bytes_none}
use Rattle.stored.specs.Layout.{stored1, selection1}
use Rattle.promises.specs.Promises.{refine_promised}
use Rattle.promises.proofs.refine.Goals as goal

pub returns : goal.returns
returns c =
    let a = c.args in
    let called = c.tmb_refine in
    refine_promised (stored1 a.mesh.now) refl (selection1 a.selection.now) (length a.out.now) called.result called.new.out
    (record { byte = λ k. omega (arith, c.shared_slice_known-1.given k) })
    bytes_none
    called.ensures
