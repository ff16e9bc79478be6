-- `promises::check` meets its contract: a slice of u8 holds bytes.
use native.Mathlib.Omega.{arith}
use Rattle.laws.specs.Lists.{bytes_none}
use Rattle.stored.specs.Layout.{stored1}
use Rattle.promises.specs.Promises.{check_promised}
use Rattle.promises.proofs.check.Goals as goal

pub returns : goal.returns
returns c = check_promised (stored1 c.args.mesh.now) c.tmb_check.result (record { byte = λ k. omega (arith, c.shared_slice_known-1.given k) }) bytes_none c.tmb_check.ensures
