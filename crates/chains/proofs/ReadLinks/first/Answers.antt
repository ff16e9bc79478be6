-- `chains::ReadLinks::first` reads the head of x's key, which is one of the heads where there are some.
-- Assumes nothing.
use Rattle.std.proofs.Common.{rules}
use Prim.Native.Nat.{◌-◌}
use mathlib.Core.Path.{sym}
use native.Mathlib.Omega.{arith}
use lib.Bits.{and_le_r}
use lib.ListN.{length, get_or-eq_default}
use Rattle.laws.specs.Links.{key_among}
use Rattle.chains.proofs.ReadLinks.first.Goals as goal

pub returns-then-self-eq0 : goal.returns-then-self-eq0
returns-then-self-eq0 c = sym (get_or-eq_default c.args.self.now.heads.now 0 (omega (arith, c.if-self-eq0.true)))

pub offset_bounds-self-x : goal.offset_bounds-self-x
offset_bounds-self-x c =
    let a = c.args in
    let low = and_le_r a.x (length a.self.now.heads.now - 1) in
    record { fits = omega (arith, low, c.if-self-eq0.false, c.well_formed, c.ranges) }

pub bounds-self-x : goal.bounds-self-x
bounds-self-x c =
    let a = c.args in
    let low = and_le_r a.x (length a.self.now.heads.now - 1) in
    omega (arith, low, c.if-self-eq0.false)

pub returns : goal.returns
unfolding key_among
returns c = search rules
