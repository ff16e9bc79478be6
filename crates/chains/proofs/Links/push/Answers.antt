-- `chains::Links::push` writes both entries where there is room, and else nothing.
-- Assumes nothing.
use Prim.Native.Nat.{ℕ}
use mathlib.Core.Path.{sym, ap, ◌∙◌}
use native.Mathlib.Numerals.{add-one}
use native.Mathlib.Omega.{arith}
use lib.ListN.{set, get_or}
use Rattle.chains.specs.Held.{links_in}
use Rattle.laws.specs.Links.{links_of, pushed_there, pushed_past, pushed_beyond, pushed_great}
use Rattle.chains.proofs.Links.push.Goals as goal

pub returns-then-self-k-clause-pushed : goal.returns-then-self-k-clause-pushed
returns-then-self-k-clause-pushed c = sym (pushed_past (links_in c.args.self.now) c.args.k c.args.v c.if-self-k.true)

pub returns-then-self-v-clause-pushed : goal.returns-then-self-v-clause-pushed
returns-then-self-v-clause-pushed c = sym (pushed_beyond (links_in c.args.self.now) c.args.k c.args.v c.if-self-v.true)

pub returns-then-v-clause-pushed : goal.returns-then-v-clause-pushed
returns-then-v-clause-pushed c = sym (pushed_great (links_in c.args.self.now) c.args.k c.args.v c.if-v.true)

pub returns-clause-pushed : goal.returns-clause-pushed
returns-clause-pushed c =
    let a = c.args in
    let heads = a.self.now.heads.now in
    let nexts = a.self.now.nexts.now in
    ap (λ (t : ℕ). links_of (set heads a.k t) (set nexts a.v (get_or heads a.k 0))) (add-one a.v) ∙ sym (pushed_there (links_in a.self.now) a.k a.v (omega arith) (omega arith) (omega arith))
