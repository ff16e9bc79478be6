-- `check_faces::put` writes both entries, for which there is room.
-- Assumes nothing.
use Prim.Native.Nat.{ℕ}
use mathlib.Core.Path.{sym, ap, ◌∙◌}
use native.Mathlib.Numerals.{add-one}
use lib.ListN.{get_or, set}
use Rattle.laws.specs.Links.{links_of, pushed_there}
use Rattle.chains.specs.Held.{links_in}
use Rattle.check_faces.proofs.put.Goals as goal

pub returns : goal.returns
returns c =
    let a = c.args in
    ap (λ (t : ℕ). links_of (set a.links.now.heads.now a.k t) (set a.links.now.nexts.now a.f (get_or a.links.now.heads.now a.k 0))) (add-one a.f)
    ∙ sym (pushed_there (links_in a.links.now) a.k a.f c.requires.k_in_bounds c.requires.f_in_bounds c.requires.f_lt_greatest)
