-- `check_faces::push_faces`: one after the other; the lists stay as long as they are.
-- Assumes nothing.
use native.Mathlib.Omega.{arith}
use Rattle.check_faces.specs.Linked.{pushed_long, four_pushed}
use Rattle.check_faces.proofs.push_faces.Goals as goal

pub put-requires : goal.put-requires
put-requires c = record { k_in_bounds = c.requires.keys_within 0 (omega arith); f_in_bounds = omega (arith, c.requires.n_in_bounds); f_lt_greatest = omega (arith, c.requires.n_bound) }

pub put-requires-2 : goal.put-requires-2
put-requires-2 c =
    let kept = pushed_long _ _ _ _ c.put.ensures in
    record { k_in_bounds = rw kept.0 (c.requires.keys_within 1 (omega arith)); f_in_bounds = rw kept.1 (omega (arith, c.requires.n_in_bounds)); f_lt_greatest = omega (arith, c.requires.n_bound) }

pub put-requires-3 : goal.put-requires-3
put-requires-3 c =
    let kept = pushed_long _ _ _ _ c.put.ensures in
    let kept2 = pushed_long _ _ _ _ c.put-2.ensures in
    record { k_in_bounds = rw (kept2.0, kept.0) (c.requires.keys_within 2 (omega arith)); f_in_bounds = rw (kept2.1, kept.1) (omega (arith, c.requires.n_in_bounds)); f_lt_greatest = omega (arith, c.requires.n_bound) }

pub put-requires-4 : goal.put-requires-4
put-requires-4 c =
    let kept = pushed_long _ _ _ _ c.put.ensures in
    let kept2 = pushed_long _ _ _ _ c.put-2.ensures in
    let kept3 = pushed_long _ _ _ _ c.put-3.ensures in
    record { k_in_bounds = rw (kept3.0, kept2.0, kept.0) (c.requires.keys_within 3 (omega arith)); f_in_bounds = rw (kept3.1, kept2.1, kept.1) (omega (arith, c.requires.n_in_bounds)); f_lt_greatest = omega (arith, c.requires.n_bound) }

pub returns : goal.returns
returns c =
    let a = c.args in
    four_pushed a.own a.n _ _ _ _ _ c.put.ensures c.put-2.ensures c.put-3.ensures c.put-4.ensures
