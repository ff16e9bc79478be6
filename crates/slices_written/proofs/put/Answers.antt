-- `slices_written::put`: the bytes that there is room for are copied, and past the end nothing is written.
-- Assumes nothing.
use mathlib.Core.Path.{◌≡◌, sym, ap, ◌∙◌}
use mathlib.Core.List.{List, append_assoc}
use Prim.Native.Nat.{ℕ, ◌+◌, ◌≤◌}
use native.Mathlib.Omega.{arith}
use borrow.Rule.Slice.PartMut.{put_mid}
use lib.ListN.{length, drop, take}
use lib.Seq.{drop-drop, length-take-le}
use Rattle.std.proofs.lemmas.List.Edits.{sets, sets-eq}
use Rattle.laws.specs.Lists.{sets_out, sets_fitting}
use Rattle.slices_written.proofs.put.Goals as goal

-- What a part holds after the write, as the run that is written there.
run : (t ys : List ℕ) (at k : ℕ) → k ≡ length ys → at + k ≤ length t → put_mid at k t ys ≡ sets t at ys
run t ys at k e h =
    rw (e, drop-drop (length ys) at t) (sym (append_assoc (take at t) ys (drop (at + length ys) t)))
    ∙ sym (sets-eq ys t at (omega arith))

pub returns-then-at-s : goal.returns-then-at-s
returns-then-at-s c =
    let a = c.args in
    let n = c.min-n.result in
    let front : c.copy_from_slice.new.self ≡ take n a.bytes.now = c.copy_from_slice.ensures.after in
    let long : length c.copy_from_slice.new.self ≡ n = ap (λ (l : List ℕ). length l) front ∙ length-take-le n a.bytes.now (omega arith) in
    run a.s.now _ a.at _ (omega (arith, long)) (omega arith) ∙ ap (sets a.s.now a.at) front ∙ sets_fitting a.s.now a.at a.bytes.now n c.min-n.ensures

pub returns-else-at-s : goal.returns-else-at-s
returns-else-at-s c = sym (sets_out c.args.s.now c.args.at c.args.bytes.now (omega (arith, c.if-at-s.false)))
