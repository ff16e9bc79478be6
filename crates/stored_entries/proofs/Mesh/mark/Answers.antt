-- `Mesh::mark` meets its contract: one field of the record, and past the four faces 0.
-- Assumes nothing.
use mathlib.Core.Path.{◌≡◌, refl, sym}
use mathlib.Core.List.{List}
use Prim.Native.Nat.{ℕ, zero, suc, ◌+◌, ◌<◌}
use native.Mathlib.Omega.{arith}
use lib.ListN.{get_or, get_or-eq_default}
use Rattle.stored.specs.declared.Format.{Format}
use Rattle.stored.specs.Layout.{byte_at, edge_at, held_in, record_in, marks_from, record_from}
use Rattle.stored_entries.proofs.Mesh.mark.Goals as goal

of_face : (f : Format) (s : List ℕ) (j : ℕ) → j < 4 → byte_at s (edge_at f + (1 + j)) ≡ get_or (marks_from f s) j 0
of_face f s zero l = refl
of_face f s (suc zero) l = refl
of_face f s (suc (suc zero)) l = refl
of_face f s (suc (suc (suc zero))) l = refl
of_face f s (suc (suc (suc (suc j)))) l = absurd (omega arith)

pub returns-then-j-lt4 : goal.returns-then-j-lt4
unfolding record_in record_from
returns-then-j-lt4 c =
    let a = c.args in
    rw (c.byte.ensures, c.from.ensures, c.record_held.ensures.format, c.record_held.ensures.bytes)
    (of_face a.self.now.layout.format (held_in a.self.now.layout.records a.self.now.base.now a.self.now.grown.now a.i) a.j c.if-j-lt4.true)

pub returns : goal.returns
unfolding record_in record_from
returns c =
    let a = c.args in
    sym (get_or-eq_default (marks_from a.self.now.layout.format (held_in a.self.now.layout.records a.self.now.base.now a.self.now.grown.now a.i)) 0 c.if-j-lt4.false)
