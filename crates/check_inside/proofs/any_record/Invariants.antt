-- `check_inside::any_record` has found none before n.
-- Assumes nothing.
use Prim.Native.Nat.{ℕ, ◌≤◌, ◌<◌}
use mathlib.Core.Path.{◌≡◌}
use mathlib.Core.Bool.{Bool, false}
use lib.ListN.{length}
use Rattle.laws.specs.Below.{any_below}
use Rattle.laws.specs.Links.{Chain}
use Rattle.stored.specs.declared.Vertex.{Vertex}
use Rattle.stored.specs.declared.Record.{Record}
use Rattle.check_refusals.specs.Refusals.{hangs_on}
use Rattle.check_inside.specs.Cells.{place_key}
use Rattle.check_inside.proofs.any_record.Given as goal
use Rattle.stored_entries.specs.Mesh.{vertex_read, record_read}

abbrev pub hang : (ℕ → Vertex) → (ℕ → Record) → ℕ → ℕ → Bool
hang vertex_at record_at vertices n = any_below vertices (hangs_on vertex_at (record_at n).piece)

abbrev pub invariant-loop-n : goal.invariant-loop-n
invariant-loop-n l = (l.n ≤ l.records)
    × (0 < length l.links.heads.now → Chain (λ v. place_key (length l.links.heads.now) l.width (vertex_read l.mesh v).place) l.vertices l.links.heads.now l.links.nexts.now →
    any_below l.n (hang (vertex_read l.mesh) (record_read l.mesh) l.vertices) ≡ false)
