-- Document 01, "Build and refine": "Refine works in passes (document 002, LocalRefine). Pass one cuts the selected records; each later pass
-- cuts every leaf that has a hanging edge when the pass begins; it ends when there is none. Within a pass records go in rising number."
use Rattle.std.specs.Prelude.{Bool, not, cond, ◌&&◌, ◌||◌, ℕ, zero, suc, ltb}
use Rattle.stored.specs.declared.Limits.{Limits}
use Rattle.stored.specs.declared.Header.{Header}
use Rattle.mesh_tables.specs.Tables.{Tables, all_records, leaf_hangs, hanging_edge}
use Rattle.refine_cut.specs.Cut.{cut_at}

-- "exceeds 1,024 vertices or 3,072 records", or what other limits have it
unfoldable pub exceeds : Limits → Header → Bool
exceeds most h = ltb most.vertices h.vertices || ltb most.records h.records

-- One turn of a pass: record n is cut if it was chosen when the pass began. Once the tables exceed their limits nothing is cut any more.
unfoldable pub turn : Limits → (ℕ → Bool) → ℕ → Tables → Tables
turn most chosen n m = let cut = cut_at m n in cond (chosen n && not (exceeds most m.header)) cut m

-- "Within a pass records go in rising number": after the first n of them.
unfoldable pub pass_below : Limits → (ℕ → Bool) → ℕ → Tables → Tables
pass_below most chosen zero m = m
pass_below most chosen (suc n) m = turn most chosen n (pass_below most chosen n m)

-- A pass over the records that are there when it begins.
unfoldable pub pass : Limits → (ℕ → Bool) → Tables → Tables
pass most chosen m = pass_below most chosen (all_records m) m

-- "each later pass cuts every leaf that has a hanging edge when the pass begins; it ends when there is none", and where the tables exceed
-- their limits. So many passes at most.
unfoldable pub closing : Limits → ℕ → Tables → Tables
closing most zero m = m
closing most (suc passes) m =
    let next = closing most passes (pass most (leaf_hangs m) m) in
    cond (hanging_edge m && not (exceeds most m.header)) next m

-- Pass one and those after it. Each later pass appends two records at least, so there are fewer passes than records.
unfoldable pub refined : Limits → (ℕ → Bool) → Tables → Tables
refined most chosen m = closing most most.records (pass most chosen m)
