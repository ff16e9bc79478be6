-- The passes in two slices, byte for byte.
use Rattle.std.specs.Prelude.{Bool, not, cond, ◌&&◌, ◌||◌, List, ℕ, zero, suc, ◌+◌, ◌*◌, length, leb, ltb}
use Rattle.laws.specs.Links.{short}
use Rattle.stored.specs.declared.Limits.{Limits}
use Rattle.stored.specs.declared.Kind.{Kind}
use Rattle.stored.specs.declared.Layout.{Layout}
use Rattle.stored.specs.Layout.{vertex_width, record_width, working, numbers_reach}
use Rattle.mesh_tables.specs.Tables.{leaf_hangs, hanging_edge}
use Rattle.refine_cut.specs.Slices.{Slices, tables_in, cut_put}
use Rattle.refine_pass.specs.Passes.{exceeds}

-- One turn: record n is cut if it is chosen, and the tables don't exceed their limits.
unfoldable pub turn_put : Limits → Layout → Bool → ℕ → Slices → Slices
turn_put most l chosen n s = let cut = cut_put l s n in cond (chosen && not (exceeds most s.header)) cut s

-- The first n turns of a pass.
unfoldable pub turns_put : Limits → Layout → (ℕ → Bool) → ℕ → Slices → Slices
turns_put most l chosen zero s = s
turns_put most l chosen (suc n) s = turn_put most l (chosen n) n (turns_put most l chosen n s)

-- A pass over the records that are there when it begins.
unfoldable pub pass_put : Limits → Layout → (ℕ → Bool) → Slices → Slices
pass_put most l chosen s = turns_put most l chosen s.header.records s

-- The later passes, each of the leaves that hang when it begins.
unfoldable pub closing_put : Limits → Layout → ℕ → Slices → Slices
closing_put most l zero s = s
closing_put most l (suc passes) s =
    let next = closing_put most l passes (pass_put most l (leaf_hangs (tables_in l s)) s) in
    cond (hanging_edge (tables_in l s) && not (exceeds most s.header)) next s

-- Pass one, of the records that are chosen, and those after it.
unfoldable pub refined_put : Limits → Layout → (ℕ → Bool) → Slices → Slices
refined_put most l chosen s = closing_put most l most.records (pass_put most l chosen s)

-- ---- for every input

-- Tables to work on: room for one vertex and two records more than there may be.
abbrev pub work : Kind → Layout
work k = working k.format (k.limits.vertices + 1) (k.limits.records + 2)

-- The kind's numbers reach that far, the slices have that room, and there are no more vertices and records than there may be.
unfoldable pub can_work : Kind → Slices → Bool
can_work k s =
    numbers_reach k
    && (not (exceeds k.limits s.header)
    && (leb (vertex_width k.format * (k.limits.vertices + 1)) (length s.base) && leb (record_width k.format * (k.limits.records + 2)) (length s.grown)))

-- The lists that are lent are too short: for the links of one vertex more than there may be, or for a place for each possible record.
unfoldable pub too_short : Limits → List ℕ → List ℕ → List ℕ → Bool
too_short most heads nexts table = short heads nexts (most.vertices + 1) || ltb (length table) most.records

-- All passes, where they can be made and what is lent does not lack room; else nothing is cut.
unfoldable pub refined_within : Kind → Bool → (ℕ → Bool) → Slices → Slices
refined_within k lacking chosen s = let all = refined_put k.limits (work k) chosen s in cond (can_work k s && not lacking) all s
