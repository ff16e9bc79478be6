-- The first table that refusal 9 keeps: how often each record is the child of a cut one.
use Rattle.std.specs.Prelude.{Bool, not, cond, ◌&&◌, ◌||◌, List, ℕ, ◌+◌, get_or, replicate, eqb, leb}
use Rattle.laws.specs.Links.{counted_at}
use Rattle.stored.specs.declared.Record.{Record}
use Rattle.mesh_tables.specs.Tables.{Tables, base_records, all_records, piece_at, uncut}
use Rattle.check_refusals.specs.Refusals.{too_deep, bad_cut}
use Rattle.laws.specs.Counts.{counts_below}

-- One more at both children of record r, if it is cut.
unfoldable pub children_counted : List ℕ → Record → List ℕ
children_counted children r =
    let both = counted_at (counted_at children r.first_child) (r.first_child + 1) in
    cond (uncut r) children both

-- The table of all records, with room for so many.
abbrev pub children_in : Tables → ℕ → List ℕ
children_in m room = counts_below (λ t n. children_counted t (m.record_at n)) (replicate room 0) (all_records m)

-- By the table: a record beyond the base whose count is not 1, and a record that is refused.
unfoldable pub not_child_of_one_by : ℕ → List ℕ → ℕ → Bool
not_child_of_one_by base children c = leb base c && not (eqb (get_or children c 0) 1)

unfoldable pub bad_record_by : Tables → List ℕ → ℕ → Bool
bad_record_by m children n = bad_cut m n || not_child_of_one_by (base_records m) children n || too_deep (piece_at m n)
