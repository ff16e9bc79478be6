-- What check answers, for every stored mesh of every kind: document 01, "Numbers we give back", and document 02's 22 and 23.
use Rattle.std.specs.Prelude.{◌≡◌, cond, List, [], ◌∷◌, ◌++◌, ℕ, eqb}
use Rattle.std.proofs.Common.{sym, ◌∙◌}
use Rattle.laws.specs.Below.{count_below, greatest_below, sum_below, first_below}
use Rattle.laws.specs.Order.{Row, row, first_broken}
use Rattle.stored.specs.declared.Vertex.{Vertex}
use Rattle.stored.specs.declared.Record.{Record}
use Rattle.stored.specs.Layout.{Stored, header_of}
use Rattle.check_refusals.specs.declared.Report.{Report}
use Rattle.mesh_tables.specs.Tables.{Tables, tables_of, all_records, uncut, is_leaf, sixfold_at, hangs_at, leaf_hangs, hanging_edge}
use Rattle.check_refusals.specs.Refusals.{wrong_length, wrong_mark, wrong_counts, bad_vertices, bad_base_records, left_handed_records, bad_base_marks, bad_base_faces, unused_vertices, hanging_vertices, bad_cuts}

-- Refusals 4 to 8, of the vertices and the base; 22 is "tried after 5 and before 6", 23 "after 8 and before 9".
abbrev pub base_rows : Tables → List Row
base_rows m =
    row 4 (bad_vertices m)
    ∷ row 5 (bad_base_records m)
    ∷ row 22 (left_handed_records m)
    ∷ row 6 (bad_base_marks m)
    ∷ row 7 (bad_base_faces m)
    ∷ row 8 (unused_vertices m)
    ∷ row 23 (hanging_vertices m)
    ∷ []

-- 9 and 10, of the cuts.
abbrev pub cut_rows : Tables → List Row
cut_rows m = row 9 (bad_cuts m) ∷ row 10 (hanging_edge m) ∷ []

-- Refusals 4 to 10, 22 and 23, of the tables.
unfoldable pub table_rows : Tables → List Row
table_rows m = base_rows m ++ cut_rows m

-- Refusals 1 to 10 in the order of the numbers, 22 between 5 and 6, 23 between 8 and 9.
unfoldable pub rows : Stored → List Row
rows s = row 1 (wrong_length s) ∷ row 2 (wrong_mark s) ∷ row 3 (wrong_counts s.kind.limits (header_of s)) ∷ table_rows (tables_of s)

-- "The first rule broken, in the order of the numbers, names the refusal."; 0 where none is.
unfoldable pub check_number : Stored → ℕ
check_number s = first_broken (rows s)

-- "leaves, greatest leaf generation and summed sixfold volume of the leaves"
unfoldable pub leaves : Tables → ℕ
leaves m = count_below (all_records m) (is_leaf m)

unfoldable pub leaf_generation : Record → ℕ
leaf_generation r = cond (uncut r) r.piece.generation 0

unfoldable pub deepest : Tables → ℕ
deepest m = greatest_below (all_records m) (λ n. leaf_generation (m.record_at n))

unfoldable pub leaf_sixfold : (ℕ → Vertex) → Record → ℕ
leaf_sixfold vertex_at r = let volume = sixfold_at vertex_at r.piece in cond (uncut r) volume 0

unfoldable pub sixfold : Tables → ℕ
sixfold m = sum_below (all_records m) (λ n. leaf_sixfold m.vertex_at (m.record_at n))

-- "with a refusal these three are 0" and "with any other answer both are 0"
abbrev pub refused_with : ℕ → Report
refused_with n = record { number = n; leaves = 0; deepest = 0; sixfold = 0; «record» = 0; edge = 0 }

-- "On acceptance it returns number 0, leaves, greatest leaf generation and summed sixfold volume of the leaves"
abbrev pub accepted : Tables → Report
accepted m = record { number = 0; leaves = leaves m; deepest = deepest m; sixfold = sixfold m; «record» = 0; edge = 0 }

-- "with 10 it also returns the first leaf edge found hanging, by record and then edge code"
unfoldable pub first_hanging : Tables → ℕ
first_hanging m = first_below (all_records m) (leaf_hangs m)

abbrev pub hanging_report : Tables → Report
hanging_report m =
    record { number = 10; leaves = 0; deepest = 0; sixfold = 0; «record» = first_hanging m; edge = first_below 6 (hangs_at m (first_hanging m)) }

-- What is returned with a number.
unfoldable pub report_of : Tables → ℕ → Report
report_of m number =
    let good = accepted m in
    let hanging = hanging_report m in
    let other = cond (eqb number 10) hanging (refused_with number) in
    cond (eqb number 0) good other

-- What check returns, whatever the bytes are.
unfoldable pub check_of : Stored → Report
check_of s = report_of (tables_of s) (check_number s)

-- "Each public function states one outcome for each input": r is the one for s.
abbrev pub CheckOutcomeIs : Stored → Report → Type 0
CheckOutcomeIs s r = r ≡ check_of s

-- "That no second outcome fits is itself proved"
pub one_check : (s : Stored) (r r' : Report) → CheckOutcomeIs s r → CheckOutcomeIs s r' → r ≡ r'
one_check s r r' is is' = is ∙ sym is'
