-- Document 01, "The listing": its lines. "Every line ends with a line feed."
use Rattle.std.specs.Prelude.{ℕ, List, [], ◌∷◌, ◌++◌}
use Prim.Native.String.{String}
use Rattle.piece.specs.declared.Piece.{Piece}
use Rattle.piece.specs.Ends.{corner_at}
use Rattle.stored.specs.declared.Header.{Header}
use Rattle.check_refusals.specs.declared.Report.{Report}
use Rattle.mesh_tables.specs.Tables.{refinement_ends}
use Rattle.list_text.specs.Text.{figures, line_feed}

-- "a 128-byte line buffer"
abbrev pub line_room : ℕ
line_room = 128

-- "one line, `refused ` and the number"
unfoldable pub refused_line : ℕ → List ℕ
refused_line number = figures (("refused ", number) ∷ []) ++ line_feed

-- "one heading line with job, round, all vertices, all records and check's three figures"
unfoldable pub count_figures : Header → List (String × ℕ)
count_figures h = ("job ", h.job) ∷ (" round ", h.round) ∷ (" vertices ", h.vertices) ∷ (" records ", h.records) ∷ []

unfoldable pub check_figures : Report → List (String × ℕ)
check_figures r = (" leaves ", r.leaves) ∷ (" deepest ", r.deepest) ∷ (" sixfold ", r.sixfold) ∷ []

unfoldable pub heading_line : Header → Report → List ℕ
heading_line h r = figures (count_figures h ++ check_figures r) ++ line_feed

-- "its number, four corners, its refinement edge's lower and higher vertex, its generation"
unfoldable pub corner_figures : ℕ → Piece → List (String × ℕ)
corner_figures n p = ("", n) ∷ (" ", corner_at p 0) ∷ (" ", corner_at p 1) ∷ (" ", corner_at p 2) ∷ (" ", corner_at p 3) ∷ []

unfoldable pub edge_figures : Piece → List (String × ℕ)
edge_figures p = (" edge ", (refinement_ends p).lower) ∷ (" ", (refinement_ends p).higher) ∷ (" gen ", p.generation) ∷ []

unfoldable pub leaf_line : ℕ → Piece → List ℕ
leaf_line n p = figures (corner_figures n p ++ edge_figures p) ++ line_feed
