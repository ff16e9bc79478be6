-- Document 01, "The listing": what it says, line by line, and what list answers, for every byte string and every length of the output buffer.
use Rattle.std.specs.Prelude.{◌≡◌, cond, ℕ, zero, suc, ◌+◌, ◌*◌, List, [], ◌∷◌, ◌++◌, length, replicate, ltb, eqb}
use Rattle.std.proofs.Common.{sym, ◌∙◌}
use Rattle.laws.specs.Lists.{zero_past, joined}
use Rattle.stored.specs.Layout.{version1, limits, stored1, mesh_length}
use Rattle.check_refusals.specs.declared.Report.{Report}
use Rattle.mesh_tables.specs.Tables.{Tables, tables_of, all_records, is_leaf, piece_at}
use Rattle.check_refusals.specs.Check.{check_of}
use Rattle.list_lines.specs.Lines.{line_room, refused_line, heading_line, leaf_line}
use Rattle.list_service.specs.declared.Listed.{Listed}

-- "The largest mesh is 62,484 bytes."
abbrev pub largest_mesh : ℕ
largest_mesh = mesh_length version1 limits.vertices limits.records

-- "then each leaf in rising record number": those below n.
unfoldable pub leaf_lines : Tables → ℕ → List (List ℕ)
leaf_lines m zero = []
leaf_lines m (suc n) = leaf_lines m n ++ cond (is_leaf m n) (leaf_line n (piece_at m n) ∷ []) []

unfoldable pub mesh_lines : Tables → Report → List (List ℕ)
mesh_lines m r = heading_line m.header r ∷ leaf_lines m (all_records m)

-- "Refused: one line", "else one heading line"
unfoldable pub judged_lines : Tables → Report → List (List ℕ)
judged_lines m r = let lines = mesh_lines m r in cond (eqb r.number 0) lines (refused_line r.number ∷ [])

-- "input longer than the largest mesh is refused with 1 here"
unfoldable pub lines_of : List ℕ → List (List ℕ)
lines_of s =
    let lines = judged_lines (tables_of (stored1 s)) (check_of (stored1 s)) in
    cond (ltb largest_mesh (length s)) (refused_line 1 ∷ []) lines

-- Lines, one after the other, and the whole output.
abbrev pub text_of : List (List ℕ) → List ℕ
text_of lines = joined (λ (line : List ℕ). line) lines

unfoldable pub listing_of : List ℕ → List ℕ
listing_of s = text_of (lines_of s)

-- ---- what list answers

-- "input longer than the largest mesh is refused with 1 here", and any other has check's number.
unfoldable pub listed_number : List ℕ → ℕ
listed_number s = let judged = (check_of (stored1 s)).number in cond (ltb largest_mesh (length s)) 1 judged

-- The mesh's own number; else 20, "the output buffer is shorter than the result", or 0.
unfoldable pub list_number : List ℕ → ℕ → ℕ
list_number s room =
    let own = listed_number s in
    let last : ℕ = cond {A = ℕ} (ltb room (length (listing_of s))) 20 0 in
    cond (eqb own 0) last own

-- How long the listing is, and 0 where the buffer is shorter.
unfoldable pub list_length : List ℕ → ℕ → ℕ
list_length s room = let long = length (listing_of s) in cond (ltb room long) 0 long

-- The listing, "zero past the result", and "zero throughout" where the buffer is shorter. A refused mesh has its one line.
unfoldable pub list_bytes : List ℕ → ℕ → List ℕ
list_bytes s room =
    let text = listing_of s in
    let whole = zero_past room text in
    cond (ltb room (length text)) (replicate room 0) whole

-- "Each public function states one outcome for each input: number, counts and all bytes of the output, refused or not."
pub record ListOutcomeIs (mesh : List ℕ) (room : ℕ) (r : Listed) (out : List ℕ) : Type 0 where
  pub number : r.number ≡ list_number mesh room
  pub length : r.length ≡ list_length mesh room
  pub bytes : out ≡ list_bytes mesh room

-- "That no second outcome fits is itself proved"
pub one_listing : (mesh : List ℕ) (room : ℕ) (r r' : Listed) (out out' : List ℕ) → ListOutcomeIs mesh room r out → ListOutcomeIs mesh room r' out' → (r ≡ r') × (out ≡ out')
one_listing mesh room r r' out out' is is' =
    let number = is.number ∙ sym is'.number in
    let length = is.length ∙ sym is'.length in
    (λ i. record { number = number i; length = length i }, is.bytes ∙ sym is'.bytes)

-- A buffer that holds any listing: a line for each record that there may be, and the heading.
abbrev pub largest_listing : ℕ
largest_listing = line_room * (limits.records + 1)
