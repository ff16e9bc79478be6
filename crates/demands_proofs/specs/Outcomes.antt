-- The proofs for demand 1's page: which outcomes check, build, refine and the listing have.
use Rattle.std.specs.Prelude.{◌≡◌, Bool, ◌≢◌, ◌⊎◌, ℕ, zero, suc, ◌≤◌, ◌<◌, length, get_or, replicate, ℤ, eqb, ltb}
use Rattle.std.proofs.Math.Path.{refl, ap, subst}
use Rattle.std.proofs.Common.{sym, ap₂, ◌∙◌, inl, inr, ⊎_elim, not-suc-le-zero, le_of_suc-le-suc, arith}
use Rattle.std.proofs.Math.Bool.{true, false, cond}
use mathlib.Core.List.{List, [], ◌∷◌, ◌++◌, append_assoc}
use Rattle.std.proofs.Math.ListN.{length-append}
use Rattle.std.proofs.lemmas.List.{length-replicate}
use borrow.Author.Tests.{eqb-true, eqb-false, ne_eqb, lt-ltb, le-ltb, ltb-false, eq-eqb}
use Rattle.laws.specs.Below.{either, list_length}
use Rattle.laws.specs.Order.{OneOf, one_of_them, broken_at}
use Rattle.laws.proofs.Order.{none_broken_lem}
use Rattle.laws.specs.Lists.{zero_past, Bytes, joined, joined_length}
use Rattle.stored.specs.declared.Format.{Format}
use Rattle.stored.specs.Layout.{version1, vertex_width, record_width, limits, mesh_length, base_length, grown_length, header_from, header_bytes, vertex_bytes, record_bytes, Mesh, laid_out, mesh_bytes, Stored, stored1, header_of, StoredSelection}
use Rattle.stored.specs.Fitting.{HeaderFits, header_fits, round_fits}
use Rattle.stored.specs.Entries.{header_wide, vertex_wide_lem, record_wide_lem, header_again_lem}
use Rattle.check_refusals.specs.declared.Report.{Report}
use Rattle.mesh_tables.specs.Tables.{Tables, tables_of, all_records, is_leaf, piece_at}
use Rattle.check_refusals.specs.Check.{table_rows, rows, check_number, accepted, refused_with, hanging_report, report_of, check_of}
use Rattle.check_refusals.specs.Bounded.{Bounded, bounded}
use Rattle.check_refusals.specs.Rows.{report_number}
use Rattle.check_meaning.proofs.Exactly.{accepts_exactly}
use Rattle.build_marks.specs.Marking.{plain_vertex, plain_record}
use Rattle.build_service.specs.Build.{plain_header, plain_mesh, plain_bytes, build_rows, build_number, build_bytes}
use Rattle.build_meaning.specs.Written.{Given}
use Rattle.build_meaning.specs.Accepts.{passed, build_fits, check_accepts}
use Rattle.build_meaning.specs.Output as Build
use Rattle.refine_selection.specs.Selected.{selection_rows, round_row}
use Rattle.refine_pass.specs.Law.{within}
use Rattle.refine_service.specs.Refine.{closed, result_of, refine_selection_rows, result_rows, refine_number, refine_bytes}
use Rattle.refine_service.specs.Storing.{later_number, stored_number, refine_none}
use Rattle.refine_meaning.specs.Answer as Refine
use Rattle.refine_meaning.specs.Answer.{job_kept, base_vertices_kept, base_records_kept}
use Rattle.list_text.specs.Text.{line_feed, figures}
use Rattle.list_lines.specs.Lines.{refused_line, count_figures, check_figures, heading_line, corner_figures, edge_figures, leaf_line}
use Rattle.list_service.specs.Listing.{leaf_lines, mesh_lines, judged_lines, lines_of}
use Rattle.demands_words.specs.Words.{check_numbers}

-- A number is 0 or it is not.
pub zero_or_not : (n : ℕ) → (n ≡ 0) ⊎ (n ≢ 0)
zero_or_not n = ⊎_elim (λ t. inl (eqb-true n 0 t)) (λ f. inr (eqb-false n 0 f)) (either (eqb n 0))

-- ---- check

module _ (s : Stored) where
  pub check_number_lem : OneOf (0 ∷ check_numbers) (check_of s).number
  unfolding check_number rows table_rows
  check_number_lem = subst (OneOf (0 ∷ check_numbers)) (sym (report_number s)) (one_of_them (rows s))

  -- Leaves, depth and volume of a refusal.
  pub refused_figures : (check_of s).number ≢ 0 → ((check_of s).leaves ≡ 0) × ((check_of s).deepest ≡ 0) × ((check_of s).sixfold ≡ 0)
  unfolding check_of report_of
  refused_figures n = rw (ne_eqb (check_number s) 0 (λ e. n (report_number s ∙ e))) (go (eqb (check_number s) 10))
    where
      go : (b : Bool) → let r = cond b (hanging_report (tables_of s)) (refused_with (check_number s)) in (r.leaves ≡ 0) × (r.deepest ≡ 0) × (r.sixfold ≡ 0)
      go true = (refl, refl, refl)
      go false = (refl, refl, refl)

  -- The hanging edge of any answer but 10.
  pub no_hanging_edge : (check_of s).number ≢ 10 → ((check_of s).«record» ≡ 0) × ((check_of s).edge ≡ 0)
  unfolding check_of report_of
  no_hanging_edge n = rw (ne_eqb (check_number s) 10 (λ e. n (report_number s ∙ e))) (go (eqb (check_number s) 0))
    where
      go : (b : Bool) → let r = cond b (accepted (tables_of s)) (refused_with (check_number s)) in (r.«record» ≡ 0) × (r.edge ≡ 0)
      go true = (refl, refl)
      go false = (refl, refl)

  pub accepted_length : (check_of s).number ≡ 0 → (length s.base ≡ base_length s.kind (header_of s)) × (length s.grown ≡ grown_length s.kind (header_of s))
  accepted_length e = let long = ((accepts_exactly s).0 (sym (report_number s) ∙ e)).length in (long.exact, long.exact_grown)

-- ---- a mesh's bytes in one buffer

module _ (f : Format) (m : Mesh) where
  -- They are as many as its header says, where its tables have as many entries as it says.
  pub mesh_as_long : length m.vertices ≡ m.header.vertices → length m.records ≡ m.header.records →
      length (mesh_bytes f m) ≡ mesh_length f m.header.vertices m.header.records
  unfolding laid_out
  mesh_as_long v r =
      rw (
        length-append (header_bytes f m.header ++ joined (vertex_bytes f) m.vertices) (joined (record_bytes f) m.records),
        length-append (header_bytes f m.header) (joined (vertex_bytes f) m.vertices),
        header_wide f m.header,
        joined_length (vertex_bytes f) (vertex_width f) (vertex_wide_lem f) m.vertices,
        joined_length (record_bytes f) (record_width f) (record_wide_lem f) m.records,
      )
      (ap₂ (mesh_length f) v r)

  -- Its header is read again, whatever stands past the mesh.
  pub header_first : HeaderFits f m.header → (rest : List ℕ) → header_from f (mesh_bytes f m ++ rest) ≡ m.header
  unfolding laid_out
  header_first u rest =
      let v = joined (vertex_bytes f) m.vertices in
      let r = joined (record_bytes f) m.records in
      ap (header_from f) (append_assoc (header_bytes f m.header ++ v) r rest ∙ append_assoc (header_bytes f m.header) v (r ++ rest))
      ∙ header_again_lem f m.header (v ++ (r ++ rest)) u

-- ---- build

module _ (job : ℕ) (coordinates : List ℤ) (corners : List ℕ) where
  pub built_vertices : length (plain_mesh job coordinates corners).vertices ≡ (plain_mesh job coordinates corners).header.vertices
  unfolding plain_mesh plain_header
  built_vertices = list_length (plain_vertex coordinates) _

  pub built_records : length (plain_mesh job coordinates corners).records ≡ (plain_mesh job coordinates corners).header.records
  unfolding plain_mesh plain_header
  built_records = list_length (plain_record coordinates corners) _

  pub built_as_long : length (mesh_bytes version1 (plain_mesh job coordinates corners)) ≡ mesh_length version1 (plain_mesh job coordinates corners).header.vertices (plain_mesh job coordinates corners).header.records
  built_as_long = mesh_as_long version1 (plain_mesh job coordinates corners) built_vertices built_records

module _ (job : ℕ) (coordinates : List ℤ) (corners : List ℕ) (room : ℕ) where
  pub build_number_lem : OneOf (0 ∷ 21 ∷ 3 ∷ 4 ∷ 5 ∷ 7 ∷ 8 ∷ 23 ∷ 20 ∷ []) (build_number job coordinates corners room)
  unfolding build_number build_rows
  build_number_lem = one_of_them (build_rows job coordinates corners room)

  module _ (e : build_number job coordinates corners room ≡ 0) where
    pub built_few : Bounded limits (plain_mesh job coordinates corners).header
    unfolding plain_mesh
    built_few = bounded limits (plain_header job coordinates corners) (passed job coordinates corners room e).counts

    pub built_within : length (mesh_bytes version1 (plain_mesh job coordinates corners)) ≤ room
    unfolding plain_bytes
    built_within = (passed job coordinates corners room e).fits

    pub built_bytes : build_bytes job coordinates corners room ≡ zero_past room (mesh_bytes version1 (plain_mesh job coordinates corners))
    unfolding plain_bytes
    built_bytes = Build.accepted_bytes job coordinates corners room e

    module _ (g : Given job coordinates corners) where
      pub built_header : header_from version1 (build_bytes job coordinates corners room) ≡ (plain_mesh job coordinates corners).header
      built_header = ap (header_from version1) built_bytes ∙ header_first version1 (plain_mesh job coordinates corners) (build_fits job coordinates corners room g e).counts.header _

      pub built_checked : check_number (stored1 (mesh_bytes version1 (plain_mesh job coordinates corners))) ≡ 0
      unfolding plain_bytes
      built_checked = check_accepts job coordinates corners room g e

-- ---- refine

module _ (mesh : Stored) (selection : StoredSelection) where
  pub refined_vertices : length (result_of (closed mesh selection)).vertices ≡ (result_of (closed mesh selection)).header.vertices
  unfolding result_of
  refined_vertices = list_length (closed mesh selection).vertex_at _

  pub refined_records : length (result_of (closed mesh selection)).records ≡ (result_of (closed mesh selection)).header.records
  unfolding result_of
  refined_records = list_length (closed mesh selection).record_at _

  pub refined_as_long : length (mesh_bytes mesh.kind.format (result_of (closed mesh selection))) ≡ mesh_length mesh.kind.format (result_of (closed mesh selection)).header.vertices (result_of (closed mesh selection)).header.records
  refined_as_long = mesh_as_long mesh.kind.format (result_of (closed mesh selection)) refined_vertices refined_records

-- In the words of the closed tables.
pub closed_as_long : (mesh : Stored) (selection : StoredSelection) → length (mesh_bytes mesh.kind.format (result_of (closed mesh selection))) ≡ mesh_length mesh.kind.format (closed mesh selection).header.vertices (closed mesh selection).header.records
unfolding result_of
closed_as_long = refined_as_long

module _ (mesh : Stored) (selection : StoredSelection) (room : ℕ) where
  abbrev number : ℕ
  number = refine_number mesh selection room

  abbrev result : Mesh
  result = result_of (closed mesh selection)

  -- "Refine gives 1 to 20", and 22 and 23 with check.
  pub refine_number_lem : OneOf (0 ∷ (check_numbers ++ (11 ∷ 12 ∷ 13 ∷ 14 ∷ 15 ∷ 16 ∷ 17 ∷ 18 ∷ 19 ∷ 20 ∷ []))) (refine_number mesh selection room)
  unfolding refine_number rows table_rows refine_selection_rows selection_rows round_row result_rows
  refine_number_lem = one_of_them _

  pub refine_refused : refine_number mesh selection room ≢ 0 → refine_bytes mesh selection room ≡ replicate room 0
  refine_refused n = Refine.refused_bytes mesh selection room (ne_eqb number 0 n)

  module _ (e : refine_number mesh selection room ≡ 0) where
    -- The result is neither too large for the tables nor for the buffer.
    stored : (n : ℕ) → broken_at (result_rows mesh.kind (closed mesh selection).header room) n ≡ false
    unfolding later_number stored_number result_rows
    stored = none_broken_lem (result_rows mesh.kind (closed mesh selection).header room) refl ((refine_none mesh selection room).0 e).1.1

    pub refined_few : ((result_of (closed mesh selection)).header.vertices ≤ mesh.kind.limits.vertices) × ((result_of (closed mesh selection)).header.records ≤ mesh.kind.limits.records)
    unfolding result_of result_rows
    refined_few = within mesh.kind.limits (closed mesh selection).header (stored 19)

    pub refined_within_lem : length (mesh_bytes mesh.kind.format (result_of (closed mesh selection))) ≤ room
    unfolding result_of result_rows
    refined_within_lem =
        let h = (closed mesh selection).header in
        omega (arith, refined_as_long mesh selection, ltb-false room (mesh_length mesh.kind.format h.vertices h.records) (stored 20))

    pub refined_header : Bytes mesh.base → header_from mesh.kind.format (refine_bytes mesh selection room) ≡ (result_of (closed mesh selection)).header
    unfolding result_of
    refined_header b = ap (header_from mesh.kind.format) (Refine.accepted_bytes mesh selection room e) ∙ header_first mesh.kind.format result fits _
      where
        given : HeaderFits mesh.kind.format (header_of mesh)
        given = header_fits mesh.base b mesh.kind.format

        fits : HeaderFits mesh.kind.format result.header
        fits =
            record {
              job = omega (arith, job_kept mesh selection, given.job);
              round = round_fits (closed mesh selection).header.round;
              base_vertices = omega (arith, base_vertices_kept mesh selection, given.base_vertices);
              vertices = omega (arith, refined_few.0, mesh.right.vertices);
              base_records = omega (arith, base_records_kept mesh selection, given.base_records);
              records = omega (arith, refined_few.1, mesh.right.records);
            }

  pub refine_length : length (refine_bytes mesh selection room) ≡ room
  refine_length =
      ⊎_elim
      (λ e. rw (Refine.accepted_bytes mesh selection room e) (simp (length-append, length-replicate) (omega (arith, refined_within_lem e))))
      (λ n. rw (refine_refused n) (length-replicate room 0))
      (zero_or_not number)

-- ---- the listing

-- The line ends with a line feed.
abbrev Ended : List ℕ → Type 0
Ended line = (text : List ℕ) × (line ≡ text ++ 10 ∷ [])

-- Each of these lines does.
abbrev AllEnded : List (List ℕ) → Type 0
AllEnded [] = Unit {0}
AllEnded (line ∷ rest) = Ended line × AllEnded rest

ended_append : (a b : List (List ℕ)) → AllEnded a → AllEnded b → AllEnded (a ++ b)
ended_append [] b p q = q
ended_append (line ∷ rest) b p q = (p.0, ended_append rest b p.1 q)

ended_at : (lines : List (List ℕ)) → AllEnded lines → (k : ℕ) → k < length lines → Ended (get_or lines k [])
ended_at [] p k l = absurd (not-suc-le-zero l)
ended_at (line ∷ rest) p zero l = p.0
ended_at (line ∷ rest) p (suc k) l = ended_at rest p.1 k (le_of_suc-le-suc l)

refused_ended : (number : ℕ) → AllEnded (refused_line number ∷ [])
unfolding refused_line line_feed
refused_ended number = ((figures (("refused ", number) ∷ []), refl), tt)

leaves_ended : (m : Tables) (n : ℕ) → AllEnded (leaf_lines m n)
unfolding leaf_lines leaf_line line_feed
leaves_ended m zero = tt
leaves_ended m (suc n) = ended_append (leaf_lines m n) (cond (is_leaf m n) (leaf_line n (piece_at m n) ∷ []) []) (leaves_ended m n) (here (is_leaf m n))
  where
    here : (leaf : Bool) → AllEnded (cond leaf (leaf_line n (piece_at m n) ∷ []) [])
    here true = ((figures (corner_figures n (piece_at m n) ++ edge_figures (piece_at m n)), refl), tt)
    here false = tt

mesh_ended : (m : Tables) (r : Report) → AllEnded (mesh_lines m r)
unfolding mesh_lines heading_line line_feed
mesh_ended m r = ((figures (count_figures m.header ++ check_figures r), refl), leaves_ended m (all_records m))

all_ended : (s : List ℕ) → AllEnded (lines_of s)
unfolding lines_of judged_lines
all_ended s = go (ltb (mesh_length version1 limits.vertices limits.records) (length s)) (eqb (check_of (stored1 s)).number 0)
  where
    go : (a b : Bool) → AllEnded (cond a (refused_line 1 ∷ []) (cond b (mesh_lines (tables_of (stored1 s)) (check_of (stored1 s))) (refused_line (check_of (stored1 s)).number ∷ [])))
    go true b = refused_ended 1
    go false true = mesh_ended (tables_of (stored1 s)) (check_of (stored1 s))
    go false false = refused_ended (check_of (stored1 s)).number

module _ (s : List ℕ) where
  pub line_ends : (k : ℕ) → k < length (lines_of s) → (text : List ℕ) × (get_or (lines_of s) k [] ≡ text ++ 10 ∷ [])
  line_ends = ended_at (lines_of s) (all_ended s)

  -- What is longer than the largest mesh is refused with 1, and what check refuses with its number.
  pub too_long_line : mesh_length version1 limits.vertices limits.records < length s → lines_of s ≡ refused_line 1 ∷ []
  unfolding lines_of
  too_long_line l = rw (lt-ltb (mesh_length version1 limits.vertices limits.records) (length s) l)

  pub accepted_lines : length s ≤ mesh_length version1 limits.vertices limits.records → (check_of (stored1 s)).number ≡ 0 → lines_of s ≡ mesh_lines (tables_of (stored1 s)) (check_of (stored1 s))
  unfolding lines_of judged_lines
  accepted_lines l e = rw (le-ltb (mesh_length version1 limits.vertices limits.records) (length s) l, eq-eqb (check_of (stored1 s)).number 0 e)

  pub refused_line_lem : length s ≤ mesh_length version1 limits.vertices limits.records → (check_of (stored1 s)).number ≢ 0 → lines_of s ≡ refused_line (check_of (stored1 s)).number ∷ []
  unfolding lines_of judged_lines
  refused_line_lem l n = rw (le-ltb (mesh_length version1 limits.vertices limits.records) (length s) l, ne_eqb (check_of (stored1 s)).number 0 n)
