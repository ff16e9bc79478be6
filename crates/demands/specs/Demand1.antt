-- Demand 1: "Every byte string and every length of buffer gets either a mesh or a numbered refusal. No caller has to have checked first. After a
-- refusal the output buffer is all zeros and the inputs stand as they were."
--
-- `check(mesh)` returns `check_of mesh`. `build(job, coordinates, corners, out)` returns `build_number job coordinates corners room` and leaves
-- `build_bytes job coordinates corners room` in `out`; `refine(mesh, selection, out)` returns `refine_number mesh selection room` and leaves
-- `refine_bytes mesh selection room` in `out`; `list(mesh, out)` returns `list_number mesh room` and `list_length mesh room` and leaves `list_bytes mesh room` in
-- `out`; `room` is the length of `out`. That no second outcome fits is said beside the contracts: `one_check`, `one_build`, `one_refine`, `one_listing`. This
-- page says which outcomes these are, for every input.
--
-- "No caller has to have checked first": none of the contracts has a `requires`, and each definition is total. `Bytes` and `ArgumentTypes` are what the
-- types of the arguments say (a `&[u8]` holds bytes; the job is a u32, the coordinates are i16, the corners u16); without them a number might not fit
-- where it is stored. In `promises` no such hypothesis is left.
-- "The inputs stand as they were": each input is a shared borrow (`&[u8]`, `&[i16]`, `&[u16]`), through which nothing can be written; `out` is the
-- only `&mut`.
use Rattle.std.specs.Prelude.{◌≡◌, false, ◌≢◌, ◌⊎◌, List, [], ◌∷◌, ◌++◌, ℕ, ◌≤◌, ◌<◌, length, get_or, replicate, ℤ, ltb}
use Rattle.std.proofs.Common.{◌∙◌, inl, inr, ⊎_elim, arith, ltb-true, ltb-false}
use Rattle.laws.specs.Below.{either}
use Rattle.mesh_tables.specs.Tables.{tables_of}
use Rattle.laws.specs.Lists.{zero_past, Bytes}
use Rattle.laws.specs.Order.{OneOf}
use Rattle.stored.specs.declared.Kind.{Kind}
use Rattle.stored.specs.Layout.{version1, limits, kind1, mesh_length, base_length, grown_length, header_from, Mesh, mesh_bytes, Stored, stored1, header_of, StoredSelection}
use Rattle.check_refusals.specs.declared.Report.{Report}
use Rattle.check_refusals.specs.Check.{check_number, check_of}
use Rattle.check_meaning.specs.HangingFirst.{HangingEdge}
use Rattle.check_meaning.proofs.HangingFirst.{hanging_first}
use Rattle.build_service.specs.Build.{plain_mesh, build_number, build_bytes}
use Rattle.build_meaning.specs.Output as Build
use Rattle.refine_service.specs.Refine.{closed, result_of, refine_number, refine_bytes}
use Rattle.refine_meaning.specs.Answer as Refine
use Rattle.list_lines.specs.Lines.{refused_line, line_room}
use Rattle.list_service.specs.declared.Listed.{Listed}
use Rattle.list_service.specs.Listing.{lines_of, mesh_lines, listing_of, listed_number, ListOutcomeIs, largest_listing}
use Rattle.list_service.specs.Answer.{list_whole, list_short}
use Rattle.list_meaning.specs.Longest.{no_line_longer, listing_at_most}
use Rattle.demands_words.specs.Words.{check_numbers, StoredMesh, ArgumentTypes}
use Rattle.demands_proofs.specs.GivenTypes.{given_by_types}
use Rattle.demands_proofs.specs.Outcomes.{zero_or_not, check_number_lem, refused_figures, no_hanging_edge, accepted_length, build_number_lem, built_vertices, built_records, built_as_long, built_few, built_within, built_bytes, built_header, built_checked, refine_number_lem, refine_refused, refine_length, refined_vertices, refined_records, refined_as_long, refined_few, refined_within_lem, refined_header, too_long_line, refused_line_lem, accepted_lines, line_ends}
use Rattle.demands.specs.Demand3.{RefinedFrom, any_room}

-- ---- the words

-- What check answers, for a stored mesh of any kind, whatever its bytes are.
pub record CheckOutcome (s : Stored) (r : Report) : Type 0 where
  -- Accepted, and then it is as long as its header says, "20 + 10·vertices + 17·records", each buffer its part; or refused with one of 1 to 10, 22 or 23, and then leaves, depth and
  -- volume are 0.
  pub either :
      ((r.number ≡ 0) × (length s.base ≡ base_length s.kind (header_of s)) × (length s.grown ≡ grown_length s.kind (header_of s)))
      ⊎ (OneOf check_numbers r.number × (r.leaves ≡ 0) × (r.deepest ≡ 0) × (r.sixfold ≡ 0))
  -- "with 10 it also returns the first leaf edge found hanging, by record and then edge code; with any other answer both are 0"
  pub hanging : r.number ≡ 10 → HangingEdge (tables_of s) r.«record» r.edge
  pub hanging_first : r.number ≡ 10 → (n e : ℕ) → HangingEdge (tables_of s) n e → (r.«record» < n) ⊎ ((r.«record» ≡ n) × (r.edge ≤ e))
  pub hanging_record : r.number ≢ 10 → r.«record» ≡ 0
  pub hanging_edge_lem : r.number ≢ 10 → r.edge ≡ 0

-- "A mesh": what an output buffer of this length holds after acceptance, of a kind in one buffer.
pub record MeshIn (k : Kind) (out : List ℕ) (room : ℕ) : Type 0 where
  -- There is a mesh.
  pub mesh : Mesh
  -- It has as many vertices as its header says.
  pub vertices : length mesh.vertices ≡ mesh.header.vertices
  -- It has as many records as its header says.
  pub records : length mesh.records ≡ mesh.header.records
  -- They are "at most 1,024 vertices", or as many as the kind may have.
  pub few_vertices : mesh.header.vertices ≤ k.limits.vertices
  -- They are at most "3,072 records".
  pub few_records : mesh.header.records ≤ k.limits.records
  -- Its bytes come first, and the buffer "is zero past the result".
  pub bytes : out ≡ zero_past room (mesh_bytes k.format mesh)
  -- They are as many as the header says: "20 + 10·vertices + 17·records".
  pub as_long : length (mesh_bytes k.format mesh) ≡ mesh_length k.format mesh.header.vertices mesh.header.records
  -- The buffer has room for them.
  pub within : length (mesh_bytes k.format mesh) ≤ room
  -- Whoever reads the buffer finds that header.
  pub header : header_from k.format out ≡ mesh.header

-- What build answers, for a job number, coordinates and corners, and a length of the output buffer.
pub record BuildOutcome (job : ℕ) (coordinates : List ℤ) (corners : List ℕ) (room number : ℕ) (bytes : List ℕ) : Type 0 where
  -- "either a mesh", which check accepts; "or a numbered refusal", one of those that build tries, "21, then 3, 4, 5, 7, 8, 20" with 23 "before 20", and "all zeros".
  pub either :
      ((number ≡ 0) × (out : MeshIn kind1 bytes room) × (check_number (stored1 (mesh_bytes version1 out.mesh)) ≡ 0))
      ⊎ (OneOf (21 ∷ 3 ∷ 4 ∷ 5 ∷ 7 ∷ 8 ∷ 23 ∷ 20 ∷ []) number × (bytes ≡ replicate room 0))
  -- The output buffer keeps its length.
  pub length : length bytes ≡ room

-- What refine answers, for a mesh and a selection, whatever their bytes are, and a length of the output buffer.
pub record RefineOutcome (mesh : Stored) (selection : StoredSelection) (room number : ℕ) (bytes : List ℕ) : Type 0 where
  -- "either a mesh", "or a numbered refusal", one of 1 to 20, 22 or 23, and "all zeros".
  pub either :
      ((number ≡ 0) × MeshIn mesh.kind bytes room)
      ⊎ (OneOf (check_numbers ++ (11 ∷ 12 ∷ 13 ∷ 14 ∷ 15 ∷ 16 ∷ 17 ∷ 18 ∷ 19 ∷ 20 ∷ [])) number × (bytes ≡ replicate room 0))
  -- The output buffer keeps its length.
  pub length : length bytes ≡ room
  -- Which mesh it is, whatever the buffer's length: what demand 3 says of the least closing set, and that set alone.
  pub refined : mesh.kind.two ≡ false → number ≡ 0 → (x : StoredMesh mesh) → RefinedFrom x selection bytes room

-- What list answers, for a byte string and a length of the output buffer, and which lines it writes. No contract can say what a program writes: the program
-- `list` writes what this function gives.
pub record ListOutcome (s : List ℕ) (room : ℕ) (r : Listed) (out : List ℕ) : Type 0 where
  -- The listing and zeros past it, with its length and the number that it says: check's, or 1 for what is longer than the largest mesh; or the buffer is
  -- shorter than the listing: "all zeros", and 20 in place of 0.
  pub either :
      ((r.number ≡ listed_number s) × (r.length ≡ length (listing_of s)) × (out ≡ zero_past room (listing_of s)))
      ⊎ ((room < length (listing_of s)) × ((r.number ≡ 20) ⊎ ((1 ≤ r.number) × (r.number ≡ listed_number s))) × (r.length ≡ 0) × (out ≡ replicate room 0))
  -- 393,344 bytes hold every listing.
  pub enough : largest_listing ≤ room → length (listing_of s) ≤ room
  -- "Input longer than the largest mesh is refused with 1 here": "one line, `refused ` and the number".
  pub too_long : mesh_length version1 limits.vertices limits.records < length s → lines_of s ≡ refused_line 1 ∷ []
  -- What check refuses is refused with its number, in one line.
  pub refused : length s ≤ mesh_length version1 limits.vertices limits.records → (check_of (stored1 s)).number ≢ 0 → lines_of s ≡ refused_line (check_of (stored1 s)).number ∷ []
  -- What check accepts is listed: "one heading line [..], then each leaf in rising record number".
  pub accepted : length s ≤ mesh_length version1 limits.vertices limits.records → (check_of (stored1 s)).number ≡ 0 → lines_of s ≡ mesh_lines (tables_of (stored1 s)) (check_of (stored1 s))
  -- "Every line ends with a line feed", whose byte is 10.
  pub line_feed_lem : (k : ℕ) → k < length (lines_of s) → (text : List ℕ) × (get_or (lines_of s) k [] ≡ text ++ 10 ∷ [])
  -- "Each line is set in a 128-byte line buffer": none is longer.
  pub at_most_128 : (k : ℕ) → length (get_or (lines_of s) k []) ≤ line_room

-- ---- the theorems

-- Every stored mesh has one of check's outcomes.
pub check_outcome : (s : Stored) → CheckOutcome s (check_of s)
check_outcome s =
    record {
      either = ⊎_elim
          (λ e. let long = accepted_length s e in inl (e, long.0, long.1))
          (λ n. let f = refused_figures s n in inr (⊎_elim (λ e. absurd (n e)) (λ other. other) (check_number_lem s), f.0, f.1, f.2))
          (zero_or_not (check_of s).number);
      hanging = λ e. (hanging_first s e).0;
      hanging_first = λ e. (hanging_first s e).1;
      hanging_record = λ n. (no_hanging_edge s n).0;
      hanging_edge_lem = λ n. (no_hanging_edge s n).1;
    }

-- Every job number, all coordinates and corners, and every length of the output buffer have one of build's.
pub build_outcome : (job : ℕ) (coordinates : List ℤ) (corners : List ℕ) → ArgumentTypes job coordinates corners → (room : ℕ) →
    BuildOutcome job coordinates corners room (build_number job coordinates corners room) (build_bytes job coordinates corners room)
build_outcome job coordinates corners types room =
    record {
      either = ⊎_elim
          (λ e. inl (e, built e, built_checked job coordinates corners room e (given_by_types job coordinates corners types)))
          (λ n. inr (⊎_elim (λ e. absurd (n e)) (λ other. other) (build_number_lem job coordinates corners room), Build.refused_bytes job coordinates corners room n))
          (zero_or_not (build_number job coordinates corners room));
      length = Build.output_length job coordinates corners room;
    }
  where
    built : build_number job coordinates corners room ≡ 0 → MeshIn kind1 (build_bytes job coordinates corners room) room
    built e =
        record {
          mesh = plain_mesh job coordinates corners;
          vertices = built_vertices job coordinates corners;
          records = built_records job coordinates corners;
          few_vertices = (built_few job coordinates corners room e).vertices;
          few_records = (built_few job coordinates corners room e).records;
          bytes = built_bytes job coordinates corners room e;
          as_long = built_as_long job coordinates corners;
          within = built_within job coordinates corners room e;
          header = built_header job coordinates corners room e (given_by_types job coordinates corners types);
        }

-- Every mesh, every selection and every length of the output buffer have one of refine's.
pub refine_outcome : (mesh : Stored) (selection : StoredSelection) → Bytes mesh.base → (room : ℕ) → RefineOutcome mesh selection room (refine_number mesh selection room) (refine_bytes mesh selection room)
refine_outcome mesh selection b room =
    record {
      either = ⊎_elim
          (λ e. inl (e, refined e))
          (λ n. inr (⊎_elim (λ e. absurd (n e)) (λ other. other) (refine_number_lem mesh selection room), refine_refused mesh selection room n))
          (zero_or_not (refine_number mesh selection room));
      length = refine_length mesh selection room;
      refined = λ one e x. any_room mesh one x selection room e;
    }
  where
    refined : refine_number mesh selection room ≡ 0 → MeshIn mesh.kind (refine_bytes mesh selection room) room
    refined e =
        record {
          mesh = result_of (closed mesh selection);
          vertices = refined_vertices mesh selection;
          records = refined_records mesh selection;
          few_vertices = (refined_few mesh selection room e).0;
          few_records = (refined_few mesh selection room e).1;
          bytes = Refine.accepted_bytes mesh selection room e;
          as_long = refined_as_long mesh selection;
          within = refined_within_lem mesh selection room e;
          header = refined_header mesh selection room e b;
        }

-- Every byte string and every length of the output buffer have one of list's.
pub list_outcome : (s : List ℕ) → Bytes s → (room : ℕ) (r : Listed) (out : List ℕ) → ListOutcomeIs s room r out → ListOutcome s room r out
list_outcome s b room r out is =
    record {
      either = ⊎_elim
          (λ t. let short = ltb-true room (length (listing_of s)) t in let is' = list_short s room short in inr (short, rw is.number is'.0, is.length ∙ is'.1, is.bytes ∙ is'.2))
          (λ f. let is' = list_whole s room (ltb-false room (length (listing_of s)) f) in inl (is.number ∙ is'.0, is.length ∙ is'.1, is.bytes ∙ is'.2))
          (either (ltb room (length (listing_of s))));
      enough = λ l. let most = listing_at_most s b in omega (arith, l, most);
      too_long = too_long_line s;
      refused = refused_line_lem s;
      accepted = accepted_lines s;
      line_feed_lem = line_ends s;
      at_most_128 = no_line_longer s b;
    }
