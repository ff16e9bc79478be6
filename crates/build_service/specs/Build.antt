-- What build answers, for every job number, all coordinates and corners, and every length of the output buffer.
use Rattle.std.specs.Prelude.{◌≡◌, Bool, not, ◌||◌, List, [], ◌∷◌, ℕ, ◌/◌, ◌%◌, length, ℤ, eqb, ltb}
use Rattle.std.proofs.Common.{sym, ◌∙◌}
use Rattle.laws.specs.Lists.{output_of}
use Rattle.laws.specs.Below.{any_below, list_below}
use Rattle.laws.specs.Order.{Row, row, first_broken}
use Rattle.stored.specs.declared.Header.{Header}
use Rattle.stored.specs.Layout.{version1, limits, Mesh, mesh_bytes, stored1}
use Rattle.mesh_tables.specs.Tables.{tables_of}
use Rattle.check_refusals.specs.Refusals.{wrong_counts, bad_vertices, bad_piece, bad_base_faces, unused_vertices, hanging_vertices}
use Rattle.build_marks.specs.Marking.{plain_vertex, plain_piece, plain_record}

-- 21: "coordinates not three a vertex, or corners not four a piece"
unfoldable pub not_whole : List ℤ → List ℕ → Bool
not_whole coordinates corners = not (eqb (length coordinates % 3) 0) || not (eqb (length corners % 4) 0)

-- "Counts are natural numbers": as many vertices and records as the lists have. "The round 0."
unfoldable pub plain_header : ℕ → List ℤ → List ℕ → Header
plain_header job coordinates corners =
    record {
      job = job;
      round = 0;
      base_vertices = length coordinates / 3;
      vertices = length coordinates / 3;
      base_records = length corners / 4;
      records = length corners / 4;
    }

-- The mesh that is stored.
unfoldable pub plain_mesh : ℕ → List ℤ → List ℕ → Mesh
plain_mesh job coordinates corners =
    record {
      header = plain_header job coordinates corners;
      vertices = list_below (length coordinates / 3) (plain_vertex coordinates);
      records = list_below (length corners / 4) (plain_record coordinates corners);
    }

unfoldable pub plain_bytes : ℕ → List ℤ → List ℕ → List ℕ
plain_bytes job coordinates corners = mesh_bytes version1 (plain_mesh job coordinates corners)

-- 5 judges the pieces as they are given, by check's own rule; only then left-handed ones are exchanged, and all are marked.
unfoldable pub bad_given_pieces : List ℤ → List ℕ → Bool
bad_given_pieces coordinates corners =
    any_below (length corners / 4) (λ n. bad_piece (length coordinates / 3) (plain_vertex coordinates) (plain_piece corners n))

-- "Build tries 21, then 3, 4, 5, 7, 8, 20", and document 02's 23 "before 20": 4, 7, 8 and 23 are check's own, of what will be written.
unfoldable pub build_rows : ℕ → List ℤ → List ℕ → ℕ → List Row
build_rows job coordinates corners room =
    let m = tables_of (stored1 (plain_bytes job coordinates corners)) in
    row 21 (not_whole coordinates corners)
    ∷ row 3 (wrong_counts limits (plain_header job coordinates corners))
    ∷ row 4 (bad_vertices m)
    ∷ row 5 (bad_given_pieces coordinates corners)
    ∷ row 7 (bad_base_faces m)
    ∷ row 8 (unused_vertices m)
    ∷ row 23 (hanging_vertices m)
    ∷ row 20 (ltb room (length (plain_bytes job coordinates corners)))
    ∷ []

-- "The first rule broken"; 0 on acceptance.
unfoldable pub build_number : ℕ → List ℤ → List ℕ → ℕ → ℕ
build_number job coordinates corners room = first_broken (build_rows job coordinates corners room)

-- "After a refusal the output buffer is zero throughout; after acceptance it is zero past the result."
unfoldable pub build_bytes : ℕ → List ℤ → List ℕ → ℕ → List ℕ
build_bytes job coordinates corners room = output_of (build_number job coordinates corners room) room (plain_bytes job coordinates corners)

-- "Each public function states one outcome for each input: number, counts and all bytes of the output, refused or not."
pub record BuildOutcomeIs (job : ℕ) (coordinates : List ℤ) (corners : List ℕ) (room r : ℕ) (out : List ℕ) : Type 0 where
  pub number : r ≡ build_number job coordinates corners room
  pub bytes : out ≡ build_bytes job coordinates corners room

-- "That no second outcome fits is itself proved"
pub one_build : (job : ℕ) (coordinates : List ℤ) (corners : List ℕ) (room r r' : ℕ) (out out' : List ℕ) →
    BuildOutcomeIs job coordinates corners room r out → BuildOutcomeIs job coordinates corners room r' out' → (r ≡ r') × (out ≡ out')
one_build job coordinates corners room r r' out out' is is' = (is.number ∙ sym is'.number, is.bytes ∙ sym is'.bytes)
