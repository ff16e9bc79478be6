-- Whatever build accepts, check accepts, with as many leaves as pieces and depth 0.
use Rattle.std.specs.Prelude.{◌≡◌, Bool, true, false, List, ℕ, zero, suc, ◌/◌, ◌≤◌, ◌<◌, ℤ, ltb}
use Rattle.std.proofs.Math.Path.{refl, sym, ap}
use Rattle.std.proofs.Common.{◌∙◌, subst, le_refl, arith}
use Rattle.std.proofs.Math.Bool.{not}
use Rattle.std.proofs.Math.ListN.{length}
use borrow.Author.Tests.{ltb-false}
use Rattle.laws.specs.Below.{or_left_false, or_right_false, count_below, count_none, count_suc, greatest_below, greatest_none, greatest_suc}
use Rattle.laws.proofs.Order.{none_broken_lem}
use Rattle.piece.specs.declared.Piece.{Piece}
use Rattle.piece.specs.Shape.{shape_of, Valid}
use Rattle.stored.specs.declared.Header.{Header}
use Rattle.stored.specs.declared.Record.{Record}
use Rattle.stored.specs.Layout.{none, limits, kind1, right1, right_length, right_mark, version1, Stored, stored1}
use Rattle.stored.specs.Meshes.{MeshFits, mesh_right_length, mesh_right_mark}
use Rattle.mesh_tables.specs.Tables.{Tables, tables_of, base_vertices, all_vertices, base_records, all_records, piece_at, is_leaf}
use Rattle.check_refusals.specs.Refusals.{wrong_length, wrong_mark, wrong_counts, bad_vertices, bad_base_faces, unused_vertices, hanging_vertices}
use Rattle.check_refusals.specs.Check.{check_number, leaves, leaf_generation, deepest}
use Rattle.check_meaning.specs.Tests.{equal}
use Rattle.check_meaning.specs.Accepted.{Within, RightCounts, RightBaseRecords, RightHanded, RightBaseMarks, RightCuts, Accepted, Made, Leaf}
use Rattle.check_meaning.specs.Heading.{rule1_holds, rule2_holds, rule3_holds}
use Rattle.check_meaning.specs.Vertices.{rule4_holds}
use Rattle.check_meaning.proofs.Bases.{valid_marks}
use Rattle.check_meaning.specs.Faces.{rule7_holds, rule8_holds}
use Rattle.check_meaning.specs.Inside.{rule23_holds}
use Rattle.check_meaning.proofs.Exactly.{accepts_exactly}
use Rattle.build_marks.specs.Marking.{plain_piece, righted_piece, marked_piece, plain_record}
use Rattle.build_service.specs.Build.{not_whole, plain_header, plain_mesh, plain_bytes, bad_given_pieces, build_rows, build_number}
use Rattle.build_meaning.specs.Edges.{Different}
use Rattle.build_meaning.specs.Marks.{marked_valid}
use Rattle.build_meaning.specs.Records.{RightGiven, given_holds, named, records_read, all_base, stored_piece, right_record, right_hand}
use Rattle.build_meaning.specs.Written.{Given, CountsFit, written, plain_stored, plain_fits, header_read}

-- What build has tried where it accepts, in its own order.
pub record Passed (job : ℕ) (coordinates : List ℤ) (corners : List ℕ) (room : ℕ) : Type 0 where
  pub whole : not_whole coordinates corners ≡ false
  pub counts : wrong_counts limits (plain_header job coordinates corners) ≡ false
  pub vertices : bad_vertices (written job coordinates corners) ≡ false
  pub given : bad_given_pieces coordinates corners ≡ false
  pub faces : bad_base_faces (written job coordinates corners) ≡ false
  pub uses : unused_vertices (written job coordinates corners) ≡ false
  pub inside : hanging_vertices (written job coordinates corners) ≡ false
  pub fits : length (plain_bytes job coordinates corners) ≤ room

module _ (job : ℕ) (coordinates : List ℤ) (corners : List ℕ) (room : ℕ) where
  -- Build gives 0 only where none of its rules is broken.
  pub passed : build_number job coordinates corners room ≡ 0 → Passed job coordinates corners room
  unfolding build_number build_rows
  passed e =
      let right = none_broken_lem (build_rows job coordinates corners room) refl e in
      record {
        whole = right 21;
        counts = right 3;
        vertices = right 4;
        given = right 5;
        faces = right 7;
        uses = right 8;
        inside = right 23;
        fits = ltb-false room (length (plain_bytes job coordinates corners)) (right 20);
      }

  counts_fit : Passed job coordinates corners room → CountsFit coordinates corners
  unfolding wrong_counts plain_header
  counts_fit p =
      let both = or_left_false _ _ (or_left_false _ _ (or_left_false _ _ (or_left_false _ _ (or_left_false _ _ p.counts)))) in
      record {
        vertices = let l = ltb-false limits.vertices (length coordinates / 3) (or_left_false _ _ both) in omega arith;
        records = let l = ltb-false limits.records (length corners / 4) (or_right_false (ltb limits.vertices (length coordinates / 3)) _ both) in omega arith;
      }

-- Where the test passes at each, all are counted.
count_all : (P : ℕ → Bool) (n : ℕ) → ((k : ℕ) → k < n → P k ≡ true) → count_below n P ≡ n
count_all P zero h = count_none P
count_all P (suc n) h = rw (count_suc, count_all P n (λ k l. h k (omega arith)), h n (le_refl (suc n))) (omega arith)

-- Where f is 0 at each, the greatest is 0.
greatest_zero : (f : ℕ → ℕ) (n : ℕ) → ((k : ℕ) → k < n → f k ≡ 0) → greatest_below n f ≡ 0
greatest_zero f zero h = greatest_none f
greatest_zero f (suc n) h = rw (greatest_suc, greatest_zero f n (λ k l. h k (omega arith)), h n (le_refl (suc n)))

module _ (job : ℕ) (coordinates : List ℤ) (corners : List ℕ) where
  abbrev s : Stored
  s = stored1 (plain_bytes job coordinates corners)

  abbrev m : Tables
  m = written job coordinates corners

  module _ (room : ℕ) (g : Given job coordinates corners) (zero : build_number job coordinates corners room ≡ 0) where
    tried : Passed job coordinates corners room
    tried = passed job coordinates corners room zero

    fit : CountsFit coordinates corners
    fit = counts_fit job coordinates corners room tried

    -- Check reads the header that build has written.
    pub build_header : (written job coordinates corners).header ≡ plain_header job coordinates corners
    build_header = header_read job coordinates corners g fit

    -- 5 judges the pieces as they are given.
    right_given : RightGiven coordinates corners
    right_given = (given_holds coordinates corners).0 tried.given

    -- The mesh that build accepts fits its stored form.
    pub build_fits : MeshFits kind1 (plain_mesh job coordinates corners)
    build_fits = plain_fits job coordinates corners g fit (named job coordinates corners g fit right_given)

    -- The records that check reads are the plain ones.
    pub build_record : (n : ℕ) → n < length corners / 4 → (written job coordinates corners).record_at n ≡ plain_record coordinates corners n
    build_record = records_read job coordinates corners g fit right_given

    same_counts : (all_vertices m ≡ base_vertices m) × (all_records m ≡ base_records m)
    same_counts = all_base job coordinates corners g fit right_given

    all_plain : all_records m ≡ length corners / 4
    unfolding plain_header
    all_plain = ap (λ (h : Header). h.records) build_header

    right_records : RightBaseRecords m
    right_records = right_record job coordinates corners g fit right_given

    right_hands : RightHanded m
    right_hands = right_hand job coordinates corners g fit right_given

    -- No vertex is made, and no record is cut.
    none_made : (v : ℕ) → Made m v → ⊥
    none_made v d = omega (arith, same_counts.0)

    all_leaves : (n : ℕ) → n < all_records m → Leaf m n
    unfolding plain_record
    all_leaves n l = ap (λ (r : Record). r.first_child) (build_record n (omega (arith, all_plain)))

    -- 3 is build's own, of the header that check reads again.
    right_counts : Within limits m × (base_records m ≤ limits.base_records) × RightCounts m
    unfolding tables_of
    right_counts = (rule3_holds limits s).0 (rw build_header tried.counts)

    -- 6 follows from 5: build does not have to try it.
    right_marks : RightBaseMarks m
    unfolding marked_piece
    right_marks n l =
        let p = righted_piece coordinates (plain_piece corners n) in
        let same : piece_at m n ≡ marked_piece coordinates p = stored_piece job coordinates corners g fit right_given n l in
        valid_marks (piece_at m n)
        (subst (λ (q : Piece). Valid (shape_of q)) (sym same) (marked_valid coordinates p (subst Different same (right_records n l).different)))

    -- 9 asks nothing: there are only base records, uncut, and no made vertex.
    right_cuts : RightCuts m
    right_cuts =
        record {
          cuts = λ n l c. absurd (c (all_leaves n l));
          one_parent_lem = λ c b l. absurd (omega (arith, same_counts.1));
          generations = λ n l. let none : (piece_at m n).generation ≡ 0 = (right_records n (omega (arith, same_counts.1))).generation in omega arith;
          midpoints = λ v d. absurd (none_made v d);
        }

    -- What build accepts is a mesh as check asks for it.
    pub build_accepted : Accepted (stored1 (plain_bytes job coordinates corners))
    unfolding wrong_length wrong_mark
    build_accepted =
        let as_written = sym (plain_stored job coordinates corners g fit) in
        let mesh = plain_mesh job coordinates corners in
        record {
          length = (rule1_holds s).0 (ap (λ (t : Stored). not (right_length kind1 t.base t.grown)) as_written ∙ ap not (mesh_right_length kind1 right1 mesh build_fits.counts));
          mark = (rule2_holds s).0 (ap (λ (t : Stored). not (right_mark version1 t.base)) as_written ∙ ap not (mesh_right_mark kind1 right1 mesh build_fits.counts));
          limits = right_counts.0;
          base_limit = right_counts.1;
          mesh = record {
            counts = right_counts.2;
            vertices = (rule4_holds m right_counts.2.vertices_within).0 tried.vertices;
            base_records_lem = right_records;
            handed = right_hands;
            base_marks = right_marks;
            faces = (rule7_holds m).0 tried.faces;
            uses = (rule8_holds m).0 tried.uses;
            no_vertex_hangs = (rule23_holds m right_records right_hands).0 tried.inside;
            cuts = right_cuts;
          };
          none_hangs = λ n l leaf e k v d h. none_made v d;
        }

    -- Whatever build accepts, check accepts.
    pub check_accepts : check_number (stored1 (plain_bytes job coordinates corners)) ≡ 0
    check_accepts = (accepts_exactly s).1 build_accepted

    -- It has as many leaves as pieces.
    pub build_leaves : leaves (written job coordinates corners) ≡ length corners / 4
    unfolding leaves
    build_leaves = count_all (is_leaf m) (all_records m) (λ n l. (equal (m.record_at n).first_child none).1 (all_leaves n l)) ∙ all_plain

    -- Its depth is 0.
    pub build_depth : deepest (written job coordinates corners) ≡ 0
    unfolding deepest leaf_generation
    build_depth =
        greatest_zero (λ n. leaf_generation (m.record_at n)) (all_records m)
        (λ n l. rw ((equal (m.record_at n).first_child none).1 (all_leaves n l)) (right_records n (omega (arith, same_counts.1))).generation)
