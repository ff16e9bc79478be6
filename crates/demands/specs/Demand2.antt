-- Demand 2. "Marking, cutting and closing are those of Arnold, Mukherjee and Pouly, in the order that document 01 fixes, to the byte. A stored
-- mesh is accepted exactly when it is a set of such cuts of a properly marked base mesh with no hanging edge, within 01's limits; the leaves, depth and
-- volume reported are that set's."
--
-- The words are in `Words`. The definitions to the byte: `plain_bytes` (build_service/specs/Build) is the mesh that build's lists say, made right-handed and
-- marked as document 01 ranks edges; `closed` and `result_of` (refine_service/specs/Refine) are the tables after pass one and all later passes, and the mesh written of them.
use Rattle.std.specs.Prelude.{◌≡◌, ◌↔◌, List, ℕ, ◌+◌, ◌*◌, ◌≤◌, ◌<◌, length, get_or, ℤ, pos}
use Rattle.std.proofs.Common.{sym, ◌∙◌}
use Rattle.laws.specs.Lists.{zero_past, Bytes}
use Rattle.stored.specs.Layout.{mesh_bytes, Stored, StoredSelection}
use Rattle.check_refusals.specs.Rows.{report_number}
use Rattle.check_meaning.proofs.Exactly.{accepts_exactly}
use Rattle.build_service.specs.Build.{plain_bytes}
use Rattle.build_meaning.specs.Output as Build
use Rattle.refine_service.specs.Refine.{closed, result_of}
use Rattle.refine_meaning.specs.Answer as Refine
use Rattle.piece_edges.specs.Edges.{low_slot, high_slot}
use Rattle.piece.specs.Shape.{last_generation}
use Rattle.grid.specs.Places.{point_of}
use Rattle.grid.specs.Corners.{Midpoint}
use Rattle.cuts_names.specs.Pieces.{Node, generation, piece_at, makes}
use Rattle.demands_words.specs.Words.{BaseMesh, named, point_at, ProperlyMarked, StoredMesh, SameBase, SameNumbering, place_of, Figures, plain_base, ArgumentTypes, BuildAccepts, BuiltMesh, GoodFor}
use Rattle.demands_words.specs.Services.{Services, ours}
use Rattle.demands_proofs.specs.StoredOf.{stored_of_accepted}
use Rattle.demands_proofs.specs.AcceptedOf.{accepted_of_stored}
use Rattle.demands_proofs.specs.StoredBytes.{stored_bytes, stored_grown_bytes}
use Rattle.demands_proofs.specs.StoredFigures.{stored_figures, stored_one_base, stored_one_set}
use Rattle.demands_proofs.specs.OneNumbering.{stored_one_job, stored_one_round, stored_one_numbering}
use Rattle.demands_proofs.specs.Exact.{exact_halfway}
use Rattle.demands_proofs.specs.GivenTypes.{given_by_types, stands_as_listed}
use Rattle.demands_proofs.specs.BuildNumbers.{build_exactly}
use Rattle.demands_proofs.specs.BuildStores.{built}
use Rattle.demands_proofs.specs.ClosedProof.{good_accepted}

-- The mesh that the closing of a stored mesh and a selection gives, as bytes.
abbrev pub closed_bytes : Stored → StoredSelection → List ℕ
closed_bytes mesh selection = mesh_bytes mesh.kind.format (result_of (closed mesh selection))

-- It has at most 1,024 vertices and 3,072 records, or what its kind's limits have it, and a buffer of so many bytes holds it.
pub record ClosedFits (mesh : Stored) (selection : StoredSelection) (room : ℕ) : Type 0 where
  pub vertices : (closed mesh selection).header.vertices ≤ mesh.kind.limits.vertices
  pub records : (closed mesh selection).header.records ≤ mesh.kind.limits.records
  pub fits_room : length (closed_bytes mesh selection) ≤ room

pub record MeetsDemand2 (S : Services) : Type 0 where
  -- "A stored mesh is accepted exactly when it is a set of such cuts of a properly marked base mesh with no hanging edge, within 01's limits"
  pub accepted_exactly : (s : Stored) → ((Bytes s.base × Bytes s.grown) × ((S.check s).number ≡ 0)) ↔ StoredMesh s
  -- "the leaves, depth and volume reported are that set's."
  pub figures : (s : Stored) (x : StoredMesh s) → Figures x.base x.cuts (S.check s).leaves (S.check s).deepest (S.check s).sixfold
  -- Build accepts exactly what document 01 asks of its lists and its buffer; what it stores is the base mesh that the lists say, with the last two corners of
  -- each left-handed piece exchanged, properly marked by the ranking, with nothing cut; and "to the byte".
  pub build_accepts : (job : ℕ) (coordinates : List ℤ) (corners : List ℕ) → ArgumentTypes job coordinates corners → (room : ℕ) →
      (S.build job coordinates corners room ≡ 0) ↔ BuildAccepts coordinates corners room
  pub build_stores : (job : ℕ) (coordinates : List ℤ) (corners : List ℕ) → ArgumentTypes job coordinates corners → (room : ℕ) → S.build job coordinates corners room ≡ 0 →
      BuiltMesh job coordinates corners (S.build_out job coordinates corners room) room
  pub marking : (job : ℕ) (coordinates : List ℤ) (corners : List ℕ) → ArgumentTypes job coordinates corners → (room : ℕ) → S.build job coordinates corners room ≡ 0 →
      S.build_out job coordinates corners room ≡ zero_past room (plain_bytes job coordinates corners)
  -- Refine of a stored mesh and a good selection accepts exactly where the closed result fits, and gives that result, "to the byte".
  pub refine_accepts : (s : Stored) (x : StoredMesh s) (selection : StoredSelection) → GoodFor x selection → (room : ℕ) → (S.refine s selection room ≡ 0) ↔ ClosedFits s selection room
  pub closing : (s : Stored) (x : StoredMesh s) (selection : StoredSelection) → GoodFor x selection → (room : ℕ) → S.refine s selection room ≡ 0 →
      S.refine_out s selection room ≡ zero_past room (closed_bytes s selection)

-- Ours meet it.
pub demand_2 : MeetsDemand2 ours
demand_2 =
    record {
      accepted_exactly = λ s. (
        λ ((bytes, grown), e). stored_of_accepted s bytes grown ((accepts_exactly s).0 (sym (report_number s) ∙ e)),
        λ x. ((stored_bytes s x, stored_grown_bytes s x), report_number s ∙ (accepts_exactly s).1 (accepted_of_stored s x)),
      );
      figures = stored_figures;
      build_accepts = λ job coordinates corners types room. (build_exactly job coordinates corners room (given_by_types job coordinates corners types)).gives_0;
      build_stores = λ job coordinates corners types room. built job coordinates corners room (given_by_types job coordinates corners types);
      marking = λ job coordinates corners types room. Build.accepted_bytes job coordinates corners room;
      refine_accepts = λ s x selection good room. (
        λ e. let a = (good_accepted s x selection good room).0 e in record { vertices = a.0; records = a.1; fits_room = a.2 },
        λ f. (good_accepted s x selection good room).1 (f.vertices, f.records, f.fits_room),
      );
      closing = λ s x selection good room. Refine.accepted_bytes s selection room;
    }

-- ---- a stored mesh stores one job, one round, one base, one set and one numbering only

pub one_job : (s : Stored) (x x' : StoredMesh s) → x.job ≡ x'.job
one_job = stored_one_job

pub one_round : (s : Stored) (x x' : StoredMesh s) → x.round ≡ x'.round
one_round = stored_one_round

pub one_base : (s : Stored) (x x' : StoredMesh s) → SameBase x.base x'.base
one_base = stored_one_base

pub one_set : (s : Stored) (x x' : StoredMesh s) (n : Node) → x.cuts.has n ≡ x'.cuts.has n
one_set = stored_one_set

pub one_numbering : (s : Stored) (x x' : StoredMesh s) → SameNumbering x.base x.stores.numbers x'.stores.numbers
one_numbering = stored_one_numbering

-- ---- the grid

-- "halving then never meets an odd sum": of every piece of generation below 15 that cutting a properly marked base can give, the vertex that cutting it makes
-- stands exactly halfway between the ends of its refinement edge. `place_of` halves and rounds down; twice the half is the sum, in each coordinate.
pub never_odd : (b : BaseMesh) → ProperlyMarked b → (n : Node) → n.root < b.pieces → generation n < last_generation →
    let p = piece_at (named b) n in
    Midpoint (point_of (place_of b (makes p))) (point_of (place_of b (p.corner (low_slot p.shape.edge)))) (point_of (place_of b (p.corner (high_slot p.shape.edge))))
never_odd = exact_halfway

-- ---- build

-- The vertices of the base mesh that the lists say stand at the listed coordinates.
pub as_listed : (job : ℕ) (coordinates : List ℤ) (corners : List ℕ) → ArgumentTypes job coordinates corners → (v : ℕ) → v < (plain_base coordinates corners).vertices →
    point_at (plain_base coordinates corners) v ≡ record { x = get_or coordinates (3 * v) (pos 0); y = get_or coordinates (3 * v + 1) (pos 0); z = get_or coordinates (3 * v + 2) (pos 0) }
as_listed = stands_as_listed
