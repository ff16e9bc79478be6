-- What the user asked of each C function's answer, for every input: the demands with no hypothesis left. The words are those of `demands_words/specs/Words` and
-- of the demands' pages.
use Rattle.std.specs.Prelude.{◌≡◌, ◌↔◌, ◌≢◌, false, List, [], ℕ, ◌+◌, ◌≤◌, ◌<◌, length, get_or, ℤ, pos, ◌*ℤ◌, ◌<ℤ◌}
use Rattle.std.proofs.Common.{sym, ◌∙◌, subst, subst₂}
use Rattle.laws.specs.Lists.{zero_past, Bytes}
use Rattle.stored.specs.Layout.{Stored, of_kind, stored1, StoredSelection, selection_of}
use Rattle.check_refusals.specs.declared.Report.{Report}
use Rattle.mesh_tables.specs.Tables.{tables_of, all_records}
use Rattle.check_refusals.specs.Check.{CheckOutcomeIs}
use Rattle.check_refusals.specs.Rows.{report_number}
use Rattle.check_meaning.specs.Accepted as Tables
use Rattle.check_meaning.specs.Accepted.{Cut, first_child}
use Rattle.check_meaning.specs.Volumes.{signed}
use Rattle.build_service.specs.Build.{plain_bytes, BuildOutcomeIs}
use Rattle.refine_service.specs.Refine.{RefineOutcomeIs}
use Rattle.list_service.specs.declared.Listed.{Listed}
use Rattle.list_service.specs.Listing.{ListOutcomeIs}
use Rattle.demands_words.specs.Words.{I16, full_size, StoredMesh, Figures, ArgumentTypes, plain_base, built_base, AsGiven, SomeVertexHangs, BuildAccepts, BuiltMesh, RightSelectionLength, RightSelectionMark, GoodFor}
use Rattle.demands.specs.Demand1.{CheckOutcome, BuildOutcome, RefineOutcome, ListOutcome, check_outcome, build_outcome, refine_outcome, list_outcome}
use Rattle.demands.specs.Demand2.{ClosedFits, closed_bytes, demand_2}
use Rattle.demands.specs.Demand3.{LeastOrFullFrom, demand_3, another_job_lem, another_round_lem, accepted_good}
use Rattle.demands.specs.Hanging.{no_vertex_hangs, vertex_hangs_lem, build_vertex_hangs}
use Rattle.demands.specs.Handed.{records_right_handed, records_halved, built_as_given}
use Rattle.face_to_face.specs.Words.{FaceToFace}
use Rattle.face_to_face.specs.FaceToFace.{Meets, face_to_face_lem, built_meets, refined_meets}

-- ---- check

pub record CheckPromise (mesh : Stored) (r : Report) : Type 0 where
  -- demand 1
  pub outcome : CheckOutcome mesh r
  -- demand 2
  pub exactly : (r.number ≡ 0) ↔ StoredMesh mesh
  pub figures : (x : StoredMesh mesh) → Figures x.base x.cuts r.leaves r.deepest r.sixfold
  -- request two: no base vertex "lies in the closed piece and isn't one of its corners"; and where 23 is given, one does
  pub no_vertex_hangs : r.number ≡ 0 → Tables.NoVertexHangs (tables_of mesh)
  pub vertex_hangs_lem : r.number ≡ 23 → Tables.SomeVertexHangs (tables_of mesh)
  -- request three: "a child's signed value is exactly half of its parent's", and every record is right-handed
  pub right_handed : r.number ≡ 0 → (n : ℕ) → n < all_records (tables_of mesh) → pos 0 <ℤ signed (tables_of mesh) n
  pub halved : r.number ≡ 0 → let m = tables_of mesh in (n : ℕ) → n < all_records m → Cut m n →
      (pos 2 *ℤ signed m (first_child m n) ≡ signed m n) × (pos 2 *ℤ signed m (first_child m n + 1) ≡ signed m n)
  -- request thirteen
  pub meets : r.number ≡ 0 → FaceToFace (tables_of mesh)

pub check_promised : (mesh : Stored) (r : Report) → Bytes mesh.base → Bytes mesh.grown → CheckOutcomeIs mesh r → CheckPromise mesh r
check_promised mesh r bytes grown is =
    let both = demand_2.accepted_exactly mesh in
    subst (CheckPromise mesh) (sym is)
    (record {
      outcome = check_outcome mesh;
      exactly = (λ e. both.0 ((bytes, grown), e), λ x. (both.1 x).1);
      figures = demand_2.figures mesh;
      no_vertex_hangs = λ e. no_vertex_hangs mesh (sym (report_number mesh) ∙ e);
      vertex_hangs_lem = λ e. vertex_hangs_lem mesh (sym (report_number mesh) ∙ e);
      right_handed = λ e. records_right_handed mesh (sym (report_number mesh) ∙ e);
      halved = λ e. records_halved mesh (sym (report_number mesh) ∙ e);
      meets = λ e. face_to_face_lem mesh (sym (report_number mesh) ∙ e);
    })

-- ---- build

-- Each of them is an i16.
pub record EachI16 (coordinates : List ℤ) : Type 0 where
  pub each : (k : ℕ) → k < length coordinates → I16 (get_or coordinates k (pos 0))

pub record BuildPromise (job : ℕ) (coordinates : List ℤ) (corners : List ℕ) (room number : ℕ) (out : List ℕ) : Type 0 where
  -- demand 1
  pub outcome : BuildOutcome job coordinates corners room number out
  -- demand 2
  pub exactly : (number ≡ 0) ↔ BuildAccepts coordinates corners room
  pub stores : number ≡ 0 → BuiltMesh job coordinates corners out room
  pub marking : number ≡ 0 → out ≡ zero_past room (plain_bytes job coordinates corners)
  -- request two: where 23 is given, a vertex hangs on a piece, as they are listed; none does where the lists are accepted (`BuildAccepts`)
  pub vertex_hangs_lem : number ≡ 23 → SomeVertexHangs (plain_base coordinates corners)
  -- request three: left-handed pieces have their last two corners exchanged, and the marked edges, as pairs of vertices, are those of the pieces as given
  pub as_given : number ≡ 0 → (r : ℕ) → r < (plain_base coordinates corners).pieces → AsGiven (plain_base coordinates corners) (built_base coordinates corners) r
  -- request thirteen
  pub meets : number ≡ 0 → Meets stored1 out room

pub build_promised : (job : ℕ) (coordinates : List ℤ) (corners : List ℕ) (room number : ℕ) (out : List ℕ) → ArgumentTypes job coordinates corners → BuildOutcomeIs job coordinates corners room number out →
    BuildPromise job coordinates corners room number out
build_promised job coordinates corners room number out types is =
    subst₂ (BuildPromise job coordinates corners room) (sym is.number) (sym is.bytes)
    (record {
      outcome = build_outcome job coordinates corners types room;
      exactly = demand_2.build_accepts job coordinates corners types room;
      stores = demand_2.build_stores job coordinates corners types room;
      marking = demand_2.marking job coordinates corners types room;
      vertex_hangs_lem = build_vertex_hangs job coordinates corners types room;
      as_given = λ e. built_as_given coordinates corners room ((demand_2.build_accepts job coordinates corners types room).0 e);
      meets = built_meets job coordinates corners types room;
    })

-- ---- refine

pub record RefinePromise (mesh : Stored) (selection : StoredSelection) (room number : ℕ) (out : List ℕ) : Type 0 where
  -- demand 1, and what is accepted, whatever the buffer's length
  pub outcome : RefineOutcome mesh selection room number out
  -- "a choice of pieces belongs to one job and one round": a whole selection of another job gets 13, one of another round 14, and what is accepted earns none
  -- of refusals 11 to 18
  pub another_job_lem : (x : StoredMesh mesh) → RightSelectionLength selection → RightSelectionMark selection → (selection_of selection).job ≢ x.job → number ≡ 13
  pub another_round_lem : (x : StoredMesh mesh) → RightSelectionLength selection → RightSelectionMark selection → (selection_of selection).job ≡ x.job → (selection_of selection).round ≢ x.round → number ≡ 14
  pub good : number ≡ 0 → (x : StoredMesh mesh) → GoodFor x selection
  -- demand 2: from a stored mesh and a good selection, accepted exactly where the closed result fits, and that result, to the byte
  pub exactly : (x : StoredMesh mesh) → GoodFor x selection → (number ≡ 0) ↔ ClosedFits mesh selection room
  pub closing : (x : StoredMesh mesh) → GoodFor x selection → number ≡ 0 → out ≡ zero_past room (closed_bytes mesh selection)
  -- demand 3
  pub least_or_full : (x : StoredMesh mesh) → GoodFor x selection → full_size mesh.kind ≤ room → LeastOrFullFrom x selection number out room
  -- request thirteen
  pub meets : number ≡ 0 → Meets (λ bytes. of_kind mesh bytes []) out room

pub refine_promised : (mesh : Stored) → mesh.kind.two ≡ false → (selection : StoredSelection) (room number : ℕ) (out : List ℕ) → Bytes mesh.base → Bytes mesh.grown → RefineOutcomeIs mesh selection room number out → RefinePromise mesh selection room number out
refine_promised mesh one selection room number out bytes grown is =
    subst₂ (RefinePromise mesh selection room) (sym is.number) (sym is.bytes)
    (record {
      outcome = refine_outcome mesh selection bytes room;
      another_job_lem = λ x. another_job_lem mesh x selection room;
      another_round_lem = λ x. another_round_lem mesh x selection room;
      good = λ e x. accepted_good mesh x selection room e;
      exactly = λ x good. demand_2.refine_accepts mesh x selection good room;
      closing = λ x good. demand_2.closing mesh x selection good room;
      least_or_full = λ x good full_size. demand_3.least_or_full mesh one x selection good room full_size;
      meets = refined_meets mesh one selection bytes grown room;
    })

-- ---- list

pub record ListPromise (mesh : List ℕ) (room : ℕ) (r : Listed) (out : List ℕ) : Type 0 where
  -- demand 1
  pub outcome : ListOutcome mesh room r out

pub list_promised : (mesh : List ℕ) (room : ℕ) (r : Listed) (out : List ℕ) → Bytes mesh → ListOutcomeIs mesh room r out → ListPromise mesh room r out
list_promised mesh room r out bytes is = record { outcome = list_outcome mesh bytes room r out is }
