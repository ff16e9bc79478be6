-- What is written of a stored mesh and a good request is what is taken back. Assumes nothing.
use Rattle.std.specs.Prelude.{◌≡◌, refl, ◌↔◌, ◌≢◌, ◌⊎◌, false, List, [], ℕ, ◌+◌, ◌≤◌, ◌<◌, length}
use Rattle.std.proofs.Common.{sym, subst, ◌∙◌, arith, ne_eqb}
use Rattle.std.proofs.Math.Path.{ap}
use Rattle.laws.specs.Below.{list_length}
use Rattle.laws.specs.Numbers.{number_bytes}
use Rattle.stored.specs.declared.Kind.{Kind}
use Rattle.stored.specs.Layout.{last_round, mark_bytes, header_bytes, Mesh, laid_out, mesh_bytes, RightKind, Stored, of_kind, stored_as, StoredSelection, named_in}
use Rattle.mesh_tables.specs.Tables.{tables_of}
use Rattle.check_refusals.specs.Check.{check_number}
use Rattle.check_meaning.proofs.Exactly.{accepts_exactly}
use Rattle.refine_selection.specs.Selected.{is_named}
use Rattle.refine_service.specs.Refine.{result_of}
use Rattle.takeback_remains.specs.Remains.{closed_up}
use Rattle.takeback_service.specs.TakeBack.{left, take_back_number, take_back_bytes}
use Rattle.takeback_meaning.specs.Answer.{refused_bytes, accepted_bytes, job_kept, round_next}
use Rattle.cuts_names.specs.Pieces.{Node}
use Rattle.cuts_coarser.proofs.Remaining.{none_named}
use Rattle.demands_words.specs.Words.{BaseMesh, named, Numbering, written, StoredMesh, count_in}
use Rattle.demands_proofs.specs.Outcomes.{mesh_as_long}
use Rattle.demands_proofs.specs.RefineNumbers.{result_length}
use Rattle.demands_proofs.specs.GrownStores.{mesh_for}
use Rattle.demands_proofs.specs.FromStored as From
use Rattle.demands_taken_back.specs.Words.{GoodRequestFor, NamedPiece, TakenBackFrom, TakenBackOrShortFrom}
use Rattle.demands_taken_back.proofs.One.{nothing_gone}
use Rattle.taken_back.specs.Words.{left_mesh, left_bytes, round_of}
use Rattle.taken_back.specs.Attach.{left_taken_back, left_in_one, left_no_longer}
use Rattle.taken_back.specs.Requests.{good_number, right_one_of, right_fits, only_right}

-- ---- how long it is

module _ (mesh : Stored) (request : StoredSelection) where
  pub left_vertices : length (result_of (left mesh request)).vertices ≡ (result_of (left mesh request)).header.vertices
  unfolding result_of
  left_vertices = list_length (left mesh request).vertex_at _

  pub left_records : length (result_of (left mesh request)).records ≡ (result_of (left mesh request)).header.records
  unfolding result_of
  left_records = list_length (left mesh request).record_at _

  pub left_as_long : length (left_bytes mesh request) ≡ result_length mesh.kind.format (left mesh request)
  unfolding result_of
  left_as_long = mesh_as_long mesh.kind.format (result_of (left mesh request)) left_vertices left_records

-- ---- what it is

module _ (s : Stored) (x : StoredMesh s) where
  pub check_accepts : check_number s ≡ 0
  check_accepts = (accepts_exactly s).1 (From.accepted s x)

  module _ (request : StoredSelection) (good : GoodRequestFor x request) where
    is_job : (result_of (left s request)).header.job ≡ x.job
    unfolding tables_of
    is_job = job_kept s request ∙ From.stored_job s x

    not_last : x.round < last_round
    not_last = let apart : x.round ≢ last_round = good.not_last_round in omega (arith, x.stores.round_fits)

    is_round : (result_of (left s request)).header.round ≡ x.round + 1
    unfolding tables_of
    is_round =
        let is = From.stored_round s x in
        round_next s request (omega (arith, is, not_last)) ∙ ap (λ (k : ℕ). k + 1) is

    -- The mesh that is written is that of the tables that are left, for the same job and the next round.
    result_is : result_of (left s request) ≡ mesh_for x.job (x.round + 1) (closed_up (tables_of s) (is_named (count_in request) (named_in request)))
    unfolding result_of left
    result_is = λ i. mesh_for (is_job i) (is_round i) (left s request)

    pub result_taken_back : TakenBackFrom x request (left_mesh s request)
    result_taken_back = subst (λ (t : Mesh). TakenBackFrom x request (stored_as s.kind s.right t)) (sym result_is) (left_taken_back s x request good)

    -- ---- in one buffer

    module _ (one : s.kind.two ≡ false) where
      pub result_in_one : left_mesh s request ≡ of_kind s (left_bytes s request) []
      result_in_one = subst (λ (t : Mesh). stored_as s.kind s.right t ≡ of_kind s (mesh_bytes s.kind.format t) []) (sym result_is) (left_in_one s x request good one)

      pub result_bytes_taken_back : TakenBackFrom x request (of_kind s (left_bytes s request) [])
      result_bytes_taken_back = subst (TakenBackFrom x request) result_in_one result_taken_back

      pub result_no_longer : length (left_bytes s request) ≤ length s.base
      result_no_longer = subst (λ (t : Mesh). length (mesh_bytes s.kind.format t) ≤ length s.base) (sym result_is) (left_no_longer s x request good one)

    -- ---- what is answered

    module _ (room : ℕ) where
      pub fits_exactly : (take_back_number s request room ≡ 0) ↔ (length (left_bytes s request) ≤ room)
      fits_exactly =
          let fits = right_fits s request check_accepts ((good_number s x request).0 good) room in
          let long = left_as_long s request in
          (λ e. omega (arith, long, fits.0 e), λ l. fits.1 (omega (arith, long, l)))

      pub answered : s.kind.two ≡ false → TakenBackOrShortFrom x request (take_back_number s request room) (take_back_bytes s request room) room
      answered one =
          record {
            mesh = left_bytes s request;
            taken_back = result_bytes_taken_back one;
            accepted_or_short = right_one_of s request check_accepts ((good_number s x request).0 good) room;
            fits = fits_exactly;
            written = accepted_bytes s request room;
            zeros = λ e. refused_bytes s request room (ne_eqb (take_back_number s request room) 0 (λ z. omega (arith, z, e)));
          }

      -- A buffer as long as the mesh is enough.
      pub enough : s.kind.two ≡ false → length s.base ≤ room → take_back_number s request room ≡ 0
      enough one l = fits_exactly.1 (omega (arith, result_no_longer one, l))

  -- A request is good exactly when the answer is 0 or 20, with one buffer or with every.
  module _ (request : StoredSelection) where
    pub good_answered_at : (room : ℕ) → GoodRequestFor x request ↔ ((take_back_number s request room ≡ 0) ⊎ (take_back_number s request room ≡ 20))
    good_answered_at room =
        let good = good_number s x request in
        (λ g. right_one_of s request check_accepts (good.0 g) room, λ given. good.1 (only_right s request check_accepts room given))

    pub good_answered : GoodRequestFor x request ↔ ((room : ℕ) → (take_back_number s request room ≡ 0) ⊎ (take_back_number s request room ≡ 20))
    good_answered = (λ g room. (good_answered_at room).0 g, λ given. (good_answered_at 0).1 (given 0))

-- ---- the round alone

round_alone : (k : Kind) (k_right : RightKind k) (job round next : ℕ) (b : BaseMesh) (N : Numbering) → stored_as k k_right (written job next b N) ≡ round_of (stored_as k k_right (written job round b N)) next
unfolding stored_as laid_out header_bytes mark_bytes number_bytes
round_alone k k_right job round next b N = refl

module _ (s : Stored) (x : StoredMesh s) (request : StoredSelection) (base grown : List ℕ) (t : TakenBackFrom x request (of_kind s base grown)) where
  same_but_round : stored_as s.kind s.right (written x.job (x.round + 1) x.base x.stores.numbers) ≡ round_of s (x.round + 1)
  same_but_round =
      round_alone s.kind s.right x.job x.round (x.round + 1) x.base x.stores.numbers ∙ ap (λ (u : Stored). round_of u (x.round + 1)) (sym x.stores.bytes)

  pub all_remain : ((n : Node) → t.set.has n ≡ x.cuts.has n) → of_kind s base grown ≡ round_of s (x.round + 1)
  all_remain all = nothing_gone s x request base grown t all ∙ same_but_round

  pub empty_keeps_all : count_in request ≡ 0 → (n : Node) → t.set.has n ≡ x.cuts.has n
  empty_keeps_all none = none_named (named x.base) x.cuts (NamedPiece x.stores.numbers request) (λ n c (i, l, e). omega (arith, l, none)) t.set t.remains
