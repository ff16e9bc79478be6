-- Of specs/Stored.antt, the theorems that an edit of a definition breaks, and what only they need.
use Rattle.std.specs.Prelude.{◌≡◌, Bool, false, ◌≢◌, ℕ, ◌+◌, ◌≤◌, length}
use Rattle.std.proofs.Math.Path.{refl, sym}
use Rattle.std.proofs.Common.{ap, ◌∙◌, mul-le-mul_left, arith}
use Rattle.laws.specs.Below.{count_at_most}
use Rattle.stored.specs.Fitting.{U16}
use Rattle.stored.specs.Layout.{last_round, vertex_width, record_width, mesh_bytes, Stored, stored_as, StoredSelection}
use Rattle.stored.specs.Meshes.{Counted, mesh_length_lem, one_buffer, one_length}
use Rattle.check_refusals.specs.Check.{check_of}
use Rattle.check_refusals.specs.Rows.{report_number}
use Rattle.check_meaning.proofs.Exactly.{accepts_exactly}
use Rattle.cuts_names.specs.Base.{Marked}
use Rattle.cuts_names.specs.Pieces.{Node}
use Rattle.cuts.specs.Sets.{Cuts}
use Rattle.cuts_coarser.specs.TakenAway.{Remains}
use Rattle.cuts_coarser.proofs.Coarser.{remains_coarser, nothing_coarser}
use Rattle.cuts_coarser.specs.Remaining.{one_leaf_less}
use Rattle.demands_words.specs.Words.{BaseMesh, named, Numbering, VerticesNumbered, RecordsNumbered, header_for, written, RightSet, Stores, StoredMesh}
use Rattle.demands_proofs.specs.Read.{written_counted}
use Rattle.demands_proofs.specs.AcceptedOf.{accepted_of_stored}
use Rattle.demands_proofs.specs.StoredFigures.{stored_figures, stored_volume}
use Rattle.demands_taken_back.specs.Words.{GoodRequestFor, TakenBackFrom}
use Rattle.demands_taken_back.specs.Renumbered.{StillThere, vertices_renumbered}
use Rattle.demands_taken_back.proofs.Renumbered.{records_renumbered, renumbered_in_order}
use Rattle.demands_taken_back.specs.Stored as Specs

module _ (s : Stored) (x : StoredMesh s) (request : StoredSelection) where
  -- As specs/ has them.
  abbrev b : BaseMesh
  b = Specs.b s x request

  abbrev C : Cuts b.pieces
  C = Specs.C s x request

  abbrev N : Numbering
  N = Specs.N s x request

  abbrev Named : Node → Type 0
  Named = Specs.Named s x request

  abbrev marked : Marked b.pieces (named b)
  marked = Specs.marked s x request

  abbrev set : Cuts b.pieces
  set = Specs.set s x request

  module _ (good : GoodRequestFor x request) (D : Cuts b.pieces) (remains : Remains (named b) C Named D) where
    -- As specs/ has it.
    abbrev remains_right : RightSet s.kind.limits b D
    remains_right = Specs.remains_right s x request good D remains

    round_fits : U16 (x.round + 1)
    round_fits = let apart : x.round ≢ last_round = good.not_last_round in omega (arith, x.stores.round_fits)

    module _ (vertex_stays record_stays : ℕ → Bool) (still : StillThere b D N vertex_stays record_stays) where
      -- As specs/ has them.
      abbrev numbers : Numbering
      numbers = Specs.numbers s x request good D remains vertex_stays record_stays still

      abbrev mesh : Stored
      mesh = Specs.mesh s x request good D remains vertex_stays record_stays still

      vertices_are : VerticesNumbered b D numbers
      vertices_are = vertices_renumbered b x.right.marked C D remains.within N x.stores.vertices_numbered x.stores.records_numbered vertex_stays record_stays still

      records_are : RecordsNumbered b D numbers
      records_are = records_renumbered b x.right.marked C D remains.within N x.stores.vertices_numbered x.stores.records_numbered vertex_stays record_stays still

      pub remains_stores : Stores mesh x.job (x.round + 1) b D
      unfolding stored_as
      remains_stores = record { job_fits = x.stores.job_fits; round_fits = round_fits; materials = x.stores.materials; numbers = numbers; vertices_numbered = vertices_are; records_numbered = records_are; bytes = refl }

      pub remains_mesh : StoredMesh mesh
      unfolding stored_as
      remains_mesh = record { job = x.job; round = x.round + 1; base = b; cuts = D; right = remains_right; stores = remains_stores }

      -- These bytes are what is handed back.
      pub taken_back : TakenBackFrom x request mesh
      unfolding remains_stores remains_mesh stored_as
      taken_back =
          record {
            set = D;
            stores = remains_stores;
            right = remains_right;
            remains = remains;
            coarser = remains_coarser marked C Named D remains x.right.none_hangs;
            nothing_coarser = nothing_coarser marked C Named D remains;
            one_leaf_less = λ before after taken p q back.
                one_leaf_less C D remains.within x.right.fits.cuts remains_right.fits.cuts taken x.right.fits.cuts_listed_lem remains_right.fits.cuts_listed_lem back before after p q;
            in_order = renumbered_in_order b x.right.marked C D remains.within N x.stores.vertices_numbered x.stores.records_numbered vertex_stays record_stays still;
            volume = λ before after p q. stored_volume mesh remains_mesh after q ∙ sym (stored_volume s x before p);
          }

      counted_before : Counted s.kind (written x.job x.round b N)
      counted_before =
          let y = x.stores in
          written_counted s.kind s.right x.job x.round b C x.right N y.vertices_numbered y.records_numbered y.job_fits y.round_fits

      pub counted_after : Counted s.kind (written x.job (x.round + 1) b numbers)
      counted_after = written_counted s.kind s.right x.job (x.round + 1) b D remains_right numbers vertices_are records_are x.stores.job_fits round_fits

      -- In one buffer they are no longer than the mesh was.
      pub no_longer : s.kind.two ≡ false → length (mesh_bytes s.kind.format (written x.job (x.round + 1) b numbers)) ≤ length s.base
      no_longer one =
          let k = s.kind in
          let f = k.format in
          let in_one = one_buffer k s.right one in
          let before = mesh_length_lem k s.right (written x.job x.round b N) counted_before ∙ one_length k one (header_for x.job x.round b N) in
          let after = ap (λ (t : Stored). length t.base) (sym (in_one (written x.job (x.round + 1) b numbers) counted_after)) ∙ mesh_length_lem k s.right (written x.job (x.round + 1) b numbers) counted_after ∙ one_length k one (header_for x.job (x.round + 1) b numbers) in
          let vertices = mul-le-mul_left (vertex_width f) (count_at_most vertex_stays N.vertices) in
          let records = mul-le-mul_left (record_width f) (count_at_most record_stays N.records) in
          omega (arith, before, after, ap (λ (t : Stored). length t.base) x.stores.bytes, vertices, records)

-- ---- what follows

module _ (s : Stored) (x : StoredMesh s) (request : StoredSelection) (mesh : Stored) (r : TakenBackFrom x request mesh) where
  -- What is handed back is a stored mesh again, with the same job and base and the next round.
  abbrev pub again : StoredMesh mesh
  again = record { job = x.job; round = x.round + 1; base = x.base; cuts = r.set; right = r.right; stores = r.stores }

  -- "The result is accepted by check".
  pub accepted_again : (check_of mesh).number ≡ 0
  accepted_again = report_number mesh ∙ (accepts_exactly mesh).1 (accepted_of_stored mesh again)

  -- "and keeps the summed volume", as check reports it.
  pub reported_volume : (check_of mesh).sixfold ≡ (check_of s).sixfold
  reported_volume =
      let before = stored_figures s x in
      let after = stored_figures mesh again in
      sym (after.sixfold_is after.list after.listed) ∙ r.volume before.list after.list before.listed after.listed ∙ before.sixfold_is before.list before.listed
