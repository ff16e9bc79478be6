-- Whatever tables are left, entry by entry, of those of a stored mesh, by tests that say by numbers what the request's sentence says: their bytes are what is taken back.
use Rattle.std.specs.Prelude.{◌≡◌, Bool, true, false, [], ℕ, ◌+◌, ◌≤◌, ◌<◌, length}
use Rattle.std.proofs.Common.{sym, subst, arith}
use Rattle.stored.specs.Layout.{Mesh, mesh_bytes, Stored, of_kind, stored_as, StoredSelection}
use Rattle.stored.specs.Fitting.{stored_none_small}
use Rattle.stored.specs.Meshes.{Counted, one_buffer}
use Rattle.mesh_tables.specs.Tables as Check
use Rattle.mesh_tables.specs.Tables.{tables_of}
use Rattle.cuts.specs.Sets.{Cuts}
use Rattle.demands_words.specs.Words.{BaseMesh, Numbering, written, StoredMesh}
use Rattle.demands_proofs.specs.Holds.{Holds}
use Rattle.demands_proofs.specs.Counts.{vertices_within}
use Rattle.demands_proofs.specs.GrownStores.{mesh_for, holds_written}
use Rattle.demands_proofs.specs.FromStored as From
use Rattle.demands_taken_back.specs.Words.{GoodRequestFor, TakenBackFrom}
use Rattle.demands_taken_back.specs.Renumbered.{StillThere, numbers_left}
use Rattle.demands_taken_back.specs.ByNumbers.{ByNumbers, by_numbers_still}
use Rattle.demands_taken_back.specs.Stored.{set, set_remains}
use Rattle.demands_taken_back.proofs.Stored.{taken_back, counted_after, no_longer}
use Rattle.demands_taken_back.specs.TablesLeft.{TablesLeft}
use Rattle.demands_taken_back.proofs.TablesLeft.{left_holds}

module _ (s : Stored) (x : StoredMesh s) (request : StoredSelection) (good : GoodRequestFor x request)
    (cut_vertex : ℕ → ℕ) (freed vertex_stays record_stays : ℕ → Bool) (by : ByNumbers x.base x.cuts x.stores.numbers request cut_vertex freed vertex_stays record_stays)
    (vertices_below : (v : ℕ) → vertex_stays v ≡ true → v < x.stores.numbers.vertices) (records_below : (r : ℕ) → record_stays r ≡ true → r < x.stores.numbers.records)
    (m' : Check.Tables) (left : TablesLeft (tables_of s) m' vertex_stays record_stays)
  where
    abbrev b : BaseMesh
    b = x.base

    abbrev N : Numbering
    N = x.stores.numbers

    abbrev D : Cuts b.pieces
    D = set s x request

    still : StillThere b D N vertex_stays record_stays
    still = by_numbers_still b x.cuts N x.stores.vertices_numbered x.stores.records_numbered (From.few s x) request good.there D (set_remains s x request) cut_vertex freed vertex_stays record_stays by

    -- The tables that are left hold the numbering of what remains.
    pub tables_hold : Holds m' b (numbers_left b D N vertex_stays record_stays)
    tables_hold =
        left_holds b x.right.marked x.cuts D (set_remains s x request).within N x.stores.vertices_numbered x.stores.records_numbered vertex_stays record_stays still
        vertices_below records_below (omega (arith, s.right.vertices, stored_none_small s.kind.format, vertices_within s.kind.limits b x.cuts x.right.fits N x.stores.vertices_numbered)) (From.few s x) (tables_of s) m' (From.holds s x) left

    -- The mesh of them, for the same job and the next round, is that of that numbering.
    mesh_is : mesh_for x.job (x.round + 1) m' ≡ written x.job (x.round + 1) b (numbers_left b D N vertex_stays record_stays)
    mesh_is = holds_written m' b (numbers_left b D N vertex_stays record_stays) tables_hold x.job (x.round + 1)

    -- So it is what is taken back.
    pub tables_taken_back : TakenBackFrom x request (stored_as s.kind s.right (mesh_for x.job (x.round + 1) m'))
    tables_taken_back = subst (λ (t : Mesh). TakenBackFrom x request (stored_as s.kind s.right t)) (sym mesh_is) (taken_back s x request good D (set_remains s x request) vertex_stays record_stays still)

    -- In one buffer it is its bytes one after the other, and no longer than the mesh was.
    pub tables_in_one : s.kind.two ≡ false → stored_as s.kind s.right (mesh_for x.job (x.round + 1) m') ≡ of_kind s (mesh_bytes s.kind.format (mesh_for x.job (x.round + 1) m')) []
    tables_in_one one =
        one_buffer s.kind s.right one (mesh_for x.job (x.round + 1) m')
        (subst (Counted s.kind) (sym mesh_is) (counted_after s x request good D (set_remains s x request) vertex_stays record_stays still))

    pub tables_no_longer : s.kind.two ≡ false → length (mesh_bytes s.kind.format (mesh_for x.job (x.round + 1) m')) ≤ length s.base
    tables_no_longer one =
        subst (λ (t : Mesh). length (mesh_bytes s.kind.format t) ≤ length s.base) (sym mesh_is) (no_longer s x request good D (set_remains s x request) vertex_stays record_stays still one)
