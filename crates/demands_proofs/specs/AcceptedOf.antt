-- Check accepts whatever is a stored mesh: the bytes of a set of cuts of a properly marked base mesh, with no hanging edge, within the limits.
-- Assumes nothing.
use Rattle.std.proofs.Common.{sym, ap, subst, arith}
use Rattle.std.specs.Prelude.{ℕ, ◌≤◌, ◌<◌}
use Rattle.std.proofs.Math.Bool.{not}
use Rattle.stored.specs.Fitting.{U16, U32, MaterialFits, stored_none_small}
use Rattle.stored.specs.declared.Kind.{Kind}
use Rattle.stored.specs.Layout.{none, RightKind, Stored, stored_as}
use Rattle.stored.specs.Meshes.{mesh_right_length, mesh_right_mark}
use Rattle.mesh_tables.specs.Tables.{Tables, tables_of}
use Rattle.check_refusals.specs.Refusals.{wrong_length, wrong_mark}
use Rattle.check_meaning.specs.Accepted.{RightMesh, Accepted}
use Rattle.check_meaning.specs.Heading.{rule1_holds, rule2_holds}
use Rattle.cuts.specs.Sets.{Cuts}
use Rattle.demands_words.specs.Words.{BaseMesh, ProperlyMarked, Shallow, Numbering, VerticesNumbered, RecordsNumbered, written, RightSet, StoredMesh}
use Rattle.demands_proofs.specs.Holds.{Holds}
use Rattle.demands_proofs.specs.Counts.{vertices_within, records_within}
use Rattle.demands_proofs.specs.Read.{written_counted, written_holds}
use Rattle.demands_proofs.specs.HeldEntries.{held_counts, held_vertices, held_base_records, held_handed, held_base_marks, held_faces, held_uses, held_inside}
use Rattle.demands_proofs.specs.HeldCuts.{held_cuts, held_rests}

-- Tables that hold a numbered set of cuts of a properly marked base mesh are as rules 3 to 9, 22 and 23 ask.
pub held_right : (t : Tables) (b : BaseMesh) (C : Cuts b.pieces) (N : Numbering) → Holds t b N → ProperlyMarked b → Shallow b C → VerticesNumbered b C N → RecordsNumbered b C N → N.records ≤ none → RightMesh t
held_right t b C N h marked shallow nv nr few =
    record {
      counts = held_counts t b C N h marked nv nr;
      vertices = held_vertices t b C N h marked nv nr;
      base_records_lem = held_base_records t b C N h marked nv nr;
      handed = held_handed t b C N h marked nv nr;
      base_marks = held_base_marks t b C N h marked nv nr;
      faces = held_faces t b C N h marked nv nr;
      uses = held_uses t b C N h marked nv nr;
      no_vertex_hangs = held_inside t b C N h marked nv nr;
      cuts = held_cuts t b C N h marked shallow nv nr few;
    }

module _ (k : Kind) (k_right : RightKind k) (job round : ℕ) (b : BaseMesh) (C : Cuts b.pieces) (right : RightSet k.limits b C) (N : Numbering) (nv : VerticesNumbered b C N) (nr : RecordsNumbered b C N) (job_fits : U32 job) (round_fits : U16 round) (materials : (r : ℕ) → r < b.pieces → MaterialFits k.format.material (b.material_at r)) where
  -- The bytes of a numbered set of cuts are accepted.
  pub written_accepted : Accepted (stored_as k k_right (written job round b N))
  unfolding wrong_length wrong_mark stored_as
  written_accepted =
      let m = written job round b N in
      let s = stored_as k k_right m in
      let counted = written_counted k k_right job round b C right N nv nr job_fits round_fits in
      let h = written_holds k k_right job round b C right N nv nr job_fits round_fits materials in
      let few_vertices = vertices_within k.limits b C right.fits N nv in
      let few : N.records ≤ none = omega (arith, records_within k.limits b C right.fits N nr, k_right.records, stored_none_small k.format) in
      let few_records = records_within k.limits b C right.fits N nr in
      record {
        length = (rule1_holds s).0 (ap not (mesh_right_length k k_right m counted));
        mark = (rule2_holds s).0 (ap not (mesh_right_mark k k_right m counted));
        limits = record { vertices = omega (arith, h.vertices); records = omega (arith, h.records) };
        base_limit = omega (arith, h.base_records_lem, right.fits.base_records_lem);
        mesh = held_right (tables_of s) b C N h right.marked right.shallow nv nr few;
        none_hangs = held_rests (tables_of s) b C N h right.marked right.shallow nv nr few right.none_hangs;
      }

-- Whatever is a stored mesh, check accepts.
pub accepted_of_stored : (s : Stored) → StoredMesh s → Accepted s
accepted_of_stored s m =
    let x = m.stores in
    subst Accepted (sym x.bytes)
    (written_accepted s.kind s.right m.job m.round m.base m.cuts m.right x.numbers x.vertices_numbered x.records_numbered x.job_fits x.round_fits x.materials)
