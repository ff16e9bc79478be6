-- The bytes that check accepts store a set of cuts of a properly marked base mesh with no hanging edge, within the limits.
-- Assumes nothing.
use Rattle.std.specs.Prelude.{◌≡◌, refl}
use Rattle.std.proofs.Common.{sym, ap, ◌∙◌}
use Rattle.std.proofs.lemmas.Bool.{not-false}
use Rattle.laws.specs.Lists.{Bytes}
use Rattle.stored.specs.Layout.{right_mark, right_length, Stored, header_of, layout_in, mesh_of, stored_as}
use Rattle.stored.specs.Fitting.{header_fits, record_fits}
use Rattle.stored.specs.Meshes.{base_within, mesh_written_again}
use Rattle.mesh_tables.specs.Tables.{tables_of, base_records}
use Rattle.check_refusals.specs.Refusals.{wrong_length, wrong_mark}
use Rattle.check_meaning.specs.Accepted.{Accepted}
use Rattle.check_meaning.specs.Heading.{rule1_holds, rule2_holds}
use Rattle.check_meaning.specs.Cuts.{stored_four}
use Rattle.cuts.specs.Sets.{Cuts}
use Rattle.cuts.specs.LinkSets.{cuts_of, represented}
use Rattle.cuts.specs.LinkGrown.{Grown}
use Rattle.demands_words.specs.Words.{named, written, StoredMesh}
use Rattle.demands_proofs.specs.Link.{link}
use Rattle.demands_proofs.specs.Lawful.{accepted_lawful}
use Rattle.demands_proofs.specs.BaseOf.{base_of, numbers_of, base_grown}
use Rattle.demands_proofs.specs.Marked.{base_marked_lem}
use Rattle.demands_proofs.specs.Numbered.{grown_vertices_lem, grown_records_lem}
use Rattle.demands_proofs.specs.SetOf.{set_rests, set_shallow, grown_fits}
use Rattle.demands_proofs.specs.Materials.{right_hands_down}
use Rattle.demands_proofs.specs.GrownStores.{grown_holds, holds_written}

-- Accepted tables hold their own numbering, and the mesh that the bytes hold is written of it.
stored_written : (s : Stored) → Accepted s → (C : Cuts (base_records (tables_of s))) → Grown (named (base_of (tables_of s))) (link (tables_of s)) C →
    mesh_of s ≡ written (header_of s).job (header_of s).round (base_of (tables_of s)) (numbers_of (tables_of s))
unfolding tables_of mesh_of
stored_written s a C g =
    let m = tables_of s in
    let holds = grown_holds m (base_of m) C g refl (λ v h. let x = a.mesh.vertices.base v h in (x.p, x.q)) (λ n h. stored_four s n) (record { base = λ r h. refl; down = right_hands_down m a.mesh }) in
    holds_written m (base_of m) (numbers_of m) holds (header_of s).job (header_of s).round

-- The bytes are those of the mesh that they hold.
stored_bytes : (s : Stored) → Bytes s.base → Bytes s.grown → Accepted s → stored_as s.kind s.right (mesh_of s) ≡ s
unfolding wrong_length wrong_mark tables_of
stored_bytes s b g a =
    mesh_written_again s b g
    (not-false (right_length s.kind s.base s.grown) ((rule1_holds s).1 a.length))
    (not-false (right_mark s.kind.format s.base) ((rule2_holds s).1 a.mark))
    (base_within s.kind (header_of s) a.mesh.counts.vertices_within a.mesh.counts.records_within)

pub stored_of_accepted : (s : Stored) → Bytes s.base → Bytes s.grown → Accepted s → StoredMesh s
unfolding tables_of
stored_of_accepted s b grown_bytes a =
    let m = tables_of s in
    let four = stored_four s in
    let l = accepted_lawful m a.mesh four in
    let C = cuts_of (link m) l in
    let g = base_grown m l C (represented (link m) l) in
    let fits = header_fits s.base b s.kind.format in
    record {
      job = (header_of s).job;
      round = (header_of s).round;
      base = base_of m;
      cuts = C;
      right = record {
        marked = base_marked_lem m a.mesh four;
        none_hangs = set_rests m (base_of m) C g a.none_hangs;
        fits = grown_fits m (base_of m) C g refl s.kind.limits a.limits.vertices a.limits.records a.base_limit;
        shallow = set_shallow m (base_of m) C g a.mesh.cuts.generations;
      };
      stores = record {
        job_fits = fits.job;
        round_fits = fits.round;
        materials = λ r h. (record_fits (layout_in s) s.base s.grown b grown_bytes r).material;
        numbers = numbers_of m;
        vertices_numbered =
            grown_vertices_lem m (base_of m) C g refl (λ v h. refl) (λ v beyond there. (a.mesh.vertices.made v (record { beyond = beyond; there = there })).halfway);
        records_numbered = grown_records_lem m (base_of m) C g refl;
        bytes = sym (stored_bytes s b grown_bytes a) ∙ ap (stored_as s.kind s.right) (stored_written s a C g);
      };
    }
