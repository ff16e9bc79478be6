-- Of specs/Exactly.antt, the theorems that an edit of a definition breaks, and what only they need.
use Rattle.std.specs.Prelude.{◌≡◌, ◌↔◌, ℕ}
use Rattle.std.proofs.Math.Path.{refl}
use Rattle.std.proofs.Common.{⊎_elim}
use Rattle.laws.specs.Below.{either}
use Rattle.laws.specs.Order.{Giving, Judged, judge, done}
use Rattle.laws.proofs.Order.{given_exactly, accepted_exactly}
use Rattle.stored.specs.Layout.{Stored}
use Rattle.mesh_tables.specs.Tables.{tables_of}
use Rattle.check_refusals.specs.Refusals.{hanging_vertices}
use Rattle.check_refusals.specs.Check.{rows, table_rows, check_number}
use Rattle.check_meaning.specs.Tests.{reads}
use Rattle.check_meaning.specs.Accepted.{SomeVertexHangs, Accepted}
use Rattle.check_meaning.specs.Heading.{rule1_holds, rule2_holds, rule3_holds}
use Rattle.check_meaning.specs.Vertices.{rule4_holds}
use Rattle.check_meaning.specs.Bases.{rule5_holds, rule22_holds}
use Rattle.check_meaning.proofs.Bases.{rule6_holds}
use Rattle.check_meaning.specs.Faces.{rule7_holds, rule8_holds}
use Rattle.check_meaning.specs.Inside.{some_hangs, rule23_holds}
use Rattle.check_meaning.specs.Cuts.{stored_four}
use Rattle.check_meaning.proofs.Cuts.{rule9_holds, rule10_holds}
use Rattle.check_meaning.specs.Exactly.{check_rules}

module _ (s : Stored) where
  pub check_judged : Judged (rows s) (check_rules s)
  unfolding rows table_rows
  check_judged =
      let m = tables_of s in
      judge (rule1_holds s) λ h1. judge (rule2_holds s) λ h2. judge (rule3_holds s.kind.limits s) λ h3. judge (rule4_holds m h3.2.vertices_within) λ h4.
      judge (rule5_holds m) λ h5. judge (rule22_holds m) λ h22. judge (rule6_holds m) λ h6. judge (rule7_holds m) λ h7. judge (rule8_holds m) λ h8.
      judge (rule23_holds m h5 h22) λ h23. judge (rule9_holds m h4 (stored_four s)) λ h9. judge (rule10_holds m) λ h10. done

  -- Check gives a number exactly where every rule before it holds and its own does not.
  pub refuses_exactly : (n : ℕ) → (check_number s ≡ n) ↔ Giving (check_rules s) n
  unfolding check_number rows table_rows
  refuses_exactly = given_exactly check_judged refl

  -- Check gives 0 exactly where all these rules hold.
  pub accepts_exactly : (check_number s ≡ 0) ↔ Accepted s
  unfolding check_number rows table_rows
  accepts_exactly =
      reads (accepted_exactly check_judged refl)
      (λ (h1, (h2, (h3, (h4, (h5, (h22, (h6, (h7, (h8, (h23, (h9, (h10, end)))))))))))).
      record {
        length = h1;
        mark = h2;
        limits = h3.0;
        base_limit = h3.1;
        mesh = record { counts = h3.2; vertices = h4; base_records_lem = h5; handed = h22; base_marks = h6; faces = h7; uses = h8; no_vertex_hangs = h23; cuts = h9 };
        none_hangs = h10;
      })
      (λ a. let m = a.mesh in
      (a.length, (a.mark, ((a.limits, a.base_limit, m.counts), (m.vertices, (m.base_records_lem, (m.handed, (m.base_marks, (m.faces, (m.uses, (m.no_vertex_hangs, (m.cuts, (a.none_hangs, tt)))))))))))))

  -- With 23 there is a base vertex that hangs on a base record.
  pub vertex_hangs_lem : check_number s ≡ 23 → SomeVertexHangs (tables_of s)
  vertex_hangs_lem e =
      let m = tables_of s in
      let (h1, (h2, (h3, (h4, (h5, (h22, (h6, (h7, (h8, hanging))))))))) = (refuses_exactly 23).0 e in
      ⊎_elim (some_hangs m h5 h22).0 (λ f. absurd (hanging ((rule23_holds m h5 h22).0 f))) (either (hanging_vertices m))
