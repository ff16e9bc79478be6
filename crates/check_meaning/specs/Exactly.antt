-- Check accepts exactly the meshes that the documents ask for, and refuses every other with the number of the first rule that it breaks.
use Rattle.std.specs.Prelude.{List, [], ◌∷◌, ◌≤◌}
use Rattle.laws.specs.Order.{Rule, rule}
use Rattle.stored.specs.Layout.{Stored}
use Rattle.mesh_tables.specs.Tables.{tables_of, base_records}
use Rattle.check_meaning.specs.Accepted.{RightLength, RightMark, Within, RightCounts, RightVertices, RightBaseRecords, RightHanded, RightBaseMarks, RightFaces, RightUses, NoVertexHangs, RightCuts, NoneHangs}

-- What check's rules ask, in the order in which they are tried.
abbrev pub check_rules : Stored → List Rule
check_rules s =
    let m = tables_of s in
    rule 1 (RightLength s)
    ∷ rule 2 (RightMark s)
    ∷ rule 3 (Within s.kind.limits m × (base_records m ≤ s.kind.limits.base_records) × RightCounts m)
    ∷ rule 4 (RightVertices m)
    ∷ rule 5 (RightBaseRecords m)
    ∷ rule 22 (RightHanded m)
    ∷ rule 6 (RightBaseMarks m)
    ∷ rule 7 (RightFaces m)
    ∷ rule 8 (RightUses m)
    ∷ rule 23 (NoVertexHangs m)
    ∷ rule 9 (RightCuts m)
    ∷ rule 10 (NoneHangs m)
    ∷ []
