-- Lawful tables hold one base mesh and one set of cuts: whatever two numbered sets they hold, these have the same base and the same cuts. Assumes
-- nothing.
use Rattle.std.specs.Prelude.{◌≡◌, ℕ, ◌≤◌, ◌<◌, length}
use Rattle.std.proofs.Common.{sym, ap, ◌∙◌, arith}
use Rattle.stored.specs.declared.Vertex.{Vertex}
use Rattle.stored.specs.Layout.{none}
use Rattle.mesh_tables.specs.Tables as Check
use Rattle.cuts_names.specs.Names as Names
use Rattle.cuts_names.specs.Pieces.{Node}
use Rattle.cuts.specs.Sets.{Cuts}
use Rattle.cuts.specs.Tables.{Lawful}
use Rattle.cuts.specs.LinkSets.{exactly_one}
use Rattle.demands_words.specs.Words.{BaseMesh, Numbering, VerticesNumbered, RecordsNumbered, SameBase}
use Rattle.demands_proofs.specs.Link.{link}
use Rattle.demands_proofs.specs.Holds.{Holds}
use Rattle.demands_proofs.specs.HeldEntries.{base_material}
use Rattle.demands_proofs.specs.HoldsGrown.{represents, grown}

-- Base vertices with the same name have the same number.
base_once : (u v : ℕ) → Names.base u ≡ Names.base v → u ≡ v
base_once u v e = cc

-- A base vertex's place is the one in the table.
place_held : (m : Check.Tables) (b : BaseMesh) (C : Cuts b.pieces) (N : Numbering) → Holds m b N → VerticesNumbered b C N → (v : ℕ) → v < b.vertices → (m.vertex_at v).place ≡ b.place_at v
place_held m b C N holds vertices v h =
    ap (λ (x : Vertex). x.place) (holds.vertex_at v (omega (arith, h, vertices.base_first))) ∙ vertices.base_place v h

module _ (m : Check.Tables) (lawful : Lawful (link m))
    (b : BaseMesh) (C : Cuts b.pieces) (N : Numbering) (holds : Holds m b N) (vertices : VerticesNumbered b C N) (records : RecordsNumbered b C N) (four : (r : ℕ) → r < b.pieces → length (b.shape_at r).marks ≡ 4) (small : N.records ≤ none)
    (b' : BaseMesh) (C' : Cuts b'.pieces) (N' : Numbering) (holds' : Holds m b' N') (vertices' : VerticesNumbered b' C' N') (records' : RecordsNumbered b' C' N') (four' : (r : ℕ) → r < b'.pieces → length (b'.shape_at r).marks ≡ 4) (small' : N'.records ≤ none) where
  -- One base.
  pub one_base : SameBase b b'
  one_base =
      let g = grown m b C N holds vertices records four small lawful in
      let g' = grown m b' C' N' holds' vertices' records' four' small' lawful in
      let vertex : (v : ℕ) → v < b.vertices → v < b'.vertices = λ v h. omega (arith, h, holds.base_vertices_lem, holds'.base_vertices_lem) in
      let piece : (r : ℕ) → r < b.pieces → r < b'.pieces = λ r h. omega (arith, h, holds.base_records_lem, holds'.base_records_lem) in
      record {
        vertices = sym holds.base_vertices_lem ∙ holds'.base_vertices_lem;
        pieces = sym holds.base_records_lem ∙ holds'.base_records_lem;
        place_at = λ v h. sym (place_held m b C N holds vertices v h) ∙ place_held m b' C' N' holds' vertices' v (vertex v h);
        shape_at = λ r h. sym (g.alike r h).shape ∙ (g'.alike r (piece r h)).shape;
        corner_at = λ r h k l. base_once (b.corner_at r k) (b'.corner_at r k) (sym ((g.alike r h).corner k l) ∙ (g'.alike r (piece r h)).corner k l);
        material_at = λ r h. sym (base_material m b C N holds records r h) ∙ base_material m b' C' N' holds' records' r (piece r h);
      }

  -- One set.
  pub one_set : (n : Node) → C.has n ≡ C'.has n
  one_set n =
      exactly_one (link m) lawful C (represents m b C N holds vertices records four small lawful) n
      ∙ sym (exactly_one (link m) lawful C' (represents m b' C' N' holds' vertices' records' four' small' lawful) n)
