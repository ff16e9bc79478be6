-- The base mesh that tables hold, and their vertices and records as a numbering; over names the pieces of any base from which the tables have grown
-- are those of the tables.
-- Assumes nothing.
use Rattle.std.specs.Prelude.{◌≡◌, refl, true, ℕ, ◌<◌}
use Rattle.std.proofs.Common.{arith}
use Rattle.piece.specs.Shape.{shape_of}
use Rattle.piece.specs.Ends.{corner_at}
use Rattle.mesh_tables.specs.Tables as Check
use Rattle.mesh_tables.specs.Tables.{base_vertices, all_vertices, base_records, all_records}
use Rattle.check_meaning.specs.Accepted.{parent_p, parent_q, first_child}
use Rattle.cuts_names.specs.Pieces.{Node, piece_at, makes}
use Rattle.cuts_names.specs.Macro.{Alike, makes_alike}
use Rattle.cuts.specs.Sets.{Cuts}
use Rattle.cuts.specs.Tables.{Lawful, name_of, piece_of, node_of, Represents}
use Rattle.cuts.specs.LinkAlike.{alike_then, nodes_alike}
use Rattle.cuts.specs.LinkNames.{name_base}
use Rattle.cuts.specs.LinkNodes.{linked}
use Rattle.cuts.specs.LinkGrown.{Grown}
use Rattle.demands_words.specs.Words.{BaseMesh, named, Numbering}
use Rattle.demands_proofs.specs.Link.{link}

abbrev pub base_of : Check.Tables → BaseMesh
base_of m =
    record {
      vertices = base_vertices m;
      pieces = base_records m;
      place_at = λ v. (m.vertex_at v).place;
      shape_at = λ r. shape_of (Check.piece_at m r);
      corner_at = λ r k. corner_at (Check.piece_at m r) k;
      material_at = λ r. (Check.piece_at m r).material;
    }

abbrev pub numbers_of : Check.Tables → Numbering
numbers_of m =
    record {
      vertices = all_vertices m;
      records = all_records m;
      name_at = name_of (link m);
      place_at = λ v. (m.vertex_at v).place;
      p_at = parent_p m;
      q_at = parent_q m;
      node_at = node_of (link m);
      corner_at = λ r k. corner_at (Check.piece_at m r) k;
      first_at = first_child m;
    }

-- The tables have grown from their own base to any set that they represent: a base record's piece names its corners by their numbers.
pub base_grown : (m : Check.Tables) → Lawful (link m) → (C : Cuts (base_records m)) → Represents (link m) C → Grown (named (base_of m)) (link m) C
base_grown m l C rep =
    record {
      lawful = l;
      represents = rep;
      alike = λ r h. record { shape = refl; corner = λ k s. name_base (link m) l (corner_at (Check.piece_at m r) k) (l.base_corners r h k s) };
    }

-- Over any base from which the tables have grown.
module _ (m : Check.Tables) (b : BaseMesh) (D : Cuts b.pieces) (g : Grown (named b) (link m) D) where
  -- The pieces at a node are alike, and cutting them makes one vertex.
  node_alike : (n : Node) → n.root < b.pieces → Alike (piece_at (piece_of (link m)) n) (piece_at (named b) n)
  node_alike = nodes_alike (piece_of (link m)) (named b) g.alike

  pub node_makes : (n : Node) → D.has n ≡ true → makes (piece_at (piece_of (link m)) n) ≡ makes (piece_at (named b) n)
  node_makes n c = makes_alike (node_alike n (D.rooted n c))

  -- A record's piece is the one at its node.
  pub record_alike : (r : ℕ) → r < all_records m → Alike (piece_of (link m) r) (piece_at (named b) (node_of (link m) r))
  record_alike r h =
      let x = linked (link m) g.lawful r h in
      alike_then x.piece (node_alike (node_of (link m) r) (omega (arith, x.rooted, g.represents.bases)))
