-- The set of cuts to which tables have grown from a base: where no edge of the tables hangs none of it does, it fits limits just where the tables do, and
-- it goes no deeper than they do. Assumes nothing.
use Rattle.std.specs.Prelude.{◌≡◌, ◌⊎◌, ℕ, ◌+◌, ◌*◌, ◌≤◌, ◌<◌, length}
use Rattle.std.proofs.Common.{sym, ◌∙◌, subst, ⊎_elim, arith, lt-ltb, le-ltb}
use Rattle.laws.specs.Pairs.{SamePair}
use Rattle.piece.specs.declared.Piece.{Piece}
use Rattle.piece_edges.specs.Edges.{low_slot, high_slot}
use Rattle.piece.specs.Shape.{last_generation}
use Rattle.piece.specs.Ends.{corner_at, lower_end, higher_end, ends_of}
use Rattle.stored.specs.declared.Limits.{Limits}
use Rattle.mesh_tables.specs.Tables as Check
use Rattle.mesh_tables.specs.Tables.{base_vertices, all_vertices, all_records, piece_at}
use Rattle.check_meaning.specs.Accepted as Accepted
use Rattle.check_meaning.specs.Accepted.{HasParents, parent_p, parent_q}
use Rattle.cuts_names.specs.Pieces.{Node, generation}
use Rattle.cuts.specs.Sets.{Cuts, CutsWithin, NoneHangs}
use Rattle.cuts.specs.Count.{CutList, MadeList, cuts_fewer_lem, made_fewer_lem}
use Rattle.cuts.specs.Tables.{Lawful, node_of, Represents}
use Rattle.cuts.specs.LinkLists.{where_length}
use Rattle.cuts.specs.LinkNodes.{linked}
use Rattle.cuts.specs.LinkSets.{cut_nodes, made_names, made_count, there_node, cuts_listed_lem, made_listed_lem, records_count}
use Rattle.cuts.specs.LinkGrown.{Grown, grown_rests_lem}
use Rattle.demands_words.specs.Words.{BaseMesh, named, Fits, Shallow}
use Rattle.demands_proofs.specs.Link.{link}
use Rattle.check_meaning.specs.Cuts.{is_leaf}
use Rattle.demands_proofs.specs.BaseOf.{node_makes}

-- A vertex whose parents are the two ends of an edge, whichever way round, has the lower for p and the higher for q.
pub parents_ordered : (m : Check.Tables) (p : Piece) (e v : ℕ) → parent_p m v < parent_q m v →
    SamePair (parent_p m v) (parent_q m v) (corner_at p (low_slot e)) (corner_at p (high_slot e)) → HasParents m (ends_of p e) v
unfolding ends_of lower_end higher_end
parents_ordered m p e v o =
    let a = corner_at p (low_slot e) in
    let b = corner_at p (high_slot e) in
    ⊎_elim
    (λ s. let (x, y) = s in let t = lt-ltb a b (omega arith) in record { p = rw t x; q = rw t y })
    (λ s. let (x, y) = s in let f = le-ltb a b (omega arith) in record { p = rw f x; q = rw f y })

module _ (m : Check.Tables) (b : BaseMesh) (D : Cuts b.pieces) (g : Grown (named b) (link m) D) where
  abbrev l : Lawful (link m)
  l = g.lawful

  abbrev rep : Represents (link m) D
  rep = g.represents

  -- Where no edge hangs in the tables, none hangs in the set.
  pub set_rests : Accepted.NoneHangs m → NoneHangs (named b) D
  set_rests rests =
      grown_rests_lem g
      (λ n e h u x.
      let v = x.vertex in
      let d = x.made in
      rests n h ((is_leaf m n).0 u) e x.edge v (record { beyond = d.0; there = d.1 })
      (parents_ordered m (piece_at m n) e v (l.parents v d).0 x.ends))

  -- Where no record has a generation above 15, no node that is there has.
  pub set_shallow : ((n : ℕ) → n < all_records m → (piece_at m n).generation ≤ last_generation) → Shallow b D
  set_shallow young n t =
      let (c, h, q) = there_node (link m) l D rep n t in
      subst (λ (k : Node). generation k ≤ last_generation) q (omega (arith, young c h, (linked (link m) l c h).generation))

  -- The nodes of the cut records are the cuts of the set.
  pub grown_cuts : CutList D (cut_nodes (link m))
  grown_cuts = cuts_listed_lem (link m) l D rep

  -- The names of the made vertices are those that the set makes.
  pub grown_made : MadeList (named b) D (made_names (link m))
  grown_made =
      let x = made_listed_lem (link m) l D rep in
      record {
        distinct = x.distinct;
        made = λ v t. let (n, c, e) = x.made v t in (n, c, sym (node_makes m b D g n c) ∙ e);
        all = λ n c. rw (← node_makes m b D g n c) (x.all n c);
      }

  module _ (base_vertices_lem : base_vertices m ≡ b.vertices) where
    -- There are two records for each cut beyond the base, and one vertex for each that the set makes.
    pub grown_counts : (all_records m ≡ b.pieces + 2 * length (cut_nodes (link m))) × (all_vertices m ≡ b.vertices + length (made_names (link m)))
    grown_counts =
        (omega (arith, rep.bases, records_count (link m) l, where_length (link m).cut (node_of (link m)) (all_records m)), omega (arith, base_vertices_lem, made_count (link m) l))

    -- Where the tables are within limits, so is the set.
    pub grown_fits : (most : Limits) → all_vertices m ≤ most.vertices → all_records m ≤ most.records → b.pieces ≤ most.base_records → Fits most b D
    grown_fits most vertices records base_records_lem =
        record {
          cuts = cut_nodes (link m);
          cuts_listed_lem = grown_cuts;
          made = made_names (link m);
          made_listed_lem = grown_made;
          vertices = omega (arith, grown_counts.1, vertices);
          records = omega (arith, grown_counts.0, records);
          base_records_lem = base_records_lem;
        }

    -- Where the tables are not, no set with all these cuts is.
    pub grown_not_fits : (most : Limits) → (most.vertices < all_vertices m) ⊎ (most.records < all_records m) → (X : Cuts b.pieces) → CutsWithin D X → Fits most b X → ⊥
    grown_not_fits most beyond X inside fits =
        ⊎_elim
        (λ v. omega (arith, v, grown_counts.1, fits.vertices, made_fewer_lem D X inside (named b) (made_names (link m)) fits.made grown_made fits.made_listed_lem))
        (λ r. omega (arith, r, grown_counts.0, fits.records, cuts_fewer_lem D X inside (cut_nodes (link m)) fits.cuts grown_cuts fits.cuts_listed_lem))
        beyond
