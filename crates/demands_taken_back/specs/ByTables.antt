-- What the tables of a stored mesh say of cuts, in the numbering's words.
use Rattle.std.specs.Prelude.{◌≡◌, true, ℕ, ◌≤◌, ◌<◌}
use Rattle.std.proofs.Common.{sym, ap, ◌∙◌, ⊎_elim, arith}
use Rattle.stored.specs.Layout.{Stored}
use Rattle.stored.specs.declared.Record.{Record}
use Rattle.mesh_tables.specs.Tables as Check
use Rattle.mesh_tables.specs.Tables.{tables_of, vertex_with, refinement_ends, is_cut}
use Rattle.check_meaning.specs.Cuts.{vertex_is}
use Rattle.cuts_names.specs.Names.{mid_not_base_lem}
use Rattle.cuts_names.specs.Pieces.{makes, piece_at}
use Rattle.cuts.specs.LinkNames.{base_or_beyond}
use Rattle.cuts.specs.LinkSets.{node_cut}
use Rattle.demands_words.specs.Words.{named, Numbering, StoredMesh}
use Rattle.demands_proofs.specs.Link.{link}
use Rattle.demands_proofs.specs.HeldCuts.{makes_parents}
use Rattle.demands_proofs.specs.FromStored as From

module _ (s : Stored) (x : StoredMesh s) where
  abbrev m : Check.Tables
  m = tables_of s

  abbrev N : Numbering
  N = x.stores.numbers

  -- A record of the tables is cut where the set has its node.
  pub cut_is : (r : ℕ) → r < N.records → is_cut m r ≡ x.cuts.has (N.node_at r)
  cut_is r h =
      let g = From.stored_grown s x in
      sym (node_cut (link m) g.lawful x.cuts g.represents r (omega (arith, h, (From.holds s x).records))) ∙ ap x.cuts.has (From.stored_node s x r h)

  -- Its first child's number.
  pub first_is : (r : ℕ) → r < N.records → (m.record_at r).first_child ≡ N.first_at r
  first_is r h = ap (λ (t : Record). t.first_child) ((From.holds s x).record_at r h)

  -- The vertex with the ends of its refinement edge as parents is the one that its cut makes.
  pub cut_vertex_lem : (r : ℕ) → r < N.records → x.cuts.has (N.node_at r) ≡ true →
      let v = vertex_with m (refinement_ends (Check.piece_at m r)) in
      (v < N.vertices) × (N.name_at v ≡ makes (piece_at (named x.base) (N.node_at r)))
  cut_vertex_lem r h t =
      let y = x.stores in
      let holds = From.holds s x in
      let (v, l, name) = y.vertices_numbered.every (N.node_at r) t in
      let beyond = makes_made_lem v name in
      let parents = makes_parents m x.base x.cuts N holds x.right.marked x.right.shallow y.vertices_numbered y.records_numbered (From.few s x) v l r h name in
      let is = vertex_is m (From.accepted s x).mesh.vertices (refinement_ends (Check.piece_at m r)) v (record { beyond = omega (arith, beyond, holds.base_vertices_lem); there = omega (arith, l, holds.vertices) }) parents in
      (omega (arith, is, l), ap N.name_at is ∙ name)
    where
      makes_made_lem : (v : ℕ) → N.name_at v ≡ makes (piece_at (named x.base) (N.node_at r)) → x.base.vertices ≤ v
      makes_made_lem v e = ⊎_elim (λ o. absurd (mid_not_base_lem _ _ v (sym e ∙ x.stores.vertices_numbered.base_name v o))) (λ o. o) (base_or_beyond v x.base.vertices)
