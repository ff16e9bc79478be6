-- The cut in two slices, step by step: from what each call leaves to what the definition says.
use Rattle.std.specs.Prelude.{◌≡◌, Bool, cond, ◌≢◌, List, ℕ, ◌+◌, ◌≤◌, ◌<◌, eqb, ltb}
use Rattle.std.proofs.Math.Path.{refl, ap}
use Rattle.std.proofs.Common.{◌∙◌}
use Rattle.std.proofs.Math.Bool.{true, false}
use borrow.Author.Tests.{eq-eqb, ne_eqb, lt-ltb, le-ltb}
use Rattle.laws.specs.Below.{and_false}
use Rattle.piece.specs.declared.Ends.{Ends}
use Rattle.piece_cut.specs.declared.Children.{Children}
use Rattle.piece_cut.specs.Cut.{cut_of}
use Rattle.stored.specs.declared.Layout.{Layout}
use Rattle.stored.specs.declared.Header.{Header}
use Rattle.stored.specs.declared.Vertex.{Vertex}
use Rattle.stored.specs.declared.Record.{Record}
use Rattle.stored.specs.Layout.{base_into, grown_into, vertex_bytes, record_bytes, vertex_in, record_in}
use Rattle.mesh_tables.specs.Tables.{refinement_ends}
use Rattle.refine_cut.specs.Cut.{midpoint_of, one_vertex_more, two_records_more, cut_record, leaf_record}
use Rattle.refine_cut.specs.Slices.{Slices, slices, vertex_put, record_put, headed, midpoint_put, children_put, has_room, cut_with}

-- ---- the midpoint

module _ (l : Layout) (h : Header) (base grown : List ℕ) (ends : Ends) (w : ℕ) where
  pub midpoint_there : w ≢ h.vertices → slices h base grown ≡ midpoint_put l (slices h base grown) ends w
  unfolding midpoint_put
  midpoint_there ne = rw (ne_eqb w h.vertices ne)

  pub midpoint_appended : w ≡ h.vertices → (v : Vertex) → v ≡ midpoint_of (vertex_in l base grown) ends → (base' grown' : List ℕ) →
      base' ≡ base_into l.vertices base h.vertices (vertex_bytes l.format v) →
      grown' ≡ grown_into l.vertices grown h.vertices (vertex_bytes l.format v) →
      slices (one_vertex_more h) base' grown' ≡ midpoint_put l (slices h base grown) ends w
  unfolding midpoint_put vertex_put
  midpoint_appended e v is base' grown' b g =
      rw (eq-eqb w h.vertices e)
      (λ k.
      slices (one_vertex_more h)
      ((b ∙ ap (λ (x : Vertex). base_into l.vertices base h.vertices (vertex_bytes l.format x)) is) k)
      ((g ∙ ap (λ (x : Vertex). grown_into l.vertices grown h.vertices (vertex_bytes l.format x)) is) k))

  -- No record is appended with it.
  pub midpoint_records : (t : Slices) → t ≡ midpoint_put l (slices h base grown) ends w → t.header.records ≡ h.records
  unfolding midpoint_put
  midpoint_records t is =
      ap (λ (s : Slices). s.header.records) is ∙ go (eqb w h.vertices) (vertex_put l (slices h base grown) h.vertices (midpoint_of (vertex_in l base grown) ends))
    where
      go : (b : Bool) (u : Slices) → (cond b (headed (one_vertex_more h) u) (slices h base grown)).header.records ≡ h.records
      go true u = refl
      go false u = refl

-- ---- the children

-- One record written, of slices that are s.
pub record_written : (l : Layout) (h : Header) (s : Slices) (base grown base' grown' : List ℕ) (i : ℕ) (r r' : Record) → slices h base grown ≡ s → r ≡ r' →
    base' ≡ base_into l.records base i (record_bytes l.format r) →
    grown' ≡ grown_into l.records grown i (record_bytes l.format r) →
    slices h base' grown' ≡ record_put l s i r'
unfolding record_put
record_written l h s base grown base' grown' i r r' e is b g =
    (λ k. slices h (b k) (g k))
    ∙ (λ k. record {
      header = (e k).header;
      base = base_into l.records (e k).base i (record_bytes l.format (is k));
      grown = grown_into l.records (e k).grown i (record_bytes l.format (is k));
    })

module _ (l : Layout) (h : Header) (base grown : List ℕ) (n : ℕ) (r : Record) (w : ℕ) where
  pub children_written : (two : Children) → two ≡ cut_of r.piece w → (base₁ grown₁ base₂ grown₂ base₃ grown₃ : List ℕ) →
      slices h base₁ grown₁ ≡ record_put l (slices h base grown) n (cut_record r.piece h.records) →
      slices h base₂ grown₂ ≡ record_put l (slices h base₁ grown₁) h.records (leaf_record two.first) →
      slices h base₃ grown₃ ≡ record_put l (slices h base₂ grown₂) (h.records + 1) (leaf_record two.second) →
      slices (two_records_more h) base₃ grown₃ ≡ children_put l (slices h base grown) n r w
  unfolding children_put
  children_written two is base₁ grown₁ base₂ grown₂ base₃ grown₃ cut one other =
      let all : slices h base₃ grown₃ ≡ record_put l (record_put l (record_put l (slices h base grown) n (cut_record r.piece h.records)) h.records (leaf_record (cut_of r.piece w).first)) (h.records + 1) (leaf_record (cut_of r.piece w).second) =
      other
      ∙ (λ k. record_put l ((one ∙ (λ j. record_put l (cut j) h.records (leaf_record (is j).first))) k) (h.records + 1) (leaf_record (is k).second)) in
      ap (λ (s : Slices). slices (two_records_more h) s.base s.grown) all

-- ---- the whole cut

module _ (l : Layout) (h : Header) (base grown : List ℕ) (n w : ℕ) where
  -- No room for a vertex, or for two records: nothing is cut.
  pub no_vertex_room : l.vertices.end ≤ h.vertices → slices h base grown ≡ cut_with l (slices h base grown) n w
  unfolding cut_with has_room
  no_vertex_room e = rw (le-ltb h.vertices l.vertices.end e)

  pub no_record_room : l.records.end ≤ h.records + 1 → slices h base grown ≡ cut_with l (slices h base grown) n w
  unfolding cut_with has_room
  no_record_room e = rw (le-ltb (h.records + 1) l.records.end e, and_false (ltb h.vertices l.vertices.end))

  pub cut_written : h.vertices < l.vertices.end → h.records + 1 < l.records.end → (r : Record) → r ≡ record_in l base grown n → (ends : Ends) → ends ≡ refinement_ends r.piece →
      (s t : Slices) → s ≡ midpoint_put l (slices h base grown) ends w → t ≡ children_put l s n r w →
      t ≡ cut_with l (slices h base grown) n w
  unfolding cut_with has_room
  cut_written v e r is ends these s t half all =
      rw (lt-ltb h.vertices l.vertices.end v, lt-ltb (h.records + 1) l.records.end e)
      (all
      ∙ ap (λ (x : Slices). children_put l x n r w) half
      ∙ ap (λ (x : Ends). children_put l (midpoint_put l (slices h base grown) x w) n r w) these
      ∙ ap (λ (x : Record). children_put l (midpoint_put l (slices h base grown) (refinement_ends x.piece) w) n x w) is)
