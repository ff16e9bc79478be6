-- Document 01, "Build and refine": all else in the header stays. Whatever of it a vertex more and two records more leave, the passes leave.
use Rattle.std.specs.Prelude.{◌≡◌, Bool, true, false, cond, ◌&&◌, eqb}
use Rattle.std.proofs.Math.Path.{refl}
use Rattle.std.proofs.Common.{◌∙◌}
use Rattle.std.proofs.Math.Bool.{not}
use Prim.Native.Nat.{ℕ, zero, suc}
use Rattle.laws.specs.Below.{put_at}
use Rattle.piece.specs.declared.Ends.{Ends}
use Rattle.stored.specs.declared.Limits.{Limits}
use Rattle.stored.specs.declared.Header.{Header}
use Rattle.mesh_tables.specs.Tables.{Tables, all_vertices, all_records, piece_at, vertex_with, refinement_ends, leaf_hangs, hanging_edge}
use Rattle.refine_cut.specs.Cut.{one_vertex_more, two_records_more, midpoint_of, with_midpoint, with_children, cut_at}
use Rattle.refine_pass.specs.Passes.{exceeds, turn, pass_below, pass, closing, refined}

module _ (of : Header → ℕ) (vertex : (h : Header) → of (one_vertex_more h) ≡ of h) (records : (h : Header) → of (two_records_more h) ≡ of h) (most : Limits) where
  abbrev Same : Tables → Tables → Type 0
  Same t m = of t.header ≡ of m.header

  either_same : (b : Bool) (t u m : Tables) → Same t m → Same u m → Same (cond b t u) m
  either_same true t u m p q = p
  either_same false t u m p q = q

  midpoint_same : (m : Tables) (ends : Ends) → Same (with_midpoint m ends) m
  unfolding with_midpoint
  midpoint_same m ends =
      either_same (eqb (vertex_with m ends) (all_vertices m))
      (record { header = one_vertex_more m.header; vertex_at = put_at (all_vertices m) (midpoint_of m.vertex_at ends) m.vertex_at; record_at = m.record_at }) m m
      (vertex m.header) refl

  cut_same : (m : Tables) (n : ℕ) → Same (cut_at m n) m
  unfolding cut_at with_children
  cut_same m n = let ends = refinement_ends (piece_at m n) in records (with_midpoint m ends).header ∙ midpoint_same m ends

  below_same : (chosen : ℕ → Bool) (n : ℕ) (m : Tables) → Same (pass_below most chosen n m) m
  unfolding pass_below turn
  below_same chosen zero m = refl
  below_same chosen (suc n) m =
      let t : Tables = pass_below most chosen n m in
      either_same (chosen n && not (exceeds most t.header)) (cut_at t n) t t (cut_same t n) refl ∙ below_same chosen n m

  pass_same : (chosen : ℕ → Bool) (m : Tables) → Same (pass most chosen m) m
  unfolding pass
  pass_same chosen m = below_same chosen (all_records m) m

  closing_same : (passes : ℕ) (m : Tables) → Same (closing most passes m) m
  unfolding closing
  closing_same zero m = refl
  closing_same (suc passes) m =
      let t : Tables = pass most (leaf_hangs m) m in
      either_same (hanging_edge m && not (exceeds most m.header)) (closing most passes t) m m (closing_same passes t ∙ pass_same (leaf_hangs m) m) refl

  pub refined_stays : (chosen : ℕ → Bool) (m : Tables) → of (refined most chosen m).header ≡ of m.header
  unfolding refined
  refined_stays chosen m = closing_same most.records (pass most chosen m) ∙ pass_same chosen m

module _ (most : Limits) (chosen : ℕ → Bool) (m : Tables) where
  pub job_stays : (refined most chosen m).header.job ≡ m.header.job
  job_stays = refined_stays (λ h. h.job) (λ h. refl) (λ h. refl) most chosen m

  pub round_stays : (refined most chosen m).header.round ≡ m.header.round
  round_stays = refined_stays (λ h. h.round) (λ h. refl) (λ h. refl) most chosen m

  pub base_vertices_stay : (refined most chosen m).header.base_vertices ≡ m.header.base_vertices
  base_vertices_stay = refined_stays (λ h. h.base_vertices) (λ h. refl) (λ h. refl) most chosen m

  pub base_records_stay : (refined most chosen m).header.base_records ≡ m.header.base_records
  base_records_stay = refined_stays (λ h. h.base_records) (λ h. refl) (λ h. refl) most chosen m
