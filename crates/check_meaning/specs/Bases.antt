-- Rules 5, 22 and 6: the base records.
use Rattle.std.specs.Prelude.{◌≡◌, refl, true, ◌≢◌, ◌⊎◌, ℕ, ◌<◌, pos, ◌<ℤ◌}
use Rattle.std.proofs.Math.Path.{sym, ap}
use Rattle.std.proofs.Common.{◌∙◌}
use Rattle.std.proofs.Math.Logic.{⊎_elim}
use Rattle.std.proofs.Math.Logic.Iff
use Rattle.laws.specs.Below.{any_below, all_below}
use Rattle.piece.specs.declared.Piece.{Piece}
use Rattle.piece_edges.specs.Edges.{low_slot, high_slot, slots_small}
use Rattle.piece.specs.Shape.{Shape, mark, mark_fits, flag_fits, valid_shape}
use Rattle.piece.specs.Ends.{corner_at}
use Rattle.stored.specs.declared.Vertex.{Vertex}
use Rattle.grid_volume.specs.Volume.{signed_of, left_handed, sixfold_of}
use Rattle.grid_volume.specs.Handed.{not_negative, positive}
use Rattle.mesh_tables.specs.Tables.{Tables, base_vertices, base_records, piece_at, corner_point, signed_at, sixfold_at}
use Rattle.check_refusals.specs.Refusals.{equal_corners, corner_not_in_base, bad_corners, bad_piece, bad_base_record, bad_base_records, left_handed_record, left_handed_records}
use Rattle.check_meaning.specs.Tests.{Passes, Fails, reads, equal, below, not_at_most, not_fails, fails_unless, and_passes, or_passes, or_fails, all_pass, any_passes, none_passes}
use Rattle.check_meaning.specs.Accepted.{BasePiece, RightBaseRecords, RightHanded}

-- Every two slots are the ends of an edge, one way round or the other; the ends of an edge are two.
pub slots_joined : (j : ℕ) → j < 4 → (k : ℕ) → k < 4 → (j ≡ k) ⊎ ((e : ℕ) × (e < 6) × (((low_slot e ≡ j) × (high_slot e ≡ k)) ⊎ ((low_slot e ≡ k) × (high_slot e ≡ j))))
unfolding low_slot high_slot any_below all_below
slots_joined =
    (all_pass 4 (λ j lj. all_pass 4 (λ k lk. or_passes (equal j k)
    (any_passes 6 (λ e l. or_passes (and_passes (equal (low_slot e) j) (equal (high_slot e) k)) (and_passes (equal (low_slot e) k) (equal (high_slot e) j))))))).0 refl

pub slots_apart : (e : ℕ) → e < 6 → low_slot e ≢ high_slot e
unfolding low_slot high_slot any_below
slots_apart = (none_passes 6 (λ e l. fails_unless (equal (low_slot e) (high_slot e)))).0 refl

-- What a valid shape has, part by part.
pub valid_is : (s : Shape) → Passes (valid_shape s) ((s.edge < 6) × (((i : ℕ) → i < 4 → mark_fits s.edge (mark s i) i ≡ true) × (flag_fits s ≡ true)))
unfolding valid_shape
valid_is s = and_passes (below s.edge 6) (and_passes (all_pass 4 (λ i l. Iff.rfl)) Iff.rfl)

module _ (p : Piece) where
  corners_differ : Fails (equal_corners p.corners) ((j k : ℕ) → j < 4 → k < 4 → corner_at p j ≡ corner_at p k → j ≡ k)
  unfolding equal_corners
  corners_differ =
      reads (none_passes 6 λ e l. fails_unless (equal (corner_at p (low_slot e)) (corner_at p (high_slot e))))
      (λ h j k lj lk same.
      ⊎_elim (λ e. e)
      (λ r.
      let (e, l, ends) = r in
      absurd (⊎_elim
      (λ d. h e l (ap (corner_at p) d.0 ∙ same ∙ ap (corner_at p) (sym d.1)))
      (λ d. h e l (ap (corner_at p) d.0 ∙ sym same ∙ ap (corner_at p) (sym d.1)))
      ends))
      (slots_joined j lj k lk))
      (λ d e l same. slots_apart e l (d (low_slot e) (high_slot e) (slots_small e).0 (slots_small e).1 same))

-- Rule 5 for a piece, whosever it is.
pub base_piece_lem : (count : ℕ) (vertex_at : ℕ → Vertex) (p : Piece) → Fails (bad_piece count vertex_at p) (BasePiece count vertex_at p)
unfolding bad_piece bad_corners corner_not_in_base
base_piece_lem count vertex_at p =
    reads
    (or_fails
    (or_fails
    (or_fails
    (or_fails (corners_differ p) (none_passes 4 λ k l. not_at_most count (corner_at p k)))
    (fails_unless (equal (sixfold_at vertex_at p) 0)))
    (not_fails (equal p.generation 0)))
    (not_fails (equal p.flag 0)))
    (λ h. record { different = h.0.0.0.0; in_base_lem = h.0.0.0.1; volume = h.0.0.1; generation = h.0.1; flag = h.1 })
    (λ r. ((((r.different, r.in_base_lem), r.volume), r.generation), r.flag))

module _ (m : Tables) where
  pub rule5_holds : Fails (bad_base_records m) (RightBaseRecords m)
  unfolding bad_base_records bad_base_record
  rule5_holds = none_passes (base_records m) (λ n l. base_piece_lem (base_vertices m) m.vertex_at (piece_at m n))

  pub rule22_holds : Fails (left_handed_records m) (RightHanded m)
  unfolding left_handed_records left_handed_record left_handed signed_at
  rule22_holds = none_passes (base_records m) (λ n l. not_negative (signed_of (corner_point m.vertex_at (piece_at m n))))

  -- By both, a base record has a positive value.
  pub base_right_handed : RightBaseRecords m → RightHanded m → (n : ℕ) → n < base_records m → pos 0 <ℤ signed_at m.vertex_at (piece_at m n)
  unfolding signed_at sixfold_at sixfold_of
  base_right_handed solid handed n l =
      let z = signed_at m.vertex_at (piece_at m n) in
      positive z (solid n l).volume ((not_negative z).1 (handed n l))
