-- `check_pieces::judged_record`: each way out is one case of the definition, at what the calls return.
-- Assumes nothing.
use borrow.Author.Tests.{eq-eqb, ne_eqb}
use mathlib.Core.Path.{◌≡◌, sym, ap, ◌∙◌}
use mathlib.Core.Bool.{Bool}
use mathlib.Core.List.{List}
use Prim.Native.Nat.{ℕ}
use lib.IntN.{ℤ}
use lib.ListN.{get_or}
use mir.Syntax.{w64}
use mir.Val.{to_z, of_z, SFits}
use mir.Facts.{to_z-of_z}
use Rattle.laws.specs.Order.{first_broken}
use Rattle.grid.specs.Places.{point_of}
use Rattle.grid_volume.specs.Volume.{signed_of, is_flat, is_negative, left_handed, sixfold_of}
use Rattle.stored.specs.declared.Layout.{Layout}
use Rattle.stored.specs.Layout.{vertex_in, record_in}
use Rattle.mesh_tables.specs.Tables.{corner_point, sixfold_at}
use Rattle.check_refusals.specs.Refusals.{bad_corners, bad_piece, bad_base_record, left_handed_record}
use Rattle.check_pieces.specs.Pieces.{record_number}
use Rattle.check_pieces.proofs.judged_record.Goals as goal

-- What is found of what was read is so of what that is.
found_of : {A : Type 0} (test : A → Bool) {x y : A} {found : Bool} → found ≡ test x → x ≡ y → test y ≡ found
found_of test e same = sym (e ∙ ap test same)

-- The signed determinant, as it is held, is the record's.
value : (l : Layout) (base grown : List ℕ) (n : ℕ) {z : ℤ} {corners : List ℕ} → SFits w64 z → z ≡ signed_of (λ k. point_of (vertex_in l base grown (get_or corners k 0)).place) → corners ≡ (record_in l base grown n).piece.corners → to_z w64 (of_z w64 z) ≡ signed_of (corner_point (vertex_in l base grown) (record_in l base grown n).piece)
value l base grown n fits e same =
    to_z-of_z fits ∙ e ∙ (λ i. signed_of (λ k. point_of (vertex_in l base grown (get_or (same i) k 0)).place))

pub returns-then-bad_corners : goal.returns-then-bad_corners
unfolding record_number first_broken bad_base_record bad_piece
returns-then-bad_corners c =
    let corners = found_of (bad_corners c.args.mesh.now.header.base_vertices) c.bad_corners.ensures c.corners-corners.ensures in
    rw (corners ∙ c.if-bad_corners.true)

pub returns-then-is_flat : goal.returns-then-is_flat
unfolding record_number first_broken bad_base_record bad_piece sixfold_at sixfold_of
returns-then-is_flat c =
    let a = c.args in
    let corners = found_of (bad_corners a.mesh.now.header.base_vertices) c.bad_corners.ensures c.corners-corners.ensures in
    let is = value a.mesh.now.layout a.mesh.now.base.now a.mesh.now.grown.now a.n (record { sfits = c.signed_between-signed.type_inv }) c.signed_between-signed.ensures c.corners-corners.ensures in
    rw (corners ∙ c.if-bad_corners.false, found_of is_flat c.is_flat.ensures is ∙ c.if-is_flat.true)

pub returns-then-generation-ne0 : goal.returns-then-generation-ne0
unfolding record_number first_broken bad_base_record bad_piece sixfold_at sixfold_of
returns-then-generation-ne0 c =
    let a = c.args in
    let corners = found_of (bad_corners a.mesh.now.header.base_vertices) c.bad_corners.ensures c.corners-corners.ensures in
    let is = value a.mesh.now.layout a.mesh.now.base.now a.mesh.now.grown.now a.n (record { sfits = c.signed_between-signed.type_inv }) c.signed_between-signed.ensures c.corners-corners.ensures in
    rw (
      corners ∙ c.if-bad_corners.false,
      found_of is_flat c.is_flat.ensures is ∙ c.if-is_flat.false,
      ← c.generation.ensures,
      ne_eqb _ _ c.if-generation-ne0.true,
    )

pub returns-then-flag-ne0 : goal.returns-then-flag-ne0
unfolding record_number first_broken bad_base_record bad_piece sixfold_at sixfold_of
returns-then-flag-ne0 c =
    let a = c.args in
    let corners = found_of (bad_corners a.mesh.now.header.base_vertices) c.bad_corners.ensures c.corners-corners.ensures in
    let is = value a.mesh.now.layout a.mesh.now.base.now a.mesh.now.grown.now a.n (record { sfits = c.signed_between-signed.type_inv }) c.signed_between-signed.ensures c.corners-corners.ensures in
    rw (
      corners ∙ c.if-bad_corners.false,
      found_of is_flat c.is_flat.ensures is ∙ c.if-is_flat.false,
      ← c.generation.ensures,
      eq-eqb _ _ c.if-generation-ne0.false,
      ← c.flag.ensures,
      ne_eqb _ _ c.if-flag-ne0.true,
    )

pub returns-then-is_negative : goal.returns-then-is_negative
unfolding record_number first_broken bad_base_record bad_piece sixfold_at sixfold_of left_handed_record left_handed
returns-then-is_negative c =
    let a = c.args in
    let corners = found_of (bad_corners a.mesh.now.header.base_vertices) c.bad_corners.ensures c.corners-corners.ensures in
    let is = value a.mesh.now.layout a.mesh.now.base.now a.mesh.now.grown.now a.n (record { sfits = c.signed_between-signed.type_inv }) c.signed_between-signed.ensures c.corners-corners.ensures in
    rw (
      corners ∙ c.if-bad_corners.false,
      found_of is_flat c.is_flat.ensures is ∙ c.if-is_flat.false,
      ← c.generation.ensures,
      eq-eqb _ _ c.if-generation-ne0.false,
      ← c.flag.ensures,
      eq-eqb _ _ c.if-flag-ne0.false,
      found_of is_negative c.is_negative.ensures is ∙ c.if-is_negative.true,
    )

pub returns : goal.returns
unfolding record_number first_broken bad_base_record bad_piece sixfold_at sixfold_of left_handed_record left_handed
returns c =
    let a = c.args in
    let corners = found_of (bad_corners a.mesh.now.header.base_vertices) c.bad_corners.ensures c.corners-corners.ensures in
    let is = value a.mesh.now.layout a.mesh.now.base.now a.mesh.now.grown.now a.n (record { sfits = c.signed_between-signed.type_inv }) c.signed_between-signed.ensures c.corners-corners.ensures in
    rw (
      corners ∙ c.if-bad_corners.false,
      found_of is_flat c.is_flat.ensures is ∙ c.if-is_flat.false,
      ← c.generation.ensures,
      eq-eqb _ _ c.if-generation-ne0.false,
      ← c.flag.ensures,
      eq-eqb _ _ c.if-flag-ne0.false,
      found_of is_negative c.is_negative.ensures is ∙ c.if-is_negative.false,
    )
