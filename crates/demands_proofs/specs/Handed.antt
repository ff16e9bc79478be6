-- Document 02, "Three": cutting halves the signed value, so that whatever is cut from a right-handed base is right-handed. Assumes nothing.
use Rattle.std.specs.Prelude.{◌≡◌, Bool, length, ◌*ℤ◌, ◌<ℤ◌, eqb}
use Rattle.std.proofs.Math.Path.{refl, ap, fun_ext}
use Rattle.std.proofs.Common.{sym, ◌∙◌, arith}
use Rattle.std.proofs.Math.Bool.{true, false, cond}
use mathlib.Core.List.{List, [], ◌∷◌}
use Prim.Native.Nat.{ℕ, ◌≤◌, ◌<◌}
use Rattle.std.proofs.Math.IntN.{pos}
use Rattle.laws.specs.Below.{put_at}
use Rattle.piece_edges.specs.Edges.{low_slot, high_slot, slots_small}
use Rattle.piece.specs.Shape.{slot_a, slot_b, last_generation}
use Rattle.grid.specs.Places.{Point, point_of}
use Rattle.grid.specs.Corners.{Midpoint}
use Rattle.grid_volume.specs.Volume.{signed_of}
use Rattle.grid_volume.specs.VolumeTheorems.{half_signed, midpoint_turned}
use Rattle.grid_volume.specs.Handed.{half_positive}
use Rattle.check_meaning.specs.Bases.{slots_apart}
use Rattle.cuts_names.specs.Names.{Name}
use Rattle.cuts_names.specs.Pieces.{Piece, Side, low, high, Node, generation, kid, child, child_with, end_at, piece_at, piece_down, makes}
use Rattle.cuts_names.specs.Macro.{edge_below}
use Rattle.cuts_names.proofs.Macro.{node_valid}
use Rattle.demands_words.specs.Words.{BaseMesh, named, ProperlyMarked, place_of, signed_at}
use Rattle.demands_proofs.specs.MarkedBase.{properly_marked}
use Rattle.demands_proofs.specs.Exact.{exact_halfway}

module _ (b : BaseMesh) where
  -- Where the corners of a piece stand.
  abbrev standing : Piece Name → ℕ → Point
  standing p k = point_of (place_of b (p.corner k))

  -- A child's stand as the piece's do, but that the new vertex is in the slot of an end.
  child_stands : (p : Piece Name) (side : Side) → standing (child p side) ≡ put_at (end_at p.shape side) (point_of (place_of b (makes p))) (standing p)
  unfolding child child_with
  child_stands p side = fun_ext (λ j. picked (eqb j (end_at p.shape side)) (makes p) (p.corner j))
    where
      picked : (here : Bool) (x y : Name) → point_of (place_of b (cond here x y)) ≡ cond here (point_of (place_of b x)) (point_of (place_of b y))
      picked true x y = refl
      picked false x y = refl

  -- Where the new vertex stands halfway, each child has half the value.
  half_of : (p : Piece Name) (side : Side) → p.shape.edge < 6 →
      Midpoint (point_of (place_of b (makes p))) (standing p (low_slot p.shape.edge)) (standing p (high_slot p.shape.edge)) →
      pos 2 *ℤ signed_of (put_at (end_at p.shape side) (point_of (place_of b (makes p))) (standing p)) ≡ signed_of (standing p)
  unfolding slot_a slot_b
  half_of p low l m =
      let e = p.shape.edge in
      half_signed (standing p) (point_of (place_of b (makes p))) (low_slot e) (high_slot e) (slots_small e).0 (slots_small e).1 (slots_apart e l) m
  half_of p high l m =
      let e = p.shape.edge in
      let w = point_of (place_of b (makes p)) in
      half_signed (standing p) w (high_slot e) (low_slot e) (slots_small e).1 (slots_small e).0 (λ q. slots_apart e l (sym q)) (midpoint_turned w (standing p (low_slot e)) (standing p (high_slot e)) m)

  module _ (marked : ProperlyMarked b) where
    -- "a child's signed value is exactly half of its parent's": of every cut of every piece that cutting the base can give
    pub halved : (n : Node) → n.root < b.pieces → generation n < last_generation → (side : Side) → pos 2 *ℤ signed_at b (kid n side) ≡ signed_at b n
    unfolding signed_at piece_at piece_down
    halved n h g side =
        let p = piece_at (named b) n in
        ap (λ (f : ℕ → Point). pos 2 *ℤ signed_of f) (child_stands p side)
        ∙ half_of p side (edge_below p.shape (node_valid (properly_marked b marked) n h)) (exact_halfway b marked n h g)

    -- So each of them is right-handed, as the base is.
    pub right_handed : (n : Node) → n.root < b.pieces → generation n ≤ last_generation → pos 0 <ℤ signed_at b n
    unfolding signed_at piece_at piece_down place_of
    right_handed n h = down n.path
      where
        at : List Side → Node
        at path = record { root = n.root; path = path }

        base : pos 0 <ℤ signed_at b (at [])
        base = (marked.pieces n.root h).right_handed

        down : (path : List Side) → length path ≤ last_generation → pos 0 <ℤ signed_at b (at path)
        down [] l = base
        down (side ∷ path) l =
            half_positive (signed_at b (at path)) (signed_at b (at (side ∷ path))) (halved (at path) h (omega arith) side) (down path (omega arith))
