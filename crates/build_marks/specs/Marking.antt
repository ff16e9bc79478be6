-- Document 01, "Build and refine": how a plain piece is marked; document 02, "Three": that it is made right-handed before.
use Rattle.std.specs.Prelude.{Bool, true, not, cond, ◌&&◌, List, [], ◌∷◌, ℕ, ◌+◌, ◌*◌, get_or, ℤ, pos, nat_abs, ◌+ℤ◌}
use Rattle.laws.specs.Below.{any_below, first_below}
use Rattle.piece.specs.declared.Piece.{Piece}
use Rattle.piece_edges.specs.Edges.{on_face}
use Rattle.piece.specs.Ends.{corner_at, ends_of}
use Rattle.grid.specs.declared.Place.{Place}
use Rattle.grid_lengths.specs.declared.Ranked.{Ranked}
use Rattle.grid.specs.Places.{Point, shift, point_of}
use Rattle.grid_volume.specs.Volume.{left_handed}
use Rattle.grid_lengths.specs.Lengths.{squared_length, ranks_before}
use Rattle.stored.specs.declared.Vertex.{Vertex}
use Rattle.stored.specs.declared.Record.{Record}
use Rattle.stored.specs.Layout.{none}

-- The place of a coordinate: 32,768 more.
abbrev pub place_for : ℤ → ℕ
place_for z = nat_abs (z +ℤ pos shift)

-- Where vertex v stands: three coordinates a vertex. Past the end a coordinate is 0.
unfoldable pub plain_place : List ℤ → ℕ → Place
plain_place coordinates v =
    record {
      x = place_for (get_or coordinates (3 * v) (pos 0));
      y = place_for (get_or coordinates (3 * v + 1) (pos 0));
      z = place_for (get_or coordinates (3 * v + 2) (pos 0));
    }

-- "Base vertices [..] have 65,535 for both parents.": none
unfoldable pub plain_vertex : List ℤ → ℕ → Vertex
plain_vertex coordinates v = record { place = plain_place coordinates v; p = none; q = none }

-- Piece n's corners, four a piece, not marked yet. Build is given no material: 0.
unfoldable pub plain_piece : List ℕ → ℕ → Piece
plain_piece corners n =
    record {
      corners = get_or corners (4 * n) 0 ∷ get_or corners (4 * n + 1) 0 ∷ get_or corners (4 * n + 2) 0 ∷ get_or corners (4 * n + 3) 0 ∷ [];
      edge = 0;
      marks = 0 ∷ 0 ∷ 0 ∷ 0 ∷ [];
      flag = 0;
      generation = 0;
      material = 0;
    }

-- Where the corner in slot k of a piece stands.
abbrev pub plain_point : List ℤ → Piece → ℕ → Point
plain_point coordinates p k = point_of (plain_place coordinates (corner_at p k))

-- "exchanging its last two corners": those in slots 2 and 3
unfoldable pub last_exchanged : Piece → Piece
last_exchanged p =
    record {
      corners = corner_at p 0 ∷ corner_at p 1 ∷ corner_at p 3 ∷ corner_at p 2 ∷ [];
      edge = p.edge;
      marks = p.marks;
      flag = p.flag;
      generation = p.generation;
      material = p.material;
    }

-- "Build takes a left-handed piece by exchanging its last two corners before marking."
unfoldable pub righted_piece : List ℤ → Piece → Piece
righted_piece coordinates p = cond (left_handed (plain_point coordinates p)) (last_exchanged p) p

-- Edge e of a piece as it is ranked.
unfoldable pub rank_of : List ℤ → Piece → ℕ → Ranked
rank_of coordinates p e =
    record {
      length = squared_length (point_of (plain_place coordinates (ends_of p e).lower)) (point_of (plain_place coordinates (ends_of p e).higher));
      lower = (ends_of p e).lower;
      higher = (ends_of p e).higher;
    }

-- Of the edges of which among holds, some edge ranks before e.
unfoldable pub outranked : List ℤ → Piece → (ℕ → Bool) → ℕ → Bool
outranked coordinates p among e = any_below 6 (λ f. among f && ranks_before (rank_of coordinates p f) (rank_of coordinates p e))

-- The first-ranked of the edges of which among holds.
unfoldable pub first_ranked : List ℤ → Piece → (ℕ → Bool) → ℕ
first_ranked coordinates p among = first_below 6 (λ e. among e && not (outranked coordinates p among e))

-- "The refinement edge is the first-ranked of the piece, a face's mark the first-ranked of the face. Flags are 0, generations 0."
unfoldable pub marked_piece : List ℤ → Piece → Piece
marked_piece coordinates p =
    record {
      corners = p.corners;
      edge = first_ranked coordinates p (λ e. true);
      marks =
          first_ranked coordinates p (λ e. on_face e 0)
          ∷ first_ranked coordinates p (λ e. on_face e 1)
          ∷ first_ranked coordinates p (λ e. on_face e 2)
          ∷ first_ranked coordinates p (λ e. on_face e 3)
          ∷ [];
      flag = 0;
      generation = 0;
      material = p.material;
    }

-- Piece n as it is stored: first made right-handed, then marked.
unfoldable pub plain_record : List ℤ → List ℕ → ℕ → Record
plain_record coordinates corners n = record { piece = marked_piece coordinates (righted_piece coordinates (plain_piece corners n)); first_child = none }
