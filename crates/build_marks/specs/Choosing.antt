-- The first-ranked edge is found by going through the edges in the order of their codes, with each edge's rank taken once.
-- Assumes nothing.
use Rattle.std.specs.Prelude.{◌≡◌, cond, ◌&&◌, List, [], ◌∷◌, ltb, ℤ, get_or}
use Rattle.std.proofs.Math.Path.{refl, sym}
use Rattle.std.proofs.Common.{ap, ◌∙◌, subst, true≢false, le_refl, eq-or-lt_of_le, le_of_suc-le-suc, arith}
use Rattle.std.proofs.Math.Logic.{⊎_elim}
use Rattle.std.proofs.Math.Bool.{Bool, true, false, not}
use Prim.Native.Nat.{ℕ, suc, ◌<◌}
use Rattle.laws.specs.Below.{fold_below, any_below, any_fails_at, any_fails, any_is, first_is, either}
use Rattle.piece_edges.specs.Edges.{low_slot, high_slot, has_slot, on_face}
use Rattle.piece.specs.declared.Piece.{Piece}
use Rattle.piece.specs.declared.Ends.{Ends}
use Rattle.piece.specs.Ends.{corner_at, between, lower_end, higher_end, ends_of}
use Rattle.grid.specs.declared.Place.{Place}
use Rattle.grid.specs.Places.{point_of}
use Rattle.grid_lengths.specs.declared.Ranked.{Ranked}
use Rattle.grid_lengths.specs.Lengths.{squared_length, ranks_before}
use Rattle.grid_lengths.specs.LengthLaws.{squared_length_swap}
use Rattle.grid_lengths.specs.RankingTheorems.{irreflexive, transitive, before_others}
use Rattle.build_marks.specs.declared.Edge.{Edge}
use Rattle.build_marks.specs.Marking.{plain_place, rank_of, outranked, first_ranked, marked_piece}

-- ---- an edge with its rank

-- The edge with this code between vertices u and v, which stand at a and b.
unfoldable pub edge_for : ℕ → ℕ → ℕ → Place → Place → Edge
edge_for code u v a b =
    record {
      code = code;
      rank = record { length = squared_length (point_of a) (point_of b); lower = (between u v).lower; higher = (between u v).higher };
    }

-- Of the six edges the one with code e.
abbrev pub edge_at : List Edge → ℕ → Edge
edge_at edges e = get_or edges e (record { code = 0; rank = record { length = 0; lower = 0; higher = 0 } })

-- Edge e of a piece.
abbrev pub edge_of : List ℤ → Piece → ℕ → Edge
edge_of coordinates p e = record { code = e; rank = rank_of coordinates p e }

pub edge_is : (coordinates : List ℤ) (p : Piece) (e : ℕ) →
    let u = corner_at p (low_slot e) in
    let v = corner_at p (high_slot e) in
    edge_for e u v (plain_place coordinates u) (plain_place coordinates v) ≡ edge_of coordinates p e
unfolding edge_for between rank_of ends_of lower_end higher_end
edge_is coordinates p e = go (ltb (corner_at p (low_slot e)) (corner_at p (high_slot e)))
  where
    at : ℕ → Place
    at k = plain_place coordinates (corner_at p k)

    ends : Bool → Ends
    ends b = let j = corner_at p (low_slot e) in let k = corner_at p (high_slot e) in cond b (record { lower = j; higher = k }) (record { lower = k; higher = j })

    go : (b : Bool) →
        let j = low_slot e in
        let k = high_slot e in
        ◌≡◌ {A = Edge}
        (record { code = e; rank = record { length = squared_length (point_of (at j)) (point_of (at k)); lower = (ends b).lower; higher = (ends b).higher } })
        (record { code = e; rank = record { length = squared_length (point_of (at (cond b j k))) (point_of (at (cond b k j))); lower = corner_at p (cond b j k); higher = corner_at p (cond b k j) } })
    go true = refl
    go false =
        λ i. record {
          code = e;
          rank = record { length = squared_length_swap (point_of (at (low_slot e))) (point_of (at (high_slot e))) i; lower = corner_at p (high_slot e); higher = corner_at p (low_slot e) };
        }

-- Of two edges the one that ranks first, and the former where neither ranks before the other.
unfoldable pub first_of : Edge → Edge → Edge
first_of a b = cond (ranks_before b.rank a.rank) b a

-- ---- the first of those that have been gone through

module _ (coordinates : List ℤ) (p : Piece) (among : ℕ → Bool) where
  -- Edge f ranks before edge e.
  abbrev earlier : ℕ → ℕ → Bool
  earlier f e = ranks_before (rank_of coordinates p f) (rank_of coordinates p e)

  -- x is the first-ranked of those below n, of which among holds: none of them ranks before it, and it ranks before all before it.
  pub record First (n : ℕ) (x : Edge) : Type 0 where
    pub edge : x ≡ edge_of coordinates p x.code
    pub below : x.code < n
    pub is : among x.code ≡ true
    pub none : (f : ℕ) → f < n → among f ≡ true → earlier f x.code ≡ false
    pub all : (e : ℕ) → e < x.code → among e ≡ true → earlier x.code e ≡ true

  itself : (e : ℕ) → earlier e e ≡ false
  itself e = ⊎_elim (λ t. absurd (irreflexive (rank_of coordinates p e) t)) (λ f. f) (either (earlier e e))

  -- Of a number below suc n: what holds at n, and what holds below.
  at_or_below : (Q : ℕ → Type 0) (n : ℕ) → Q n → ((f : ℕ) → f < n → Q f) → (f : ℕ) → f < suc n → Q f
  at_or_below Q n here before f l = ⊎_elim (λ q. subst Q (sym q) here) (before f) (eq-or-lt_of_le (le_of_suc-le-suc l))

  -- The lowest of them is the first so far.
  start : (n : ℕ) → among n ≡ true → any_below n among ≡ false → First (suc n) (edge_of coordinates p n)
  start n here before =
      record {
        edge = refl;
        below = le_refl (suc n);
        is = here;
        none = at_or_below (λ f. among f ≡ true → earlier f n ≡ false) n (λ a. itself n) (λ f l a. absurd (true≢false (sym a ∙ any_fails_at among n f before l)));
        all = λ e l a. absurd (true≢false (sym a ∙ any_fails_at among n e before l));
      }

  -- One that is not among them is passed over.
  skip : (n : ℕ) {x : Edge} → First n x → among n ≡ false → First (suc n) x
  skip n {x} r out =
      record {
        edge = r.edge;
        below = omega (arith, r.below);
        is = r.is;
        none = at_or_below (λ f. among f ≡ true → earlier f x.code ≡ false) n (λ a. absurd (true≢false (sym a ∙ out))) r.none;
        all = r.all;
      }

  -- One of them is compared with the first so far.
  next : (n : ℕ) {x : Edge} → First n x → among n ≡ true → First (suc n) (first_of x (edge_of coordinates p n))
  unfolding first_of
  next n {x} r here = go (ranks_before (rank n) x.rank) (ap (λ (y : Edge). ranks_before (rank n) y.rank) (sym r.edge))
    where
      rank : ℕ → Ranked
      rank e = rank_of coordinates p e

      go : (b : Bool) → earlier n x.code ≡ b → First (suc n) (cond b (edge_of coordinates p n) x)
      go true t =
          record {
            edge = refl;
            below = le_refl (suc n);
            is = here;
            none =
                at_or_below (λ f. among f ≡ true → earlier f n ≡ false) n (λ a. itself n)
                (λ f l a. ⊎_elim (λ u. absurd (true≢false (sym (transitive (rank f) (rank n) (rank x.code) u t) ∙ r.none f l a))) (λ u. u) (either (earlier f n)));
            all = λ e l a. before_others (rank n) (rank x.code) (rank e) t (r.none e l a);
          }
      go false t =
          record {
            edge = r.edge;
            below = omega (arith, r.below);
            is = r.is;
            none = at_or_below (λ f. among f ≡ true → earlier f x.code ≡ false) n (λ a. t) r.none;
            all = r.all;
          }

  -- The first of all six is the first-ranked.
  end : {x : Edge} → First 6 x → x.code ≡ first_ranked coordinates p among
  unfolding first_ranked outranked
  end {x} r =
      sym (first_is (λ e. among e && not (any_below 6 (λ f. among f && earlier f e))) 6 x.code r.below
      (any_fails (λ e. among e && not (any_below 6 (λ f. among f && earlier f e))) x.code (λ e l. ⊎_elim (behind e l) (λ a. rw a) (either (among e))))
      (rw (r.is, any_fails (λ f. among f && earlier f x.code) 6 (λ f l. ⊎_elim (λ a. rw a (r.none f l a)) (λ a. rw a) (either (among f))))))
    where
      behind : (e : ℕ) → e < x.code → among e ≡ true → (among e && not (any_below 6 (λ f. among f && earlier f e))) ≡ false
      behind e l a = rw (a, any_is (λ f. among f && earlier f e) 6 x.code r.below (rw r.is (r.all e l a)))

-- ---- the piece

-- The marked piece with these corners, this material and these edges.
unfoldable pub marked_by : List ℕ → ℕ → Edge → Edge → Edge → Edge → Edge → Edge → Piece
marked_by corners material a b c d e f =
    record {
      corners = corners;
      edge = (first_of (first_of (first_of (first_of (first_of a b) c) d) e) f).code;
      marks = (first_of (first_of d e) f).code ∷ (first_of (first_of b c) f).code ∷ (first_of (first_of a c) e).code ∷ (first_of (first_of a b) d).code ∷ [];
      flag = 0;
      generation = 0;
      material = material;
    }

module _ (coordinates : List ℤ) (p : Piece) where
  abbrev edge : ℕ → Edge
  edge e = edge_of coordinates p e

  piece_first : (first_of (first_of (first_of (first_of (first_of (edge 0) (edge 1)) (edge 2)) (edge 3)) (edge 4)) (edge 5)).code ≡ first_ranked coordinates p (λ e. true)
  unfolding any_below fold_below
  piece_first = let on : ℕ → Bool = λ e. true in end coordinates p on (next coordinates p on 5 (next coordinates p on 4 (next coordinates p on 3 (next coordinates p on 2 (next coordinates p on 1 (start coordinates p on 0 refl refl) refl) refl) refl) refl) refl)

  face_0_first : (first_of (first_of (edge 3) (edge 4)) (edge 5)).code ≡ first_ranked coordinates p (λ e. on_face e 0)
  unfolding any_below fold_below on_face has_slot low_slot high_slot
  face_0_first = let on : ℕ → Bool = λ e. on_face e 0 in end coordinates p on (next coordinates p on 5 (next coordinates p on 4 (start coordinates p on 3 refl refl) refl) refl)

  face_1_first : (first_of (first_of (edge 1) (edge 2)) (edge 5)).code ≡ first_ranked coordinates p (λ e. on_face e 1)
  unfolding any_below fold_below on_face has_slot low_slot high_slot
  face_1_first = let on : ℕ → Bool = λ e. on_face e 1 in end coordinates p on (next coordinates p on 5 (skip coordinates p on 4 (skip coordinates p on 3 (next coordinates p on 2 (start coordinates p on 1 refl refl) refl) refl) refl) refl)

  face_2_first : (first_of (first_of (edge 0) (edge 2)) (edge 4)).code ≡ first_ranked coordinates p (λ e. on_face e 2)
  unfolding any_below fold_below on_face has_slot low_slot high_slot
  face_2_first = let on : ℕ → Bool = λ e. on_face e 2 in end coordinates p on (skip coordinates p on 5 (next coordinates p on 4 (skip coordinates p on 3 (next coordinates p on 2 (skip coordinates p on 1 (start coordinates p on 0 refl refl) refl) refl) refl) refl) refl)

  face_3_first : (first_of (first_of (edge 0) (edge 1)) (edge 3)).code ≡ first_ranked coordinates p (λ e. on_face e 3)
  unfolding any_below fold_below on_face has_slot low_slot high_slot
  face_3_first = let on : ℕ → Bool = λ e. on_face e 3 in end coordinates p on (skip coordinates p on 5 (skip coordinates p on 4 (next coordinates p on 3 (skip coordinates p on 2 (next coordinates p on 1 (start coordinates p on 0 refl refl) refl) refl) refl) refl) refl)

  pub marked_by_lem : marked_by p.corners p.material (edge 0) (edge 1) (edge 2) (edge 3) (edge 4) (edge 5) ≡ marked_piece coordinates p
  unfolding marked_by marked_piece
  marked_by_lem =
      λ i. record {
        corners = p.corners;
        edge = piece_first i;
        marks = face_0_first i ∷ face_1_first i ∷ face_2_first i ∷ face_3_first i ∷ [];
        flag = 0;
        generation = 0;
        material = p.material;
      }
