-- Values whose numbers fit their stored widths, and arrays that are as long as they are declared: what a reader gives, and what a
-- writer keeps whole.
use Rattle.std.specs.Prelude.{◌≡◌, refl, Bool, true, false, cond, ◌&&◌, ◌⊎◌, List, [], length, get_or, take, drop, eqb, ltb, leb}
use Rattle.std.proofs.Common.{sym, arith, lit<}
use Rattle.std.proofs.lemmas.Bool.{false≢true}
use Rattle.std.proofs.Math.Logic.{inl, inr, ⊎_elim}
use Prim.Native.Nat.{ℕ, zero, suc, ◌+◌, ◌-◌, ◌*◌, ◌^◌, ◌≤◌, ◌<◌}
use Rattle.std.proofs.lemmas.List.Edits.{sets}
use borrow.Author.Tests.{eq-eqb, ne_eqb, eqb-true, eqb-false, lt-ltb, ltb-true}
use Rattle.laws.specs.Below.{either, and_left, and_right}
use Rattle.laws.specs.Lists.{Bytes, bytes_none, bytes_cons, bytes_drop, bytes_take, bytes_sets}
use Rattle.laws.specs.Numbers.{number, number_below}
use Rattle.stored.specs.declared.Format.{Format}
use Rattle.stored.specs.declared.Kind.{Kind}
use Rattle.stored.specs.declared.Table.{Table}
use Rattle.stored.specs.declared.Layout.{Layout}
use Rattle.stored.specs.declared.Header.{Header}
use Rattle.stored.specs.declared.Vertex.{Vertex}
use Rattle.stored.specs.declared.Record.{Record}
use Rattle.stored.specs.Layout.{none, stored_none, last_round, round_after, or_none, stored_or_none, u16_at, number_width, number_at, header_from, vertex_from, corners_from, edge_at, material_from, record_from, held_in, base_into, grown_into, vertex_in, record_in, RightKind, numbers_reach}

-- A u16 and a u32, as the mesh stores them, and a number as its format has it.
abbrev pub U16 : ℕ → Type 0
U16 n = n < 65536

abbrev pub U32 : ℕ → Type 0
U32 n = n < 4294967296

abbrev pub Number : Format → ℕ → Type 0
Number f n = n < 256 ^ number_width f

-- A vertex or record number: none, or one that is stored as it is.
abbrev pub OrNone : Format → ℕ → Type 0
OrNone f n = (n ≡ none) ⊎ (n < stored_none f)

pub record HeaderFits (f : Format) (h : Header) : Type 0 where
  pub job : U32 h.job
  pub round : U16 h.round
  pub base_vertices : Number f h.base_vertices
  pub vertices : Number f h.vertices
  pub base_records : Number f h.base_records
  pub records : Number f h.records

-- The round after one that is not the last is 1 more; it is a u16 always.
pub round_rises : (round : ℕ) → round < last_round → round_after round ≡ round + 1
round_rises round l = rw (lt-ltb round last_round l)

pub round_fits : (round : ℕ) → U16 (round_after round)
round_fits round = go (ltb round last_round) (ltb-true round last_round)
  where
    go : (b : Bool) → (b ≡ true → round < last_round) → U16 (cond b (round + 1) 0)
    go true l = let below = l refl in omega arith
    go false l = lit< tt

pub record VertexFits (f : Format) (v : Vertex) : Type 0 where
  pub x : U16 v.place.x
  pub y : U16 v.place.y
  pub z : U16 v.place.z
  pub p : OrNone f v.p
  pub q : OrNone f v.q

-- Document 02: "a material from 0 to 255"; where none is stored, 0.
pub record MaterialFits (stored : Bool) (m : ℕ) : Type 0 where
  pub byte : m < 256
  pub none : stored ≡ false → m ≡ 0

pub record RecordFits (f : Format) (r : Record) : Type 0 where
  pub four_corners : length r.piece.corners ≡ 4
  pub corners : (k : ℕ) → OrNone f (get_or r.piece.corners k 0)
  pub edge : r.piece.edge < 256
  pub four_marks : length r.piece.marks ≡ 4
  pub marks : Bytes r.piece.marks
  pub flag : r.piece.flag < 256
  pub generation : r.piece.generation < 256
  pub first_child : OrNone f r.first_child
  pub material : MaterialFits f.material r.piece.material

-- ---- the widths

-- A number has some bytes, and none of memory's is no smaller than the stored one.
pub some_bytes : (f : Format) → 65536 ≤ 256 ^ number_width f
some_bytes f = go f.wide
  where
    go : (b : Bool) → 65536 ≤ 256 ^ cond b 4 2
    go true = omega arith
    go false = omega arith

pub stored_none_small : (f : Format) → stored_none f ≤ none
stored_none_small f = go f.wide
  where
    go : (b : Bool) → 256 ^ cond b 4 2 - 1 ≤ none
    go true = omega arith
    go false = omega arith

pub number_is_u32 : (f : Format) (n : ℕ) → Number f n → U32 n
number_is_u32 f n h = let s = stored_none_small f in omega arith

pub u16_is_number : (f : Format) (n : ℕ) → U16 n → Number f n
u16_is_number f n h = let s = some_bytes f in omega arith

pub number_narrow : (f : Format) → 2 ≤ number_width f
number_narrow f = go f.wide
  where
    go : (b : Bool) → 2 ≤ cond b 4 2
    go true = omega arith
    go false = omega arith

pub number_wide : (f : Format) → number_width f ≤ 4
number_wide f = go f.wide
  where
    go : (b : Bool) → cond b 4 2 ≤ 4
    go true = omega arith
    go false = omega arith

-- ---- none, stored and read: each undoes the other

module _ (f : Format) where
  pub or_none_fits : (n : ℕ) → Number f n → OrNone f (or_none f n)
  unfolding or_none
  or_none_fits n h =
      ⊎_elim
      (λ t. inl (rw t))
      (λ g. let other : n < stored_none f = omega (arith, eqb-false n (stored_none f) g) in inr (rw g other))
      (either (eqb n (stored_none f)))

  pub stored_or_none_lem : (n : ℕ) → Number f n → stored_or_none f (or_none f n) ≡ n
  unfolding or_none stored_or_none
  stored_or_none_lem n h =
      let small = stored_none_small f in
      ⊎_elim
      (λ t. rw t (sym (eqb-true n (stored_none f) t)))
      (λ g. let other = eqb-false n (stored_none f) g in rw (g, ne_eqb n none (λ e. omega arith)))
      (either (eqb n (stored_none f)))

  -- what is read as a number was stored as that number
  pub or_none_small : (n : ℕ) → Number f n → or_none f n < stored_none f → n < stored_none f
  unfolding or_none
  or_none_small n u h =
      let small = stored_none_small f in
      ⊎_elim
      (λ t. let big : none < stored_none f = rw t at h in absurd (omega arith))
      (λ g. omega (arith, eqb-false n (stored_none f) g))
      (either (eqb n (stored_none f)))

  -- a number below memory's none is stored as it is
  pub stored_same : (n : ℕ) → n < none → stored_or_none f n ≡ n
  unfolding stored_or_none
  stored_same n h = rw (ne_eqb n none (λ e. omega arith))

  pub or_none_stored : (n : ℕ) → OrNone f n → or_none f (stored_or_none f n) ≡ n
  unfolding or_none stored_or_none
  or_none_stored n (inl e) = rw (eq-eqb n none e, eq-eqb (stored_none f) (stored_none f) refl) (sym e)
  or_none_stored n (inr l) = let small = stored_none_small f in rw (ne_eqb n none (λ e. omega arith), ne_eqb n (stored_none f) (λ e. omega arith))

  pub stored_number_fits : (n : ℕ) → OrNone f n → Number f (stored_or_none f n)
  unfolding stored_or_none
  stored_number_fits n (inl e) = let some = some_bytes f in rw (eq-eqb n none e) (omega arith)
  stored_number_fits n (inr l) = let small = stored_none_small f in rw (ne_eqb n none (λ e. omega arith)) (omega arith)

-- ---- what is read from bytes fits

module _ (s : List ℕ) (b : Bytes s) where
  pub u16_fits : (at : ℕ) → U16 (u16_at s at)
  u16_fits at = number_below 2 (drop at s) (bytes_drop at s b)

  pub u32_fits : (at : ℕ) → number 4 (drop at s) < 4294967296
  u32_fits at = number_below 4 (drop at s) (bytes_drop at s b)

  module _ (f : Format) where
    pub number_fits : (at : ℕ) → Number f (number_at f s at)
    number_fits at = number_below (number_width f) (drop at s) (bytes_drop at s b)

    pub read_fits : (at : ℕ) → OrNone f (or_none f (number_at f s at))
    read_fits at = or_none_fits f (number_at f s at) (number_fits at)

    pub header_fits : HeaderFits f (header_from f s)
    unfolding header_from
    header_fits =
        record {
          job = u32_fits 5;
          round = u16_fits 9;
          base_vertices = number_fits 11;
          vertices = number_fits (11 + number_width f * 1);
          base_records = number_fits (11 + number_width f * 2);
          records = number_fits (11 + number_width f * 3);
        }

    pub vertex_from_fits : VertexFits f (vertex_from f s)
    unfolding vertex_from
    vertex_from_fits = record { x = omega arith; y = omega arith; z = omega arith; p = read_fits 6; q = read_fits (6 + number_width f) }

    pub material_from_fits : MaterialFits f.material (material_from f s)
    material_from_fits = go f.material
      where
        go : (c : Bool) → MaterialFits c (cond c (get_or s (edge_at f + (7 + number_width f)) 0) 0)
        go true = record { byte = b.byte (edge_at f + (7 + number_width f)); none = λ e. absurd (false≢true (sym e)) }
        go false = record { byte = lit< tt; none = λ e. refl }

    pub record_from_fits : RecordFits f (record_from f s)
    unfolding record_from
    record_from_fits =
        record {
          four_corners = refl;
          corners = λ k. corner k;
          edge = b.byte (edge_at f + 0);
          four_marks = refl;
          marks = bytes_cons (b.byte (edge_at f + 1)) (bytes_cons (b.byte (edge_at f + 2)) (bytes_cons (b.byte (edge_at f + 3)) (bytes_cons (b.byte (edge_at f + 4)) bytes_none)));
          flag = b.byte (edge_at f + 5);
          generation = b.byte (edge_at f + 6);
          first_child = read_fits (edge_at f + 7);
          material = material_from_fits;
        }
      where
        corner : (k : ℕ) → OrNone f (get_or (corners_from f s) k 0)
        corner zero = read_fits (number_width f * 0)
        corner (suc zero) = read_fits (number_width f * 1)
        corner (suc (suc zero)) = read_fits (number_width f * 2)
        corner (suc (suc (suc zero))) = read_fits (number_width f * 3)
        corner (suc (suc (suc (suc k)))) = inr (let some = some_bytes f in omega arith)

pub held_is_bytes : (t : Table) (base grown : List ℕ) (i : ℕ) → Bytes base → Bytes grown → Bytes (held_in t base grown i)
unfolding held_in
held_is_bytes t base grown i b g = go (ltb i t.end) (ltb i t.count)
  where
    go : (e c : Bool) → Bytes (cond e (cond c (take t.width (drop (t.width * i) (drop t.base base))) (take t.width (drop (t.width * (i - t.count)) (drop t.grown grown)))) [])
    go false c = bytes_none
    go true true = bytes_take t.width (drop (t.width * i) (drop t.base base)) (bytes_drop (t.width * i) (drop t.base base) (bytes_drop t.base base b))
    go true false = bytes_take t.width (drop (t.width * (i - t.count)) (drop t.grown grown)) (bytes_drop (t.width * (i - t.count)) (drop t.grown grown) (bytes_drop t.grown grown g))

-- what is written is bytes, where the entry is
pub into_base_bytes : (t : Table) (s : List ℕ) (i : ℕ) (bytes : List ℕ) → Bytes s → Bytes bytes → Bytes (base_into t s i bytes)
unfolding base_into
into_base_bytes t s i bytes p q = go (ltb i t.end && ltb i t.count)
  where
    go : (b : Bool) → Bytes (cond b (sets s (t.base + t.width * i) bytes) s)
    go true = bytes_sets s (t.base + t.width * i) bytes p q
    go false = p

pub into_growth_bytes : (t : Table) (s : List ℕ) (i : ℕ) (bytes : List ℕ) → Bytes s → Bytes bytes → Bytes (grown_into t s i bytes)
unfolding grown_into
into_growth_bytes t s i bytes p q = go (ltb i t.end && leb t.count i)
  where
    go : (b : Bool) → Bytes (cond b (sets s (t.grown + t.width * (i - t.count)) bytes) s)
    go true = bytes_sets s (t.grown + t.width * (i - t.count)) bytes p q
    go false = p

module _ (l : Layout) (base grown : List ℕ) (b : Bytes base) (g : Bytes grown) (i : ℕ) where
  pub vertex_fits : VertexFits l.format (vertex_in l base grown i)
  unfolding vertex_in
  vertex_fits = vertex_from_fits (held_in l.vertices base grown i) (held_is_bytes l.vertices base grown i b g) l.format

  pub record_fits : RecordFits l.format (record_in l base grown i)
  unfolding record_in
  record_fits = record_from_fits (held_in l.records base grown i) (held_is_bytes l.records base grown i b g) l.format

-- ---- how far a kind's numbers reach

pub right_reaches : (k : Kind) → RightKind k → numbers_reach k ≡ true
unfolding numbers_reach
right_reaches k right = rw (lt-ltb (k.limits.vertices + 1) (stored_none k.format) right.vertices, lt-ltb (k.limits.records + 2) (stored_none k.format) right.records)

pub reached : (k : Kind) → numbers_reach k ≡ true → (k.limits.vertices + 1 < stored_none k.format) × (k.limits.records + 2 < stored_none k.format)
unfolding numbers_reach
reached k e =
    let vertices = ltb (k.limits.vertices + 1) (stored_none k.format) in
    let records = ltb (k.limits.records + 2) (stored_none k.format) in
    (ltb-true (k.limits.vertices + 1) (stored_none k.format) (and_left vertices records e), ltb-true (k.limits.records + 2) (stored_none k.format) (and_right vertices records e))
