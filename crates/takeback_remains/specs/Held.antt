-- The counts by which the code tells what remains: at each vertex how many records hold it, at each record how many keep it as a child.
use Rattle.std.specs.Prelude.{◌≡◌, refl, Bool, true, false, not, cond, ◌&&◌, ◌||◌, List, ℕ, ◌+◌, ◌≤◌, ◌<◌, length, replicate, eqb, ltb, leb}
use Rattle.std.proofs.Common.{sym, ap, ◌∙◌, ⊎_elim, arith, ltb-true, ltb-false, le-leb}
use Rattle.std.proofs.Math.Bool.{or-false}
use Rattle.std.proofs.lemmas.Bool.{lt-leb, not-true}
use Rattle.laws.specs.Below.{any_below, any_same, and_left, and_false, either}
use Rattle.laws.specs.Links.{counted_at, counted_long}
use Rattle.laws.specs.Counts.{counts_below, marked, counted_marked, Marking, counts_marked}
use Rattle.stored.specs.Layout.{none}
use Rattle.mesh_tables.specs.Tables.{Tables, base_vertices, all_vertices, base_records, all_records, uncut, is_cut}
use Rattle.check_refusals.specs.Refusals.{is_child_of}
use Rattle.takeback_remains.specs.Remains.{cut_vertex, freed, holds_vertex, taken_away, vertex_remains, stays_cut, record_remains, renumbered}
use Rattle.takeback_remains.specs.Numbers.{new_in, new_tells}

-- ---- what remains, by a table of counts

-- x is below the count, and is of the base or counted.
unfoldable pub remains_by : ℕ → ℕ → List ℕ → ℕ → Bool
remains_by count base counted x = ltb x count && (ltb x base || marked counted x)

pub remains_below : (count base : ℕ) (counted : List ℕ) (x : ℕ) → remains_by count base counted x ≡ true → x < count
unfolding remains_by
remains_below count base counted x h = ltb-true x count (and_left (ltb x count) (ltb x base || marked counted x) h)

-- What is made and not held goes: the same said by tests.
made_and_not : (x base : ℕ) (held : Bool) → (ltb x base || held) ≡ not (leb base x && not held)
made_and_not x base held =
    ⊎_elim
    (λ t. said true false t (lt-leb base x (ltb-true x base t)) refl)
    (λ f. said false true f (le-leb base x (ltb-false x base f)) (twice held))
    (either (ltb x base))
  where
    twice : (b : Bool) → b ≡ not (not b)
    twice true = refl
    twice false = refl

    said : (b d : Bool) → ltb x base ≡ b → leb base x ≡ d → (b || held) ≡ not (d && not held) → (ltb x base || held) ≡ not (leb base x && not held)
    said b d e f same = ap (λ (a : Bool). a || held) e ∙ same ∙ sym (ap (λ (a : Bool). not (a && not held)) f)

-- ---- vertices

-- One more at the vertex that record n is cut at, if it holds it.
unfoldable pub held_counted : Tables → (ℕ → Bool) → List ℕ → ℕ → List ℕ
held_counted m named held n =
    let more = counted_at held (cut_vertex m n) in
    cond (is_cut m n && not (freed m.record_at named n)) more held

pub held_marking : (m : Tables) (named : ℕ → Bool) → Marking (held_counted m named) (λ n v. holds_vertex m named v n)
unfolding held_counted holds_vertex
held_marking m named = record { long = long; marks = marks }
  where
    long : (t : List ℕ) (n : ℕ) → length (held_counted m named t n) ≡ length t
    long t n =
        ⊎_elim (λ h. rw h (counted_long t (cut_vertex m n))) (λ f. rw f) (either (is_cut m n && not (freed m.record_at named n)))

    marks : (t : List ℕ) (n v : ℕ) → v < length t → marked (held_counted m named t n) v ≡ (marked t v || holds_vertex m named v n)
    marks t n v l =
        ⊎_elim
        (λ h. rw h (counted_marked t (cut_vertex m n) v l))
        (λ f. rw f (sym (or-false (marked t v))))
        (either (is_cut m n && not (freed m.record_at named n)))

-- What all records count in a table of so many.
abbrev pub held_in : Tables → (ℕ → Bool) → ℕ → List ℕ
held_in m named size = counts_below (held_counted m named) (replicate size 0) (all_records m)

-- What it says of each vertex.
pub held_remains : (m : Tables) (named : ℕ → Bool) (size : ℕ) → all_vertices m ≤ size → remains_by (all_vertices m) (base_vertices m) (held_in m named size) ≡ vertex_remains m named
unfolding remains_by vertex_remains taken_away
held_remains m named size fits = λ i v. at v i
  where
    at : (v : ℕ) → remains_by (all_vertices m) (base_vertices m) (held_in m named size) v ≡ vertex_remains m named v
    at v =
        ⊎_elim
        (λ t.
        let there = ltb-true v (all_vertices m) t in
        rw (t, counts_marked (held_counted m named) (λ n u. holds_vertex m named u n) (held_marking m named) size (all_records m) v (omega (arith, fits)))
        (made_and_not v (base_vertices m) (any_below (all_records m) (holds_vertex m named v))))
        (λ f. rw f)
        (either (ltb v (all_vertices m)))

-- ---- records

-- Record n is cut, and the vertex that it is cut at has a new number.
unfoldable pub stays_by : Tables → List ℕ → ℕ → Bool
stays_by m vertices n = is_cut m n && not (eqb (new_in vertices (cut_vertex m n)) none)

stays_is_cut : (m : Tables) (vertices : List ℕ) (n : ℕ) → stays_by m vertices n ≡ true → uncut (m.record_at n) ≡ false
unfolding stays_by
stays_is_cut m vertices n h = not-true (uncut (m.record_at n)) (and_left (is_cut m n) (not (eqb (new_in vertices (cut_vertex m n)) none)) h)

-- Only vertices below their count remain.
pub vertex_below : (m : Tables) (named : ℕ → Bool) (v : ℕ) → vertex_remains m named v ≡ true → v < all_vertices m
unfolding vertex_remains
vertex_below m named v h = ltb-true v (all_vertices m) (and_left (ltb v (all_vertices m)) (not (taken_away m named v)) h)

pub record_below : (m : Tables) (named : ℕ → Bool) (c : ℕ) → record_remains m named c ≡ true → c < all_records m
unfolding record_remains
record_below m named c h = ltb-true c (all_records m) (and_left (ltb c (all_records m)) _ h)

stays_is : (m : Tables) (named : ℕ → Bool) (vertices : List ℕ) → all_vertices m ≤ none → new_in vertices ≡ renumbered (vertex_remains m named) → (n : ℕ) → stays_by m vertices n ≡ stays_cut m named n
unfolding stays_by stays_cut
stays_is m named vertices few say n =
    ap (λ (b : Bool). is_cut m n && b)
    (ap (λ (g : ℕ → ℕ). not (eqb (g (cut_vertex m n)) none)) say
    ∙ new_tells (vertex_remains m named) (all_vertices m) few (vertex_below m named) (cut_vertex m n))

-- One more at both children of record n, if it stays cut.
unfoldable pub kept_counted : Tables → List ℕ → List ℕ → ℕ → List ℕ
kept_counted m vertices kept n =
    let first = (m.record_at n).first_child in
    let both = counted_at (counted_at kept first) (first + 1) in
    cond (stays_by m vertices n) both kept

pub kept_marking : (m : Tables) (vertices : List ℕ) → Marking (kept_counted m vertices) (λ n c. is_child_of (m.record_at n) c && stays_by m vertices n)
unfolding kept_counted is_child_of
kept_marking m vertices = record { long = long; marks = marks }
  where
    long : (t : List ℕ) (n : ℕ) → length (kept_counted m vertices t n) ≡ length t
    long t n =
        ⊎_elim
        (λ h. rw h (counted_long (counted_at t (m.record_at n).first_child) ((m.record_at n).first_child + 1) ∙ counted_long t (m.record_at n).first_child))
        (λ f. rw f)
        (either (stays_by m vertices n))

    -- both children, of a record that is cut
    both : (a u b c d : Bool) → u ≡ false → d ≡ true → (a || b || c) ≡ (a || ((not u && (b || c)) && d))
    both true u b c d p q = refl
    both false u true c d p q = rw (p, q)
    both false u false true d p q = rw (p, q)
    both false u false false d p q = rw p

    marks : (t : List ℕ) (n c : ℕ) → c < length t → marked (kept_counted m vertices t n) c ≡ (marked t c || (is_child_of (m.record_at n) c && stays_by m vertices n))
    marks t n c l =
        let first = (m.record_at n).first_child in
        ⊎_elim
        (λ h.
        ap (λ (b : Bool). marked (cond b (counted_at (counted_at t first) (first + 1)) t) c) h
        ∙ counted_marked (counted_at t first) (first + 1) c (rw (counted_long t first) l)
        ∙ ap (λ (b : Bool). b || eqb (first + 1) c) (counted_marked t first c l)
        ∙ both (marked t c) (uncut (m.record_at n)) (eqb first c) (eqb (first + 1) c) (stays_by m vertices n) (stays_is_cut m vertices n h) h)
        (λ f.
        ap (λ (b : Bool). marked (cond b (counted_at (counted_at t first) (first + 1)) t) c) f
        ∙ sym (ap (λ (b : Bool). marked t c || (is_child_of (m.record_at n) c && b)) f ∙ ap (λ (b : Bool). marked t c || b) (and_false (is_child_of (m.record_at n) c)) ∙ or-false (marked t c)))
        (either (stays_by m vertices n))

-- What all records count in a table of so many.
abbrev pub kept_in : Tables → List ℕ → ℕ → List ℕ
kept_in m vertices size = counts_below (kept_counted m vertices) (replicate size 0) (all_records m)

-- What it says of each record, by the vertices' new numbers.
pub kept_remains : (m : Tables) (named : ℕ → Bool) (vertices : List ℕ) (size : ℕ) → all_vertices m ≤ none → all_records m ≤ size → new_in vertices ≡ renumbered (vertex_remains m named) →
    remains_by (all_records m) (base_records m) (kept_in m vertices size) ≡ record_remains m named
unfolding remains_by record_remains
kept_remains m named vertices size few fits say = λ i c. at c i
  where
    at : (c : ℕ) → remains_by (all_records m) (base_records m) (kept_in m vertices size) c ≡ record_remains m named c
    at c =
        ⊎_elim
        (λ t.
        let there = ltb-true c (all_records m) t in
        ap (λ (b : Bool). ltb c (all_records m) && (ltb c (base_records m) || b))
        (counts_marked (kept_counted m vertices) (λ n k. is_child_of (m.record_at n) k && stays_by m vertices n) (kept_marking m vertices) size (all_records m) c (omega (arith, fits))
        ∙ any_same (all_records m) (λ n. is_child_of (m.record_at n) c && stays_by m vertices n) (λ n. is_child_of (m.record_at n) c && stays_cut m named n)
        (λ n l. ap (λ (b : Bool). is_child_of (m.record_at n) c && b) (stays_is m named vertices few say n))))
        (λ f. rw f)
        (either (ltb c (all_records m)))
