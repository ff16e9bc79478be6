-- The faces of the records so far, linked by their keys: what is found along the links is what a search through all faces would find.
use Rattle.std.specs.Prelude.{◌≡◌, refl, true, false, List, [], ◌∷◌, ltb, length, get_or}
use Rattle.std.proofs.Common.{sym, ◌∙◌, le-ltb}
use Rattle.std.proofs.Math.Bool.{Bool}
use Rattle.std.proofs.Math.Logic.{⊎_elim}
use Prim.Native.Nat.{ℕ, zero, suc, ◌+◌, ◌*◌, ◌/◌, ◌%◌, ◌≤◌, ◌<◌}
use native.Mathlib.Omega.{arith}
use Rattle.laws.specs.Below.{any_below, any_same, and_left, and_right, either}
use Rattle.laws.specs.Links.{greatest, key_among, key_within, Empty, Links, links_of, pushed, pushed_heads_long, pushed_nexts_long, zeros_at, chain_start, Kept, kept_next, any_along, link_at, any_gap, chain_any, chain_any_on}
use Rattle.piece.specs.declared.Piece.{Piece}
use Rattle.stored.specs.declared.Record.{Record}
use Rattle.check_refusals.specs.Refusals.{bad_faces}
use Rattle.check_shared.specs.declared.Face.{Face}
use Rattle.check_shared.specs.Faces.{face_of}
use Rattle.check_shared.specs.Sums.{corner_sum, same_sum}
use Rattle.check_faces.specs.Faces.{is_face, is_before, bad_face, by_faces}

-- The key of a face, one of so many.
unfoldable pub face_key : ℕ → Face → ℕ
face_key keys face = key_among keys (corner_sum face)

-- The keys of the faces of a piece with these corners.
abbrev pub keys_of : ℕ → List ℕ → List ℕ
keys_of keys p = face_key keys (face_of p 0) ∷ face_key keys (face_of p 1) ∷ face_key keys (face_of p 2) ∷ face_key keys (face_of p 3) ∷ []

-- The key of face i.
key_at_lem : (keys : ℕ) (p : List ℕ) (i : ℕ) → i < 4 → get_or (keys_of keys p) i 0 ≡ face_key keys (face_of p i)
key_at_lem keys p zero l = refl
key_at_lem keys p (suc zero) l = refl
key_at_lem keys p (suc (suc zero)) l = refl
key_at_lem keys p (suc (suc (suc zero))) l = refl
key_at_lem keys p (suc (suc (suc (suc i)))) l = absurd (omega arith)

-- Each is one of so many.
abbrev pub KeysWithin : List ℕ → ℕ → Type 0
KeysWithin own keys = (i : ℕ) → i < 4 → get_or own i 0 < keys

pub keys_within : (keys : ℕ) (p : List ℕ) → 0 < keys → KeysWithin (keys_of keys p) keys
unfolding face_key
keys_within keys p some i l = rw (key_at_lem keys p i l) (key_within keys (corner_sum (face_of p i)) some)

-- A record before r has this face, as far as the links from m on lead.
unfoldable pub before_along : (ℕ → Record) → List ℕ → ℕ → Face → ℕ → Bool
before_along record_at nexts m face r = any_along nexts (is_before record_at face r) m

-- A record before face f's record has this face, as far as the links from face f's link on lead.
unfoldable pub before_from : (ℕ → Record) → List ℕ → Face → ℕ → Bool
before_from record_at nexts face f = before_along record_at nexts (link_at nexts f) face (f / 4)

-- Face i of q is bad with a face along the links from m on.
unfoldable pub bad_along : (ℕ → Record) → List ℕ → ℕ → Piece → ℕ → Bool
bad_along record_at nexts m q i = let face = face_of q.corners i in any_along nexts (bad_face record_at (before_from record_at nexts face) q i face) m

-- One of q's faces, which have these keys, is.
unfoldable pub bad_linked : (ℕ → Record) → List ℕ → List ℕ → Piece → List ℕ → Bool
bad_linked record_at heads nexts q own = any_below 4 (λ i. bad_along record_at nexts (get_or heads (get_or own i 0) 0) q i)

-- The faces of record n, which have these keys, are put before the others.
unfoldable pub pushed_faces : Links → List ℕ → ℕ → Links
pushed_faces links own n =
    pushed (pushed (pushed (pushed links (get_or own 0 0) (4 * n)) (get_or own 1 0) (4 * n + 1)) (get_or own 2 0) (4 * n + 2)) (get_or own 3 0) (4 * n + 3)

-- The lists stay as long as they are, at one push and at four.
pub pushed_long : (links after : Links) (k v : ℕ) → after ≡ pushed links k v → (length after.heads ≡ length links.heads) × (length after.nexts ≡ length links.nexts)
pushed_long links after k v is = (rw is (pushed_heads_long links k v), rw is (pushed_nexts_long links k v))

pub faces_long : (links after : Links) (own : List ℕ) (n : ℕ) → after ≡ pushed_faces links own n → (length after.heads ≡ length links.heads) × (length after.nexts ≡ length links.nexts)
unfolding pushed_faces
faces_long links after own n is =
    (rw (is, pushed_heads_long, pushed_heads_long, pushed_heads_long, pushed_heads_long), rw (is, pushed_nexts_long, pushed_nexts_long, pushed_nexts_long, pushed_nexts_long))

-- One push after the other.
pub four_pushed : (own : List ℕ) (n : ℕ) (links a b c d : Links) → a ≡ pushed links (get_or own 0 0) (4 * n) → b ≡ pushed a (get_or own 1 0) (4 * n + 1) →
    c ≡ pushed b (get_or own 2 0) (4 * n + 2) → d ≡ pushed c (get_or own 3 0) (4 * n + 3) → d ≡ pushed_faces links own n
unfolding pushed_faces
four_pushed own n links a b c d one two three four = rw (four, three, two, one)

-- The key of face f.
unfoldable pub key_at : ℕ → (ℕ → Record) → ℕ → ℕ
key_at keys record_at f = face_key keys (face_of (record_at (f / 4)).piece.corners (f % 4))

-- The links are those of the first c faces, with so many keys and room for so many faces.
abbrev pub Linked : (ℕ → Record) → ℕ → ℕ → ℕ → Links → Type 0
Linked record_at keys room c links = Kept (key_at keys record_at) keys room c links

-- Empty heads hold no face yet.
pub none_linked : (record_at : ℕ → Record) (heads nexts : List ℕ) → Empty heads → Linked record_at (length heads) (length nexts) 0 (links_of heads nexts)
none_linked record_at heads nexts empty =
    record { chain = chain_start (key_at (length heads) record_at) heads nexts (λ k. rw empty (zeros_at (length heads) k)); heads_long = refl; nexts_long = refl }

module _ (record_at : ℕ → Record) (keys room : ℕ) where
  -- ---- one record more

  module _ (links : Links) (n : ℕ) (on : Linked record_at keys room (4 * n) links) (low : 4 * (n + 1) ≤ room) (small : 4 * (n + 1) ≤ greatest) where
    -- The key of face j.
    abbrev Key : ℕ → ℕ
    Key j = face_key keys (face_of (record_at n).piece.corners j)

    key_is : (j : ℕ) → j < 4 → Key j ≡ key_at keys record_at (4 * n + j)
    unfolding key_at
    key_is j l =
        let record_is : (4 * n + j) / 4 ≡ n = omega arith in
        let face_is : (4 * n + j) % 4 ≡ j = omega arith in
        rw (record_is, face_is)

    face_pushed : (c next k : ℕ) (before : Links) → Linked record_at keys room c before → c < 4 * (n + 1) → next ≡ suc c → k ≡ key_at keys record_at c →
        Linked record_at keys room next (pushed before k c)
    face_pushed c next k before so l is key = kept_next (key_at keys record_at) keys room c next k before so (omega arith) (omega arith) is key

    pub record_pushed : Linked record_at keys room (4 * (n + 1)) (pushed_faces links (keys_of (length links.heads) (record_at n).piece.corners) n)
    unfolding pushed_faces
    record_pushed =
        let none : 4 * n + 0 ≡ 4 * n = omega arith in
        let a = face_pushed (4 * n) (4 * n + 1) (Key 0) _ on (omega arith) (omega arith) (rw none at (key_is 0 (omega arith))) in
        let b = face_pushed (4 * n + 1) (4 * n + 2) (Key 1) _ a (omega arith) (omega arith) (key_is 1 (omega arith)) in
        let c = face_pushed (4 * n + 2) (4 * n + 3) (Key 2) _ b (omega arith) (omega arith) (key_is 2 (omega arith)) in
        rw on.heads_long (face_pushed (4 * n + 3) (4 * (n + 1)) (Key 3) _ c (omega arith) (omega arith) (key_is 3 (omega arith)))

  -- ---- what is found along the links

  module _ (some : 0 < keys) (c : ℕ) (links : Links) (on : Linked record_at keys room c links) (q : Piece) (i : ℕ) where
    abbrev Sought : Face
    Sought = face_of q.corners i

    -- Where the links of its key begin.
    abbrev Head : ℕ
    Head = get_or links.heads (face_key keys Sought) 0

    -- Its key is one of the heads'.
    within : face_key keys Sought < length links.heads
    unfolding face_key
    within = rw on.heads_long (key_within keys (corner_sum Sought) some)

    -- Faces that are the same have one key.
    one_key : (f : ℕ) → is_face record_at Sought f ≡ true → key_at keys record_at f ≡ face_key keys Sought
    unfolding is_face key_at face_key
    one_key f t = rw (same_sum (face_of (record_at (f / 4)).piece.corners (f % 4)) Sought t)

    -- Face f is the one sought.
    module _ (f : ℕ) (low : f < c) (same : is_face record_at Sought f ≡ true) where
      -- A face is the one sought, of a record before f's.
      abbrev Earlier : ℕ → Bool
      Earlier = is_before record_at Sought (f / 4)

      -- From f's link on, one is found exactly if there is one below f.
      from_link : before_from record_at links.nexts Sought f ≡ any_below f Earlier
      unfolding before_from before_along is_before
      from_link =
          chain_any_on (key_at keys record_at) c links.heads links.nexts on.chain Earlier (face_key keys Sought) within
          (λ g l t. one_key g (and_right (ltb (g / 4) (f / 4)) (is_face record_at Sought g) t))
          f low (one_key f same)

      -- From f on there is none.
      none_past : (g : ℕ) → f ≤ g → g < c → Earlier g ≡ false
      unfolding is_before
      none_past g up l = rw (le-ltb (g / 4) (f / 4) (omega arith))

      -- So it is found exactly if there is one at all.
      before_is : before_from record_at links.nexts Sought f ≡ any_below c Earlier
      before_is = from_link ∙ sym (any_gap Earlier f c (omega arith) none_past)

    -- Face i of q is bad with a face by what is found along the links, and by a search through all faces.
    abbrev Bad : ℕ → Bool
    Bad = bad_face record_at (before_from record_at links.nexts Sought) q i Sought

    abbrev BadOfAll : ℕ → Bool
    BadOfAll = bad_face record_at (λ f. any_below c (is_before record_at Sought (f / 4))) q i Sought

    -- Both are the same: where a record before has the face matters only for the face that is sought.
    same_bad : (f : ℕ) → f < c → Bad f ≡ BadOfAll f
    unfolding bad_face
    same_bad f l = ⊎_elim (λ t. rw (before_is f l t)) (λ d. rw d) (either (is_face record_at Sought f))

    -- What is found along the links of its key.
    bad_is : bad_along record_at links.nexts Head q i ≡ any_below c BadOfAll
    unfolding bad_along bad_face
    bad_is =
        chain_any (key_at keys record_at) c links.heads links.nexts on.chain Bad (face_key keys Sought) within
        (λ f l t. one_key f (and_left (is_face record_at Sought f) _ t))
        ∙ any_same c Bad BadOfAll same_bad

  -- Rule 7 for record n.
  pub linked_is : 0 < keys → (n : ℕ) (links : Links) → Linked record_at keys room (4 * n) links →
      bad_linked record_at links.heads links.nexts (record_at n).piece (keys_of (length links.heads) (record_at n).piece.corners) ≡ bad_faces record_at n
  unfolding bad_linked bad_faces
  linked_is some n links on =
      let q : Piece = (record_at n).piece in
      let Along : ℕ → Bool = λ i. bad_along record_at links.nexts (get_or links.heads (get_or (keys_of (length links.heads) q.corners) i 0) 0) q i in
      let Below : ℕ → Bool = λ i. any_below (4 * n) (bad_face record_at (λ f. any_below (4 * n) (is_before record_at (face_of q.corners i) (f / 4))) q i (face_of q.corners i)) in
      any_same 4 Along Below (λ i l. rw (key_at_lem (length links.heads) q.corners i l, on.heads_long) (bad_is some (4 * n) links on q i)) ∙ by_faces record_at q n
