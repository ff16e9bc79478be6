-- A header, a vertex and a record by themselves, in every format: their bytes are as long as the documents say and say what was written.
use Rattle.std.specs.Prelude.{◌≡◌, Bool, true, false, cond, ◌&&◌, length, get_or, drop, eqb}
use Rattle.std.proofs.Math.Path.{refl, sym, ap, ap₂}
use Rattle.std.proofs.Common.{◌∙◌, ⊎_elim, mul-suc, length-drop, length-append, take-add, drop-cons, drop-drop, drop_at, get_or-drop, lit<}
use Prim.Native.Nat.{ℕ, zero, suc, ◌+◌, ◌*◌, ◌/◌, ◌%◌, ◌≤◌, ◌<◌}
use native.Mathlib.Omega.{arith}
use mathlib.Core.List.{List, [], ◌∷◌, ◌++◌, append-nil, append_assoc}
use Rattle.std.proofs.Math.ListN.{take}
use Rattle.std.proofs.lemmas.List.Edits.{sets}
use borrow.Author.Tests.{eqb-true, eq-eqb}
use Rattle.laws.specs.Below.{either, and_left, and_right, bit}
use Rattle.laws.specs.Lists.{sets_append, Bytes, bytes_none, bytes_cons, bytes_append, bytes_drop, take_run, take_one, four_of}
use Rattle.laws.specs.Numbers.{number, number_bytes, number_bytes_lem, bytes_number, bytes_of_lem, bytes_length}
use Rattle.stored.specs.declared.Format.{Format}
use Rattle.stored.specs.declared.Header.{Header}
use Rattle.stored.specs.declared.Vertex.{Vertex}
use Rattle.stored.specs.declared.Record.{Record}
use Rattle.stored.specs.Layout.{none, version_of, number_width, number_at, bytes_of, header_width, vertex_width, record_width, or_none, stored_or_none, byte_at, u16_at, u32_at, u16_bytes, u32_bytes, place_of, stored_of, marked, mark_bytes, right_mark, header_from, header_bytes, vertex_from, vertex_bytes, edge_at, corners_from, material_from, record_from, record_bytes, assembled}
use Rattle.stored.specs.Fitting.{U16, U32, Number, OrNone, MaterialFits, HeaderFits, VertexFits, RecordFits, stored_or_none_lem, or_none_stored, stored_number_fits, stored_none_small, u16_fits, number_fits}
use Rattle.stored.specs.Coordinate.{stored_place, place_stored, stored_fits}

-- ---- lengths

mark_wide : (letter version : ℕ) → length (mark_bytes letter version) ≡ 5
unfolding mark_bytes
mark_wide letter version = simp bytes_length

pub header_wide : (f : Format) (h : Header) → length (header_bytes f h) ≡ header_width f
unfolding header_bytes mark_bytes
header_wide f h = simp (length-append, bytes_length) (omega arith)

pub vertex_wide_lem : (f : Format) (v : Vertex) → length (vertex_bytes f v) ≡ vertex_width f
unfolding vertex_bytes
vertex_wide_lem f v = simp (length-append, bytes_length) (omega arith)

pub record_wide_lem : (f : Format) (r : Record) → length (record_bytes f r) ≡ record_width f
unfolding record_bytes
record_wide_lem f r = go f.material
  where
    go : (b : Bool) →
        length (bytes_of f (stored_or_none f (get_or r.piece.corners 0 0)) ++ (bytes_of f (stored_or_none f (get_or r.piece.corners 1 0)) ++ (bytes_of f (stored_or_none f (get_or r.piece.corners 2 0)) ++ (bytes_of f (stored_or_none f (get_or r.piece.corners 3 0)) ++ (r.piece.edge ∷ get_or r.piece.marks 0 0 ∷ get_or r.piece.marks 1 0 ∷ get_or r.piece.marks 2 0 ∷ get_or r.piece.marks 3 0 ∷ r.piece.flag ∷ r.piece.generation ∷ (bytes_of f (stored_or_none f r.first_child) ++ cond b (r.piece.material ∷ []) []))))))
        ≡ number_width f * 5 + 7 + bit b
    go true = simp (length-append, bytes_length) (omega arith)
    go false = simp (length-append, bytes_length) (omega arith)

-- ---- they are bytes

with1 : {a : List ℕ} {n : ℕ} → Bytes a → n < 256 → Bytes (n ∷ a)
with1 b l = bytes_cons l b

after : (w n : ℕ) {a : List ℕ} → Bytes a → Bytes (number_bytes w n ++ a)
after w n {a} b = bytes_append (number_bytes w n) a (bytes_of_lem w n) b

pub header_is_bytes : (f : Format) (h : Header) → Bytes (header_bytes f h)
unfolding header_bytes mark_bytes
header_is_bytes f h =
    let w = number_width f in
    let counts = after w h.base_vertices (after w h.vertices (after w h.base_records (after w h.records (with1 bytes_none (lit< tt))))) in
    let mark : Bytes (84 ∷ 77 ∷ 66 ∷ u16_bytes (version_of f)) = bytes_cons (lit< tt) (bytes_cons (lit< tt) (bytes_cons (lit< tt) (bytes_of_lem 2 (version_of f)))) in
    bytes_append _ _ (bytes_append _ _ (bytes_append _ _ mark (bytes_of_lem 4 h.job)) (bytes_of_lem 2 h.round)) counts

pub vertex_is_bytes : (f : Format) (v : Vertex) → Bytes (vertex_bytes f v)
unfolding vertex_bytes
vertex_is_bytes f v =
    let w = number_width f in
    bytes_append _ _ (bytes_append _ _ (bytes_append _ _ (bytes_append _ _ (bytes_of_lem 2 (stored_of v.place.x)) (bytes_of_lem 2 (stored_of v.place.y))) (bytes_of_lem 2 (stored_of v.place.z))) (bytes_of_lem w (stored_or_none f v.p))) (bytes_of_lem w (stored_or_none f v.q))

pub record_is_bytes : (f : Format) (r : Record) → RecordFits f r → Bytes (record_bytes f r)
unfolding record_bytes
record_is_bytes f r h =
    let w = number_width f in
    let c = r.piece.corners in
    let child = after w (stored_or_none f r.first_child) (last f.material) in
    let marked = with1 (with1 (with1 (with1 (with1 (with1 (with1 child h.generation) h.flag) (h.marks.byte 3)) (h.marks.byte 2)) (h.marks.byte 1)) (h.marks.byte 0)) h.edge in
    after w (stored_or_none f (get_or c 0 0)) (after w (stored_or_none f (get_or c 1 0)) (after w (stored_or_none f (get_or c 2 0)) (after w (stored_or_none f (get_or c 3 0)) marked)))
  where
    last : (b : Bool) → Bytes (cond b (r.piece.material ∷ []) [])
    last true = with1 bytes_none h.material.byte
    last false = bytes_none

-- ---- what is written is read back, whatever follows it

pub u16_again : (n : ℕ) (rest : List ℕ) → U16 n → number 2 (n % 256 ∷ n / 256 % 256 ∷ rest) ≡ n
unfolding number_bytes
u16_again n rest h = number_bytes_lem 2 n rest h

pub u32_again : (n : ℕ) (rest : List ℕ) → U32 n → number 4 (n % 256 ∷ n / 256 % 256 ∷ n / 256 / 256 % 256 ∷ n / 256 / 256 / 256 % 256 ∷ rest) ≡ n
unfolding number_bytes
u32_again n rest h = number_bytes_lem 4 n rest h

place_again : (place : ℕ) (rest : List ℕ) → U16 place → place_of (number 2 (stored_of place % 256 ∷ stored_of place / 256 % 256 ∷ rest)) ≡ place
place_again place rest h = ap place_of (u16_again (stored_of place) rest (stored_fits place)) ∙ place_stored place h

-- Past one number of w bytes; past one of several.
past_one : (w n : ℕ) (rest : List ℕ) → drop w (number_bytes w n ++ rest) ≡ rest
past_one w n rest = drop_at (number_bytes w n) rest w (bytes_length w n)

past_more : (w k : ℕ) (s : List ℕ) → drop (w * suc k) s ≡ drop (w * k) (drop w s)
past_more w k s =
    let e : w * suc k ≡ w + w * k = omega (arith, mul-suc w k) in
    ap (λ (j : ℕ). drop j s) e ∙ sym (drop-drop (w * k) w s)

next : (w k n : ℕ) (rest : List ℕ) → drop (w * suc k) (number_bytes w n ++ rest) ≡ drop (w * k) rest
next w k n rest = past_more w k (number_bytes w n ++ rest) ∙ ap (drop (w * k)) (past_one w n rest)

here : (w : ℕ) (s : List ℕ) → drop (w * 0) s ≡ s
here w s = let none_past : w * 0 ≡ 0 = omega arith in ap (λ (k : ℕ). drop k s) none_past

version_fits : (f : Format) → U16 (version_of f)
version_fits f = go f.wide f.material
  where
    go : (a b : Bool) → U16 (cond a 3 (cond b 2 1))
    go true b = lit< tt
    go false true = lit< tt
    go false false = lit< tt

-- A number that fits is stored as it is: memory's none, which is too great or is the stored one.
stored_as_read : (f : Format) (n : ℕ) → Number f n → stored_or_none f n ≡ n
unfolding stored_or_none
stored_as_read f n h =
    let small = stored_none_small f in
    ⊎_elim
    (λ t. let is : n ≡ none = eqb-true n none t in rw t (omega arith))
    (λ g. rw g)
    (either (eqb n none))

module _ (f : Format) where
  number_again : (n : ℕ) (s rest : List ℕ) → s ≡ bytes_of f (stored_or_none f n) ++ rest → OrNone f n → or_none f (number (number_width f) s) ≡ n
  number_again n s rest is h =
      ap (λ (t : List ℕ). or_none f (number (number_width f) t)) is
      ∙ ap (or_none f) (number_bytes_lem (number_width f) (stored_or_none f n) rest (stored_number_fits f n h))
      ∙ or_none_stored f n h

  ended_again : (n : ℕ) (s : List ℕ) → s ≡ bytes_of f (stored_or_none f n) → OrNone f n → or_none f (number (number_width f) s) ≡ n
  ended_again n s is h = number_again n s [] (is ∙ sym (append-nil (bytes_of f (stored_or_none f n)))) h

  pub vertex_again_lem : (v : Vertex) → VertexFits f v → vertex_from f (vertex_bytes f v) ≡ v
  unfolding vertex_from vertex_bytes number_bytes
  vertex_again_lem v h =
      let w = number_width f in
      let bytes : List ℕ = vertex_bytes f v in
      let second = bytes_of f (stored_or_none f v.q) in
      λ i.
      record {
        place = record {
          x = place_again v.place.x (drop 2 bytes) h.x i;
          y = place_again v.place.y (drop 4 bytes) h.y i;
          z = place_again v.place.z (drop 6 bytes) h.z i;
        };
        p = number_again v.p (drop 6 bytes) second refl h.p i;
        q = ended_again v.q (drop (6 + w) bytes) (sym (drop-drop w 6 bytes) ∙ past_one w (stored_or_none f v.p) second) h.q i;
      }

  -- ---- a header, whatever follows it

  module _ (h : Header) (rest : List ℕ) where
    abbrev counts : List ℕ
    counts = bytes_of f h.base_vertices ++ (bytes_of f h.vertices ++ (bytes_of f h.base_records ++ (bytes_of f h.records ++ (0 ∷ rest))))

    counts_follow : drop 11 (header_bytes f h ++ rest) ≡ counts
    unfolding header_bytes mark_bytes number_bytes
    counts_follow =
        let a = bytes_of f h.base_vertices in
        let b = bytes_of f h.vertices in
        let c = bytes_of f h.base_records in
        let d = bytes_of f h.records in
        append_assoc a (b ++ (c ++ (d ++ 0 ∷ []))) rest
        ∙ ap (λ (t : List ℕ). a ++ t) (append_assoc b (c ++ (d ++ 0 ∷ [])) rest
        ∙ ap (λ (t : List ℕ). b ++ t) (append_assoc c (d ++ 0 ∷ []) rest ∙ ap (λ (t : List ℕ). c ++ t) (append_assoc d (0 ∷ []) rest)))

    counts_at : (k : ℕ) → drop (11 + number_width f * k) (header_bytes f h ++ rest) ≡ drop (number_width f * k) counts
    counts_at k = sym (drop-drop (number_width f * k) 11 (header_bytes f h ++ rest)) ∙ ap (drop (number_width f * k)) counts_follow

    count_again : (n : ℕ) (s more : List ℕ) → s ≡ bytes_of f n ++ more → Number f n → number (number_width f) s ≡ n
    count_again n s more is u = ap (number (number_width f)) is ∙ number_bytes_lem (number_width f) n more u

    pub header_again_lem : HeaderFits f h → header_from f (header_bytes f h ++ rest) ≡ h
    unfolding header_from header_bytes mark_bytes number_bytes
    header_again_lem u =
        let w = number_width f in
        let bytes : List ℕ = header_bytes f h ++ rest in
        λ i.
        record {
          job = u32_again h.job (drop 9 bytes) u.job i;
          round = u16_again h.round (drop 11 bytes) u.round i;
          base_vertices = count_again h.base_vertices (drop 11 bytes) _ counts_follow u.base_vertices i;
          vertices = count_again h.vertices (drop (11 + w * 1) bytes) _ (counts_at 1 ∙ next w 0 _ _ ∙ here w _) u.vertices i;
          base_records = count_again h.base_records (drop (11 + w * 2) bytes) _ (counts_at 2 ∙ next w 1 _ _ ∙ next w 0 _ _ ∙ here w _) u.base_records i;
          records = count_again h.records (drop (11 + w * 3) bytes) _ (counts_at 3 ∙ next w 2 _ _ ∙ next w 1 _ _ ∙ next w 0 _ _ ∙ here w _) u.records i;
        }

    zero_again : byte_at (header_bytes f h ++ rest) (11 + number_width f * 4) ≡ 0
    zero_again =
        let w = number_width f in
        let bytes : List ℕ = header_bytes f h ++ rest in
        let there : 11 + w * 4 ≡ 11 + w * 4 + 0 = omega arith in
        ap (byte_at bytes) there
        ∙ sym (get_or-drop (11 + w * 4) bytes 0 0)
        ∙ ap (λ (t : List ℕ). byte_at t 0) (counts_at 4 ∙ next w 3 _ _ ∙ next w 2 _ _ ∙ next w 1 _ _ ∙ next w 0 _ _ ∙ here w _)

    mark_again : (eqb (byte_at (header_bytes f h ++ rest) 0) 84 ≡ true) × (eqb (byte_at (header_bytes f h ++ rest) 1) 77 ≡ true) × (eqb (byte_at (header_bytes f h ++ rest) 2) 66 ≡ true)
    unfolding header_bytes mark_bytes
    mark_again = (refl, refl, refl)

    version_again : u16_at (header_bytes f h ++ rest) 3 ≡ version_of f
    unfolding header_bytes mark_bytes number_bytes
    version_again = u16_again (version_of f) (drop 5 (header_bytes f h ++ rest)) (version_fits f)

    pub header_right : right_mark f (header_bytes f h ++ rest) ≡ true
    unfolding right_mark marked
    header_right =
        let bytes : List ℕ = header_bytes f h ++ rest in
        let (t, m, b) = mark_again in
        rw (t, m, b, eq-eqb (u16_at bytes 3) (version_of f) version_again, eq-eqb (byte_at bytes (11 + number_width f * 4)) 0 zero_again)

  -- ---- a record

  module _ (r : Record) where
    abbrev stored : ℕ → List ℕ
    stored k = bytes_of f (stored_or_none f (get_or r.piece.corners k 0))

    abbrev child : List ℕ
    child = bytes_of f (stored_or_none f r.first_child)

    abbrev last : List ℕ
    last = cond f.material (r.piece.material ∷ []) []

    abbrev tail : List ℕ
    tail =
        r.piece.edge
        ∷ get_or r.piece.marks 0 0 ∷ get_or r.piece.marks 1 0 ∷ get_or r.piece.marks 2 0 ∷ get_or r.piece.marks 3 0
        ∷ r.piece.flag
        ∷ r.piece.generation
        ∷ (child ++ last)

    whole : record_bytes f r ≡ stored 0 ++ (stored 1 ++ (stored 2 ++ (stored 3 ++ tail)))
    unfolding record_bytes
    whole = refl

    at_0 : drop (number_width f * 0) (record_bytes f r) ≡ stored 0 ++ (stored 1 ++ (stored 2 ++ (stored 3 ++ tail)))
    at_0 = here (number_width f) (record_bytes f r) ∙ whole

    -- Past the first corner, the second and the third.
    past : (k : ℕ) (n : ℕ) (more : List ℕ) → drop (number_width f * suc k) (bytes_of f n ++ more) ≡ drop (number_width f * k) more
    past k n more = next (number_width f) k n more

    skip_0 : (k : ℕ) → drop (number_width f * suc k) (record_bytes f r) ≡ drop (number_width f * k) (stored 1 ++ (stored 2 ++ (stored 3 ++ tail)))
    skip_0 k = ap (drop (number_width f * suc k)) whole ∙ past k (stored_or_none f (get_or r.piece.corners 0 0)) (stored 1 ++ (stored 2 ++ (stored 3 ++ tail)))

    skip_1 : (k : ℕ) → drop (number_width f * suc (suc k)) (record_bytes f r) ≡ drop (number_width f * k) (stored 2 ++ (stored 3 ++ tail))
    skip_1 k = skip_0 (suc k) ∙ past k (stored_or_none f (get_or r.piece.corners 1 0)) (stored 2 ++ (stored 3 ++ tail))

    skip_2 : (k : ℕ) → drop (number_width f * suc (suc (suc k))) (record_bytes f r) ≡ drop (number_width f * k) (stored 3 ++ tail)
    skip_2 k = skip_1 (suc k) ∙ past k (stored_or_none f (get_or r.piece.corners 2 0)) (stored 3 ++ tail)

    at_1 : drop (number_width f * 1) (record_bytes f r) ≡ stored 1 ++ (stored 2 ++ (stored 3 ++ tail))
    at_1 = skip_0 0 ∙ here (number_width f) (stored 1 ++ (stored 2 ++ (stored 3 ++ tail)))

    at_2 : drop (number_width f * 2) (record_bytes f r) ≡ stored 2 ++ (stored 3 ++ tail)
    at_2 = skip_1 0 ∙ here (number_width f) (stored 2 ++ (stored 3 ++ tail))

    at_3 : drop (number_width f * 3) (record_bytes f r) ≡ stored 3 ++ tail
    at_3 = skip_2 0 ∙ here (number_width f) (stored 3 ++ tail)

    behind_is : drop (edge_at f) (record_bytes f r) ≡ tail
    behind_is = skip_2 1 ∙ past 0 (stored_or_none f (get_or r.piece.corners 3 0)) tail ∙ here (number_width f) tail

    -- A byte behind the corners, and what follows one.
    byte_is : (k : ℕ) → byte_at (record_bytes f r) (edge_at f + k) ≡ byte_at tail k
    byte_is k = sym (get_or-drop (edge_at f) (record_bytes f r) k 0) ∙ ap (λ (t : List ℕ). byte_at t k) behind_is

    rest_is : (k : ℕ) → drop (edge_at f + k) (record_bytes f r) ≡ drop k tail
    rest_is k = sym (drop-drop k (edge_at f) (record_bytes f r)) ∙ ap (drop k) behind_is

    material_again : MaterialFits f.material r.piece.material → material_from f (record_bytes f r) ≡ r.piece.material
    material_again h = go f.material refl
      where
        at_last : byte_at (record_bytes f r) (edge_at f + (7 + number_width f)) ≡ byte_at last 0
        at_last =
            let w = number_width f in
            let back : 7 + w ≡ 7 + w + 0 = omega arith in
            byte_is (7 + w)
            ∙ ap (byte_at tail) back
            ∙ sym (get_or-drop (7 + w) tail 0 0)
            ∙ ap (λ (t : List ℕ). byte_at t 0) (sym (drop-drop w 7 tail) ∙ past_one w (stored_or_none f r.first_child) last)

        go : (b : Bool) → f.material ≡ b → cond b (byte_at (record_bytes f r) (edge_at f + (7 + number_width f))) 0 ≡ r.piece.material
        go false e = sym (h.none e)
        go true e = at_last ∙ ap (λ (b : Bool). byte_at (cond b (r.piece.material ∷ []) []) 0) e

    pub record_again_lem : RecordFits f r → record_from f (record_bytes f r) ≡ r
    unfolding record_from
    record_again_lem h =
        let w = number_width f in
        let bytes : List ℕ = record_bytes f r in
        let c = r.piece.corners in
        (λ i.
        record {
          piece = record {
            corners =
                number_again (get_or c 0 0) (drop (w * 0) bytes) _ at_0 (h.corners 0) i
                ∷ number_again (get_or c 1 0) (drop (w * 1) bytes) _ at_1 (h.corners 1) i
                ∷ number_again (get_or c 2 0) (drop (w * 2) bytes) _ at_2 (h.corners 2) i
                ∷ number_again (get_or c 3 0) (drop (w * 3) bytes) _ at_3 (h.corners 3) i
                ∷ [];
            edge = byte_is 0 i;
            marks = byte_is 1 i ∷ byte_is 2 i ∷ byte_is 3 i ∷ byte_is 4 i ∷ [];
            flag = byte_is 5 i;
            generation = byte_is 6 i;
            material = material_again h.material i;
          };
          first_child = number_again r.first_child (drop (edge_at f + 7) bytes) _ (rest_is 7) h.first_child i;
        })
        ∙ (λ i.
        record {
          piece = record {
            corners = four_of c 0 h.four_corners i;
            edge = r.piece.edge;
            marks = four_of r.piece.marks 0 h.four_marks i;
            flag = r.piece.flag;
            generation = r.piece.generation;
            material = r.piece.material;
          };
          first_child = r.first_child;
        })

    -- A corner that was written is read again, but that the number that stands for none is read as none.
    pub corner_read : (k : ℕ) → k < 4 → Number f (get_or r.piece.corners k 0) → get_or (record_from f (record_bytes f r)).piece.corners k 0 ≡ or_none f (get_or r.piece.corners k 0)
    unfolding record_from
    corner_read k l u = at k l u
      where
        read : (n : ℕ) (s more : List ℕ) → s ≡ bytes_of f (stored_or_none f n) ++ more → Number f n → or_none f (number (number_width f) s) ≡ or_none f n
        read n s more is v =
            ap (λ (t : List ℕ). or_none f (number (number_width f) t)) is
            ∙ ap (λ (j : ℕ). or_none f (number (number_width f) (bytes_of f j ++ more))) (stored_as_read f n v)
            ∙ ap (or_none f) (number_bytes_lem (number_width f) n more v)

        at : (k : ℕ) → k < 4 → Number f (get_or r.piece.corners k 0) → get_or (corners_from f (record_bytes f r)) k 0 ≡ or_none f (get_or r.piece.corners k 0)
        at zero l v = read _ _ _ at_0 v
        at (suc zero) l v = read _ _ _ at_1 v
        at (suc (suc zero)) l v = read _ _ _ at_2 v
        at (suc (suc (suc zero))) l v = read _ _ _ at_3 v
        at (suc (suc (suc (suc k)))) l v = absurd (omega arith)

-- ---- what is read is written again

-- what a right mark says
pub mark_says : (letter version : ℕ) (s : List ℕ) → marked letter version s ≡ true → (byte_at s 0 ≡ 84) × (byte_at s 1 ≡ 77) × (byte_at s 2 ≡ letter) × (u16_at s 3 ≡ version)
unfolding marked
mark_says letter version s right =
    let a : Bool = eqb (byte_at s 0) 84 in
    let b : Bool = eqb (byte_at s 1) 77 in
    let c : Bool = eqb (byte_at s 2) letter in
    let d : Bool = eqb (u16_at s 3) version in
    let abc : (a && b && c) ≡ true = and_left (a && b && c) d right in
    let ab : (a && b) ≡ true = and_left (a && b) c abc in (
      eqb-true (byte_at s 0) 84 (and_left a b ab),
      eqb-true (byte_at s 1) 77 (and_right a b ab),
      eqb-true (byte_at s 2) letter (and_right (a && b) c abc),
      eqb-true (u16_at s 3) version (and_right (a && b && c) d right),
    )

module _ (s : List ℕ) (b : Bytes s) where
  pub u16_written : (at : ℕ) → at + 2 ≤ length s → u16_bytes (u16_at s at) ≡ take 2 (drop at s)
  u16_written at h = bytes_number 2 (drop at s) (bytes_drop at s b) (rw (length-drop at s) (omega arith))

  pub u32_written : (at : ℕ) → at + 4 ≤ length s → u32_bytes (u32_at s at) ≡ take 4 (drop at s)
  u32_written at h = bytes_number 4 (drop at s) (bytes_drop at s b) (rw (length-drop at s) (omega arith))

  place_written_again : (at : ℕ) → at + 2 ≤ length s → u16_bytes (stored_of (place_of (u16_at s at))) ≡ take 2 (drop at s)
  place_written_again at h = ap u16_bytes (stored_place (u16_at s at) (u16_fits s b at)) ∙ u16_written at h

  -- A part, and so much of what follows it; parts that stand anywhere; one byte and what follows it.
  split : (n m : ℕ) → take n s ++ take m (drop n s) ≡ take (n + m) s
  split n m = sym (take-add n m s)

  glued : (at n next m : ℕ) → at + n ≡ next → take n (drop at s) ++ take m (drop next s) ≡ take (n + m) (drop at s)
  glued at n next m e = ap (λ (k : ℕ). take n (drop at s) ++ take m (drop k s)) (sym e) ∙ take_run n m at s

  byte_glued : (at next m : ℕ) → at + 1 ≡ next → at < length s → get_or s at 0 ∷ take m (drop next s) ≡ take (suc m) (drop at s)
  byte_glued at next m e l =
      let after : next ≡ suc at = omega arith in
      ap (λ (k : ℕ). get_or s at 0 ∷ take m (drop k s)) after ∙ ap (take (suc m)) (sym (drop-cons s at 0 l))

  -- the mark, where it is right
  pub mark_written_again : (letter version : ℕ) → 5 ≤ length s → marked letter version s ≡ true → mark_bytes letter version ≡ take 5 s
  unfolding mark_bytes
  mark_written_again letter version h right =
      let (t, m, l, v) = mark_says letter version s right in
      let two_bytes : byte_at s 0 ∷ byte_at s 1 ∷ [] ≡ take 2 s = ap₂ ◌++◌ (take_one 0 s 0 (omega arith)) (take_one 1 s 0 (omega arith)) ∙ take_run 1 1 0 s in
      let three_bytes : byte_at s 0 ∷ byte_at s 1 ∷ byte_at s 2 ∷ [] ≡ take 3 s = ap₂ ◌++◌ two_bytes (take_one 2 s 0 (omega arith)) ∙ take_run 2 1 0 s in
      let whole : byte_at s 0 ∷ byte_at s 1 ∷ byte_at s 2 ∷ u16_bytes (u16_at s 3) ≡ take 5 s = ap₂ ◌++◌ three_bytes (u16_written 3 (omega arith)) ∙ take_run 3 2 0 s in
      sym (λ i. t i ∷ m i ∷ l i ∷ u16_bytes (v i)) ∙ whole

  module _ (f : Format) where
    plain_written : (at : ℕ) → at + number_width f ≤ length s → bytes_of f (number_at f s at) ≡ take (number_width f) (drop at s)
    plain_written at h = bytes_number (number_width f) (drop at s) (bytes_drop at s b) (rw (length-drop at s) (omega arith))

    number_written : (at : ℕ) → at + number_width f ≤ length s → bytes_of f (stored_or_none f (or_none f (number_at f s at))) ≡ take (number_width f) (drop at s)
    number_written at h = ap (bytes_of f) (stored_or_none_lem f (number_at f s at) (number_fits s b f at)) ∙ plain_written at h

    pub vertex_written_again : vertex_width f ≤ length s → vertex_bytes f (vertex_from f s) ≡ take (vertex_width f) s
    unfolding vertex_bytes vertex_from
    vertex_written_again h =
        let w = number_width f in
        let all : 6 + w + w ≡ vertex_width f = omega arith in
        rw (
          place_written_again 0 (omega arith),
          place_written_again 2 (omega arith),
          place_written_again 4 (omega arith),
          number_written 6 (omega arith),
          number_written (6 + w) (omega arith),
          take_run 2 2 0 s,
          take_run 4 2 0 s,
          take_run 6 w 0 s,
        )
        (split (6 + w) w ∙ ap (λ (n : ℕ). take n s) all)

    pub header_written_again : header_width f ≤ length s → right_mark f s ≡ true → header_bytes f (header_from f s) ≡ take (header_width f) s
    unfolding header_bytes header_from right_mark
    header_written_again h right =
        let w = number_width f in
        let zero_byte : byte_at s (11 + w * 4) ≡ 0 = eqb-true (byte_at s (11 + w * 4)) 0 (and_right (marked 66 (version_of f) s) (eqb (byte_at s (11 + w * 4)) 0) right) in
        let mark = mark_written_again 66 (version_of f) (omega arith) (and_left (marked 66 (version_of f) s) (eqb (byte_at s (11 + w * 4)) 0) right) in
        let last : 0 ∷ [] ≡ take 1 (drop (11 + w * 4) s) = ap (λ (n : ℕ). n ∷ []) (sym zero_byte) ∙ take_one (11 + w * 4) s 0 (omega arith) in
        let front : mark_bytes 66 (version_of f) ++ u32_bytes (u32_at s 5) ++ u16_bytes (u16_at s 9) ≡ take 11 s =
        ap₂ ◌++◌ (ap₂ ◌++◌ mark (u32_written 5 (omega arith)) ∙ take_run 5 4 0 s) (u16_written 9 (omega arith)) ∙ take_run 9 2 0 s in
        let all : 11 + (w + (w + (w + (w + 1)))) ≡ header_width f = omega arith in
        ap₂ ◌++◌ front
        (ap₂ ◌++◌ (plain_written 11 (omega arith))
        (ap₂ ◌++◌ (plain_written (11 + w * 1) (omega arith))
        (ap₂ ◌++◌ (plain_written (11 + w * 2) (omega arith))
        (ap₂ ◌++◌ (plain_written (11 + w * 3) (omega arith)) last
        ∙ glued (11 + w * 3) w (11 + w * 4) 1 (omega arith))
        ∙ glued (11 + w * 2) w (11 + w * 3) (w + 1) (omega arith))
        ∙ glued (11 + w * 1) w (11 + w * 2) (w + (w + 1)) (omega arith))
        ∙ glued 11 w (11 + w * 1) (w + (w + (w + 1))) (omega arith))
        ∙ split 11 (w + (w + (w + (w + 1))))
        ∙ ap (λ (n : ℕ). take n s) all

    material_written : record_width f ≤ length s → cond f.material (material_from f s ∷ []) [] ≡ take (bit f.material) (drop (edge_at f + (7 + number_width f)) s)
    material_written h = go f.material refl
      where
        go : (c : Bool) → f.material ≡ c → cond c (cond c (byte_at s (edge_at f + (7 + number_width f))) 0 ∷ []) [] ≡ take (bit c) (drop (edge_at f + (7 + number_width f)) s)
        go false e = refl
        go true e = let l : edge_at f + (7 + number_width f) < length s = omega (arith, ap bit e) in ap (take 1) (sym (drop-cons s (edge_at f + (7 + number_width f)) 0 l))

    pub record_written_again : record_width f ≤ length s → record_bytes f (record_from f s) ≡ take (record_width f) s
    unfolding record_bytes record_from
    record_written_again h =
        let w = number_width f in
        let e = edge_at f in
        let m = bit f.material in
        let child = ap₂ ◌++◌ (number_written (e + 7) (omega arith)) (material_written h) ∙ glued (e + 7) w (e + (7 + w)) m (omega arith) in
        let bytes =
        ap (λ (t : List ℕ). byte_at s (e + 0) ∷ byte_at s (e + 1) ∷ byte_at s (e + 2) ∷ byte_at s (e + 3) ∷ byte_at s (e + 4) ∷ byte_at s (e + 5) ∷ byte_at s (e + 6) ∷ t) child
        ∙ ap (λ (t : List ℕ). byte_at s (e + 0) ∷ byte_at s (e + 1) ∷ byte_at s (e + 2) ∷ byte_at s (e + 3) ∷ byte_at s (e + 4) ∷ byte_at s (e + 5) ∷ t) (byte_glued (e + 6) (e + 7) (w + m) (omega arith) (omega arith))
        ∙ ap (λ (t : List ℕ). byte_at s (e + 0) ∷ byte_at s (e + 1) ∷ byte_at s (e + 2) ∷ byte_at s (e + 3) ∷ byte_at s (e + 4) ∷ t) (byte_glued (e + 5) (e + 6) (suc (w + m)) (omega arith) (omega arith))
        ∙ ap (λ (t : List ℕ). byte_at s (e + 0) ∷ byte_at s (e + 1) ∷ byte_at s (e + 2) ∷ byte_at s (e + 3) ∷ t) (byte_glued (e + 4) (e + 5) (suc (suc (w + m))) (omega arith) (omega arith))
        ∙ ap (λ (t : List ℕ). byte_at s (e + 0) ∷ byte_at s (e + 1) ∷ byte_at s (e + 2) ∷ t) (byte_glued (e + 3) (e + 4) (suc (suc (suc (w + m)))) (omega arith) (omega arith))
        ∙ ap (λ (t : List ℕ). byte_at s (e + 0) ∷ byte_at s (e + 1) ∷ t) (byte_glued (e + 2) (e + 3) (suc (suc (suc (suc (w + m))))) (omega arith) (omega arith))
        ∙ ap (λ (t : List ℕ). byte_at s (e + 0) ∷ t) (byte_glued (e + 1) (e + 2) (suc (suc (suc (suc (suc (w + m)))))) (omega arith) (omega arith))
        ∙ byte_glued (e + 0) (e + 1) (suc (suc (suc (suc (suc (suc (w + m))))))) (omega arith) (omega arith) in
        let tail : ℕ = suc (suc (suc (suc (suc (suc (suc (w + m))))))) in
        let all : w + (w + (w + (w + tail))) ≡ record_width f = omega arith in
        let none_past : w * 0 ≡ 0 = omega arith in
        ap₂ ◌++◌ (number_written (w * 0) (omega arith))
        (ap₂ ◌++◌ (number_written (w * 1) (omega arith))
        (ap₂ ◌++◌ (number_written (w * 2) (omega arith))
        (ap₂ ◌++◌ (number_written (w * 3) (omega arith)) bytes
        ∙ glued (w * 3) w (e + 0) tail (omega arith))
        ∙ glued (w * 2) w (w * 3) (w + tail) (omega arith))
        ∙ glued (w * 1) w (w * 2) (w + (w + tail)) (omega arith))
        ∙ glued (w * 0) w (w * 1) (w + (w + (w + tail))) (omega arith)
        ∙ ap₂ (λ (n k : ℕ). take n (drop k s)) all none_past

-- ---- from tables that were worked on to the mesh that is assembled from them

-- The header is written, then the vertices, then the records.
pub assembled_put : (f : Format) (out : List ℕ) (h : Header) (vertices records : List ℕ) →
    sets (sets (sets out 0 (header_bytes f h)) (header_width f + 0) (take (vertex_width f * h.vertices) vertices)) (header_width f + length (take (vertex_width f * h.vertices) vertices)) (take (record_width f * h.records) records)
    ≡ sets out 0 (assembled f h vertices records)
unfolding assembled
assembled_put f out h vertices records =
    let header : List ℕ = header_bytes f h in
    let first : List ℕ = take (vertex_width f * h.vertices) vertices in
    let then : List ℕ = take (record_width f * h.records) records in
    let wide : length header ≡ header_width f = header_wide f h in
    let after : header_width f + 0 ≡ 0 + length header = omega arith in
    let past : header_width f + length first ≡ 0 + length (header ++ first) = omega (arith, length-append header first) in
    ap (λ (k : ℕ). sets (sets (sets out 0 header) k first) (header_width f + length first) then) after
    ∙ ap₂ (λ (t : List ℕ) (k : ℕ). sets t k then) (sym (sets_append out 0 header first)) past
    ∙ sym (sets_append out 0 (header ++ first) then)
