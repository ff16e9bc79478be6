-- The fields of a header, a vertex and a record laid out one after the other in numbers of w bytes, with more behind them: as much of them as
-- the format has is what the format stores.
use Rattle.std.specs.Prelude.{◌≡◌, refl, Bool, true, false, cond, List, [], ◌∷◌, ◌++◌, ℕ, ◌+◌, ◌*◌, get_or, take, replicate, slice_set}
use Rattle.std.proofs.Common.{◌∙◌}
use Rattle.std.proofs.lemmas.List.Edits.{sets}
use Rattle.laws.specs.Below.{bit}
use Rattle.laws.specs.Numbers.{number_bytes}
use Rattle.stored.specs.declared.Format.{Format}
use Rattle.stored.specs.declared.Header.{Header}
use Rattle.stored.specs.declared.Vertex.{Vertex}
use Rattle.stored.specs.declared.Record.{Record}
use Rattle.stored.specs.Layout.{version_of, number_width, header_width, vertex_width, record_width, u16_bytes, u32_bytes, stored_of, stored_or_none, mark_bytes, header_bytes, vertex_bytes, record_bytes}

-- How many bytes a number has.
pub wide_number : (f : Format) → f.wide ≡ true → 4 ≡ number_width f
wide_number f h = rw h

pub narrow_number : (f : Format) → f.wide ≡ false → 2 ≡ number_width f
narrow_number f h = rw h

-- ---- a header

abbrev pub laid_header : ℕ → ℕ → Header → List ℕ → List ℕ
laid_header w version h more =
    84 ∷ 77 ∷ 66 ∷ (u16_bytes version
    ++ (u32_bytes h.job
    ++ (u16_bytes h.round
    ++ (number_bytes w h.base_vertices ++ (number_bytes w h.vertices ++ (number_bytes w h.base_records ++ (number_bytes w h.records ++ (0 ∷ more))))))))

pub header_laid : (f : Format) (h : Header) (more : List ℕ) (w version : ℕ) → w ≡ number_width f → version ≡ version_of f → take (header_width f) (laid_header w version h more) ≡ header_bytes f h
unfolding header_bytes mark_bytes number_bytes
header_laid f h more w version e v = (λ i. take (header_width f) (laid_header (e i) (v i) h more)) ∙ go f.wide
  where
    go : (b : Bool) →
        take (12 + cond b 4 2 * 4) (laid_header (cond b 4 2) (version_of f) h more)
        ≡ mark_bytes 66 (version_of f) ++ u32_bytes h.job ++ u16_bytes h.round
        ++ (number_bytes (cond b 4 2) h.base_vertices ++ (number_bytes (cond b 4 2) h.vertices ++ (number_bytes (cond b 4 2) h.base_records ++ (number_bytes (cond b 4 2) h.records ++ 0 ∷ []))))
    go true = refl
    go false = refl

-- Each field put over what its number of four bytes leaves of the one before.
abbrev pub put_header : ℕ → ℕ → Header → List ℕ
put_header w version h =
    let mark = slice_set (slice_set (slice_set (replicate 28 0) 0 84) 1 77) 2 66 in
    let heading = sets (sets (sets mark 3 (u32_bytes version)) 5 (u32_bytes h.job)) 9 (u32_bytes h.round) in
    let vertices = sets (sets heading 11 (u32_bytes h.base_vertices)) (11 + w) (u32_bytes h.vertices) in
    let records = sets (sets vertices (11 + w * 2) (u32_bytes h.base_records)) (11 + w * 3) (u32_bytes h.records) in
    slice_set records (11 + w * 4) 0

pub header_put : (f : Format) (h : Header) (w version : ℕ) → w ≡ number_width f → version ≡ version_of f → take (header_width f) (put_header w version h) ≡ header_bytes f h
unfolding number_bytes
header_put f h w version e v = (λ i. take (header_width f) (put_header (e i) version h)) ∙ go f.wide refl
  where
    go : (b : Bool) → f.wide ≡ b → take (header_width f) (put_header (cond b 4 2) version h) ≡ header_bytes f h
    go true e = header_laid f h [] 4 version (wide_number f e) v
    go false e = header_laid f h _ 2 version (narrow_number f e) v

-- ---- a vertex

abbrev pub laid_vertex : ℕ → ℕ → ℕ → Vertex → List ℕ → List ℕ
laid_vertex w p q v more =
    u16_bytes (stored_of v.place.x) ++ (u16_bytes (stored_of v.place.y) ++ (u16_bytes (stored_of v.place.z) ++ (number_bytes w p ++ (number_bytes w q ++ more))))

pub vertex_laid : (f : Format) (v : Vertex) (more : List ℕ) (w p q : ℕ) → w ≡ number_width f → p ≡ stored_or_none f v.p → q ≡ stored_or_none f v.q → take (vertex_width f) (laid_vertex w p q v more) ≡ vertex_bytes f v
unfolding vertex_bytes number_bytes
vertex_laid f v more w p q e ep eq = (λ i. take (vertex_width f) (laid_vertex (e i) (ep i) (eq i) v more)) ∙ go f.wide
  where
    go : (b : Bool) →
        take (6 + cond b 4 2 * 2) (laid_vertex (cond b 4 2) (stored_or_none f v.p) (stored_or_none f v.q) v more)
        ≡ u16_bytes (stored_of v.place.x) ++ u16_bytes (stored_of v.place.y) ++ u16_bytes (stored_of v.place.z) ++ number_bytes (cond b 4 2) (stored_or_none f v.p) ++ number_bytes (cond b 4 2) (stored_or_none f v.q)
    go true = refl
    go false = refl

abbrev pub put_vertex : ℕ → ℕ → ℕ → Vertex → List ℕ
put_vertex w p q v =
    let place = sets (sets (sets (replicate 14 0) 0 (u32_bytes (stored_of v.place.x))) 2 (u32_bytes (stored_of v.place.y))) 4 (u32_bytes (stored_of v.place.z)) in
    sets (sets place 6 (u32_bytes p)) (6 + w) (u32_bytes q)

pub vertex_put : (f : Format) (v : Vertex) (w p q : ℕ) → w ≡ number_width f → p ≡ stored_or_none f v.p → q ≡ stored_or_none f v.q → take (vertex_width f) (put_vertex w p q v) ≡ vertex_bytes f v
unfolding number_bytes
vertex_put f v w p q e ep eq = (λ i. take (vertex_width f) (put_vertex (e i) p q v)) ∙ go f.wide refl
  where
    go : (b : Bool) → f.wide ≡ b → take (vertex_width f) (put_vertex (cond b 4 2) p q v) ≡ vertex_bytes f v
    go true e = vertex_laid f v [] 4 p q (wide_number f e) ep eq
    go false e = vertex_laid f v _ 2 p q (narrow_number f e) ep eq

-- ---- a record

-- A record's seven bytes between its corners and its first child, and what follows them.
abbrev between : Record → List ℕ → List ℕ
between r rest =
    r.piece.edge
    ∷ get_or r.piece.marks 0 0 ∷ get_or r.piece.marks 1 0 ∷ get_or r.piece.marks 2 0 ∷ get_or r.piece.marks 3 0
    ∷ r.piece.flag
    ∷ r.piece.generation
    ∷ rest

-- With a material always, which the width leaves off where the format has none.
abbrev pub laid_record : ℕ → (a b c d child : ℕ) → Record → List ℕ → List ℕ
laid_record w a b c d child r more =
    number_bytes w a ++ (number_bytes w b ++ (number_bytes w c ++ (number_bytes w d ++ between r (number_bytes w child ++ (r.piece.material ∷ more)))))

pub record_laid : (f : Format) (r : Record) (more : List ℕ) (w a b c d child : ℕ) → w ≡ number_width f →
    a ≡ stored_or_none f (get_or r.piece.corners 0 0) → b ≡ stored_or_none f (get_or r.piece.corners 1 0) → c ≡ stored_or_none f (get_or r.piece.corners 2 0) → d ≡ stored_or_none f (get_or r.piece.corners 3 0) →
    child ≡ stored_or_none f r.first_child → take (record_width f) (laid_record w a b c d child r more) ≡ record_bytes f r
unfolding record_bytes number_bytes
record_laid f r more w a b c d child e ea eb ec ed echild =
    (λ i. take (record_width f) (laid_record (e i) (ea i) (eb i) (ec i) (ed i) (echild i) r more)) ∙ go f.wide f.material
  where
    corner : ℕ → ℕ
    corner k = stored_or_none f (get_or r.piece.corners k 0)

    first : ℕ
    first = stored_or_none f r.first_child

    go : (b m : Bool) →
        take (cond b 4 2 * 5 + 7 + bit m) (laid_record (cond b 4 2) (corner 0) (corner 1) (corner 2) (corner 3) first r more)
        ≡ number_bytes (cond b 4 2) (corner 0) ++ (number_bytes (cond b 4 2) (corner 1) ++ (number_bytes (cond b 4 2) (corner 2) ++ (number_bytes (cond b 4 2) (corner 3)
        ++ between r (number_bytes (cond b 4 2) first ++ cond m (r.piece.material ∷ []) []))))
    go true true = refl
    go true false = refl
    go false true = refl
    go false false = refl

abbrev pub put_record : ℕ → (a b c d child : ℕ) → Record → List ℕ
put_record w a b c d child r =
    let at = w * 4 in
    let corners = sets (sets (sets (sets (replicate 28 0) 0 (u32_bytes a)) w (u32_bytes b)) (w * 2) (u32_bytes c)) (w * 3) (u32_bytes d) in
    let edge = slice_set corners at r.piece.edge in
    let marks = slice_set (slice_set (slice_set (slice_set edge (at + 1) (get_or r.piece.marks 0 0)) (at + 2) (get_or r.piece.marks 1 0)) (at + 3) (get_or r.piece.marks 2 0)) (at + 4) (get_or r.piece.marks 3 0) in
    let numbers = slice_set (slice_set marks (at + 5) r.piece.flag) (at + 6) r.piece.generation in
    slice_set (sets numbers (at + 7) (u32_bytes child)) (at + 7 + w) r.piece.material

pub record_put : (f : Format) (r : Record) (w a b c d child : ℕ) → w ≡ number_width f →
    a ≡ stored_or_none f (get_or r.piece.corners 0 0) → b ≡ stored_or_none f (get_or r.piece.corners 1 0) → c ≡ stored_or_none f (get_or r.piece.corners 2 0) → d ≡ stored_or_none f (get_or r.piece.corners 3 0) →
    child ≡ stored_or_none f r.first_child → take (record_width f) (put_record w a b c d child r) ≡ record_bytes f r
unfolding number_bytes
record_put f r w a b c d child e ea eb ec ed echild = (λ i. take (record_width f) (put_record (e i) a b c d child r)) ∙ go f.wide refl
  where
    go : (wide : Bool) → f.wide ≡ wide → take (record_width f) (put_record (cond wide 4 2) a b c d child r) ≡ record_bytes f r
    go true e = record_laid f r [] 4 a b c d child (wide_number f e) ea eb ec ed echild
    go false e = record_laid f r _ 2 a b c d child (narrow_number f e) ea eb ec ed echild
