-- Tables to work on, in every format: they are copied from a mesh in one buffer into cleared slices, and a mesh in one buffer is assembled from them.
use Rattle.std.specs.Prelude.{◌≡◌, false, get_or, drop, replicate, ltb}
use Rattle.std.proofs.Math.Path.{refl, sym, ap, ap₂}
use Rattle.std.proofs.Common.{◌∙◌, ⊎_elim, mul-suc, mul-le-mul_left, arith, length-drop, length-take, take-take, length-take-le, get_or-take, get_or-drop, ltb-true, ltb-false}
use Rattle.std.proofs.Math.Bool.{cond}
use mathlib.Core.List.{List, [], ◌∷◌, ◌++◌, append_assoc, append-nil}
use Prim.Native.Nat.{ℕ, zero, suc, ◌+◌, ◌-◌, ◌*◌, ◌≤◌, ◌<◌}
use Rattle.std.proofs.Math.ListN.{length, take, length-append, get_or-eq_default}
use Rattle.std.proofs.lemmas.List.{length-replicate, get_or-replicate, take-append-le}
use Rattle.std.proofs.lemmas.List.Edits.{sets}
use Rattle.std.proofs.Math.Seq.{drop_at}
use Rattle.laws.specs.Below.{either, list_below}
use Rattle.laws.specs.Lists.{drop_take, Bytes, joined_below, sets_run, sets_after}
use Rattle.laws.specs.Numbers.{number}
use Rattle.stored.specs.declared.Format.{Format}
use Rattle.stored.specs.declared.Kind.{Kind}
use Rattle.stored.specs.declared.Layout.{Layout}
use Rattle.stored.specs.declared.Header.{Header}
use Rattle.stored.specs.Layout.{header_width, vertex_width, record_width, number_width, place_of, or_none, mesh_length, header_from, header_bytes, vertex_from, vertex_bytes, edge_at, record_from, record_bytes, held_in, vertex_in, record_in, layout_of, working, vertex_part, record_part, assembled, mesh_bytes, laid_out}
use Rattle.stored.specs.Held.{held_base, held_growth, held_none, same_held}
use Rattle.stored.specs.Fitting.{HeaderFits}
use Rattle.stored.specs.Entries.{header_wide, header_again_lem}
use Rattle.stored.specs.Meshes.{vertex_at_lem, record_at_lem}

-- ---- a mesh in one buffer: all vertices stand after the header, and all records after them

abbrev pub one_layout : Format → Header → Layout
one_layout f h =
    record {
      format = f;
      vertices = record { width = vertex_width f; count = h.vertices; end = h.vertices; base = header_width f; grown = 0 };
      records = record { width = record_width f; count = h.records; end = h.records; base = header_width f + vertex_width f * h.vertices; grown = vertex_width f * 0 };
    }

pub one_layout_lem : (k : Kind) → k.two ≡ false → (h : Header) → layout_of k h ≡ one_layout k.format h
one_layout_lem k one h = rw one

-- ---- where an entry stands in the slices to work on

module _ (f : Format) (vertices records : ℕ) (base grown : List ℕ) (i : ℕ) where
  pub working_vertex : i < vertices → held_in (working f vertices records).vertices base grown i ≡ take (vertex_width f) (drop (vertex_width f * i) base)
  working_vertex l = held_base (working f vertices records).vertices base grown i l l

  pub working_record : i < records → held_in (working f vertices records).records base grown i ≡ take (record_width f) (drop (record_width f * i) grown)
  working_record l =
      let none_before : i - 0 ≡ i = omega arith in
      held_growth (working f vertices records).records base grown i l (omega arith)
      ∙ ap (λ (n : ℕ). take (record_width f) (drop (record_width f * n) grown)) none_before

-- ---- from tables that were worked on to the mesh that is assembled from them

-- An entry that lies within the front of t stands there too, whatever follows the front.
pub front_entry : (w i n : ℕ) (t rest : List ℕ) → i < n → w * n ≤ length t → take w (drop (w * i) (take (w * n) t ++ rest)) ≡ take w (drop (w * i) t)
front_entry w i n t rest l within =
    let next : w * i + w ≤ w * n = rw (← mul-suc w i) (mul-le-mul_left w l) in
    let long : length (take (w * n) t) ≡ w * n = length-take-le (w * n) t within in
    sym (drop_take (w * i) w (take (w * n) t ++ rest))
    ∙ ap (drop (w * i)) (take-append-le (w * i + w) (take (w * n) t) rest (omega arith) ∙ take-take (w * i + w) (w * n) t next)
    ∙ drop_take (w * i) w t

module _ (f : Format) (h : Header) (vertices records : List ℕ) (long : vertex_width f * h.vertices ≤ length vertices) (deep : record_width f * h.records ≤ length records) where
  abbrev whole : List ℕ
  whole = assembled f h vertices records

  abbrev first_vertices : List ℕ
  first_vertices = take (vertex_width f * h.vertices) vertices

  abbrev first_records : List ℕ
  first_records = take (record_width f * h.records) records

  pub assembled_header : HeaderFits f h → header_from f (assembled f h vertices records) ≡ h
  unfolding assembled
  assembled_header u = ap (header_from f) (append_assoc (header_bytes f h) first_vertices first_records) ∙ header_again_lem f h (first_vertices ++ first_records) u

  front_wide : length (header_bytes f h ++ first_vertices) ≡ header_width f + vertex_width f * h.vertices
  front_wide = length-append (header_bytes f h) first_vertices ∙ ap₂ ◌+◌ (header_wide f h) (length-take-le (vertex_width f * h.vertices) vertices long)

  pub assembled_length : length (assembled f h vertices records) ≡ mesh_length f h.vertices h.records
  unfolding assembled
  assembled_length = length-append (header_bytes f h ++ first_vertices) first_records ∙ ap₂ ◌+◌ front_wide (length-take-le (record_width f * h.records) records deep)

  module _ (k : Kind) (one : k.two ≡ false) (same_format : k.format ≡ f) (grown : List ℕ) where
    layout_is : layout_of k h ≡ one_layout f h
    layout_is = one_layout_lem k one h ∙ ap (λ (g : Format). one_layout g h) same_format

    pub assembled_vertices : vertex_in (working f h.vertices h.records) vertices records ≡ vertex_in (layout_of k h) (assembled f h vertices records) grown
    unfolding vertex_in assembled
    assembled_vertices =
        (λ k i. vertex_from f (same_held (working f h.vertices h.records).vertices (one_layout f h).vertices vertices records whole grown refl same i k))
        ∙ ap (λ (l : Layout). vertex_in l whole grown) (sym layout_is)
      where
        same : (i : ℕ) → i < h.vertices → held_in (working f h.vertices h.records).vertices vertices records i ≡ held_in (one_layout f h).vertices whole grown i
        same i l =
            working_vertex f h.vertices h.records vertices records i l
            ∙ sym (front_entry (vertex_width f) i h.vertices vertices first_records l long)
            ∙ ap (λ (r : List ℕ). take (vertex_width f) (drop (vertex_width f * i) r)) (sym (ap (drop (header_width f)) (append_assoc (header_bytes f h) first_vertices first_records) ∙ drop_at (header_bytes f h) (first_vertices ++ first_records) (header_width f) (header_wide f h)))
            ∙ sym (held_base (one_layout f h).vertices whole grown i l l)

    pub assembled_records : record_in (working f h.vertices h.records) vertices records ≡ record_in (layout_of k h) (assembled f h vertices records) grown
    unfolding record_in assembled
    assembled_records =
        (λ k i. record_from f (same_held (working f h.vertices h.records).records (one_layout f h).records vertices records whole grown refl same i k))
        ∙ ap (λ (l : Layout). record_in l whole grown) (sym layout_is)
      where
        same : (i : ℕ) → i < h.records → held_in (working f h.vertices h.records).records vertices records i ≡ held_in (one_layout f h).records whole grown i
        same i l =
            working_record f h.vertices h.records vertices records i l
            ∙ sym (front_entry (record_width f) i h.records records [] l deep)
            ∙ ap (λ (r : List ℕ). take (record_width f) (drop (record_width f * i) r))
            (append-nil first_records ∙ sym (drop_at (header_bytes f h ++ first_vertices) first_records (header_width f + vertex_width f * h.vertices) front_wide))
            ∙ sym (held_base (one_layout f h).records whole grown i l l)

-- ---- zeros read as nothing does

abbrev Zeros : List ℕ → Type 0
Zeros z = (k : ℕ) → get_or z k 0 ≡ 0

zeros_drop : (n : ℕ) (z : List ℕ) → Zeros z → Zeros (drop n z)
zeros_drop n z h k = get_or-drop n z k 0 ∙ h (n + k)

zeros_take : (n : ℕ) (z : List ℕ) → Zeros z → Zeros (take n z)
zeros_take n z h k =
    ⊎_elim
    (λ t. get_or-take n z k 0 (ltb-true k n t) ∙ h k)
    (λ f. let past = ltb-false k n f in get_or-eq_default (take n z) 0 (omega (arith, length-take n z)))
    (either (ltb k n))

zeros_replicate : (n : ℕ) → Zeros (replicate n 0)
zeros_replicate n k =
    ⊎_elim
    (λ t. get_or-replicate n k 0 0 (ltb-true k n t))
    (λ f. let past = ltb-false k n f in get_or-eq_default (replicate n 0) 0 (omega (arith, length-replicate {A = ℕ} n 0)))
    (either (ltb k n))

zeros_number : (w : ℕ) (z : List ℕ) → Zeros z → number w z ≡ 0
unfolding number
zeros_number zero z h = refl
zeros_number (suc w) z h = rw (h 0, zeros_number w (drop 1 z) (zeros_drop 1 z h))

module _ (z : List ℕ) (h : Zeros z) where
  zero_number : (w at : ℕ) → number w (drop at z) ≡ number w (drop at [])
  zero_number w at = zeros_number w (drop at z) (zeros_drop at z h) ∙ sym (zeros_number w (drop at []) (zeros_drop at [] (λ k. refl)))

  zero_byte : (at : ℕ) → get_or z at 0 ≡ get_or [] at 0
  zero_byte at = h at

  module _ (f : Format) where
    zero_vertex : vertex_from f z ≡ vertex_from f []
    unfolding vertex_from
    zero_vertex = λ i.
        record {
          place = record { x = place_of (zero_number 2 0 i); y = place_of (zero_number 2 2 i); z = place_of (zero_number 2 4 i) };
          p = or_none f (zero_number (number_width f) 6 i);
          q = or_none f (zero_number (number_width f) (6 + number_width f) i);
        }

    zero_record : record_from f z ≡ record_from f []
    unfolding record_from
    zero_record = λ i.
        let w = number_width f in
        let e = edge_at f in
        record {
          piece = record {
            corners = or_none f (zero_number w (w * 0) i) ∷ or_none f (zero_number w (w * 1) i) ∷ or_none f (zero_number w (w * 2) i) ∷ or_none f (zero_number w (w * 3) i) ∷ [];
            edge = zero_byte (e + 0) i;
            marks = zero_byte (e + 1) i ∷ zero_byte (e + 2) i ∷ zero_byte (e + 3) i ∷ zero_byte (e + 4) i ∷ [];
            flag = zero_byte (e + 5) i;
            generation = zero_byte (e + 6) i;
            material = cond f.material (zero_byte (e + (7 + w)) i) 0;
          };
          first_child = or_none f (zero_number w (e + 7) i);
        }

-- ---- the first n entries of t, copied to the beginning of m zeros

module _ (w n m : ℕ) (t : List ℕ) (within : w * n ≤ length t) (room : w * n ≤ m) where
  abbrev copied : List ℕ
  copied = sets (replicate m 0) 0 (take (w * n) t)

  wide : length (take (w * n) t) ≡ w * n
  wide = length-take-le (w * n) t within

  copied_entry : (i : ℕ) → i < n → take w (drop (w * i) copied) ≡ take w (drop (w * i) t)
  copied_entry i l =
      ap (λ (s : List ℕ). take w (drop (w * i) s)) (sets_run (replicate m 0) 0 (take (w * n) t) (omega (arith, wide, length-replicate {A = ℕ} m 0)))
      ∙ front_entry w i n t (drop (0 + length (take (w * n) t)) (replicate m 0)) l within

  copied_zeros : (i : ℕ) → n ≤ i → Zeros (take w (drop (w * i) copied))
  copied_zeros i l =
      let past : w * n ≤ w * i = mul-le-mul_left w l in
      rw (sets_after (replicate m 0) 0 (take (w * n) t) (w * i) (omega (arith, wide))) (zeros_take w (drop (w * i) (replicate m 0)) (zeros_drop (w * i) (replicate m 0) (zeros_replicate m)))

  -- A table of `end` entries that stands over the copy is read as the one of n entries over t, whatever it is that is read, if zeros
  -- read as nothing does.
  module _ {A : Type 0} (from : List ℕ → A) (nothing : (z : List ℕ) → Zeros z → from z ≡ from []) (end : ℕ) (few : n ≤ end) (here there : ℕ → List ℕ)
      (here_is : (i : ℕ) → i < end → here i ≡ take w (drop (w * i) copied)) (here_none : (i : ℕ) → end ≤ i → here i ≡ [])
      (there_is : (i : ℕ) → i < n → there i ≡ take w (drop (w * i) t)) (there_none : (i : ℕ) → n ≤ i → there i ≡ []) where
    past : (i : ℕ) → n ≤ i → from (here i) ≡ from []
    past i l =
        ⊎_elim
        (λ b. ap from (here_is i (ltb-true i end b)) ∙ nothing (take w (drop (w * i) copied)) (copied_zeros i l))
        (λ f. ap from (here_none i (ltb-false i end f)))
        (either (ltb i end))

    copied_reads : (i : ℕ) → from (here i) ≡ from (there i)
    copied_reads i =
        ⊎_elim
        (λ b. let l = ltb-true i n b in ap from (here_is i (omega arith) ∙ copied_entry i l ∙ sym (there_is i l)))
        (λ f. let l = ltb-false i n f in past i l ∙ ap from (sym (there_none i l)))
        (either (ltb i n))

-- ---- the tables of a mesh in one buffer, copied to work on, read as they do in the mesh

module _ (f : Format) (h : Header) (s : List ℕ) (long : length s ≡ mesh_length f h.vertices h.records) (vertices records : ℕ) (v : h.vertices ≤ vertices) (r : h.records ≤ records) where
  abbrev base : List ℕ
  base = sets (replicate (vertex_width f * vertices) 0) 0 (vertex_part f h s)

  abbrev grown : List ℕ
  grown = sets (replicate (record_width f * records) 0) 0 (record_part f h s)

  module _ (k : Kind) (one : k.two ≡ false) (same_format : k.format ≡ f) (more : List ℕ) where
    one_is : one_layout f h ≡ layout_of k h
    one_is = sym (one_layout_lem k one h ∙ ap (λ (g : Format). one_layout g h) same_format)

    pub copied_vertices_lem : vertex_in (working f vertices records) base grown ≡ vertex_in (layout_of k h) s more
    unfolding vertex_in vertex_part
    copied_vertices_lem =
        let within : vertex_width f * h.vertices ≤ length (drop (header_width f) s) = rw (length-drop (header_width f) s) (omega arith) in
        (λ k i. copied_reads (vertex_width f) h.vertices (vertex_width f * vertices) (drop (header_width f) s) within (mul-le-mul_left (vertex_width f) v) (vertex_from f) (λ z q. zero_vertex z q f) vertices v
        (held_in (working f vertices records).vertices base grown) (held_in (one_layout f h).vertices s more)
        (working_vertex f vertices records base grown) (held_none (working f vertices records).vertices base grown)
        (λ j l. held_base (one_layout f h).vertices s more j l l) (held_none (one_layout f h).vertices s more) i k)
        ∙ ap (λ (l : Layout). vertex_in l s more) one_is

    pub copied_records_lem : record_in (working f vertices records) base grown ≡ record_in (layout_of k h) s more
    unfolding record_in record_part
    copied_records_lem =
        let from : ℕ = header_width f + vertex_width f * h.vertices in
        let within : record_width f * h.records ≤ length (drop from s) = rw (length-drop from s) (omega arith) in
        (λ k i. copied_reads (record_width f) h.records (record_width f * records) (drop from s) within (mul-le-mul_left (record_width f) r) (record_from f) (λ z q. zero_record z q f) records r
        (held_in (working f vertices records).records base grown) (held_in (one_layout f h).records s more)
        (working_record f vertices records base grown) (held_none (working f vertices records).records base grown)
        (λ j l. held_base (one_layout f h).records s more j l l) (held_none (one_layout f h).records s more) i k)
        ∙ ap (λ (l : Layout). record_in l s more) one_is

-- ---- the mesh assembled from tables that were worked on is the one of their numbers

module _ (f : Format) (h : Header) (vertices records : ℕ) (v : h.vertices ≤ vertices) (r : h.records ≤ records) (base grown : List ℕ) (b : Bytes base) (g : Bytes grown) (long : length base ≡ vertex_width f * vertices) (deep : length grown ≡ record_width f * records) where
  next : (w i n : ℕ) → i < n → w * i + w ≤ w * n
  next w i n l = rw (← mul-suc w i) (mul-le-mul_left w l)

  pub assembled_mesh : assembled f h base grown ≡ mesh_bytes f (record { header = h; vertices = list_below h.vertices (vertex_in (working f vertices records) base grown); records = list_below h.records (record_in (working f vertices records) base grown) })
  unfolding assembled laid_out vertex_in record_in
  assembled_mesh =
      sym (ap₂ (λ (a c : List ℕ). header_bytes f h ++ a ++ c)
      (joined_below (vertex_bytes f) (vertex_width f) h.vertices (vertex_in (working f vertices records) base grown) base vertex)
      (joined_below (record_bytes f) (record_width f) h.records (record_in (working f vertices records) base grown) grown piece))
    where
      vertex : (i : ℕ) → i < h.vertices → vertex_bytes f (vertex_in (working f vertices records) base grown i) ≡ take (vertex_width f) (drop (vertex_width f * i) base)
      vertex i l =
          let n = next (vertex_width f) i vertices (omega arith) in
          ap (λ (t : List ℕ). vertex_bytes f (vertex_from f t)) (working_vertex f vertices records base grown i (omega arith)) ∙ vertex_at_lem f base b 0 i (omega arith)

      piece : (i : ℕ) → i < h.records → record_bytes f (record_in (working f vertices records) base grown i) ≡ take (record_width f) (drop (record_width f * i) grown)
      piece i l =
          let n = next (record_width f) i records (omega arith) in
          ap (λ (t : List ℕ). record_bytes f (record_from f t)) (working_record f vertices records base grown i (omega arith)) ∙ record_at_lem f grown g 0 i (omega arith)
