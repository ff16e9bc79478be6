-- What is written so is the mesh that is left.
use Rattle.std.specs.Prelude.{◌≡◌, Bool, true, false, ℕ, zero, suc, ◌+◌, ◌*◌, ◌≤◌, ◌<◌, length, eqb}
use Rattle.std.proofs.Math.Path.{sym, ap, ap₂}
use Rattle.std.proofs.Common.{◌∙◌, ⊎_elim, le_refl, arith, length-append}
use mathlib.Core.List.{List, [], ◌∷◌, ◌++◌, append_assoc, append-nil}
use Rattle.std.proofs.Math.Seq.{sets, length-sets}
use borrow.Author.Tests.{ne_eqb}
use Rattle.laws.specs.Below.{count_below, count_at_most, list_below, either}
use Rattle.laws.specs.Lists.{joined, joined_append, joined_length, sets_append}
use Rattle.laws.specs.Counts.{counts_below, counts_none, counts_suc}
use Rattle.laws_remaining.specs.Remaining.{remaining_below, remaining_none, remaining_here, remaining_past, remaining_length, remaining_is}
use Rattle.stored.specs.declared.Format.{Format}
use Rattle.stored.specs.declared.Header.{Header}
use Rattle.stored.specs.declared.Vertex.{Vertex}
use Rattle.stored.specs.declared.Record.{Record}
use Rattle.stored.specs.Layout.{none, header_width, vertex_width, record_width, mesh_length, header_bytes, vertex_bytes, record_bytes, Mesh, laid_out, mesh_bytes}
use Rattle.stored.specs.Entries.{header_wide, vertex_wide_lem, record_wide_lem}
use Rattle.mesh_tables.specs.Tables.{Tables, all_vertices, all_records}
use Rattle.takeback_remains.specs.Remains.{vertex_remains, record_remains, renumbered, vertex_again, record_again, closed_up}
use Rattle.takeback_remains.specs.Numbers.{new_in, new_stays, new_gone}
use Rattle.takeback_closed.specs.Closed.{entry_put, closed_put}

-- The buffer stays as long as it is.
pub put_long : (new place : ℕ → ℕ) (bytes : ℕ → List ℕ) (out : List ℕ) (x : ℕ) → length (entry_put new place bytes out x) ≡ length out
unfolding entry_put
put_long new place bytes out x = ⊎_elim (λ t. rw t) (λ f. rw f (length-sets out (place (new x)) (bytes x))) (either (eqb (new x) none))

-- Entries of one width, of the numbers below n that remain: they stand one behind the other, behind what was there before.
module _ {A : Type 0} (P : ℕ → Bool) (n : ℕ) (place : ℕ → ℕ) (f : A → List ℕ) (entry : ℕ → A) (width : ℕ) (wide : (a : A) → length (f a) ≡ width) where
  abbrev add : List ℕ → ℕ → List ℕ
  add = entry_put (renumbered P) place (λ x. f (entry x))

  -- The bytes of those below i.
  abbrev these : ℕ → List ℕ
  these i = joined f (remaining_below i P entry)

  these_long : (i : ℕ) → length (these i) ≡ width * count_below i P
  these_long i = joined_length f width wide (remaining_below i P entry) ∙ ap (λ (k : ℕ). width * k) (remaining_length P entry i)

  module _ (small : n ≤ none) where
    put_gone : (out : List ℕ) (x : ℕ) → P x ≡ false → add out x ≡ out
    unfolding entry_put
    put_gone out x e = rw (new_gone P x e)

    put_stays : (out : List ℕ) (x : ℕ) → x < n → P x ≡ true → add out x ≡ sets out (place (count_below x P)) (f (entry x))
    unfolding entry_put
    put_stays out x l e = rw (new_stays P x e, ne_eqb (count_below x P) none (λ q. omega (arith, count_at_most P x)))

    module _ (start front : List ℕ) (placed : (k : ℕ) → place k ≡ length front + width * k) where
      none_yet : front ++ these 0 ≡ front
      unfolding joined
      none_yet = ap (λ (l : List A). front ++ joined f l) (remaining_none P entry) ∙ append-nil front

      one_more : (i : ℕ) → P i ≡ true → (front ++ these i) ++ f (entry i) ≡ front ++ these (suc i)
      unfolding joined
      one_more i t =
          append_assoc front (these i) (f (entry i))
          ∙ ap (λ (r : List ℕ). front ++ r)
          (ap (λ (r : List ℕ). these i ++ r) (sym (append-nil (f (entry i)))) ∙ sym (joined_append f (remaining_below i P entry) (entry i ∷ [])) ∙ ap (joined f) (sym (remaining_here P entry i t)))

      pub entries_put : (i : ℕ) → i ≤ n → counts_below add (sets start 0 front) i ≡ sets start 0 (front ++ these i)
      entries_put zero h = counts_none add (sets start 0 front) ∙ ap (sets start 0) (sym none_yet)
      entries_put (suc i) h =
          counts_suc add (sets start 0 front) i
          ∙ ap (λ (t : List ℕ). add t i) (entries_put i (omega arith))
          ∙ ⊎_elim
          (λ t.
          put_stays (sets start 0 (front ++ these i)) i h t
          ∙ ap (λ (at : ℕ). sets (sets start 0 (front ++ these i)) at (f (entry i))) (placed (count_below i P) ∙ here i)
          ∙ sym (sets_append start 0 (front ++ these i) (f (entry i)))
          ∙ ap (sets start 0) (one_more i t))
          (λ q. put_gone (sets start 0 (front ++ these i)) i q ∙ ap (λ (l : List A). sets start 0 (front ++ joined f l)) (sym (remaining_past P entry i q)))
          (either (P i))
        where
          here : (i : ℕ) → length front + width * count_below i P ≡ 0 + length (front ++ these i)
          here i = rw (length-append front (these i), these_long i) (omega arith)

-- All vertices and then all records, by the tables of their new numbers.
module _ (f : Format) (m : Tables) (named : ℕ → Bool) (vertices records : List ℕ) (h : Header) (out : List ℕ) where
  abbrev t : Tables
  t = closed_up m named

  abbrev pub left_mesh : Mesh
  left_mesh = record { header = h; vertices = list_below (all_vertices t) t.vertex_at; records = list_below (all_records t) t.record_at }

  abbrev P : ℕ → Bool
  P = vertex_remains m named

  abbrev Q : ℕ → Bool
  Q = record_remains m named

  -- The same by any new numbers.
  abbrev put_by : (ℕ → ℕ) → (ℕ → ℕ) → List ℕ
  put_by new_vertex new_record =
      counts_below (entry_put new_record (λ k. mesh_length f h.vertices k) (λ c. record_bytes f (record_again new_vertex new_record (m.record_at c))))
      (counts_below (entry_put new_vertex (λ k. mesh_length f k 0) (λ v. vertex_bytes f (vertex_again new_vertex (m.vertex_at v)))) (sets out 0 (header_bytes f h)) (all_vertices m))
      (all_records m)

  -- Each entry with its new numbers.
  abbrev vertex_now : ℕ → Vertex
  vertex_now v = vertex_again (renumbered P) (m.vertex_at v)

  abbrev record_now : ℕ → Record
  record_now c = record_again (renumbered P) (renumbered Q) (m.record_at c)

  abbrev front : List ℕ
  front = header_bytes f h ++ joined (vertex_bytes f) (remaining_below (all_vertices m) P vertex_now)

  module _ (of_vertices : new_in vertices ≡ renumbered P) (of_records : new_in records ≡ renumbered Q) (behind : h.vertices ≡ count_below (all_vertices m) P) (few_vertices : all_vertices m ≤ none) (few_records : all_records m ≤ none) where
    front_long : length front ≡ header_width f + vertex_width f * h.vertices
    front_long =
        length-append (header_bytes f h) _
        ∙ ap₂ ◌+◌ (header_wide f h) (these_long P (all_vertices m) (λ k. mesh_length f k 0) (vertex_bytes f) vertex_now (vertex_width f) (vertex_wide_lem f) (all_vertices m) ∙ ap (λ (n : ℕ). vertex_width f * n) (sym behind))

    pub closed_put_lem : closed_put f m vertices records h out ≡ sets out 0 (mesh_bytes f left_mesh)
    unfolding closed_put closed_up laid_out
    closed_put_lem =
        (λ i. put_by (of_vertices i) (of_records i))
        ∙ ap (λ (s : List ℕ). counts_below (entry_put (renumbered Q) (λ k. mesh_length f h.vertices k) (λ c. record_bytes f (record_now c))) s (all_records m))
        (entries_put P (all_vertices m) (λ k. mesh_length f k 0) (vertex_bytes f) vertex_now (vertex_width f) (vertex_wide_lem f) few_vertices out (header_bytes f h) (λ k. omega (arith, header_wide f h)) (all_vertices m) (le_refl (all_vertices m)))
        ∙ entries_put Q (all_records m) (λ k. mesh_length f h.vertices k) (record_bytes f) record_now (record_width f) (record_wide_lem f) few_records out front (λ k. omega (arith, front_long)) (all_records m) (le_refl (all_records m))
        ∙ ap₂ (λ (a : List Vertex) (b : List Record). sets out 0 (header_bytes f h ++ joined (vertex_bytes f) a ++ joined (record_bytes f) b))
        (remaining_is P vertex_now (all_vertices m))
        (remaining_is Q record_now (all_records m))
