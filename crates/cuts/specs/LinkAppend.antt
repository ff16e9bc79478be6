-- Appending one cut to lawful tables gives lawful tables, and adds its node to the set.
use Rattle.std.specs.Prelude.{◌≡◌, Bool, true, false, ◌⊎◌, ◌≢◌, ◌↔◌, ℕ, zero, suc, ◌≤◌, ◌<◌, eqb, ltb}
use Rattle.std.proofs.Common.{sym, ap, ◌∙◌, subst, inl, inr, arith}
use Rattle.std.proofs.Math.Path.{ap₂}
use Rattle.std.proofs.Math.Bool.{cond}
use Rattle.std.proofs.Math.Logic.{⊎_elim}
use Rattle.std.proofs.Math.Logic.Iff
use borrow.Author.Tests.{eqb-true, eqb-false, ltb-true, ltb-false}
use Rattle.laws.specs.Below.{either}
use Rattle.piece_edges.specs.Edges.{low_slot, high_slot, slots_small}
use Rattle.piece.specs.Shape.{Shape, mark}
use Rattle.piece_cut.specs.Cut.{child_shape}
use Rattle.cuts_names.specs.Lists.{both_ways}
use Rattle.cuts_names.specs.Names.{mid}
use Rattle.cuts_names.specs.Pieces.{Side, low, high, Node, kid}
use Rattle.cuts.specs.Sets.{Cuts}
use Rattle.cuts_names.specs.Macro.{Alike, edge_below}
use Rattle.cuts.specs.Least.{OneMore, adding, adding_is, more_keeps, more_has, more_only}
use Rattle.cuts.specs.Smaller.{by_smaller}
use Rattle.cuts.specs.Tables.{Tables, Made, low_first, lower_end, higher_end, Midpoint, ChildOf, ProperlyCut, IsChild, HasVertex, FaceHas, SameEdge, Lawful, name_of, piece_of, child_on, node_of, Represents, NewVertex, Appended}
use Rattle.cuts.specs.LinkNames.{base_or_beyond, name_base, name_made, marked}
use Rattle.cuts.specs.LinkNodes.{every_record, node_root, node_kid, linked}
use Rattle.cuts.specs.LinkSets.{exactly_one, node_there}
use Rattle.cuts.specs.Faces.{corners_different_lem}

-- The two slots of an edge are different.
slots_rise : (e : ℕ) → e < 6 → low_slot e < high_slot e
unfolding low_slot high_slot
slots_rise zero h = omega arith
slots_rise (suc zero) h = omega arith
slots_rise (suc (suc zero)) h = omega arith
slots_rise (suc (suc (suc zero))) h = omega arith
slots_rise (suc (suc (suc (suc zero)))) h = omega arith
slots_rise (suc (suc (suc (suc (suc zero))))) h = omega arith
slots_rise (suc (suc (suc (suc (suc (suc e)))))) h = absurd (omega arith)

-- Both ends are slots below 4.
pub ends_small : (t : Tables) (r : ℕ) → (lower_end t r < 4) × (higher_end t r < 4)
unfolding lower_end higher_end
ends_small t r = let s = slots_small (t.shape r).edge in ⊎_elim (λ e. rw e s) (λ e. rw e (s.1, s.0)) (either (low_first t r))

module _ (t : Tables) (l : Lawful t) where
  -- A record's four corners are different vertices.
  pub corners_differ : (c : ℕ) → c < t.records → (j k : ℕ) → j < 4 → k < 4 → t.corner c j ≡ t.corner c k → j ≡ k
  corners_differ c h j k bj bk e =
      let i = linked t l c h in
      corners_different_lem (marked t l) (node_of t c) i.rooted j k bj bk (sym (i.piece.corner j bj) ∙ ap (name_of t) e ∙ i.piece.corner k bk)

  -- So one end of its refinement edge has a lower number than the other.
  pub ends_rise : (c : ℕ) → c < t.records → t.corner c (lower_end t c) < t.corner c (higher_end t c)
  unfolding lower_end higher_end
  ends_rise c h =
      let e = (t.shape c).edge in
      let s = slots_small e in
      let apart : t.corner c (low_slot e) ≢ t.corner c (high_slot e) =
      λ q. omega (arith, corners_differ c h (low_slot e) (high_slot e) s.0 s.1 q, slots_rise e (edge_below (t.shape c) (linked t l c h).valid)) in
      ⊎_elim
      (λ b. rw b (ltb-true (t.corner c (low_slot e)) (t.corner c (high_slot e)) b))
      (λ b. rw b (omega (arith, ltb-false (t.corner c (low_slot e)) (t.corner c (high_slot e)) b)))
      (either (low_first t c))

module _ {t t' : Tables} {n w : ℕ} (l : Lawful t) (h : n < t.records) (u : t.cut n ≡ false) (a : Appended t n w t') where
  -- ---- what stays

  -- No vertex goes.
  more_vertices : t.vertices ≤ t'.vertices
  more_vertices = ⊎_elim (λ x. omega (arith, x.count)) (λ x. omega (arith, x.count)) a.vertex

  -- A made vertex stays one.
  made_stays : (v : ℕ) → Made t v → Made t' v
  made_stays v m = (omega (arith, a.base_vertices), omega (arith, more_vertices))

  -- A made vertex is an old one, or the new one.
  made_was : (v : ℕ) → Made t' v → Made t v ⊎ ((v ≡ w) × NewVertex t n w t')
  made_was v m =
      ⊎_elim
      (λ b. inl (omega (arith, a.base_vertices), b))
      (λ b. ⊎_elim (λ x. absurd (omega (arith, x.count))) (λ x. inr (omega (arith, x.count, x.number), x)) a.vertex)
      (base_or_beyond v t.vertices)

  -- A record that was cut is not n.
  cut_not_n : (r : ℕ) → t.cut r ≡ true → r ≢ n
  cut_not_n r c e = both_ways c (subst (λ (x : ℕ). t.cut x ≡ false) (sym e) u)

  -- A cut record was cut before, or is n.
  cut_was : (r : ℕ) → r < t'.records → t'.cut r ≡ true → ((r < t.records) × (r ≢ n) × (t.cut r ≡ true)) ⊎ (r ≡ n)
  cut_was r b c =
      ⊎_elim
      (λ e. inr (eqb-true r n e))
      (λ e.
      let d : r ≢ n = eqb-false r n e in
      ⊎_elim
      (λ o. inl (o, d, sym (a.cut r o d) ∙ c))
      (λ o.
      absurd
      (⊎_elim
      (λ f. both_ways c (subst (λ (x : ℕ). t'.cut x ≡ false) (sym (eqb-true r t.records f)) a.first_uncut))
      (λ f.
      let g : r ≢ t.records = eqb-false r t.records f in
      let s : suc t.records ≡ r = omega (arith, a.records) in
      both_ways c (subst (λ (x : ℕ). t'.cut x ≡ false) s a.second_uncut))
      (either (eqb r t.records))))
      (base_or_beyond r t.records))
      (either (eqb r n))

  module _ (r : ℕ) (o : r < t.records) where
    -- The ends of an old record's refinement edge stay the lower and the higher one.
    first_stays : low_first t' r ≡ low_first t r
    first_stays =
        let e = (t.shape r).edge in
        let s = slots_small e in
        ap (λ (x : Shape). ltb (t'.corner r (low_slot x.edge)) (t'.corner r (high_slot x.edge))) (a.shape r o)
        ∙ ap₂ ltb (a.corner r o (low_slot e) s.0) (a.corner r o (high_slot e) s.1)

    lower_stays : lower_end t' r ≡ lower_end t r
    unfolding lower_end
    lower_stays = ap₂ (λ (b : Bool) (x : Shape). cond b (low_slot x.edge) (high_slot x.edge)) first_stays (a.shape r o)

    higher_stays : higher_end t' r ≡ higher_end t r
    unfolding higher_end
    higher_stays = ap₂ (λ (b : Bool) (x : Shape). cond b (high_slot x.edge) (low_slot x.edge)) first_stays (a.shape r o)

    -- So do their vertex numbers.
    lower_corner : t'.corner r (lower_end t' r) ≡ t.corner r (lower_end t r)
    lower_corner = ap (t'.corner r) lower_stays ∙ a.corner r o (lower_end t r) (ends_small t r).0

    higher_corner : t'.corner r (higher_end t' r) ≡ t.corner r (higher_end t r)
    higher_corner = ap (t'.corner r) higher_stays ∙ a.corner r o (higher_end t r) (ends_small t r).1

    -- The midpoint stays the midpoint.
    midpoint_stays : (v : ℕ) → Midpoint t v r → Midpoint t' v r
    midpoint_stays v m =
        record {
          made = made_stays v m.made;
          lower = a.p v m.made.1 ∙ m.lower ∙ sym lower_corner;
          higher = a.q v m.made.1 ∙ m.higher ∙ sym higher_corner;
        }

    -- What cutting the old record gives is what cutting the same record gives now.
    child_of_same : {v k c : ℕ} → ChildOf t r v k t' c → ChildOf t' r v k t' c
    child_of_same {v} {k} y =
        record {
          shape = y.shape ∙ ap (λ (x : Shape). child_shape x k) (sym (a.shape r o));
          corner = λ j b. y.corner j b ∙ ap (λ (x : ℕ). cond (eqb j k) v x) (sym (a.corner r o j b));
          generation = y.generation ∙ ap suc (sym (a.generation r o));
        }

    -- So old children stay what cutting gives.
    child_stays : {v k c : ℕ} → c < t.records → ChildOf t r v k t c → ChildOf t' r v k t' c
    child_stays {v} {k} {c} b y =
        child_of_same
        (record {
          shape = a.shape c b ∙ y.shape;
          corner = λ j i. a.corner c b j i ∙ y.corner j i;
          generation = a.generation c b ∙ y.generation;
        })

    -- Its corners and its faces have the same vertex numbers.
    has_stays : (x : ℕ) → HasVertex t r x ↔ HasVertex t' r x
    has_stays x = (λ y. (y.0, y.1, a.corner r o y.0 y.1 ∙ y.2), λ y. (y.0, y.1, sym (a.corner r o y.0 y.1) ∙ y.2))

    face_stays : (i x : ℕ) → FaceHas t r i x ↔ FaceHas t' r i x
    face_stays i x = (λ y. (y.0, y.1, y.2, a.corner r o y.0 y.1 ∙ y.3), λ y. (y.0, y.1, y.2, sym (a.corner r o y.0 y.1) ∙ y.3))

    -- Where it was cut it is still properly cut.
    properly_stays : r ≢ n → ProperlyCut t r → ProperlyCut t' r
    properly_stays d x =
        let e = a.first r o d in
        record {
          w = x.w;
          midpoint = midpoint_stays x.w x.midpoint;
          greater = omega (arith, x.greater);
          inside = omega (arith, x.inside, a.records);
          first_child = rw (e, higher_stays) (child_stays (omega (arith, x.inside)) x.first_child);
          second_child = rw (e, lower_stays) (child_stays x.inside x.second_child);
        }

    -- Its children are its children still.
    is_child_stays : {c : ℕ} → IsChild t r c → IsChild t' r c
    is_child_stays {c} i =
        let d = cut_not_n r i.cut in
        let e = a.first r o d in
        record {
          inside = omega (arith, a.records);
          cut = a.cut r o d ∙ i.cut;
          which = ⊎_elim (λ x. inl (x ∙ sym e)) (λ x. inr (x ∙ ap suc (sym e))) i.which;
        }

  -- ---- the new cut

  -- w is the midpoint of n's refinement edge, old or new.
  new_midpoint : Midpoint t' w n
  new_midpoint =
      ⊎_elim
      (λ x. midpoint_stays n h w x.midpoint)
      (λ x.
      record {
        made = (omega (arith, x.number, a.base_vertices, l.vertex_counts), omega (arith, x.number, x.count));
        lower = x.lower ∙ sym (lower_corner n h);
        higher = x.higher ∙ sym (higher_corner n h);
      })
      a.vertex

  -- n is properly cut.
  new_cut : ProperlyCut t' n
  new_cut =
      record {
        w = w;
        midpoint = new_midpoint;
        greater = omega (arith, a.now_first);
        inside = omega (arith, a.now_first, a.records);
        first_child = rw (a.now_first, higher_stays n h) (child_of_same n h a.first_child);
        second_child = rw (a.now_first, lower_stays n h) (child_of_same n h a.second_child);
      }

  -- A child was one before, or it is one of the two new records.
  is_child_was : (r c : ℕ) → IsChild t' r c → (IsChild t r c × (c < t.records)) ⊎ ((r ≡ n) × (t.records ≤ c))
  is_child_was r c i =
      ⊎_elim
      (λ (o, d, k).
      let e = a.first r o d in
      let x = l.properly_cut r o k in
      inl (
        record { inside = o; cut = k; which = ⊎_elim (λ q. inl (q ∙ e)) (λ q. inr (q ∙ ap suc e)) i.which },
        ⊎_elim (λ q. omega (arith, x.inside)) (λ q. omega (arith, x.inside)) i.which,
      ))
      (λ q.
      let f : t'.first r ≡ t.records = ap t'.first q ∙ a.now_first in
      inr (q, ⊎_elim (λ z. omega arith) (λ z. omega arith) i.which))
      (cut_was r i.inside i.cut)

  -- ---- the laws

  -- Tables with one cut more are lawful.
  pub append_lawful_lem : Lawful t'
  append_lawful_lem =
      record {
        vertex_counts = omega (arith, l.vertex_counts, a.base_vertices, more_vertices);
        record_counts = omega (arith, l.record_counts, a.base_records, a.records);
        parents =
            λ v m.
            ⊎_elim
            (λ o. let x = l.parents v o in (omega (arith, a.p v o.1, a.q v o.1), omega (arith, a.q v o.1)))
            (λ (e, x).
            let pe : t'.p v ≡ t.corner n (lower_end t n) = ap t'.p e ∙ x.lower in
            let qe : t'.q v ≡ t.corner n (higher_end t n) = ap t'.q e ∙ x.higher in
            (omega (arith, ends_rise t l n h), omega (arith, x.number, (linked t l n h).corners (higher_end t n) (ends_small t n).1)))
            (made_was v m);
        pair_once =
            λ v v' m m' ep eq.
            ⊎_elim
            (λ o.
            ⊎_elim
            (λ o'. l.pair_once v v' o o' (sym (a.p v o.1) ∙ ep ∙ a.p v' o'.1) (sym (a.q v o.1) ∙ eq ∙ a.q v' o'.1))
            (λ (e, x). absurd (x.none v (taken v o v' e x ep eq)))
            (made_was v' m'))
            (λ (e, x). ⊎_elim (λ o'. absurd (x.none v' (taken v' o' v e x (sym ep) (sym eq)))) (λ (e', x'). e ∙ sym e') (made_was v' m'))
            (made_was v m);
        base_corners = λ r b k i. omega (arith, a.corner r (old r b) k i, l.base_corners r (was r b) k i, a.base_vertices);
        base_different = λ r b j k bj bk e. l.base_different r (was r b) j k bj bk (sym (a.corner r (old r b) j bj) ∙ e ∙ a.corner r (old r b) k bk);
        base_valid = λ r b. rw (a.shape r (old r b)) (l.base_valid r (was r b));
        base_unset = λ r b. ap (λ (x : Shape). x.flag) (a.shape r (old r b)) ∙ l.base_unset r (was r b);
        base_generation = λ r b. a.generation r (old r b) ∙ l.base_generation r (was r b);
        base_alone = λ r s b c f. l.base_alone r s (was r b) (was s c) (λ x. Iff.trans (has_stays r (old r b) x) (Iff.trans (f x) (Iff.symm (has_stays s (old s c) x))));
        base_shared =
            λ r s b c i j bi bj f.
            edge_stays r (old r b) s (old s c) (ap (λ (x : Shape). mark x i) (a.shape r (old r b))) (ap (λ (x : Shape). mark x j) (a.shape s (old s c)))
            (l.base_shared r s (was r b) (was s c) i j bi bj (λ x. Iff.trans (face_stays r (old r b) i x) (Iff.trans (f x) (Iff.symm (face_stays s (old s c) j x)))));
        properly_cut =
            λ r b c.
            ⊎_elim
            (λ (o, d, k). properly_stays r o d (l.properly_cut r o k))
            (λ e. rw e new_cut)
            (cut_was r b c);
        has_parent =
            λ c b i.
            ⊎_elim
            (λ o. let (r, x) = l.has_parent c (omega (arith, a.base_records)) o in (r, is_child_stays r x.inside x))
            (λ o. (n, record { inside = omega (arith, a.records); cut = a.now_cut; which = one_of_two c o i }))
            (base_or_beyond c t.records);
        one_parent =
            λ c b i r s x y.
            ⊎_elim
            (λ (x', o). ⊎_elim (λ (y', o'). l.one_parent c (omega (arith, a.base_records)) o r s x' y') (λ (e, o'). absurd (omega arith)) (is_child_was s c y))
            (λ (e, o). ⊎_elim (λ (y', o'). absurd (omega arith)) (λ (e', o'). e ∙ sym e') (is_child_was s c y))
            (is_child_was r c x);
        midpoint_of =
            λ v m.
            ⊎_elim
            (λ o. let (r, b, c, x) = l.midpoint_of v o in (r, omega (arith, a.records), a.cut r b (cut_not_n r c) ∙ c, midpoint_stays r b v x))
            (λ (e, x). (n, omega (arith, a.records), a.now_cut, rw e new_midpoint))
            (made_was v m);
      }
    where
      was : (r : ℕ) → r < t'.base_records → r < t.base_records
      was r b = omega (arith, a.base_records)

      old : (r : ℕ) → r < t'.base_records → r < t.records
      old r b = omega (arith, was r b, l.record_counts)

      taken : (v : ℕ) → Made t v → (v' : ℕ) → v' ≡ w → NewVertex t n w t' → t'.p v ≡ t'.p v' → t'.q v ≡ t'.q v' → Midpoint t v n
      taken v o v' e x ep eq =
          record {
            made = o;
            lower = sym (a.p v o.1) ∙ ep ∙ ap t'.p e ∙ x.lower;
            higher = sym (a.q v o.1) ∙ eq ∙ ap t'.q e ∙ x.higher;
          }

      edge_stays : (r : ℕ) → r < t.records → (s : ℕ) → s < t.records → {e e' f f' : ℕ} → e' ≡ e → f' ≡ f → SameEdge t r e s f → SameEdge t' r e' s f'
      edge_stays r o s o' {e} {e'} {f} {f'} pe pf x =
          let low_at : (r : ℕ) → r < t.records → (e : ℕ) → t'.corner r (low_slot e) ≡ t.corner r (low_slot e) = λ r o e. a.corner r o (low_slot e) (slots_small e).0 in
          let high_at : (r : ℕ) → r < t.records → (e : ℕ) → t'.corner r (high_slot e) ≡ t.corner r (high_slot e) = λ r o e. a.corner r o (high_slot e) (slots_small e).1 in
          rw (pe, pf, low_at r o e, high_at r o e, low_at s o' f, high_at s o' f) x

      one_of_two : (c : ℕ) → t.records ≤ c → c < t'.records → (c ≡ t'.first n) ⊎ (c ≡ suc (t'.first n))
      one_of_two c o i =
          ⊎_elim
          (λ e. inl (eqb-true c t.records e ∙ sym a.now_first))
          (λ e. let d : c ≢ t.records = eqb-false c t.records e in inr (omega (arith, a.records, a.now_first)))
          (either (eqb c t.records))

  -- ---- the set

  -- The old vertices keep their names.
  pub names_stay : (v : ℕ) → v < t.vertices → name_of t' v ≡ name_of t v
  names_stay =
      by_smaller (λ v. v < t.vertices → name_of t' v ≡ name_of t v)
      (λ v below b.
      ⊎_elim
      (λ o. name_base t' append_lawful_lem v (omega (arith, a.base_vertices)) ∙ sym (name_base t l v o))
      (λ o.
      let m : Made t v = (o, b) in
      let x = l.parents v m in
      name_made t' append_lawful_lem v (made_stays v m)
      ∙ ap₂ mid
      (ap (name_of t') (a.p v b) ∙ below (t.p v) (omega arith) (omega arith))
      (ap (name_of t') (a.q v b) ∙ below (t.q v) (omega arith) (omega arith))
      ∙ sym (name_made t l v m))
      (base_or_beyond v t.base_vertices))

  -- The old records keep their pieces.
  pub pieces_stay : (r : ℕ) → r < t.records → Alike (piece_of t' r) (piece_of t r)
  pieces_stay r o =
      record { shape = a.shape r o; corner = λ j b. ap (name_of t') (a.corner r o j b) ∙ names_stay (t.corner r j) ((linked t l r o).corners j b) }

  -- The old records keep their nodes.
  pub nodes_stay : (c : ℕ) → c < t.records → node_of t' c ≡ node_of t c
  nodes_stay = every_record t l (λ c. node_of t' c ≡ node_of t c) at_base at_child
    where
      at_base : (r : ℕ) → r < t.base_records → node_of t' r ≡ node_of t r
      at_base r b = node_root t' append_lawful_lem r (omega (arith, a.base_records)) ∙ sym (node_root t l r b)

      child_number_lem : (r : ℕ) → r < t.records → r ≢ n → (side : Side) → child_on t' r side ≡ child_on t r side
      child_number_lem r o d low = unfold child_on in ap₂ (λ (b : Bool) (x : ℕ). cond b (suc x) x) (first_stays r o) (a.first r o d)
      child_number_lem r o d high = unfold child_on in ap₂ (λ (b : Bool) (x : ℕ). cond b x (suc x)) (first_stays r o) (a.first r o d)

      at_child : (r : ℕ) → r < t.records → t.cut r ≡ true → node_of t' r ≡ node_of t r → (side : Side) → node_of t' (child_on t r side) ≡ node_of t (child_on t r side)
      at_child r o c same side =
          let d = cut_not_n r c in
          ap (node_of t') (sym (child_number_lem r o d side))
          ∙ node_kid t' append_lawful_lem r (omega (arith, a.records)) (a.cut r o d ∙ c) side
          ∙ ap (λ (m : Node). kid m side) same
          ∙ sym (node_kid t l r o c side)

  -- Where the old tables represent C, the new ones represent C with the node of n cut too.
  pub append_represents_lem : {count : ℕ} (C : Cuts count) → Represents t C → (D : Cuts count) → OneMore C (node_of t n) D → Represents t' D
  append_represents_lem C rep D more =
      record {
        bases = rep.bases ∙ sym a.base_records;
        has =
            λ r b c.
            ⊎_elim
            (λ (o, d, k). rw (nodes_stay r o) (more_keeps C (node_of t n) D more (node_of t r) (rep.has r o k)))
            (λ (e : r ≡ n). rw (ap (node_of t') e ∙ nodes_stay n h) (more_has C (node_of t n) D more))
            (cut_was r b c);
        only =
            λ m e.
            ⊎_elim
            (λ k. let (r, o, c, q) = rep.only m k in (r, omega (arith, a.records), a.cut r o (cut_not_n r c) ∙ c, nodes_stay r o ∙ q))
            (λ q. (n, omega (arith, a.records), a.now_cut, nodes_stay n h ∙ sym q))
            (more_only C (node_of t n) D more m e);
      }

  -- Appending one cut to the tables adds its node to the set.
  pub append_adds_lem : {count : ℕ} (C D : Cuts count) → Represents t C → Represents t' D → OneMore C (node_of t n) D
  append_adds_lem C D rep rep' m =
      let there = node_there t l C rep n h in
      let E = adding C (node_of t n) there in
      let more : OneMore C (node_of t n) E = adding_is C (node_of t n) there in
      exactly_one t' append_lawful_lem D rep' m ∙ sym (exactly_one t' append_lawful_lem E (append_represents_lem C rep E more) m) ∙ more m
