-- What the tables of edges and slots rest on.
use Rattle.std.specs.Prelude.{◌≡◌, refl, true, false, not, cond, ◌&&◌, ◌⊎◌, ℕ, ◌+◌, ◌-◌, ◌≤◌, ◌<◌, eqb, ltb, leb}
use Rattle.std.proofs.Common.{sym, subst, inl, inr, ⊎_elim, arith, ltb-true, ltb-false, leb-true, eqb-true, eq-eqb}
use Rattle.std.proofs.lemmas.Bool.{eqb-false, not-true}
use Rattle.laws.specs.Below.{fold_below, all_below, any_below, all_at, any_fails, first_no, first_is, and_left, and_right, and_false, or_true, or_second, either}
use Rattle.piece_edges.specs.Edges.{low_slot, high_slot, low_past, slots_small, has_slot, joins, edge_between, shares, shared_slot}

-- A table that has v at the n numbers from a on.
pub same_from : (f : ℕ → ℕ) (v a n : ℕ) → all_below n (λ i. eqb v (f (a + i))) ≡ true → (e : ℕ) → a ≤ e → e < a + n → v ≡ f e
same_from f v a n all e low high =
    let at : a + (e - a) ≡ e = omega arith in
    subst (λ (d : ℕ). v ≡ f d) at (eqb-true v (f (a + (e - a))) (all_at (λ i. eqb v (f (a + i))) n (e - a) all (omega arith)))

-- The first slot of a code is not above the second.
low_first : (e : ℕ) → low_slot e ≤ high_slot e
unfolding low_slot high_slot all_below fold_below
low_first e =
    ⊎_elim
    (λ code. leb-true (low_slot e) (high_slot e) (all_at (λ e. leb (low_slot e) (high_slot e)) 6 e refl (ltb-true e 6 code)))
    (λ past. omega (arith, low_past e (ltb-false e 6 past)))
    (either (ltb e 6))

-- The ends of an edge are its two slots.
pub has_slot_lem : (e k : ℕ) → has_slot e k ≡ true → (low_slot e ≡ k) ⊎ (high_slot e ≡ k)
unfolding has_slot
has_slot_lem e k t =
    ⊎_elim
    (λ low. inl (eqb-true (low_slot e) k low))
    (λ no. inr (eqb-true (high_slot e) k (or_second (eqb (low_slot e) k) (eqb (high_slot e) k) no t)))
    (either (eqb (low_slot e) k))

-- Both slots are its ends.
pub has_low : (e : ℕ) → has_slot e (low_slot e) ≡ true
unfolding has_slot
has_low e = rw (eq-eqb (low_slot e) (low_slot e) refl)

pub has_high : (e : ℕ) → has_slot e (high_slot e) ≡ true
unfolding has_slot
has_high e = rw (eq-eqb (high_slot e) (high_slot e) refl) (or_true (eqb (low_slot e) (high_slot e)))

-- An end is a slot.
end_small : (e k : ℕ) → has_slot e k ≡ true → k < 4
end_small e k t = let small = slots_small e in ⊎_elim (λ low. omega arith) (λ high. omega arith) (has_slot_lem e k t)

-- No edge is between j and k where one of them is no slot, or they are the same.
pub edge_none : (j k : ℕ) → (j < 4 → k < 4 → j ≡ k) → 6 ≡ edge_between j k
unfolding edge_between joins
edge_none j k same =
    let no : (e : ℕ) → joins j k e ≡ true → ⊥ =
    λ e t.
    let both = and_right (not (eqb j k)) (has_slot e j && has_slot e k) t in
    eqb-false j k (not-true (eqb j k) (and_left (not (eqb j k)) (has_slot e j && has_slot e k) t))
    (same (end_small e j (and_left (has_slot e j) (has_slot e k) both)) (end_small e k (and_right (has_slot e j) (has_slot e k) both))) in
    sym (first_no (joins j k) 6 (any_fails (joins j k) 6 (λ e l. ⊎_elim (λ t. absurd (no e t)) (λ f. f) (either (joins j k e)))))

-- Two edges share no slot below n where no end of the one below n is an end of the other.
none_shared : (e f n : ℕ) → ((k : ℕ) → k < n → (low_slot e ≡ k) ⊎ (high_slot e ≡ k) → has_slot f k ≡ false) → any_below n (shares e f) ≡ false
unfolding shares
none_shared e f n free =
    any_fails (shares e f) n (λ k l. ⊎_elim (λ t. rw (free k l (has_slot_lem e k t)) (and_false (has_slot e k))) (λ other. rw other) (either (has_slot e k)))

-- The slot that two edges share is looked for among the ends of the one.
pub shared_by_ends : (e f : ℕ) → shared_slot e f ≡ cond (has_slot f (low_slot e)) (low_slot e) (cond (has_slot f (high_slot e)) (high_slot e) 4)
unfolding shared_slot shares
shared_by_ends e f =
    let small = slots_small e in
    let rise = low_first e in
    ⊎_elim
    (λ low.
    rw low
    (first_is (shares e f) 4 (low_slot e) small.0 (none_shared e f (low_slot e) (λ k l end. absurd (⊎_elim (λ q. omega arith) (λ q. omega arith) end))) (rw (has_low e) low)))
    (λ no.
    rw no
    (⊎_elim
    (λ high.
    rw high
    (first_is (shares e f) 4 (high_slot e) small.1 (none_shared e f (high_slot e) (λ k l end. ⊎_elim (λ q. rw (← q) no) (λ q. absurd (omega arith)) end)) (rw (has_high e) high)))
    (λ none. rw none (first_no (shares e f) 4 (none_shared e f 4 (λ k l end. ⊎_elim (λ q. rw (← q) no) (λ q. rw (← q) none) end))))
    (either (has_slot f (high_slot e)))))
    (either (has_slot f (low_slot e)))
