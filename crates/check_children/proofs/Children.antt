-- Of specs/Children.antt, the theorems that an edit of a definition breaks, and what only they need.
use Rattle.std.specs.Prelude.{◌≡◌, ◌||◌, List, ℕ, ◌+◌, ◌≤◌, ◌<◌, length, get_or, eqb}
use Rattle.std.proofs.Common.{sym, ap, ◌∙◌, ⊎_elim, arith, eqb-true, eq-eqb, ne_eqb}
use Rattle.std.proofs.lemmas.Bool.{eqb-false}
use Rattle.laws.specs.Below.{any_below, any_same, bit, either}
use Rattle.laws.specs.Links.{greatest, counted_at, counted_more, counted_stays_full, counted_other, counted_long}
use Rattle.stored.specs.declared.Record.{Record}
use Rattle.mesh_tables.specs.Tables.{Tables, all_records, uncut}
use Rattle.check_refusals.specs.Refusals.{is_child_of, not_child_of_one, bad_record}
use Rattle.laws.specs.Counts.{Counting, counts_one}
use Rattle.check_children.specs.Children.{children_counted, children_in, not_child_of_one_by, bad_record_by}

-- A number is at most one of two that follow each other.
one_of_two : (a x : ℕ) → bit (eqb x a) + bit (eqb x (a + 1)) ≡ bit (eqb a x || eqb (a + 1) x)
one_of_two a x =
    ⊎_elim
    (λ t. let e = eqb-true a x t in rw (t, eq-eqb x a (sym e), ne_eqb x (a + 1) (λ q. omega arith)))
    (λ f.
    let no = eqb-false a x f in
    ⊎_elim
    (λ t. let e = eqb-true (a + 1) x t in rw (f, t, ne_eqb x a (λ q. no (sym q)), eq-eqb x (a + 1) (sym e)))
    (λ g. let nor = eqb-false (a + 1) x g in rw (f, g, ne_eqb x a (λ q. no (sym q)), ne_eqb x (a + 1) (λ q. nor (sym q))))
    (either (eqb (a + 1) x)))
    (either (eqb a x))

children_long : (t : List ℕ) (r : Record) → length (children_counted t r) ≡ length t
unfolding children_counted
children_long t r =
    ⊎_elim
    (λ u. rw u)
    (λ f. rw f (counted_long _ _ ∙ counted_long _ _))
    (either (uncut r))

-- A cut record counts one more at each of its children, and leaves a full count full.
children_more : (t : List ℕ) (r : Record) (x : ℕ) → x < length t → get_or t x 0 < greatest → get_or (children_counted t r) x 0 ≡ get_or t x 0 + bit (is_child_of r x)
unfolding children_counted is_child_of
children_more t r x l small =
    let a = r.first_child in
    let b = r.first_child + 1 in
    ⊎_elim
    (λ u. rw u (omega arith))
    (λ f.
    rw f
    (⊎_elim
    (λ e.
    let here = eqb-true x b e in
    let no : bit (eqb x a) ≡ 0 = ap bit (ne_eqb x a (λ q. omega (arith, here, q))) in
    let before = counted_other t a x (λ q. omega (arith, here, q)) in
    let after = counted_more (counted_at t a) b x (rw (counted_long t a) l) (rw before small) in
    omega (arith, one_of_two a x, no, before, after))
    (λ d.
    let apart = eqb-false x b d in
    let no : bit (eqb x b) ≡ 0 = ap bit d in
    let before = counted_more t a x l small in
    let after = counted_other (counted_at t a) b x apart in
    omega (arith, one_of_two a x, no, before, after))
    (either (eqb x b))))
    (either (uncut r))

children_full : (t : List ℕ) (r : Record) (x : ℕ) → get_or t x 0 ≡ greatest → get_or (children_counted t r) x 0 ≡ greatest
unfolding children_counted
children_full t r x full =
    let a = r.first_child in
    ⊎_elim
    (λ u. rw u full)
    (λ f. rw f (counted_stays_full (counted_at t a) (a + 1) x (counted_stays_full t a x full)))
    (either (uncut r))

pub children_counting : (at : ℕ → Record) → Counting (λ t n. children_counted t (at n)) (λ n c. is_child_of (at n) c)
children_counting at = record { long = λ t k. children_long t (at k); more = λ t k x l s. children_more t (at k) x l s; full = λ t k x e. children_full t (at k) x e }

-- Whether it is 1 tells whether a record is the child of exactly one.
bad_record_is : (m : Tables) (room n : ℕ) → n < room → bad_record_by m (children_in m room) n ≡ bad_record m n
unfolding bad_record_by not_child_of_one_by bad_record not_child_of_one
bad_record_is m room n l =
    rw (counts_one (λ t k. children_counted t (m.record_at k)) (λ k c. is_child_of (m.record_at k) c) (children_counting m.record_at) room (all_records m) n l)

-- The table refuses what the rule refuses.
pub any_bad_record_is : (m : Tables) (children : List ℕ) (room : ℕ) → all_records m ≤ room → children ≡ children_in m room → any_below (all_records m) (bad_record_by m children) ≡ any_below (all_records m) (bad_record m)
any_bad_record_is m children room fits is =
    any_same (all_records m) (bad_record_by m children) (bad_record m) (λ n l. rw is (bad_record_is m room n (omega arith)))
