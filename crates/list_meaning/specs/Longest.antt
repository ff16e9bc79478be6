-- No line of a listing is longer than the line buffer, and no listing longer than a line for each record that there may be and the heading,
-- whatever the bytes: so a buffer of that size holds every listing.
use Rattle.std.specs.Prelude.{◌≡◌, ◌≢◌, Bool, cond, List, [], ◌∷◌, ◌++◌, ltb, eqb, length, take, get_or, replicate}
use Rattle.std.proofs.Math.Path.{refl}
use Rattle.std.proofs.Math.Logic.{⊎_elim}
use Rattle.std.proofs.Math.Bool.{true, false, not}
use Prim.Native.Nat.{ℕ, zero, suc, ◌-◌, ◌^◌, ◌≤◌}
use Rattle.std.proofs.Common.{arith, length-append, take_at}
use borrow.Author.Tests.{ltb-true, ltb-false, eqb-true, eqb-false, not-true}
use Rattle.laws.specs.Below.{either}
use Rattle.laws.specs.Lists.{zero_past, Bytes, bytes_none}
use Rattle.stored.specs.Layout.{version1, Stored, stored1}
use Rattle.mesh_tables.specs.Tables.{tables_of, all_records, is_leaf, piece_at}
use Rattle.laws.specs.Order.{given_passes}
use Rattle.check_refusals.specs.Check.{table_rows, rows, check_number, check_of}
use Rattle.check_refusals.specs.Rows.{check_small, report_number}
use Rattle.check_service.specs.Verdict.{accepted_bounded}
use Rattle.list_lines.specs.Lines.{line_room, refused_line, heading_line, leaf_line}
use Rattle.list_service.specs.Listing.{largest_mesh, leaf_lines, mesh_lines, judged_lines, lines_of, text_of, listing_of, listed_number, list_number, list_length, list_bytes, largest_listing}
use Rattle.list_service.specs.Lengths.{refused_long, leaf_fits, record_of, heading_fits}
use Rattle.list_service.specs.Answer.{list_whole}
use Rattle.list_service.specs.Putting.{judged_refused, judged_listed, longer_text, longer_number, judged_text, judged_number_lem}
use Rattle.list_service.proofs.Putting.{leaves_long}

-- Lines that are each as long as the buffer at most.
abbrev Fit : List (List ℕ) → Type 0
Fit [] = Unit {0}
Fit (l ∷ rest) = (length l ≤ line_room) × Fit rest

fit_append : (a b : List (List ℕ)) → Fit a → Fit b → Fit (a ++ b)
fit_append [] b f g = g
fit_append (l ∷ rest) b f g = (f.0, fit_append rest b f.1 g)

fit_at : (lines : List (List ℕ)) → Fit lines → (k : ℕ) → length (get_or lines k []) ≤ line_room
fit_at [] f k = omega arith
fit_at (l ∷ rest) f zero = f.0
fit_at (l ∷ rest) f (suc k) = fit_at rest f.1 k

module _ (s : Stored) where
  few_records : (check_of s).number ≡ 0 → all_records (tables_of s) ≤ s.kind.limits.records
  unfolding tables_of
  few_records e = (accepted_bounded s e).records

  number_small : (check_of s).number ≤ 23
  number_small = omega (arith, report_number s, check_small s)

  -- Check has no 20.
  check_not_20 : check_number s ≢ 20
  unfolding check_number rows table_rows
  check_not_20 = eqb-false (check_number s) 20 (not-true (eqb (check_number s) 20) (given_passes (λ k. not (eqb k 20)) (rows s) refl))

module _ (s : List ℕ) (b : Bytes s) where
  leaves_fit : (n : ℕ) → n ≤ 10 ^ 10 → Fit (leaf_lines (tables_of (stored1 s)) n)
  unfolding leaf_lines
  leaves_fit zero l = tt
  leaves_fit (suc n) l = fit_append (leaf_lines (tables_of (stored1 s)) n) (cond (is_leaf (tables_of (stored1 s)) n) (leaf_line n (piece_at (tables_of (stored1 s)) n) ∷ []) []) (leaves_fit n (omega arith)) (here (is_leaf (tables_of (stored1 s)) n))
    where
      here : (leaf : Bool) → Fit (cond leaf (leaf_line n (piece_at (tables_of (stored1 s)) n) ∷ []) [])
      here true = (leaf_fits version1 n ((tables_of (stored1 s)).record_at n) (omega arith) (record_of (stored1 s) b bytes_none n), tt)
      here false = tt

  judged_fit : Fit (judged_lines (tables_of (stored1 s)) (check_of (stored1 s)))
  unfolding judged_lines mesh_lines
  judged_fit =
      ⊎_elim
      (λ t. let good = eqb-true (check_of (stored1 s)).number 0 t in rw t (heading_fits (stored1 s) b bytes_none (check_of (stored1 s)) refl good, leaves_fit (all_records (tables_of (stored1 s))) (omega (arith, few_records (stored1 s) good))))
      (λ f. rw f (refused_long (check_of (stored1 s)).number (omega (arith, number_small (stored1 s))), tt))
      (either (eqb (check_of (stored1 s)).number 0))

  -- "Each line is set in a 128-byte line buffer": no line is longer, whatever the bytes.
  pub no_line_longer : (k : ℕ) → length (get_or (lines_of s) k []) ≤ line_room
  unfolding lines_of
  no_line_longer k =
      ⊎_elim
      (λ t. rw t (fit_at (refused_line 1 ∷ []) (refused_long 1 (omega arith), tt) k))
      (λ f. rw f (fit_at (judged_lines (tables_of (stored1 s)) (check_of (stored1 s))) judged_fit k))
      (either (ltb largest_mesh (length s)))

  judged_at_most : length (text_of (judged_lines (tables_of (stored1 s)) (check_of (stored1 s)))) ≤ largest_listing
  judged_at_most =
      ⊎_elim
      (λ t. let good = eqb-true (check_of (stored1 s)).number 0 t in
      rw (judged_listed (tables_of (stored1 s)) (check_of (stored1 s)) good, length-append (heading_line (tables_of (stored1 s)).header (check_of (stored1 s))) (text_of (leaf_lines (tables_of (stored1 s)) (all_records (tables_of (stored1 s))))))
      (omega (arith, heading_fits (stored1 s) b bytes_none (check_of (stored1 s)) refl good, leaves_long (tables_of (stored1 s)) version1 (record_of (stored1 s) b bytes_none) (all_records (tables_of (stored1 s))) (omega (arith, few_records (stored1 s) good)), few_records (stored1 s) good)))
      (λ f. rw (judged_refused (tables_of (stored1 s)) (check_of (stored1 s)) (eqb-false (check_of (stored1 s)).number 0 f)) (omega (arith, refused_long (check_of (stored1 s)).number (omega (arith, number_small (stored1 s))))))
      (either (eqb (check_of (stored1 s)).number 0))

  -- No listing is longer than 393,344 bytes.
  pub listing_at_most : length (listing_of s) ≤ largest_listing
  listing_at_most =
      ⊎_elim
      (λ t. rw (longer_text s (ltb-true largest_mesh (length s) t)) (omega (arith, refused_long 1 (omega arith))))
      (λ f. rw (judged_text s (ltb-false largest_mesh (length s) f)) judged_at_most)
      (either (ltb largest_mesh (length s)))

  -- So a buffer of that size never gets 20, and the text that it is told the length of is the whole listing.
  module _ (room : ℕ) (enough : largest_listing ≤ room) where
    whole : (list_number s room ≡ listed_number s) × (list_length s room ≡ length (listing_of s)) × (list_bytes s room ≡ zero_past room (listing_of s))
    whole = list_whole s room (omega (arith, listing_at_most))

    pub never_20 : list_number s room ≢ 20
    never_20 e =
        ⊎_elim
        (λ t. omega (arith, e, whole.0, longer_number s (ltb-true largest_mesh (length s) t)))
        (λ f. check_not_20 (stored1 s) (omega (arith, e, whole.0, judged_number_lem s (ltb-false largest_mesh (length s) f), report_number (stored1 s))))
        (either (ltb largest_mesh (length s)))

    pub whole_listing : take (list_length s room) (list_bytes s room) ≡ listing_of s
    whole_listing = rw (whole.1, whole.2) (take_at (listing_of s) (replicate (room - length (listing_of s)) 0) (length (listing_of s)) refl)
