-- Of specs/Putting.antt, the theorems that an edit of a definition breaks, and what only they need.
use Rattle.std.specs.Prelude.{◌≡◌, Bool, ℕ, zero, suc, ◌+◌, ◌*◌, ◌^◌, ◌≤◌, ◌<◌}
use Rattle.std.proofs.Math.Path.{refl, ap}
use Rattle.std.proofs.Common.{◌∙◌, add-one, arith, length-append}
use Rattle.std.proofs.Math.Bool.{true, false, cond}
use mathlib.Core.List.{List, [], ◌∷◌, ◌++◌, append-nil}
use Rattle.std.proofs.Math.ListN.{length}
use Rattle.laws.specs.Lists.{joined, joined_append}
use Rattle.stored.specs.declared.Format.{Format}
use Rattle.stored.specs.declared.Record.{Record}
use Rattle.stored.specs.Fitting.{RecordFits}
use Rattle.mesh_tables.specs.Tables.{Tables, uncut, is_leaf, piece_at}
use Rattle.list_lines.specs.Lines.{line_room, leaf_line}
use Rattle.list_service.specs.Listing.{leaf_lines, text_of}
use Rattle.list_service.specs.Lengths.{leaf_fits}
use Rattle.list_service.specs.Putting.{leaf_text}
use Rattle.list_service.specs.Putting as Specs

text_long : (f : Format) (n : ℕ) (r : Record) → n < 10 ^ 10 → RecordFits f r → length (leaf_text r n) ≤ line_room
unfolding leaf_text
text_long f n r l fits = go (uncut r)
  where
    go : (leaf : Bool) → length (cond leaf (leaf_line n r.piece) []) ≤ line_room
    go true = leaf_fits f n r l fits
    go false = omega arith

module _ (m : Tables) where
  -- As specs/ has it.
  abbrev leaves_none : text_of (leaf_lines m 0) ≡ []
  leaves_none = Specs.leaves_none m

  leaves_suc : (n : ℕ) → text_of (leaf_lines m (suc n)) ≡ text_of (leaf_lines m n) ++ leaf_text (m.record_at n) n
  unfolding leaf_lines leaf_text joined
  leaves_suc n =
      joined_append (λ (l : List ℕ). l) (leaf_lines m n) (cond (is_leaf m n) (leaf_line n (piece_at m n) ∷ []) [])
      ∙ ap (λ (t : List ℕ). text_of (leaf_lines m n) ++ t) (one (is_leaf m n))
    where
      one : (leaf : Bool) → text_of (cond leaf (leaf_line n (piece_at m n) ∷ []) []) ≡ cond leaf (leaf_line n (piece_at m n)) []
      one true = append-nil (leaf_line n (piece_at m n))
      one false = refl

  -- one record more
  pub leaves_next : (n : ℕ) → text_of (leaf_lines m (n + 1)) ≡ text_of (leaf_lines m n) ++ leaf_text (m.record_at n) n
  leaves_next n = rw (add-one n) (leaves_suc n)

  -- so many records have at most so many lines
  pub leaves_long : (f : Format) → ((n : ℕ) → RecordFits f (m.record_at n)) → (n : ℕ) → n ≤ 10 ^ 10 → length (text_of (leaf_lines m n)) ≤ line_room * n
  leaves_long f fits zero l = rw leaves_none (omega arith)
  leaves_long f fits (suc n) l =
      rw (leaves_suc n, length-append (text_of (leaf_lines m n)) (leaf_text (m.record_at n) n))
      (omega (arith, leaves_long f fits n (omega arith), text_long f n (m.record_at n) (omega arith) (fits n)))
