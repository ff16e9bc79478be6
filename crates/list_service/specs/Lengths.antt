-- How long the lines are: none is longer than the line buffer, whatever the bytes, so each is found whole in the buffer that it is set in.
use Rattle.std.specs.Prelude.{◌≡◌, Bool, List, [], ◌∷◌, ◌++◌, ℕ, suc, ◌+◌, ◌^◌, ◌≤◌, ◌<◌, length}
use Rattle.std.proofs.Common.{⊎_elim, length-append}
use Rattle.std.proofs.Math.Bool.{true, false, cond}
use Prim.Native.String.{String}
use native.Mathlib.Omega.{arith}
use Rattle.laws.specs.Below.{greatest_at_most, count_at_most}
use Rattle.laws.specs.Lists.{Bytes}
use Rattle.piece.specs.declared.Piece.{Piece}
use Rattle.piece.specs.Ends.{corner_at, lower_end, higher_end, ends_of}
use Rattle.stored.specs.declared.Format.{Format}
use Rattle.stored.specs.declared.Header.{Header}
use Rattle.stored.specs.declared.Record.{Record}
use Rattle.stored.specs.Layout.{Stored, layout_in}
use Rattle.stored.specs.Fitting.{HeaderFits, RecordFits, stored_none_small, number_is_u32, header_fits, record_fits}
use Rattle.check_refusals.specs.declared.Report.{Report}
use Rattle.mesh_tables.specs.Tables.{tables_of, all_records, uncut, is_leaf}
use Rattle.check_refusals.specs.Check.{accepted, check_of, leaves, leaf_generation, deepest, sixfold}
use Rattle.check_service.specs.Verdict.{accepted_whole, accepted_fits}
use Rattle.list_text.specs.Text.{word, line_feed, decimal, figures}
use Rattle.list_text.specs.Decimal.{decimal_length}
use Rattle.list_lines.specs.Lines.{line_room, refused_line, count_figures, check_figures, heading_line, corner_figures, edge_figures, leaf_line}

-- ---- figures

-- Each of the figures has at most as many digits as the list has it, and one more; and how long they are then.
abbrev Digits : List (String × ℕ) → List ℕ → Type 0
Digits [] ks = Unit {0}
Digits (figure ∷ rest) [] = ⊥
Digits (figure ∷ rest) (k ∷ ks) = (figure.1 < 10 ^ suc k) × Digits rest ks

abbrev room : List (String × ℕ) → List ℕ → ℕ
room [] ks = 0
room (figure ∷ rest) [] = 0
room (figure ∷ rest) (k ∷ ks) = length (word figure.0) + suc k + room rest ks

figures_long : (figs : List (String × ℕ)) (ks : List ℕ) → Digits figs ks → length (figures figs) ≤ room figs ks
unfolding figures
figures_long [] ks h = omega arith
figures_long (figure ∷ rest) [] h = absurd h
figures_long ((name, n) ∷ rest) (k ∷ ks) h =
    rw (length-append (word name) (decimal n ++ figures rest), length-append (decimal n) (figures rest))
    (omega (arith, decimal_length k n h.0, figures_long rest ks h.1))

line_long : (figs : List (String × ℕ)) (ks : List ℕ) → Digits figs ks → room figs ks < line_room → length (figures figs ++ line_feed) ≤ line_room
unfolding line_feed
line_long figs ks h l = rw (length-append (figures figs) line_feed) (omega (arith, figures_long figs ks h, l))

-- ---- the lines

-- A refusal's number is a u64.
pub refused_long : (n : ℕ) → n < 10 ^ 20 → length (refused_line n) ≤ line_room
unfolding refused_line word
refused_long n h = line_long (("refused ", n) ∷ []) (19 ∷ []) (h, tt) (omega arith)

heading_long : (f : Format) (h : Header) (r : Report) → HeaderFits f h → r.leaves ≤ h.records → r.deepest < 256 → r.sixfold < 10 ^ 20 → length (heading_line h r) ≤ line_room
unfolding heading_line count_figures check_figures word
heading_long f h r fits leaves deepest volume =
    let vertices = number_is_u32 f h.vertices fits.vertices in
    let records = number_is_u32 f h.records fits.records in
    line_long (count_figures h ++ check_figures r) (9 ∷ 4 ∷ 9 ∷ 9 ∷ 9 ∷ 2 ∷ 19 ∷ [])
    (omega (arith, fits.job), (omega (arith, fits.round), (omega (arith, vertices), (omega (arith, records), (omega (arith, leaves, records), (omega (arith, deepest), (volume, tt)))))))
    (omega arith)

-- A leaf's line, of numbers that four bytes hold.
leaf_long : (n : ℕ) (p : Piece) → n < 10 ^ 10 → ((k : ℕ) → corner_at p k < 10 ^ 10) → p.generation < 10 ^ 3 → length (leaf_line n p) ≤ line_room
unfolding leaf_line corner_figures edge_figures ends_of word
leaf_long n p small corners generation =
    line_long (corner_figures n p ++ edge_figures p) (9 ∷ 9 ∷ 9 ∷ 9 ∷ 9 ∷ 9 ∷ 9 ∷ 2 ∷ [])
    (small, (corners 0, (corners 1, (corners 2, (corners 3, (corners (lower_end p p.edge), (corners (higher_end p p.edge), (generation, tt))))))))
    (omega arith)

-- ---- of what is read from bytes

pub leaf_fits : (f : Format) (n : ℕ) (r : Record) → n < 10 ^ 10 → RecordFits f r → length (leaf_line n r.piece) ≤ line_room
leaf_fits f n r small fits = leaf_long n r.piece small corner (omega (arith, fits.generation))
  where
    corner : (k : ℕ) → corner_at r.piece k < 10 ^ 10
    corner k = ⊎_elim (λ e. omega (arith, e)) (λ l. omega (arith, l, stored_none_small f)) (fits.corners k)

module _ (s : Stored) (b : Bytes s.base) (g : Bytes s.grown) where
  pub record_of : (n : ℕ) → RecordFits s.kind.format ((tables_of s).record_at n)
  unfolding tables_of
  record_of n = record_fits (layout_in s) s.base s.grown b g n

  header_of : HeaderFits s.kind.format (tables_of s).header
  unfolding tables_of
  header_of = header_fits s.base b s.kind.format

  few : leaves (tables_of s) ≤ all_records (tables_of s)
  unfolding leaves
  few = count_at_most (is_leaf (tables_of s)) (all_records (tables_of s))

  leaf_generation_lem : (n : ℕ) → leaf_generation ((tables_of s).record_at n) ≤ 255
  unfolding leaf_generation
  leaf_generation_lem n = go (uncut ((tables_of s).record_at n))
    where
      go : (c : Bool) → cond c ((tables_of s).record_at n).piece.generation 0 ≤ 255
      go true = omega (arith, (record_of n).generation)
      go false = omega arith

  not_deep : deepest (tables_of s) ≤ 255
  unfolding deepest
  not_deep = greatest_at_most (λ n. leaf_generation ((tables_of s).record_at n)) (all_records (tables_of s)) 255 (λ n l. leaf_generation_lem n)

  volume : (check_of s).number ≡ 0 → sixfold (tables_of s) < 10 ^ 20
  volume e = omega (arith, accepted_fits s e)

  -- The heading of an accepted mesh.
  pub heading_fits : (r : Report) → r ≡ check_of s → r.number ≡ 0 → length (heading_line (tables_of s).header r) ≤ line_room
  heading_fits r is e =
      let good : (check_of s).number ≡ 0 = rw (← is) e in
      rw (is, ← accepted_whole s good)
      (heading_long s.kind.format (tables_of s).header (accepted (tables_of s)) header_of few (omega (arith, not_deep)) (volume good))
