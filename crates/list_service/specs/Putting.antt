-- How the listing is put into the output buffer, line by line.
use Rattle.std.specs.Prelude.{◌≡◌, ◌≢◌, ℕ, ◌+◌, ◌≤◌, ◌<◌, eqb, take, replicate}
use Rattle.std.proofs.Math.Path.{refl, sym, ap}
use Rattle.std.proofs.Common.{◌∙◌, add-zero, add_assoc, arith, length-append, eq-eqb, ne_eqb, lt-ltb, le-ltb}
use Rattle.std.proofs.Math.Bool.{cond}
use Rattle.std.specs.Borrow.{MutBor}
use denote.Ref.{at_last}
use mathlib.Core.List.{List, [], ◌∷◌, ◌++◌, append-nil}
use Rattle.std.proofs.Math.ListN.{length}
use Rattle.std.proofs.lemmas.List.Edits.{sets}
use Rattle.std.proofs.Math.Seq.{length-sets}
use Rattle.laws.specs.Lists.{joined, sets_append, clear_with}
use Rattle.stored.specs.declared.Record.{Record}
use Rattle.stored.specs.Layout.{stored1}
use Rattle.check_refusals.specs.declared.Report.{Report}
use Rattle.mesh_tables.specs.Tables.{Tables, tables_of, all_records, uncut}
use Rattle.check_refusals.specs.Check.{check_of}
use Rattle.list_text.specs.Line.{Line, line, put}
use Rattle.list_text.specs.Laws.{put_whole}
use Rattle.list_lines.specs.Lines.{refused_line, heading_line, leaf_line}
use Rattle.list_service.specs.declared.Listed.{Listed}
use Rattle.list_service.specs.declared.Text.{Text}
use Rattle.list_service.specs.Answer.{list_whole, list_short}
use Rattle.list_service.specs.Listing.{largest_mesh, leaf_lines, mesh_lines, judged_lines, lines_of, text_of, listing_of, listed_number, list_number, ListOutcomeIs}

-- A text is put at a place of a buffer, as far as there is room. The place behind it is counted on, also beyond the buffer's end.
pub record TextPut (before : List ℕ) (at : ℕ) (text after : List ℕ) (behind : ℕ) : Type 0 where
  pub bytes : after ≡ sets before at text
  pub place : behind ≡ at + length text

pub put_none : (b : List ℕ) (at : ℕ) → TextPut b at [] b at
put_none b at = record { bytes = refl; place = sym (add-zero at) }

pub put_then : {a b c s t : List ℕ} {at p q : ℕ} → TextPut a at s b p → TextPut b p t c q → TextPut a at (s ++ t) c q
put_then {a} {b} {c} {s} {t} {at} {p} {q} f g =
    record {
      bytes = g.bytes ∙ (λ i. sets (f.bytes i) (f.place i) t) ∙ sym (sets_append a at s t);
      place = g.place ∙ ap (λ (k : ℕ). k + length t) f.place ∙ rw (length-append s t) (add_assoc at (length s) (length t));
    }

pub put_length : {a b s : List ℕ} {at p : ℕ} → TextPut a at s b p → length b ≡ length a
put_length {a} {b} {s} {at} f = ap length f.bytes ∙ length-sets a at s

-- ---- a text and the buffer that it is put into

-- What a text is once more is put behind it: the same borrow, with the bytes there as far as there is room, and so much longer.
abbrev pub followed : Text → List ℕ → Text
followed w t = record { out = at_last w.out (sets w.out.now w.length t); length = w.length + length t }

put_followed : (w : Text) (t : List ℕ) → TextPut w.out.now w.length t (followed w t).out.now (followed w t).length
put_followed w t = record { bytes = refl; place = refl }

pub followed_none : (w : Text) → w ≡ followed w []
followed_none w = λ i. record { out = w.out; length = (put_none w.out.now w.length).place i }

pub followed_then : (s t : List ℕ) (w : Text) {m n : Text} → m ≡ followed w s → n ≡ followed m t → n ≡ followed w (s ++ t)
followed_then s t w e f =
    let both = put_then (put_followed w s) (put_followed (followed w s) t) in
    f ∙ ap (λ (k : Text). followed k t) e ∙ (λ i. record { out = at_last w.out (both.bytes i); length = both.place i })

-- Once a text that was begun in a buffer is no longer needed, the buffer holds what was put.
pub followed_whole : (t : List ℕ) {b : MutBor (List ℕ)} {m : Text} {last : List ℕ} → m ≡ followed (record { out = b; length = 0 }) t → (b.ghost_name ≡ m.out.ghost_name → last ≡ m.out.now) → TextPut b.now 0 t last m.length
followed_whole t e follows =
    record {
      bytes = follows (sym (ap (λ (k : Text). k.out.ghost_name) e)) ∙ ap (λ (k : Text). k.out.now) e;
      place = ap (λ (k : Text). k.length) e;
    }

-- A line that has room in the line buffer is found whole in it.
pub set_whole : (buffer text b : List ℕ) (at : ℕ) → length text ≤ length buffer → line b at ≡ put text (line buffer 0) → take at b ≡ text
set_whole buffer text b at l e = ap (λ (k : Line). take k.at k.bytes) e ∙ put_whole buffer text l

-- ---- the leaves

-- A record's line, if it is a leaf.
unfoldable pub leaf_text : Record → ℕ → List ℕ
leaf_text r n = let text = leaf_line n r.piece in cond (uncut r) text []

module _ (m : Tables) where
  pub leaves_none : text_of (leaf_lines m 0) ≡ []
  unfolding leaf_lines joined
  leaves_none = refl

-- ---- the whole

refused_text : (number : ℕ) → text_of (refused_line number ∷ []) ≡ refused_line number
unfolding joined
refused_text number = append-nil (refused_line number)

module _ (m : Tables) (r : Report) where
  pub judged_refused : r.number ≢ 0 → text_of (judged_lines m r) ≡ refused_line r.number
  unfolding judged_lines
  judged_refused n = rw (ne_eqb r.number 0 n) (refused_text r.number)

  pub judged_listed : r.number ≡ 0 → text_of (judged_lines m r) ≡ heading_line m.header r ++ text_of (leaf_lines m (all_records m))
  unfolding judged_lines mesh_lines joined
  judged_listed e = rw (eq-eqb r.number 0 e)

module _ (s : List ℕ) where
  pub longer_text : largest_mesh < length s → listing_of s ≡ refused_line 1
  unfolding listing_of lines_of
  longer_text l = rw (lt-ltb largest_mesh (length s) l) (refused_text 1)

  pub longer_number : largest_mesh < length s → listed_number s ≡ 1
  unfolding listed_number
  longer_number l = rw (lt-ltb largest_mesh (length s) l)

  pub judged_text : length s ≤ largest_mesh → listing_of s ≡ text_of (judged_lines (tables_of (stored1 s)) (check_of (stored1 s)))
  unfolding listing_of lines_of
  judged_text l = rw (le-ltb largest_mesh (length s) l)

  pub judged_number_lem : length s ≤ largest_mesh → listed_number s ≡ (check_of (stored1 s)).number
  unfolding listed_number
  judged_number_lem l = rw (le-ltb largest_mesh (length s) l)

-- The mesh's own number, and its listing put from the beginning: how long it is, also where there is no room for all of it.
pub record ListingPut (s before after : List ℕ) (r : Listed) : Type 0 where
  pub number : r.number ≡ listed_number s
  pub text : TextPut before 0 (listing_of s) after r.length

-- ---- what list answers

module _ (s : List ℕ) (room : ℕ) (b : List ℕ) (r : Listed) (whole : ListingPut s (replicate room 0) b r) where
  long : r.length ≡ length (listing_of s)
  long = omega (arith, whole.text.place)

  pub answer_whole : r.length ≤ room → ListOutcomeIs s room r b
  answer_whole l =
      let fits : length (listing_of s) ≤ room = omega (arith, long) in
      let is = list_whole s room fits in
      record { number = whole.number ∙ sym is.0; length = long ∙ sym is.1; bytes = whole.text.bytes ∙ clear_with room (listing_of s) fits ∙ sym is.2 }

  pub answer_short : room < r.length → (number : ℕ) → number ≡ cond (eqb r.number 0) 20 r.number → ListOutcomeIs s room (record { number = number; length = 0 }) (replicate room 0)
  unfolding list_number
  answer_short l number e =
      let short : room < length (listing_of s) = omega (arith, long) in
      let is = list_short s room short in
      record { number = rw (lt-ltb room (length (listing_of s)) short) (e ∙ ap (λ (n : ℕ). cond {A = ℕ} (eqb n 0) 20 n) whole.number); length = sym is.1; bytes = sym is.2 }
