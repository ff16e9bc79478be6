-- Of specs/Law.antt, the theorems that an edit of a definition breaks, and what only they need.
use Rattle.std.specs.Prelude.{◌≡◌, ℕ, ◌+◌, ◌≤◌, ◌<◌}
use Rattle.std.proofs.Common.{sym, ◌∙◌, arith}
use Rattle.std.proofs.Math.Path.{ap}
use Rattle.std.proofs.Math.Logic.{inr}
use Rattle.laws.specs.Below.{put_at}
use Rattle.piece.specs.declared.Ends.{Ends}
use Rattle.piece_cut.specs.Cut.{cut_of}
use Rattle.stored.specs.declared.Layout.{Layout}
use Rattle.stored.specs.declared.Record.{Record}
use Rattle.stored.specs.Layout.{stored_none, vertex_in, record_in}
use Rattle.stored.specs.Fitting.{OrNone, RecordFits}
use Rattle.stored.specs.Tables.{Holds, record_put_lem, record_put_vertices}
use Rattle.mesh_tables.specs.Tables.{Tables, vertex_with, refinement_ends}
use Rattle.refine_cut.specs.Cut.{two_records_more, cut_record, leaf_record, with_children, cut_at}
use Rattle.refine_cut.specs.Slices.{Slices, tables_in, record_put, children_put, cut_with, cut_put}
use Rattle.refine_cut.specs.Fits.{cut_record_fits, children_fit}
use Rattle.refine_cut.specs.Law.{Ready, Midway}
use Rattle.refine_cut.specs.Law as Specs

module _ (l : Layout) (s : Slices) (h : Holds l s.base s.grown) (i : ℕ) (r : Record) where
  put_records : RecordFits l.format r → i < l.records.end → record_in l (record_put l s i r).base (record_put l s i r).grown ≡ put_at i r (record_in l s.base s.grown)
  unfolding record_put
  put_records f e = record_put_lem l s.base s.grown h i r f e

  put_vertices : vertex_in l (record_put l s i r).base (record_put l s i r).grown ≡ vertex_in l s.base s.grown
  unfolding record_put
  put_vertices = record_put_vertices l s.base s.grown h i r

module _ (l : Layout) (s : Slices) (h : Holds l s.base s.grown) (n w : ℕ) (f : RecordFits l.format (record_in l s.base s.grown n)) (small : OrNone l.format w)
    (room : s.header.records + 1 < l.records.end) (few : l.records.end ≤ stored_none l.format) (there : n < s.header.records) where
  -- As specs/ has them.
  abbrev r : Record
  r = Specs.r l s h n w f small room few there

  abbrev first : ℕ
  first = Specs.first l s h n w f small room few there

  abbrev cut : Slices
  cut = Specs.cut l s h n w f small room few there

  abbrev one : Slices
  one = Specs.one l s h n w f small room few there

  abbrev cut_holds : Holds l cut.base cut.grown
  cut_holds = Specs.cut_holds l s h n w f small room few there

  abbrev one_holds : Holds l one.base one.grown
  one_holds = Specs.one_holds l s h n w f small room few there

  abbrev two : Slices
  two = record_put l one (first + 1) (leaf_record (cut_of r.piece w).second)

  two_records : record_in l two.base two.grown ≡ (with_children (tables_in l s) n w).record_at
  unfolding with_children
  two_records =
      put_records l one one_holds (first + 1) (leaf_record (cut_of r.piece w).second) (children_fit l.format r f w small).1 room
      ∙ ap (put_at (first + 1) (leaf_record (cut_of r.piece w).second))
      (put_records l cut cut_holds first (leaf_record (cut_of r.piece w).first) (children_fit l.format r f w small).0 (omega arith)
      ∙ ap (put_at first (leaf_record (cut_of r.piece w).first))
      (put_records l s h n (cut_record r.piece first) (cut_record_fits l.format r first f (inr (omega arith))) (omega arith)))

  two_vertices : vertex_in l two.base two.grown ≡ vertex_in l s.base s.grown
  two_vertices =
      put_vertices l one one_holds (first + 1) (leaf_record (cut_of r.piece w).second)
      ∙ put_vertices l cut cut_holds first (leaf_record (cut_of r.piece w).first)
      ∙ put_vertices l s h n (cut_record r.piece first)

  children_tables : tables_in l (children_put l s n r w) ≡ with_children (tables_in l s) n w
  unfolding children_put with_children
  children_tables = λ k. record { header = two_records_more s.header; vertex_at = two_vertices k; record_at = two_records k }

module _ (l : Layout) (s : Slices) (n : ℕ) (ready : Ready l s n) where
  -- As specs/ has them.
  abbrev record_n : Record
  record_n = Specs.record_n l s n ready

  abbrev ends_n : Ends
  ends_n = Specs.ends_n l s n ready

  abbrev w_n : ℕ
  w_n = Specs.w_n l s n ready

  abbrev with_midpoint_lem : Slices
  with_midpoint_lem = Specs.with_midpoint_lem l s n ready

  abbrev half : Midway l s with_midpoint_lem ends_n
  half = Specs.half l s n ready

  abbrev small : OrNone l.format w_n
  small = Specs.small l s n ready

  abbrev same_record : record_in l with_midpoint_lem.base with_midpoint_lem.grown n ≡ record_n
  same_record = Specs.same_record l s n ready

  abbrev record_is_stored : RecordFits l.format (record_in l with_midpoint_lem.base with_midpoint_lem.grown n)
  record_is_stored = Specs.record_is_stored l s n ready

  abbrev room_left : with_midpoint_lem.header.records + 1 < l.records.end
  room_left = Specs.room_left l s n ready

  abbrev still_there : n < with_midpoint_lem.header.records
  still_there = Specs.still_there l s n ready

  abbrev cut_is : cut_put l s n ≡ children_put l with_midpoint_lem n record_n w_n
  cut_is = Specs.cut_is l s n ready

  -- The tables after the cut are the tables before it, cut.
  pub cut_tables : tables_in l (cut_put l s n) ≡ cut_at (tables_in l s) n
  unfolding cut_at
  cut_tables =
      ap (tables_in l) cut_is
      ∙ ap (λ (r : Record). tables_in l (children_put l with_midpoint_lem n r w_n)) (sym same_record)
      ∙ children_tables l with_midpoint_lem half.holds n w_n record_is_stored small room_left ready.few_records still_there
      ∙ ap (λ (m : Tables). with_children m n w_n) half.same

-- So for slices that are cut at the vertex with its refinement edge's ends for parents.
pub cut_with_tables : (l : Layout) (s : Slices) (n w : ℕ) (t : Slices) → t ≡ cut_with l s n w → Ready l s n → w ≡ vertex_with (tables_in l s) (refinement_ends (record_in l s.base s.grown n).piece) →
    tables_in l t ≡ cut_at (tables_in l s) n
unfolding cut_put
cut_with_tables l s n w t is ready found =
    ap (tables_in l) (is ∙ ap (cut_with l s n) found) ∙ cut_tables l s n ready
