-- `build_service::build`: the rules in their order; the buffer is cleared before the first.
-- Assumes nothing.
use mathlib.Core.Path.{◌≡◌, sym, ◌∙◌, ap}
use mathlib.Core.Bool.{Bool}
use mathlib.Core.List.{List}
use Prim.Native.Nat.{ℕ}
use lib.IntN.{ℤ}
use lib.ListN.{length}
use Rattle.stored.specs.declared.Limits.{Limits}
use Rattle.stored.specs.Layout.{limits}
use Rattle.check_refusals.specs.Refusals.{wrong_counts}
use Rattle.build_service.specs.Build.{plain_header, plain_bytes, bad_given_pieces}
use Rattle.laws.specs.Lists.{clear_itself, clear_long}
use Rattle.build_service.specs.Storing.{counts_alone, later_number, later_bytes, build_21, build_21_bytes, build_3, build_3_bytes, build_later, build_later_bytes}
use Rattle.build_service.proofs.build.Goals as goal

-- Whether the counts are found wrong, of this job's header.
counts : (job : ℕ) (coordinates : List ℤ) (corners : List ℕ) {most : Limits} → most ≡ limits → {found b : Bool} →
    found ≡ wrong_counts most (plain_header 0 coordinates corners) → found ≡ b → wrong_counts limits (plain_header job coordinates corners) ≡ b
counts job coordinates corners most e is =
    sym (counts_alone job coordinates corners)
    ∙ sym (ap (λ (l : Limits). wrong_counts l (plain_header 0 coordinates corners)) most)
    ∙ sym e
    ∙ is

pub returns-then-not_whole : goal.returns-then-not_whole
returns-then-not_whole c =
    let a = c.args in
    let coordinates = a.coordinates.now in
    let corners = a.corners.now in
    let room = length a.out.now in
    let clear = c.fill.ensures.after (λ y e. e) in
    let whole = sym c.not_whole.ensures ∙ c.if-not_whole.true in
    record { number = sym (build_21 a.job coordinates corners room whole); bytes = clear ∙ build_21_bytes a.job coordinates corners room whole }

pub returns-then-wrong_counts : goal.returns-then-wrong_counts
returns-then-wrong_counts c =
    let a = c.args in
    let coordinates = a.coordinates.now in
    let corners = a.corners.now in
    let room = length a.out.now in
    let clear = c.fill.ensures.after (λ y e. e) in
    let whole = sym c.not_whole.ensures ∙ c.if-not_whole.false in
    let wrong = counts a.job coordinates corners c.limits_of_version_1.ensures c.wrong_counts.ensures c.if-wrong_counts.true in
    record { number = sym (build_3 a.job coordinates corners room whole wrong); bytes = clear ∙ build_3_bytes a.job coordinates corners room whole wrong }

pub store-requires : goal.store-requires
store-requires c =
    let a = c.args in
    record {
      counts_fit = counts a.job a.coordinates.now a.corners.now c.limits_of_version_1.ensures c.wrong_counts.ensures c.if-wrong_counts.false;
      out_cleared = clear_itself c.fill.new.self (length a.out.now) (c.fill.ensures.after (λ y e. e));
    }

pub returns : goal.returns
returns c =
    let a = c.args in
    let coordinates = a.coordinates.now in
    let corners = a.corners.now in
    let room = length a.out.now in
    let whole = sym c.not_whole.ensures ∙ c.if-not_whole.false in
    let right = counts a.job coordinates corners c.limits_of_version_1.ensures c.wrong_counts.ensures c.if-wrong_counts.false in
    let long = clear_long c.fill.new.self room (c.fill.ensures.after (λ y e. e)) in
    record {
      number = c.store.ensures.number ∙ ap (later_number (bad_given_pieces coordinates corners) (plain_bytes a.job coordinates corners)) long ∙ sym (build_later a.job coordinates corners room whole right);
      bytes = c.store.ensures.out_after ∙ ap (later_bytes (bad_given_pieces coordinates corners) (plain_bytes a.job coordinates corners)) long ∙ build_later_bytes a.job coordinates corners room whole right;
    }
