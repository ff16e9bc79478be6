-- The numbers that check gives, and that its report has the number. Assumes nothing.
use Rattle.std.specs.Prelude.{◌≡◌, refl, ◌≤◌, leb}
use Rattle.std.proofs.Common.{sym, ◌∙◌, leb-true}
use Rattle.laws.specs.Order.{given_passes, in_turn_lem}
use Rattle.stored.specs.Layout.{Stored}
use Rattle.mesh_tables.specs.Tables.{tables_of}
use Rattle.check_refusals.specs.Check.{rows, table_rows, check_number, report_of, check_of}

pub check_small : (s : Stored) → check_number s ≤ 23
unfolding check_number rows table_rows
check_small s = leb-true (check_number s) 23 (given_passes (λ n. leb n 23) (rows s) refl)

pub report_number : (s : Stored) → (check_of s).number ≡ check_number s
unfolding check_of report_of check_number rows table_rows
report_number s = in_turn_lem (λ n. (report_of (tables_of s) n).number) (rows s) ∙ sym (in_turn_lem (λ n. n) (rows s))
