-- Of specs/Accepts.antt, the theorems that an edit of a definition breaks, and what only they need.
use Rattle.std.specs.Prelude.{◌≡◌, List, ℕ, zero, ◌/◌, ℤ}
use Rattle.std.proofs.Math.ListN.{length}
use Rattle.stored.specs.Layout.{stored1}
use Rattle.check_refusals.specs.Check.{check_number, leaves, deepest, sixfold, report_of, check_of}
use Rattle.build_service.specs.Build.{plain_bytes, build_number}
use Rattle.build_meaning.specs.Written.{Given, written}
use Rattle.build_meaning.specs.Accepts as Specs

module _ (job : ℕ) (coordinates : List ℤ) (corners : List ℕ) where
  module _ (room : ℕ) (g : Given job coordinates corners) (zero : build_number job coordinates corners room ≡ 0) where
    -- As specs/ has them.
    abbrev check_accepts : check_number (stored1 (plain_bytes job coordinates corners)) ≡ 0
    check_accepts = Specs.check_accepts job coordinates corners room g zero

    abbrev build_leaves : leaves (written job coordinates corners) ≡ length corners / 4
    build_leaves = Specs.build_leaves job coordinates corners room g zero

    abbrev build_depth : deepest (written job coordinates corners) ≡ 0
    build_depth = Specs.build_depth job coordinates corners room g zero

    -- What check returns of it, all six figures.
    pub check_reports : check_of (stored1 (plain_bytes job coordinates corners)) ≡ record { number = 0; leaves = length corners / 4; deepest = 0; sixfold = sixfold (written job coordinates corners); «record» = 0; edge = 0 }
    unfolding check_of report_of
    check_reports = rw (check_accepts, build_leaves, build_depth)
