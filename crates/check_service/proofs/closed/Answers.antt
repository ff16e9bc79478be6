-- `check_service::closed`: what the search found is what is reported.
-- Assumes nothing.
use mathlib.Core.Path.{◌≡◌, sym, ap, ◌∙◌}
use Rattle.std.specs.Prelude.{Option, List, ℕ, length}
use Rattle.mesh_tables.specs.Tables.{Tables, tables_read, all_vertices}
use Rattle.check_refusals.specs.Lent.{LinksFit}
use Rattle.check_hanging.specs.declared.HangingEdge.{HangingEdge}
use Rattle.check_hanging.specs.Hanging.{found_of, found_along, reported, roomy_found}
use Rattle.check_service.proofs.closed.Goals as goal

-- In lists that fit the links, the place found is the one to be reported.
place : (m : Tables) (heads links : List ℕ) {found said : Option HangingEdge} → LinksFit (length heads) (length links) (all_vertices m) → found ≡ found_along heads links m → found ≡ said → reported said ≡ reported (found_of m)
place m heads links lent e is =
    ap reported (sym is ∙ e ∙ roomy_found heads links m (record { keys = lent.some; places = lent.enough; fits = lent.fits }))

pub returns-in-Some : goal.returns-in-Some
returns-in-Some c = place (tables_read c.args.mesh.now) _ _ c.requires c.first_hanging.ensures.value c.in-Some.is

pub returns-in-None : goal.returns-in-None
returns-in-None c = place (tables_read c.args.mesh.now) _ _ c.requires c.first_hanging.ensures.value c.in-None.is
