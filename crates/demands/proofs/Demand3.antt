-- Of specs/Demand3.antt, the theorems that an edit of a definition breaks, and what only they need.
use Rattle.std.specs.Prelude.{◌≡◌, List, [], ℕ}
use Rattle.stored.specs.Layout.{Stored, of_kind, StoredSelection}
use Rattle.demands_words.specs.Words.{StoredMesh}
use Rattle.demands_words.specs.Services.{ours}
use Rattle.demands.specs.Demand2.{demand_2}
use Rattle.demands.specs.Demand3.{RefinedFrom, result}

pub accepted_again : (s : Stored) (x : StoredMesh s) (selection : StoredSelection) (bytes : List ℕ) (room : ℕ) (r : RefinedFrom x selection bytes room) → (ours.check (of_kind s r.mesh [])).number ≡ 0
accepted_again s x selection bytes room r = ((demand_2.accepted_exactly (of_kind s r.mesh [])).1 (result s x selection bytes room r)).1
