-- Of specs/Handed.antt, the theorems that an edit of a definition breaks, and what only they need.
use Rattle.std.specs.Prelude.{◌≡◌, ◌<◌, pos, ◌*ℤ◌}
use Rattle.piece.specs.Shape.{last_generation}
use Rattle.mesh_tables.specs.Tables.{signed_at}
use Rattle.cuts_names.specs.Pieces.{Side, Node, generation, kid}
use Rattle.demands_words.specs.Words as Words
use Rattle.demands_words.specs.Words.{BaseMesh, ProperlyMarked}
use Rattle.demands_proofs.specs.Handed as Proved

-- "a child's signed value is exactly half of its parent's"
pub halved : (b : BaseMesh) → ProperlyMarked b → (n : Node) → n.root < b.pieces → generation n < last_generation → (side : Side) → pos 2 *ℤ Words.signed_at b (kid n side) ≡ Words.signed_at b n
halved = Proved.halved
