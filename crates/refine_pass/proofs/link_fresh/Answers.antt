-- `refine_pass::link_fresh`: a vertex more is put before the others with its key.
-- Assumes nothing.
use mathlib.Core.Path.{ap, ◌∙◌}
use lib.ListN.{length}
use Rattle.laws.specs.Links.{Links, pushed_nexts_long}
use Rattle.refine_pass.specs.Linked.{fresh_linked}
use Rattle.refine_pass.proofs.link_fresh.Goals as goal

pub returns-then-was-mesh : goal.returns-then-was-mesh
returns-then-was-mesh c =
    let put = c.link_vertex.ensures.linked in
    record {
      linked = fresh_linked _ _ _ _ c.requires c.if-was-mesh.true _ _ (ap (λ (l : Links). l.heads) put) (ap (λ (l : Links). l.nexts) put);
      as_long = ap (λ (l : Links). length l.nexts) put ∙ pushed_nexts_long _ _ _;
    }
