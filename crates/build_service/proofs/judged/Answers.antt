-- `build_service::judged` makes what it lends as long as the rules need it.
-- Assumes nothing.
use Rattle.check_refusals.specs.Lent.{just_made, lent_to_base}
use Rattle.build_service.proofs.judged.Goals as goal

pub judged_with-requires : goal.judged_with-requires
judged_with-requires c = record { lent_to_base = lent_to_base _ c.requires; heads_empty = just_made 8192; face_heads_empty = just_made 32768 }
