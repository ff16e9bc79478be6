-- `check_faces::bad_record`: what the calls find and link, of the record that is read. The keys are among those of the heads.
-- Assumes nothing.
use lib.ListN.{length}
use Rattle.check_faces.specs.Linked.{KeysWithin, keys_within}
use Rattle.check_faces.proofs.bad_record.Goals as goal

pub push_faces-requires : goal.push_faces-requires
push_faces-requires c =
    let room = c.requires in
    let keys = length c.args.links.now.heads.now in
    let own : KeysWithin c.keys_of-own.result keys = rw (c.keys_of-own.ensures, ← c.keys.ensures) (keys_within c.keys.result _ (rw c.keys.ensures room.keys)) in
    record { keys_within = own; n_in_bounds = room.places; n_bound = room.fits }
