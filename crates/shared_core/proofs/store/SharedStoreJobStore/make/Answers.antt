use Rattle.std.proofs.Common.{◌≡◌, Some, true, subst}
use Rattle.store_core.specs.Actions.{new_set_of}
use Rattle.shared_core.specs.Rooms.{holds_new, kept_place}
use Rattle.shared_core.specs.Writes.{KeepsOthers, TakeTracksAt}
use Rattle.shared_core.specs.Shown.{mounted_in}
use Rattle.shared_core.proofs.Entries.{ok_both, ok_by}
use Rattle.shared_core.proofs.SeenSets.{others_made, seen_written}
use Rattle.shared_core.proofs.store.SharedStoreJobStore.make.Goals as goal

pub returns-in-Some-clause-made : goal.returns-in-Some-clause-made
returns-in-Some-clause-made c =
    ok_by c.make_set.result (λ w.
    seen_written c.args.job c.args.self.now c.make_set.new.volumes c.args.key.now c.in-Some.key c.args.place.now.serial c.in-Some.ensures (Some (new_set_of c.args.tracks c.args.expires)) w.0)
    c.make_set.ensures.ok

pub returns-in-Some-clause-taken : goal.returns-in-Some-clause-taken
returns-in-Some-clause-taken c =
    ok_both c.make_set.result (λ w take.
    others_made c.args.job c.args.self.now c.make_set.new.volumes c.args.key.now c.in-Some.key c.args.place.now.serial c.in-Some.ensures c.args.place.now
    (Some (new_set_of c.args.tracks c.args.expires)) w.0 (subst (KeepsOthers c.args.self.now.volumes c.make_set.new.volumes c.args.place.now.serial) c.kept_place.ensures w.1)
    (subst (λ at. TakeTracksAt c.args.place.now.serial at c.args.self.now.volumes c.make_set.new.volumes) c.kept_place.ensures take))
    c.make_set.ensures.ok c.make_set.ensures.extents

pub returns-in-Some-clause-granted : goal.returns-in-Some-clause-granted
returns-in-Some-clause-granted c =
    ok_by c.make_set.result (λ w.
    subst (λ o. holds_new o (mounted_in c.args.self.now.volumes c.args.place.now.serial) (kept_place c.args.job c.args.place.now) c.args.tracks ≡ true) c.in-Some.ensures
    (subst (λ at. holds_new (Some c.in-Some.key) (mounted_in c.args.self.now.volumes c.args.place.now.serial) at c.args.tracks ≡ true) c.kept_place.ensures w.2))
    c.make_set.ensures.ok
