use Rattle.std.proofs.Common.{◌≡◌, true, subst}
use Rattle.std.specs.Option.{option_map}
use Rattle.jcl_meaning.specs.Programs.{grown_by}
use Rattle.shared_core.specs.Giving.{none_taken, nothing_given}
use Rattle.shared_core.specs.Rooms.{holds_more, others_of}
use Rattle.shared_core.specs.Shown.{mounted_in, set_on}
use Rattle.shared_core.proofs.Entries.{ok_both, ok_by}
use Rattle.shared_core.proofs.SeenSets.{others_grown, seen_changed}
use Rattle.shared_core.proofs.store.SharedStoreJobStore.grow.Goals as goal

pub returns-in-Some-clause-grown : goal.returns-in-Some-clause-grown
returns-in-Some-clause-grown c =
    ok_by c.grow_set.result (λ w.
    seen_changed c.args.job c.args.self.now c.grow_set.new.volumes c.args.key.now c.in-Some.key c.args.serial c.in-Some.ensures (grown_by c.args.tracks) w.0)
    c.grow_set.ensures.ok

pub returns-in-Some-clause-granted : goal.returns-in-Some-clause-granted
returns-in-Some-clause-granted c =
    ok_by c.grow_set.result (λ w.
    subst (λ o. holds_more o (mounted_in c.args.self.now.volumes c.args.serial) c.args.tracks ≡ true) c.in-Some.ensures w.1)
    c.grow_set.ensures.ok

pub returns-in-Some-clause-rest : goal.returns-in-Some-clause-rest
returns-in-Some-clause-rest c =
    ok_both c.grow_set.result (λ w take.
    others_grown c.args.job c.args.self.now c.grow_set.new.volumes c.args.key.now c.in-Some.key c.args.serial c.in-Some.ensures
    (option_map (grown_by c.args.tracks) (set_on (mounted_in c.args.self.now.volumes c.args.serial) c.in-Some.key)) w.0.0 w.0.1 take)
    c.grow_set.ensures.ok c.grow_set.ensures.extents

pub returns-in-None-clause-rest : goal.returns-in-None-clause-rest
returns-in-None-clause-rest c = none_taken c.args.job _ _ (nothing_given (others_of c.args.job c.args.self.now))
