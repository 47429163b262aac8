use Rattle.std.proofs.Common.{ap}
use Rattle.shared_core.specs.Rooms.{others_of}
use Rattle.jcl_meaning.specs.Programs.{appended}
use Rattle.shared_core.proofs.Entries.{either_way, err_by, ok_both, ok_by}
use Rattle.shared_core.proofs.SeenSets.{others_changed, seen_changed, with_volumes}
use Rattle.shared_core.proofs.store.SharedStoreJobStore.append.Goals as goal

pub returns-in-Some-clause-ok : goal.returns-in-Some-clause-ok
returns-in-Some-clause-ok c =
    ok_by c.append_to.result (λ w. seen_changed c.args.job c.args.self.now c.append_to.new.volumes c.args.key.now c.in-Some.key c.args.serial c.in-Some.ensures (appended c.args.text.now) w)
    c.append_to.ensures.ok

pub returns-in-Some-clause-rest : goal.returns-in-Some-clause-rest
returns-in-Some-clause-rest c =
    either_way c.append_to.result
    (ok_both c.append_to.result (λ w stay.
    others_changed c.args.job c.args.self.now c.append_to.new.volumes c.args.key.now c.in-Some.key c.args.serial c.in-Some.ensures (appended c.args.text.now) w stay)
    c.append_to.ensures.ok c.append_to.ensures.extents)
    (err_by c.append_to.result (λ e. ap (λ l. others_of c.args.job (with_volumes c.args.self.now l)) e) c.append_to.ensures.err)
