use Rattle.place_core.specs.Keepings.{IsGivenBackOn}
use Rattle.place_core.proofs.Pairwise.{all_changed, none_changed, one_more_changed}
use Rattle.place_core.proofs.keep.give_back_on_each.Goals as goal

pub loop-mounted-init : goal.loop-mounted-init
loop-mounted-init c = none_changed (IsGivenBackOn c.args.job) c.args.volumes.now

pub loop-mounted-preserved : goal.loop-mounted-preserved
loop-mounted-preserved c =
    let e = c.give_back_all.ensures in
    one_more_changed (IsGivenBackOn c.args.job) c.loop-mounted.mounted-index c.args.volumes.now c.loop-mounted.volumes c.mounted-item.result c.give_back_all.new.self
    c.loop-mounted-test.true c.loop-mounted.invariant
    (record { kept = e.kept; sets = e.sets; serial = e.serial; all = e.tracks; unusable = e.unusable })

pub returns : goal.returns
returns c =
    all_changed (IsGivenBackOn c.args.job) c.loop-mounted.mounted-index c.args.volumes.now c.loop-mounted.volumes c.loop-mounted-test.false c.loop-mounted.invariant
