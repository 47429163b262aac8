use Rattle.std.proofs.Common.{◌≡◌, length, sym, ap, ◌∙◌, arith}
use Rattle.sched_core.specs.Systems.{world_of}
use Rattle.world_meaning.specs.Worlds.{Config}
use Rattle.play_core.proofs.Adding.{Adds-length, Adds-then, idle_all, idle_more, not_false, not_true, volume_busy, volume_there}
use Rattle.play_core.proofs.rounds.end_all.Goals as goal

pub loop-place-preserved-then-not-volume : goal.loop-place-preserved-then-not-volume
loop-place-preserved-then-not-volume c =
    let now = c.loop-place.system in
    let before = c.loop-place.invariant in
    record {
      adds = before.adds;
      config = before.config;
      count = before.count;
      idle = λ quiet. idle_more (world_of now).shared now.config.volumes c.loop-place.place c.in-Some.volume (sym c.in-Some.ensures)
          (not_true c.in-Some.volume.busy c.if-not-volume.true)
          (before.idle quiet);
      same = before.same;
      more = before.more;
    }

pub give-requires : goal.give-requires
give-requires c =
    let now = c.loop-place.system in
    let shared = (world_of now).shared in
    let place = c.loop-place.place in
    let volume = c.in-Some.volume in
    record {
      below = c.has_room.ensures.yes c.if-not-has_room.false;
      is_for = (
        volume_there shared now.config.volumes place volume (sym c.in-Some.ensures),
        volume_busy shared now.config.volumes place volume (sym c.in-Some.ensures) ∙ not_false volume.busy c.if-not-volume.false,
      );
    }

pub loop-place-preserved : goal.loop-place-preserved
loop-place-preserved c =
    let before = c.loop-place.invariant in
    let first = c.args.added.now.given.items in
    let mid = c.loop-place.added.given.items in
    let long = Adds-length c.args.system.now c.loop-place.system first mid before.adds in
    record {
      adds = Adds-then c.args.system.now c.loop-place.system c.give.new.system first mid c.give.new.given.items before.adds c.in_ok-give.ensures.adds;
      config = c.give.ensures.next.fixed.config ∙ before.config;
      count = before.count;
      idle = λ e. absurd cc;
      same = λ e. absurd cc;
      more = λ e. omega (arith, long, c.in_ok-give.ensures.more);
    }

pub returns-clause-quiet : goal.returns-clause-quiet
returns-clause-quiet c = λ quiet.
    let now = c.loop-place.system in
    let before = c.loop-place.invariant in
    let same : length now.config.volumes ≡ c.volume_count-count.result = ap (λ (k : Config). length k.volumes) before.config ∙ sym before.count in
    (idle_all (world_of now).shared now.config.volumes c.loop-place.place (omega (arith, same, c.loop-place-test.false)) (before.idle quiet), before.same quiet)
