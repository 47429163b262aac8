use Rattle.std.proofs.Common.{◌≡◌, length, All, refl, sym, subst, arith}
use Rattle.sched_core.specs.Systems.{world_of}
use Rattle.play_core.specs.Giving.{IsWait, Stays}
use Rattle.play_core.proofs.Adding.{Adds-length, Adds-none, Adds-then, Stays-next, initiator_there, stays_none, stays_some}
use Rattle.play_core.proofs.rounds.turn_all.Goals as goal

pub loop-place-init : goal.loop-place-init
loop-place-init c = record { adds = Adds-none _ _; count = c.initiator_count-count.ensures; still = λ e. refl; more = λ e. absurd cc }

pub loop-place-preserved-in_default : goal.loop-place-preserved-in_default
loop-place-preserved-in_default c =
    let before = c.loop-place.invariant in
    record {
      adds = before.adds;
      count = before.count;
      still = λ e. Stays-next c.loop-place.place c.args.system.now c.loop-place.system c.loop-place.system (before.still e)
          (stays_none c.loop-place.system c.loop-place.place (sym c.in_default.ensures));
      more = before.more;
    }

pub give-requires : goal.give-requires
give-requires c = record {
  below = c.has_room.ensures.yes c.if-not-has_room.false;
  is_for = initiator_there (world_of c.loop-place.system).initiators c.loop-place.place c.in-Some.x (sym c.in-Some.ensures);
}

pub loop-place-preserved : goal.loop-place-preserved
loop-place-preserved c =
    let before = c.loop-place.invariant in
    let first = c.args.added.now.given.items in
    let mid = c.loop-place.added.given.items in
    let now = c.loop-place.system in
    let new = c.give.new.system in
    let long = Adds-length c.args.system.now now first mid before.adds in
    record {
      adds = Adds-then c.args.system.now now new first mid c.give.new.given.items before.adds c.in_ok-lines.ensures.adds;
      count = before.count;
      still = λ e.
          let both = c.in_ok-all.ensures e in
          Stays-next c.loop-place.place c.args.system.now now new (before.still both.0)
          (stays_some now new c.loop-place.place c.in-Some.x (sym c.in-Some.ensures) c.in_ok-lines.lines c.in_ok-lines.ensures.step
          (subst (All IsWait) c.as_slice.ensures both.1));
      more = λ e. omega (arith, long, c.in_ok-lines.ensures.more);
    }

pub returns-clause-still : goal.returns-clause-still
returns-clause-still c = λ e.
    let before = c.loop-place.invariant in
    let here : c.loop-place.place ≡ length (world_of c.args.system.now).initiators =
    omega (arith, c.loop-place-test.false, c.loop-place.auto.place-end, before.count) in
    subst (λ n. Stays c.args.system.now 0 n c.loop-place.system) here (before.still e)
