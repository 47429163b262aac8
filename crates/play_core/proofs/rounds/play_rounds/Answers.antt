use Rattle.std.proofs.Common.{◌≤◌, ◌+◌, length, inl, sym, subst, ⊎_elim, arith}
use Rattle.sched_core.specs.Systems.{world_of}
use Rattle.play_core.specs.Giving.{Stays}
use Rattle.play_core.proofs.Adding.{Adds-length, Adds-then}
use Rattle.play_core.proofs.rounds.play_rounds.Goals.{else-still-via-else-still, else-still-via-then-still+else-quiet}
use Rattle.play_core.proofs.rounds.play_rounds.Goals as goal

pub returns-then-not-has_room-clause-adds : goal.returns-then-not-has_room-clause-adds
returns-then-not-has_room-clause-adds c =
    Adds-then c.args.system.now c.loop-round.system c.turn_all.new.system c.args.added.now.given.items c.loop-round.added.given.items
    c.turn_all.new.added.given.items c.loop-round.invariant.adds c.in_ok-still.ensures.adds

pub returns-then-not-has_room-2-clause-adds : goal.returns-then-not-has_room-2-clause-adds
returns-then-not-has_room-2-clause-adds c =
    let first = c.args.added.now.given.items in
    let mid = c.loop-round.added.given.items in
    let turned = c.turn_all.new.added.given.items in
    Adds-then c.args.system.now c.turn_all.new.system c.end_all.new.system first turned c.end_all.new.added.given.items
    (Adds-then c.args.system.now c.loop-round.system c.turn_all.new.system first mid turned c.loop-round.invariant.adds c.in_ok-still.ensures.adds)
    c.in_ok-quiet.ensures.adds

pub returns-then-quiet-clause-adds : goal.returns-then-quiet-clause-adds
returns-then-quiet-clause-adds c =
    let first = c.args.added.now.given.items in
    let mid = c.loop-round.added.given.items in
    let turned = c.turn_all.new.added.given.items in
    Adds-then c.args.system.now c.turn_all.new.system c.end_all.new.system first turned c.end_all.new.added.given.items
    (Adds-then c.args.system.now c.loop-round.system c.turn_all.new.system first mid turned c.loop-round.invariant.adds c.in_ok-still.ensures.adds)
    c.in_ok-quiet.ensures.adds

pub returns-then-quiet-clause-over : goal.returns-then-quiet-clause-over
returns-then-quiet-clause-over c =
    let quiet = c.in_ok-quiet.ensures.quiet c.if-quiet.true in
    let mid = c.loop-round.system in
    inl (record {
      before = mid;
      turns = subst (λ m. Stays mid 0 (length (world_of mid).initiators) m) (sym quiet.1) (c.in_ok-still.ensures.still c.if-still.true);
      quiet = quiet.0;
    })

pub loop-round-preserved : goal.loop-round-preserved
loop-round-preserved c =
    let first = c.args.added.now.given.items in
    let mid = c.loop-round.added.given.items in
    let turned = c.turn_all.new.added.given.items in
    let ended = c.end_all.new.added.given.items in
    let by_turns = Adds-length c.loop-round.system c.turn_all.new.system mid turned c.in_ok-still.ensures.adds in
    let by_ends = Adds-length c.turn_all.new.system c.end_all.new.system turned ended c.in_ok-quiet.ensures.adds in
    let more : c.loop-round.round + 1 ≤ length ended = elim c.else-still.branch [
      | else-still-via-then-still+else-quiet w ↦ ⊎_elim
          (λ less. omega (arith, by_turns, less, c.loop-round.invariant.rounds))
          (λ full. absurd (omega (arith, full, c.has_room-in-loop-round.ensures.yes c.if-not-has_room-2.false)))
          (c.in_ok-quiet.ensures.more w.if-quiet.false)
      | else-still-via-else-still w ↦
          ⊎_elim
          (λ less. omega (arith, by_ends, less, c.loop-round.invariant.rounds))
          (λ full. absurd (omega (arith, full, c.has_room.ensures.yes c.if-not-has_room.false)))
          (c.in_ok-still.ensures.more w.if-still.false)
    ] in
    record {
      adds = Adds-then c.args.system.now c.turn_all.new.system c.end_all.new.system first turned ended
          (Adds-then c.args.system.now c.loop-round.system c.turn_all.new.system first mid turned c.loop-round.invariant.adds c.in_ok-still.ensures.adds)
          c.in_ok-quiet.ensures.adds;
      rounds = more;
    }
