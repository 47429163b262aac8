use Rattle.std.proofs.Common.{◌≡◌, ◌+◌, ◌-◌, ◌∷◌, ◌++◌, [], suc, length, ap, ◌∙◌, arith}
use Rattle.std.proofs.lemmas.List.{length_push}
use Rattle.extent_core.specs.Extents.{extent, free_extents}
use Rattle.vtoc_core.specs.Extents.{largest_taken}
use Rattle.vtoc_core.proofs.TakeLemmas.{largest_contained, marked_more, turn_taken, turn_whole}
use Rattle.vtoc_core.proofs.space.take_each.Goals as goal

pub take_front-requires-clause-listed : goal.take_front-requires-clause-listed
take_front-requires-clause-listed c = largest_contained (free_extents c.loop-turn.free) c.in-Some.largest c.in-Some.ensures

pub returns-then-left-largest-clause-marked : goal.returns-then-left-largest-clause-marked
returns-then-left-largest-clause-marked c = λ _.
    c.take_front.ensures
    ∙ marked_more c.args.free.now c.loop-turn.free c.loop-turn.taken.items c.push.new.self.items (extent c.in-Some.largest.start c.loop-turn.left) c.loop-turn.invariant.were c.push.ensures.items

pub take_front-requires-in-loop-turn-clause-listed : goal.take_front-requires-in-loop-turn-clause-listed
take_front-requires-in-loop-turn-clause-listed c = largest_contained (free_extents c.loop-turn.free) c.in-Some.largest c.in-Some.ensures

pub loop-turn-preserved : goal.loop-turn-preserved
loop-turn-preserved c =
    let l = c.loop-turn in
    let inv = c.loop-turn.invariant in
    let e = c.in-Some.largest in
    let items : c.push-in-loop-turn.new.self.items ≡ l.taken.items ++ e ∷ [] = c.push-in-loop-turn.ensures.items in
    let turns : 5 - l._turn ≡ suc (5 - (l._turn + 1)) = omega arith in
    record {
      count = omega (arith, ap length items, length_push l.taken.items e, inv.count);
      were = turn_taken c.args.free.now l.free c.take_front-in-loop-turn.new.self l.taken.items c.push-in-loop-turn.new.self.items e items
          c.take_front-in-loop-turn.ensures inv.were c.in-Some.ensures;
      rest = turn_whole (largest_taken 5 (free_extents c.args.free.now) c.args.wanted) l.taken.items c.push-in-loop-turn.new.self.items l.free
          c.take_front-in-loop-turn.new.self e (5 - l._turn) (5 - (l._turn + 1)) l.left turns items c.take_front-in-loop-turn.ensures inv.rest c.in-Some.ensures
          (omega arith);
    }
