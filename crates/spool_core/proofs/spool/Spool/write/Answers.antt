use Rattle.std.proofs.Common.{false, length, sym, refl, arith}
use Rattle.machine_meaning.specs.Spools.{HasNoSet}
use Rattle.spool_core.specs.declared.spool.Place.{Place}
use Rattle.spool_core.specs.Places.{AreStarts, IsFirst, NoneBefore, filled_places, sets_at}
use Rattle.spool_core.proofs.Filled.{none_filled, starts_emptied}
use Rattle.spool_core.proofs.Taking.{first_stands, first_taken, has_first, is_inside, last_stands, last_taken, lines_there, no_set_of, set_there}
use Rattle.spool_core.proofs.spool.Spool.write.Goals as goal

pub returns-in_default-clause-none : goal.returns-in_default-clause-none
returns-in_default-clause-none c =
    let places = c.self.inside.places.items in
    let none : NoneBefore c.args.class (length places) places = rw (← c.as_slice-2.ensures.value) c.in_default.ensures.none in
    let no_set : HasNoSet (sets_at c.self.inside.sets (filled_places places)) c.args.class =
    no_set_of c.self.inside.sets (filled_places places) c.args.class c.self.invariant.0.filled (none_filled c.args.class places none) in
    (rw (← c.self.view_is) no_set, c.self.view_is)

pub returns-then-has_lines-clause-some : goal.returns-then-has_lines-clause-some
returns-then-has_lines-clause-some c =
    let first : IsFirst c.self.inside.places.items c.args.class c.in-Some.index = rw (← c.as_slice-2.ensures.value) c.in-Some.ensures.some in
    rw (← c.self.view_is)
    (first_taken {sets = c.self.inside.sets} {places = c.self.inside.places.items} {class = c.args.class} {index = c.in-Some.index} {place = c.index.result.now} {set = c.in-Some-get_mut.set.now}
    {rest = c.pop.new.self} {job = c.in-Some-pop.taken.0} {line = c.in-Some-pop.taken.1}
    c.self.invariant.0 first c.index.ensures c.in-Some-get_mut.ensures.value c.in-Some-pop.ensures.some
    (sym c.if-has_lines.ensures))

pub returns-clause-some : goal.returns-clause-some
returns-clause-some c =
    let first : IsFirst c.self.inside.places.items c.args.class c.in-Some.index = rw (← c.as_slice-2.ensures.value) c.in-Some.ensures.some in
    let q : Place = record { class = c.index_mut.result.now.class; key = c.index_mut.result.now.key; filled = false } in
    rw (← c.self.view_is)
    (last_taken {sets = c.self.inside.sets} {places = c.self.inside.places.items} {class = c.args.class} {index = c.in-Some.index} {place = c.index.result.now} {set = c.in-Some-get_mut.set.now}
    {rest = c.pop.new.self} {job = c.in-Some-pop.taken.0} {line = c.in-Some-pop.taken.1}
    c.self.invariant.0 first c.index.ensures c.in-Some-get_mut.ensures.value c.in-Some-pop.ensures.some
    c.remove.new.self c.remove.ensures.updates (sym c.if-has_lines.ensures) q refl)

pub unreachable-requires : goal.unreachable-requires
unreachable-requires c =
    let first : IsFirst c.self.inside.places.items c.args.class c.in-Some.index = rw (← c.as_slice-2.ensures.value) c.in-Some.ensures.some in
    let some = has_first c.self.inside.sets c.self.inside.places.items c.args.class c.in-Some.index c.index.result.now c.self.invariant.0 first c.index.ensures in
    set_there c.self.inside.sets c.index.result.now.key some c.in_default-get_mut.ensures.value

pub unreachable-requires-in_default-pop : goal.unreachable-requires-in_default-pop
unreachable-requires-in_default-pop c =
    let first : IsFirst c.self.inside.places.items c.args.class c.in-Some.index = rw (← c.as_slice-2.ensures.value) c.in-Some.ensures.some in
    let some = has_first c.self.inside.sets c.self.inside.places.items c.args.class c.in-Some.index c.index.result.now c.self.invariant.0 first c.index.ensures in
    lines_there c.self.inside.sets c.index.result.now.key c.in-Some-get_mut.set.now some c.in-Some-get_mut.ensures.value c.in_default-pop.ensures.none

pub invariant_of-self-then-has_lines : goal.invariant_of-self-then-has_lines
invariant_of-self-then-has_lines c =
    let first : IsFirst c.self.inside.places.items c.args.class c.in-Some.index = rw (← c.as_slice-2.ensures.value) c.in-Some.ensures.some in
    let places = c.self.inside.places.items in
    let inside = is_inside {sets = c.self.inside.sets} {places = c.self.inside.places.items} {class = c.args.class} {index = c.in-Some.index} {place = c.index.result.now} {set = c.in-Some-get_mut.set.now}
    {rest = c.pop.new.self} {job = c.in-Some-pop.taken.0} {line = c.in-Some-pop.taken.1}
    c.self.invariant.0 first c.index.ensures c.in-Some-get_mut.ensures.value c.in-Some-pop.ensures.some in
    let starts : AreStarts c.set_start-2.new.starts.items places = c.set_start-2.ensures places (omega (arith, inside)) first.none_before c.self.invariant.1 in (
      first_stands {sets = c.self.inside.sets} {places = c.self.inside.places.items} {class = c.args.class} {index = c.in-Some.index} {place = c.index.result.now} {set = c.in-Some-get_mut.set.now}
          {rest = c.pop.new.self} {job = c.in-Some-pop.taken.0} {line = c.in-Some-pop.taken.1}
          c.self.invariant.0 first c.index.ensures c.in-Some-get_mut.ensures.value c.in-Some-pop.ensures.some
          (sym c.if-has_lines.ensures),
      starts,
    )

pub index_mut-requires : goal.index_mut-requires
index_mut-requires c =
    let first : IsFirst c.self.inside.places.items c.args.class c.in-Some.index = rw (← c.as_slice-2.ensures.value) c.in-Some.ensures.some in
    let inside = is_inside {sets = c.self.inside.sets} {places = c.self.inside.places.items} {class = c.args.class} {index = c.in-Some.index} {place = c.index.result.now} {set = c.in-Some-get_mut.set.now}
    {rest = c.pop.new.self} {job = c.in-Some-pop.taken.0} {line = c.in-Some-pop.taken.1}
    c.self.invariant.0 first c.index.ensures c.in-Some-get_mut.ensures.value c.in-Some-pop.ensures.some in
    omega (arith, inside, c.as_slice-2.ensures)

pub invariant_of-self-2 : goal.invariant_of-self-2
invariant_of-self-2 c =
    let first : IsFirst c.self.inside.places.items c.args.class c.in-Some.index = rw (← c.as_slice-2.ensures.value) c.in-Some.ensures.some in
    let places = c.self.inside.places.items in
    let inside = is_inside {sets = c.self.inside.sets} {places = c.self.inside.places.items} {class = c.args.class} {index = c.in-Some.index} {place = c.index.result.now} {set = c.in-Some-get_mut.set.now}
    {rest = c.pop.new.self} {job = c.in-Some-pop.taken.0} {line = c.in-Some-pop.taken.1}
    c.self.invariant.0 first c.index.ensures c.in-Some-get_mut.ensures.value c.in-Some-pop.ensures.some in
    let starts : AreStarts c.set_start-2.new.starts.items places = c.set_start-2.ensures places (omega (arith, inside)) first.none_before c.self.invariant.1 in
    let q : Place = record { class = c.index_mut.result.now.class; key = c.index_mut.result.now.key; filled = false } in (
      last_stands {sets = c.self.inside.sets} {places = c.self.inside.places.items} {class = c.args.class} {index = c.in-Some.index} {place = c.index.result.now} {set = c.in-Some-get_mut.set.now}
          {rest = c.pop.new.self} {job = c.in-Some-pop.taken.0} {line = c.in-Some-pop.taken.1}
          c.self.invariant.0 first c.index.ensures c.in-Some-get_mut.ensures.value c.in-Some-pop.ensures.some
          c.remove.new.self c.remove.ensures.updates q refl,
      starts_emptied c.set_start-2.new.starts.items places c.in-Some.index q refl starts,
    )
