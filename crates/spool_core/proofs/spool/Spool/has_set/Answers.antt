use Rattle.std.proofs.Common.{length, sym, ap, ◌∙◌}
use Rattle.spool_core.specs.Places.{IsFirst, NoneBefore}
use Rattle.spool_core.specs.Sets.{has_set}
use Rattle.spool_core.proofs.Having.{has_first_at, has_none_at}
use Rattle.spool_core.proofs.spool.Spool.has_set.Goals as goal

pub returns-in-Some : goal.returns-in-Some
returns-in-Some c =
    let first : IsFirst c.self.inside.places.items c.args.class c.in-Some.field-0 = rw (← c.as_slice-2.ensures.value) c.in-Some.ensures.some in
    sym (has_first_at c.self.inside.sets c.self.inside.places.items c.args.class c.self.invariant.0 c.in-Some.field-0 first)
    ∙ ap (λ spool. has_set spool c.args.class) c.self.view_is

pub returns-in-None : goal.returns-in-None
returns-in-None c =
    let places = c.self.inside.places.items in
    let none : NoneBefore c.args.class (length places) places = rw (← c.as_slice-2.ensures.value) c.in-None.ensures.none in
    sym (has_none_at c.self.inside.sets places c.args.class c.self.invariant.0 none) ∙ ap (λ spool. has_set spool c.args.class) c.self.view_is
