use Rattle.std.proofs.Common.{◌+◌, ◌<◌, ◌≤◌, ◌++◌, ◌∷◌, [], List, length, drop, ap, subst, ◌∙◌}
use Rattle.std.proofs.lemmas.Option.{slice_get_past}
use Rattle.jcl_meaning.specs.Agendas.{Action, Left, Over}
use Rattle.job_text.specs.Places.{dd_at, step_at}
use Rattle.turn_core.specs.Places.{agenda_at, lefts_left}
use Rattle.turn_core.specs.declared.todo.Todo.TheVariants as todo
use Rattle.turn_core.proofs.Places.{by_dd, dd_is, is_dd, left_first, left_none, step_is}
use Rattle.turn_core.proofs.next.next_left.Goals as goal

pub returns-in-Some : goal.returns-in-Some
returns-in-Some g c = λ moves.
    let steps = (g.T.JobText.plan c.args.text.now).steps in
    let i = c.loop-i.i in
    let dd = c.in-Some.dd in
    let step = step_at steps i in
    let lt : i < length steps = subst (λ m. i < m) c.step_count-i-end.ensures c.loop-i-test.true in
    let found = c.in-Some.ensures.found in
    record {
      first = by_dd steps Left i dd (agenda_at moves steps (todo.Left c.args.k c.args.d)) (agenda_at moves steps (todo.Left i (dd + 1)))
          (ap (λ (l : List Action). l ++ (Over ∷ []))
          (c.loop-i.invariant ∙ left_first steps i c.loop-i.from dd step (dd_at step.dds dd) (step_is steps i lt) (dd_is step.dds dd found.within) found));
      there = is_dd steps i dd lt found.within;
    }

pub loop-i-preserved : goal.loop-i-preserved
loop-i-preserved g c =
    let steps = (g.T.JobText.plan c.args.text.now).steps in
    let i = c.loop-i.i in
    c.loop-i.invariant ∙ left_none steps i c.loop-i.from (step_at steps i)
    (step_is steps i (subst (λ m. i < m) c.step_count-i-end.ensures c.loop-i-test.true)) c.in-None.ensures.none

pub returns : goal.returns
returns g c = λ moves.
    let steps = (g.T.JobText.plan c.args.text.now).steps in
    let i = c.loop-i.i in
    ap (λ (l : List Action). l ++ (Over ∷ [])) (c.loop-i.invariant ∙ ap (λ o. lefts_left o (drop (i + 1) steps) i c.loop-i.from)
    (slice_get_past steps i (subst (λ m. m ≤ i) c.step_count-i-end.ensures c.loop-i-test.false)))
