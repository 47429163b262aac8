use Rattle.std.proofs.Common.{◌≡◌, ◌+◌, [], length, refl, subst, sym, ◌∙◌}
use Rattle.std.proofs.lemmas.List.{nil_from_length}
use Rattle.jcl_meaning.specs.Programs.{moves_of}
use Rattle.job_text.specs.Places.{step_at}
use Rattle.turn_core.specs.Passing.{Passes}
use Rattle.turn_core.specs.Places.{agenda_at}
use Rattle.turn_core.specs.declared.todo.Todo.{Todo}
use Rattle.turn_core.specs.declared.todo.Todo.TheVariants as todo
use Rattle.turn_core.proofs.Places.{step_is}
use Rattle.turn_core.proofs.Skipping.{skips_disposed, skips_lefts, skips_takes}
use Rattle.turn_core.proofs.past.past.Goals as goal

pub returns-then-is_at_rest : goal.returns-then-is_at_rest
returns-then-is_at_rest g c =
    let steps = (g.T.JobText.plan c.args.text.now).steps in
    let moves = moves_of c.args.programs.now in
    let own = c.args.own.now in
    let k = c.in-Take.step in
    let rests = c.if-is_at_rest.ensures.rests refl in
    subst (λ (p : Todo). Passes own (agenda_at moves steps p) (agenda_at moves steps (todo.Start (k + 1)))) (sym c.in-Take.is)
    (skips_takes own moves steps k c.in-Take.dd (step_at steps k) rests.0 (step_is steps k rests.1))

pub returns-then-has_disposed : goal.returns-then-has_disposed
returns-then-has_disposed g c =
    let steps = (g.T.JobText.plan c.args.text.now).steps in
    let moves = moves_of c.args.programs.now in
    let own = c.args.own.now in
    let k = c.in-Dispose.step in
    let there = c.if-has_disposed.ensures.there refl in
    subst (λ (p : Todo). Passes own (agenda_at moves steps p) (agenda_at moves steps (todo.Start (k + 1)))) (sym c.in-Dispose.is)
    (skips_disposed own moves steps k c.in-Dispose.dd (step_at steps k) (c.if-has_disposed.ensures.idle refl) (step_is steps k there))

pub returns-then-len-eq0 : goal.returns-then-len-eq0
returns-then-len-eq0 g c =
    let steps = (g.T.JobText.plan c.args.text.now).steps in
    let moves = moves_of c.args.programs.now in
    let own = c.args.own.now in
    let none : own.passed ≡ [] = nil_from_length own.passed (sym c.len.ensures ∙ c.if-len-eq0.true) in
    subst (λ n. Passes own (agenda_at moves steps c.args.place) (agenda_at moves steps (todo.Left n 0))) (sym c.step_count.ensures)
    (subst (λ (p : Todo). Passes own (agenda_at moves steps p) (agenda_at moves steps (todo.Left (length steps) 0))) (sym c.in-Left.is)
    (skips_lefts own none moves steps c.in-Left.step c.in-Left.dd))
