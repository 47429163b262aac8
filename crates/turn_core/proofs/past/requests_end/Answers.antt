use Rattle.std.proofs.Common.{◌≡◌, ◌<◌, ◌&&◌, ◌+◌, ℕ, false, not, length, ap, subst, sym, ◌∙◌}
use Rattle.jcl_meaning.specs.Programs.{moves_of}
use Rattle.jcl_meaning.specs.States.{asks_open}
use Rattle.job_text.specs.Places.{step_at}
use Rattle.turn_core.specs.Passing.{Passes}
use Rattle.turn_core.specs.Places.{agenda_at}
use Rattle.turn_core.specs.declared.todo.Todo.TheVariants as todo
use Rattle.turn_core.proofs.Places.{step_is}
use Rattle.turn_core.proofs.Skipping.{closed, skips_receive, skips_requests, skips_to_end}
use Rattle.turn_core.proofs.past.requests_end.Goals as goal

pub returns-then-not-own-clause-asks : goal.returns-then-not-own-clause-asks
returns-then-not-own-clause-asks g c = λ r.
    let steps = (g.T.JobText.plan c.args.text.now).steps in
    let k = c.args.step in
    let lt = subst (λ m. k < m) c.step_count.ensures c.if-step-step_count.false in
    skips_requests c.args.own.now (moves_of c.args.programs.now) steps k r (step_at steps k) c.if-not-own.true (step_is steps k lt)

pub returns-then-not-own-clause-receives : goal.returns-then-not-own-clause-receives
returns-then-not-own-clause-receives g c = λ r.
    let steps = (g.T.JobText.plan c.args.text.now).steps in
    let moves = moves_of c.args.programs.now in
    let k = c.args.step in
    skips_receive c.args.own.now moves steps k r (agenda_at moves steps (todo.Start (k + 1))) (closed c.args.own.now c.if-not-own.true)
    (returns-then-not-own-clause-asks g c r)

pub returns-clause-asks : goal.returns-clause-asks
returns-clause-asks g c = λ r.
    let steps = (g.T.JobText.plan c.args.text.now).steps in
    let moves = moves_of c.args.programs.now in
    let own = c.args.own.now in
    let k = c.args.step in
    let step = step_at steps k in
    let lt = subst (λ m. k < m) c.step_count.ensures c.if-step-step_count.false in
    let over : asks_open own ≡ false = λ i. c.if-not-own.false i && not (c.if-is_none.ensures i) in
    let count : c.move_count-request.result ≡ length (moves step.program) = c.move_count-request.ensures ∙ ap (λ name. length (moves name)) c.program.ensures in
    subst (λ n. Passes own (agenda_at moves steps (todo.Ask k r)) (agenda_at moves steps (todo.Ask k n))) (sym count)
    (skips_to_end own moves steps k r step over (step_is steps k lt))

pub returns-clause-receives : goal.returns-clause-receives
returns-clause-receives g c = λ r.
    let steps = (g.T.JobText.plan c.args.text.now).steps in
    let moves = moves_of c.args.programs.now in
    let own = c.args.own.now in
    let k = c.args.step in
    let over : asks_open own ≡ false = λ i. c.if-not-own.false i && not (c.if-is_none.ensures i) in
    skips_receive own moves steps k r (agenda_at moves steps (todo.Ask k c.move_count-request.result)) over (returns-clause-asks g c r)
