use Rattle.std.proofs.Common.{◌<◌, ◌≤◌, subst}
use Rattle.jcl_meaning.specs.Agendas.{Start}
use Rattle.job_text.specs.Places.{step_at}
use Rattle.turn_core.specs.Places.{agenda_at}
use Rattle.turn_core.specs.declared.todo.Todo.TheVariants as todo
use Rattle.turn_core.proofs.Places.{by_step, is_step, next_along, start_at, started_at, step_is}
use Rattle.turn_core.proofs.next.next_start.Goals as goal

pub returns-then-k-step_count : goal.returns-then-k-step_count
returns-then-k-step_count g c = λ moves.
    let steps = (g.T.JobText.plan c.args.text.now).steps in
    let k = c.args.k in
    let lt = subst (λ m. k < m) c.step_count.ensures c.if-k-step_count.true in
    record {
      first = by_step steps Start k (agenda_at moves steps (todo.Start k)) (agenda_at moves steps (todo.Take k 0))
          (start_at moves steps k (step_at steps k) (step_is steps k lt));
      there = is_step steps k lt;
    }

pub returns : goal.returns
returns g c = λ moves.
    let steps = (g.T.JobText.plan c.args.text.now).steps in
    let k = c.args.k in
    next_along moves steps c.next_left.result (todo.Start k) (todo.Left 0 0)
    (started_at moves steps k (subst (λ m. m ≤ k) c.step_count.ensures c.if-k-step_count.false)) (c.next_left.ensures moves)
