use Rattle.std.proofs.Common.{◌+◌, ◌<◌, ◌≤◌, subst}
use Rattle.jcl_meaning.specs.Agendas.{Take}
use Rattle.jcl_meaning.specs.Programs.{moves_of}
use Rattle.job_text.specs.Places.{dd_at, step_at}
use Rattle.turn_core.specs.Places.{agenda_at}
use Rattle.turn_core.specs.declared.todo.Todo.TheVariants as todo
use Rattle.turn_core.proofs.Places.{by_dd, dd_is, is_dd, next_along, step_is, take_at, taken_at}
use Rattle.turn_core.proofs.next.next_take.Goals as goal

pub returns-then-d-dd_count : goal.returns-then-d-dd_count
returns-then-d-dd_count g c =
    let moves = moves_of c.args.programs.now in
    let steps = (g.T.JobText.plan c.args.text.now).steps in
    let k = c.args.k in
    let d = c.args.d in
    let step = step_at steps k in
    let lt = subst (λ m. k < m) c.step_count.ensures c.if-k-step_count.false in
    let within = subst (λ m. d < m) c.dd_count.ensures c.if-d-dd_count.true in
    record {
      first = by_dd steps Take k d (agenda_at moves steps (todo.Take k d)) (agenda_at moves steps (todo.Take k (d + 1)))
          (take_at moves steps k d step (dd_at step.dds d) (step_is steps k lt) (dd_is step.dds d within));
      there = is_dd steps k d lt within;
    }

pub returns : goal.returns
returns g c =
    let moves = moves_of c.args.programs.now in
    let steps = (g.T.JobText.plan c.args.text.now).steps in
    let k = c.args.k in
    let d = c.args.d in
    let lt = subst (λ m. k < m) c.step_count.ensures c.if-k-step_count.false in
    next_along moves steps c.next_ask.result (todo.Take k d) (todo.Ask k 0)
    (taken_at moves steps k d (step_at steps k) (step_is steps k lt) (subst (λ m. m ≤ d) c.dd_count.ensures c.if-d-dd_count.false)) c.next_ask.ensures
