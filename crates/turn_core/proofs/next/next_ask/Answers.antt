use Rattle.std.proofs.Common.{◌≡◌, ◌+◌, ◌<◌, ◌≤◌, Some, None, length, slice_get, ap, subst, sym, ◌∙◌}
use Rattle.jcl_meaning.specs.Agendas.{Ask}
use Rattle.jcl_meaning.specs.Programs.{moves_of}
use Rattle.job_text.specs.Places.{step_at}
use Rattle.turn_core.specs.Places.{agenda_at}
use Rattle.turn_core.specs.declared.todo.Todo.TheVariants as todo
use Rattle.turn_core.proofs.Places.{ask_at, by_step, finish_at, is_step, none_past, step_is}
use Rattle.turn_core.proofs.next.next_ask.Goals as goal

pub returns-in-Some : goal.returns-in-Some
returns-in-Some g c =
    let moves = moves_of c.args.programs.now in
    let steps = (g.T.JobText.plan c.args.text.now).steps in
    let k = c.args.k in
    let r = c.args.request in
    let step = step_at steps k in
    let lt = subst (λ m. k < m) c.step_count.ensures c.if-k-step_count.false in
    let is : slice_get (moves step.program) r ≡ Some c.in-Some.wants =
    ap (λ name. slice_get (moves name) r) (sym c.program.ensures) ∙ sym c.move_at.ensures.value ∙ c.in-Some.is in
    record {
      first = by_step steps (λ n s. Ask s c.in-Some.wants) k (agenda_at moves steps (todo.Ask k r)) (agenda_at moves steps (todo.Receive k (r + 1)))
          (ask_at moves steps k r step c.in-Some.wants (step_is steps k lt) is);
      there = is_step steps k lt;
    }

pub returns-in-None : goal.returns-in-None
returns-in-None g c =
    let moves = moves_of c.args.programs.now in
    let steps = (g.T.JobText.plan c.args.text.now).steps in
    let k = c.args.k in
    let r = c.args.request in
    let lt = subst (λ m. k < m) c.step_count.ensures c.if-k-step_count.false in
    let is : slice_get (moves (step_at steps k).program) r ≡ None =
    ap (λ name. slice_get (moves name) r) (sym c.program.ensures) ∙ sym c.move_at.ensures.value ∙ c.in-None.is in
    let past : length (moves (step_at steps k).program) ≤ r = none_past (moves (step_at steps k).program) r is in
    record { first = finish_at moves steps k r (step_at steps k) (step_is steps k lt) past; there = is_step steps k lt }
