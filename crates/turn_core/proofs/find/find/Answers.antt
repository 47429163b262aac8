use Rattle.std.proofs.Common.{◌≡◌, ◌∷◌, true, sym}
use Rattle.jcl_meaning.specs.Programs.{moves_of}
use Rattle.turn_core.specs.Passing.{is_idle}
use Rattle.turn_core.specs.Places.{action_of, agenda_at}
use Rattle.turn_core.proofs.Passing.{passes_along, passes_more}
use Rattle.turn_core.proofs.Skipping.{passes_then}
use Rattle.turn_core.proofs.find.find.Goals as goal

pub loop-task-preserved : goal.loop-task-preserved
loop-task-preserved g c =
    let own = c.args.own.now in
    let moves = moves_of c.args.programs.now in
    let steps = (g.T.JobText.plan c.args.text.now).steps in
    let from = agenda_at moves steps c.args.place in
    let behind = agenda_at moves steps c.in-Does.behind in
    let a = action_of steps c.in-Does.task in
    let idle : is_idle a own ≡ true = sym c.if-not-is_idle.ensures in
    passes_then own from behind (agenda_at moves steps c.past-todo-in-Does.result)
    (passes_more own from behind a (passes_along own from (agenda_at moves steps c.loop-task.todo) (a ∷ behind) c.in-Does.ensures.first c.loop-task.invariant) idle)
    c.past-todo-in-Does.ensures
