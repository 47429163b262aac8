use Rattle.std.proofs.Common.{subst, sym}
use Rattle.jcl_meaning.specs.Programs.{moves_of}
use Rattle.turn_core.specs.Places.{IsNext}
use Rattle.turn_core.specs.declared.todo.Todo.{Todo}
use Rattle.turn_core.proofs.next.next.Goals as goal

pub returns-in-Start : goal.returns-in-Start
returns-in-Start g c =
    let moves = moves_of c.args.programs.now in
    subst (λ (p : Todo). IsNext moves (g.T.JobText.plan c.args.text.now).steps p c.next_start.result) (sym c.in-Start.is) (c.next_start.ensures moves)

pub returns-in-Dispose : goal.returns-in-Dispose
returns-in-Dispose g c =
    let moves = moves_of c.args.programs.now in
    subst (λ (p : Todo). IsNext moves (g.T.JobText.plan c.args.text.now).steps p c.next_dispose.result) (sym c.in-Dispose.is) (c.next_dispose.ensures moves)

pub returns-in-Left : goal.returns-in-Left
returns-in-Left g c =
    let moves = moves_of c.args.programs.now in
    subst (λ (p : Todo). IsNext moves (g.T.JobText.plan c.args.text.now).steps p c.next_left.result) (sym c.in-Left.is) (c.next_left.ensures moves)
