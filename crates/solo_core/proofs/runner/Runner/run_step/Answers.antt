use Rattle.std.proofs.Common.{◌+◌, ◌∷◌, ◌++◌, [], subst}
use Rattle.jcl_plan.specs.declared.plan.StepPlan.{StepPlan}
use Rattle.jcl_meaning.specs.Acts.{act}
use Rattle.jcl_meaning.specs.Agendas.{Finish, Start, disposes_from, moves_from, takes_from}
use Rattle.job_text.specs.Places.{step_at}
use Rattle.solo_core.specs.Runners.{Acts, Does}
use Rattle.solo_core.proofs.Runs.{acts_more, acts_one, same_step}
use Rattle.solo_core.proofs.runner.Runner.run_step.Goals as goal

pub returns : goal.returns
unfolding act
returns g c =
    let n = c.args.step + 1 in
    let steps = (g.T.JobText.plan c.args.text.now).steps in
    let step = step_at steps c.args.step in
    let moves = c.args.moves.now in
    let begins = subst (λ (s : StepPlan). Does (Start n s) c.args.self.now c.begin.new.self) (same_step steps c.args.step) c.in_ok-begin.ensures in
    let finishes : Acts (Finish n ∷ disposes_from n 1 step.dds) c.run_moves.new.self c.run_disposes.new.self =
    acts_more (Finish n ∷ []) (disposes_from n 1 step.dds) c.run_moves.new.self c.finish.new.self c.run_disposes.new.self
    (acts_one (Finish n) c.run_moves.new.self c.finish.new.self c.in_ok-finish.ensures) c.in_ok-run_disposes.ensures in
    let moved : Acts (moves_from step moves ++ (Finish n ∷ disposes_from n 1 step.dds)) c.run_takes.new.self c.run_disposes.new.self =
    acts_more (moves_from step moves) (Finish n ∷ disposes_from n 1 step.dds) c.run_takes.new.self c.run_moves.new.self c.run_disposes.new.self c.in_ok-run_moves.ensures finishes in
    acts_more (Start n step ∷ []) (takes_from n 1 step.dds ++ (moves_from step moves ++ (Finish n ∷ disposes_from n 1 step.dds))) c.args.self.now c.begin.new.self c.run_disposes.new.self
    (acts_one (Start n step) c.args.self.now c.begin.new.self begins)
    (acts_more (takes_from n 1 step.dds) (moves_from step moves ++ (Finish n ∷ disposes_from n 1 step.dds)) c.begin.new.self c.run_takes.new.self c.run_disposes.new.self
    c.in_ok-run_takes.ensures moved)
