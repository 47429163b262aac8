use Rattle.std.proofs.Common.{◌≡◌, ◌+◌, ◌<◌, ◌++◌, ℕ, List, ap, subst, take, ◌∙◌}
use Rattle.jcl_meaning.specs.declared.program.Move.{Move}
use Rattle.jcl_meaning.specs.Agendas.{step_actions, steps_from}
use Rattle.jcl_meaning.specs.Programs.{moves_of}
use Rattle.job_text.specs.Places.{no_step, step_at}
use Rattle.job_text.specs.declared.texts.StepText.{StepText}
use Rattle.solo_core.specs.Runners.{Acts}
use Rattle.solo_core.proofs.Runs.{acts_joined, acts_none, front_number, front_with, steps_from-snoc}
use Rattle.solo_core.proofs.runner.Runner.run_steps.Goals as goal

pub loop-i-init : goal.loop-i-init
loop-i-init g c = acts_none c.args.self.now

pub loop-i-preserved : goal.loop-i-preserved
loop-i-preserved g c =
    let i = c.loop-i.i in
    let steps = (g.T.JobText.plan c.args.text.now).steps in
    let moves = moves_of c.args.programs.now in
    let lt = subst (λ m. i < m) c.step_count-i-end.ensures c.loop-i-test.true in
    let xs = take i steps in
    let step = step_at steps i in
    let whole : steps_from moves 1 (take (i + 1) steps) ≡ steps_from moves 1 xs ++ step_actions (i + 1) step (moves step.program) =
    ap (steps_from moves 1) (front_with steps i no_step lt) ∙ steps_from-snoc moves 1 xs step
    ∙ ap (λ (m : ℕ). steps_from moves 1 xs ++ step_actions m step (moves step.program)) (front_number steps i lt) in
    acts_joined _ (steps_from moves 1 xs) (step_actions (i + 1) step (moves step.program)) c.args.self.now c.loop-i.self c.run_step.new.self whole c.loop-i.invariant
    (subst (λ (ms : List Move). Acts (step_actions (i + 1) step ms) c.loop-i.self c.run_step.new.self)
    (c.as_slice.ensures.value ∙ c.in_ok-moves.ensures ∙ ap (λ (s : StepText). moves s.program) c.step.ensures) c.in_ok-run_step.ensures)
