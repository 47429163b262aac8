use Rattle.std.proofs.Common.{◌≡◌, ◌+◌, ◌∷◌, ◌++◌, [], ap, subst, take, ◌∙◌}
use Rattle.jcl_plan.specs.declared.plan.StepPlan.{StepPlan}
use Rattle.jcl_meaning.specs.Acts.{act}
use Rattle.jcl_meaning.specs.Agendas.{Ask, Receive, moves_from}
use Rattle.job_text.specs.Places.{step_at}
use Rattle.solo_core.specs.Runners.{Does}
use Rattle.solo_core.proofs.Runs.{acts_joined, acts_more, acts_none, acts_one, front_more, moves-snoc, same_step}
use Rattle.solo_core.proofs.runner.Runner.run_moves.Goals as goal

pub loop-wants-init : goal.loop-wants-init
loop-wants-init g c = acts_none c.args.self.now

pub loop-wants-preserved : goal.loop-wants-preserved
unfolding act
loop-wants-preserved g c =
    let steps = (g.T.JobText.plan c.args.text.now).steps in
    let step = step_at steps c.args.step in
    let xs = take c.loop-wants.wants-index c.args.moves.now in
    let m = c.wants-item.result in
    let whole : moves_from step (take (c.loop-wants.wants-index + 1) c.args.moves.now) ≡ moves_from step xs ++ Ask step m ∷ Receive ∷ [] =
    ap (moves_from step) (front_more c.args.moves.now c.loop-wants.wants-index m c.loop-wants-test.true c.wants-item.is) ∙ moves-snoc step xs m in
    let asks = subst (λ (s : StepPlan). Does (Ask s m) c.loop-wants.self c.ask.new.self) (same_step steps c.args.step) c.in_ok-ask.ensures in
    acts_joined _ (moves_from step xs) (Ask step m ∷ Receive ∷ []) c.args.self.now c.loop-wants.self c.receive.new.self whole c.loop-wants.invariant
    (acts_more (Ask step m ∷ []) (Receive ∷ []) c.loop-wants.self c.ask.new.self c.receive.new.self
    (acts_one (Ask step m) c.loop-wants.self c.ask.new.self asks) (acts_one Receive c.ask.new.self c.receive.new.self c.in_ok-receive.ensures))
