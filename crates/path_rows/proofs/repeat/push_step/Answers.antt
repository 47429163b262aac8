use Rattle.std.proofs.Common.{sym, subst, [], ◌∷◌}
use Rattle.std.specs.Prelude.{All}
use Rattle.std.proofs.lemmas.List.Elements.{All-append, All-cons, All-nil}
use Rattle.jcl_meaning.specs.WellFormed.{IsStep}
use Rattle.path_rows.proofs.repeat.push_step.Goals as goal

pub loop-time-preserved : goal.loop-time-preserved
loop-time-preserved c =
    subst (All IsStep) (sym c.in_ok-push.ensures.ok)
    (All-append IsStep c.loop-time.steps (c.in_ok-step_again.field-0 ∷ []) c.loop-time.invariant
    (All-cons IsStep c.in_ok-step_again.field-0 [] c.in_ok-step_again.ensures (All-nil IsStep)))
