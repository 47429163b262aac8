use Rattle.std.proofs.Common.{◌≡◌, ◌∙◌, ℕ, List, Some, ap, sym}
use Rattle.std.specs.Prelude.{slice_get}
use Rattle.jcl_meaning.specs.Programs.{moves_of}
use Rattle.job_text.specs.Places.{step_at}
use Rattle.job_warnings.proofs.Denying.{none_more, some_here}
use Rattle.job_warnings.proofs.requests.first_denied.Goals as goal

pub returns-then-is_some : goal.returns-then-is_some
returns-then-is_some c =
    let step = step_at c.args.plan.now.steps c.args.step in
    let place = c.loop-place.place in
    let at : slice_get (moves_of c.args.programs.now step.program) place ≡ Some c.in-Some.wants =
    sym (c.in-Some.ensures.value ∙ ap (λ (p : List ℕ). slice_get (moves_of c.args.programs.now p) place) c.program-program.ensures) in
    some_here step.dds (moves_of c.args.programs.now step.program) place c.in-Some.wants c.is_denied-denied.result at c.is_denied-denied.ensures
    (sym c.is_some.ensures ∙ c.if-is_some.true) c.loop-place.invariant

pub loop-place-preserved : goal.loop-place-preserved
loop-place-preserved c =
    let step = step_at c.args.plan.now.steps c.args.step in
    let place = c.loop-place.place in
    let at : slice_get (moves_of c.args.programs.now step.program) place ≡ Some c.in-Some.wants =
    sym (c.in-Some.ensures.value ∙ ap (λ (p : List ℕ). slice_get (moves_of c.args.programs.now p) place) c.program-program.ensures) in
    none_more step.dds (moves_of c.args.programs.now step.program) place c.in-Some.wants c.is_denied-denied.result at c.is_denied-denied.ensures
    (sym c.is_some.ensures ∙ c.if-is_some.false) c.loop-place.invariant
