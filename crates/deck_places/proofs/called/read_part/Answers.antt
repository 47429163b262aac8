use Rattle.std.proofs.Common.{◌≡◌, ◌∙◌, List, Result, Ok, Err, subst, sym}
use Rattle.card_core.specs.declared.statement.Statement.{Statement}
use Rattle.jcl_plan.specs.declared.fault.Cause.{Cause}
use Rattle.jcl_procs.specs.Calling.{call_of}
use Rattle.jcl_procs.specs.Calls.{steps_of}
use Rattle.jcl_procs.specs.declared.step.FlatStep.{FlatStep}
use Rattle.deck_places.specs.Short.{StandFor, short_of}
use Rattle.deck_places.proofs.Shortened.{short_stands}
use Rattle.deck_places.proofs.called.read_part.Goals as goal

pub returns-in_ok-short_of-in-Ok : goal.returns-in_ok-short_of-in-Ok
returns-in_ok-short_of-in-Ok c =
    let call = call_of c.args.caller.now in
    let statements = c.args.statements.items in
    let read : steps_of call statements ≡ Ok c.in-Ok.field-0 = (let h = c.in-Ok.ensures in let is = c.as_slice.ensures.value in cc) in
    let short : c.in_ok-short_of-in-Ok.field-0.items ≡ short_of statements =
    (let h = c.in_ok-short_of-in-Ok.ensures in let is = c.as_slice-in-Ok.ensures.value in cc) in (
      (λ cause refused. absurd (let both : (let r : Result (List FlatStep) Cause = Ok c.in-Ok.field-0 in r) ≡ Err cause = sym read ∙ refused in cc)),
      subst (λ (l : List Statement). StandFor call l statements) (sym short) (short_stands call statements c.in-Ok.field-0 read),
    )
