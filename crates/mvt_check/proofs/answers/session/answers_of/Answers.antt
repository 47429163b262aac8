use Rattle.std.proofs.Common.{ap, inl, inr}
use Rattle.std.specs.Prelude.{is_some}
use Rattle.mvt_check.proofs.answers.session.answers_of.Goals as goal

pub returns-in_ok-run_opened-in-Ok : goal.returns-in_ok-run_opened-in-Ok
returns-in_ok-run_opened-in-Ok c = inl c.in_ok-run_opened-in-Ok.ensures

pub returns-in-Err-Stopped : goal.returns-in-Err-Stopped
returns-in-Err-Stopped c = inr (record {
  fault = ap is_some (rw c.in-Err-Stopped.field-0-is at (c.in-Err-Stopped.ensures.err c.args.options)).0;
  decks = c.new.ensures.items;
  kept = c.new-2.ensures.items;
})
