use Rattle.std.proofs.Common.{◌≡◌, rules}
use Rattle.session_text.specs.Statements.{statements_of}
use Rattle.session_core.specs.Outcomes.{IsOutcome}
use Rattle.session_core.specs.Sessions.{session_of}
use Rattle.session_core.specs.Streams.{source_state}
use Rattle.session_core.proofs.Told.{told_of}
use Rattle.session_core.proofs.run_streams.Goals as goal

pub returns-clause-told : goal.returns-clause-told
returns-clause-told g c =
    let input = c.in-Ok.input in
    let is : c.as_slice-2.result.now ≡ statements_of input.ending input.text.items = search rules in
    let out : IsOutcome c.args.options (session_of input.ending input.text.items) c.run.result c.run.ensures.outcome.written = rw is at c.run.ensures.outcome.outcome in
    rw c.run.ensures.failed (told_of (source_state g.R.Read.remaining c.args.source.now) (source_state g.R.Read.remaining c.read_text.new.source) input.text.items c.args.options
    input.ending c.run.ensures.outcome.written c.run.result c.in-Ok.ensures.ok out)
