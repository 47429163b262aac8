use Rattle.std.proofs.Common.{[], refl, sym, subst, inr}
use Rattle.run_options.specs.declared.Options.{Options}
use Rattle.session_core.proofs.Progress.{with_options}
use Rattle.session_core.proofs.Started.{IsFirst, same_options}
use Rattle.session_core.proofs.Streams.{appended_none}
use Rattle.session_core.proofs.run.run.Goals as goal

-- the session stops, or memory is missing, before the first event
pub returns-in-Err-clause-outcome : goal.returns-in-Err-clause-outcome
returns-in-Err-clause-outcome g c = record { written = []; appended = appended_none _; outcome = c.in-Err.ensures.err c.args.options }

pub returns-in_default-clause-outcome : goal.returns-in_default-clause-outcome
returns-in_default-clause-outcome g c = record { written = []; appended = appended_none _; outcome = inr refl }

-- the machine of what was configured, which was started with these options
pub run_from-outcome-requires-clause-configured : goal.run_from-outcome-requires-clause-configured
run_from-outcome-requires-clause-configured g c =
    let o = c.args.options in
    let opened = c.in-Ok.ensures.ok in
    let system = c.in-Ok-start.system in
    let started : IsFirst o opened.config system = c.in-Ok-start.ensures opened.config opened.sound opened.apart in
    (opened.config, opened.by, opened.late, subst (λ (x : Options). IsFirst x opened.config system) (sym (same_options o opened.config system started)) started)

pub returns-clause-outcome : goal.returns-clause-outcome
returns-clause-outcome g c =
    let o = c.args.options in
    let opened = c.in-Ok.ensures.ok in
    let system = c.in-Ok-start.system in
    with_options _ _ _ _ [] _ o (same_options o opened.config system (c.in-Ok-start.ensures opened.config opened.sound opened.apart)) c.run_from-outcome.ensures.outcome
