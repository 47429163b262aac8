use Rattle.std.proofs.Common.{◌∙◌, arith, replicate, rules}
use Rattle.session_core.specs.Running.{AreAppliedInPart}
use Rattle.session_core.proofs.Applied.{AreApplied-more}
use Rattle.session_core.proofs.Fixed.{IsSameFixed-twice}
use Rattle.session_core.proofs.Leaving.{all_left, part_left}
use Rattle.session_core.proofs.run.run_events.Goals as goal

pub loop-done-preserved : goal.loop-done-preserved
loop-done-preserved c =
    let done = c.loop-done.invariant in
    record {
      applied = AreApplied-more _ c.loop-done.system _ c.args.event.now c.loop-done.done _ c.loop-done.listing.text.kept _ done.applied
          c.run_event.ensures.next c.in_ok-run_event.ensures.ok;
      fixed = IsSameFixed-twice _ _ _ done.fixed c.run_event.ensures.next.fixed;
      marks = c.run_event.ensures.marks ∙ done.marks;
    }

-- this time is not listed
pub returns-in_err-run_event-clause-err : goal.returns-in_err-run_event-clause-err
returns-in_err-run_event-clause-err c =
    let done = c.loop-done.invariant in
    let text = c.in_err-run_event.ensures.err in
    let part : AreAppliedInPart c.args.system.now c.args.event.now c.args.times c.args.listing.now.text.kept c.run_event.new.listing.text.kept = record {
      done = c.loop-done.done;
      within = omega arith;
      reached = c.loop-done.system;
      applied = rw text done.applied;
    } in
    search rules

pub returns-in_err-run_event-clause-left : goal.returns-in_err-run_event-clause-left
returns-in_err-run_event-clause-left c =
    part_left c.args.system.now c.loop-done.system c.run_event.new.system (replicate c.loop-done.done c.args.event.now) c.args.listing.now.text.kept
    c.run_event.new.listing.text.kept (rw c.in_err-run_event.ensures.err c.loop-done.invariant.applied) c.in_err-run_event.ensures.left

pub returns-clause-left : goal.returns-clause-left
returns-clause-left c = all_left _ _ (replicate c.loop-done.done c.args.event.now) _ _ c.loop-done.invariant.applied
