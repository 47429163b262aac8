use Rattle.std.proofs.Common.{[], ◌++◌, Err, add-zero, rules}
use Rattle.std.proofs.lemmas.Bool.{both_ways}
use Rattle.std.proofs.lemmas.List.{append-nil}
use Rattle.session_core.specs.declared.SessionEnd.{SessionEnd}
use Rattle.session_core.specs.Running.{options_in}
use Rattle.session_core.specs.Sessions.{session_behind}
use Rattle.session_core.proofs.Applied.{AreApplied-none}
use Rattle.session_core.proofs.Leaving.{ListsWhole-behind, all_left, applied_more, written_whole}
use Rattle.session_core.proofs.Progress.{Progress-ends, Progress-found, Progress-last, Progress-next, Progress-start, Progress-written, written_behind}
use Rattle.session_core.proofs.Standing.{rest_done}
use Rattle.session_core.proofs.Streams.{appended_none, appended_twice}
use Rattle.session_core.proofs.run.run_from.Goals as goal

pub loop-statement-init : goal.loop-statement-init
loop-statement-init g c =
    let all = c.args.statements.now in
    let none = c.empty-listing.ensures in
    let p = c.requires.configured in
    record {
      so_far = (
        [],
        appended_none _,
        rw add-zero (Progress-start (options_in c.args.system.now.config) all c.args.from _ _ _ _ _ p.1 p.2 p.3 c.is_whole.ensures none.marks none.text),
        ([], rw none.text (AreApplied-none _ [])),
      );
      unfailed = search rules;
      same = search rules;
    }

-- what is told of configuration was found
pub run_statement-requires : goal.run_statement-requires
run_statement-requires g c = record {
  late = λ s has_end is.
      Progress-found (options_in c.args.system.now.config) c.args.statements.now _ _ _ _ c.split_at.ensures.back c.loop-statement-test.true c.statement-item.is _ _ _ _ _ s has_end
      c.loop-statement.invariant.so_far.2 is;
}

-- a statement stops the session
pub returns-in-Err-clause-outcome : goal.returns-in-Err-clause-outcome
returns-in-Err-clause-outcome g c =
    let all = c.args.statements.now in
    let so_far = c.loop-statement.invariant.so_far in
    let new = c.run_statement.new in
    let last = Progress-last (options_in c.args.system.now.config) all _ _ _ _ c.split_at.ensures.back c.loop-statement-test.true c.statement-item.is _ _ new.system so_far.0 _
    new.listing.marks.items _ new.listing.text.kept c.in-Err.fault so_far.2 c.in-Err.ensures.runs in
    written_behind _ (session_behind [] all) _ _ _ c.end.result so_far.0 so_far.1 (c.end.ensures.outcome _ (session_behind [] all) so_far.0 last.outcome last.marked)

pub returns-in-Err-clause-left : goal.returns-in-Err-clause-left
returns-in-Err-clause-left g c = λ unfailed.
    let so_far = c.loop-statement.invariant.so_far in
    written_whole _ _ _ _ _ so_far.0 _ so_far.1 (c.end.ensures.written unfailed)
    (ListsWhole-behind _ _ _ so_far.3.0 so_far.0 _ _ so_far.3.1 c.run_statement.ensures.left)

-- its lines are held
pub loop-statement-preserved-then-len-lt-MOST_HELD : goal.loop-statement-preserved-then-len-lt-MOST_HELD
loop-statement-preserved-then-len-lt-MOST_HELD g c =
    let so_far = c.loop-statement.invariant.so_far in
    let new = c.run_statement.new in
    let next = Progress-next (options_in c.args.system.now.config) c.args.statements.now _ _ _ _ c.split_at.ensures.back c.loop-statement-test.true c.statement-item.is _ _
    new.system so_far.0 _ new.listing.marks.items _ new.listing.text.kept so_far.2 c.in-Ok.ensures.runs in
    let more = applied_more _ _ _ _ _ _ _ _ _ so_far.0 so_far.3.0 so_far.3.1 _ c.in-Ok.ensures.runs in
    record { so_far = (so_far.0, so_far.1, next, more); unfailed = search rules; same = search rules }

-- the held lines are not written whole
pub returns-in-Err-write_out-clause-outcome : goal.returns-in-Err-write_out-clause-outcome
returns-in-Err-write_out-clause-outcome g c =
    let all = c.args.statements.now in
    let so_far = c.loop-statement.invariant.so_far in
    let new = c.run_statement.new in
    let next = Progress-next (options_in c.args.system.now.config) all _ _ _ _ c.split_at.ensures.back c.loop-statement-test.true c.statement-item.is _ _ new.system so_far.0 _
    new.listing.marks.items _ new.listing.text.kept so_far.2 c.in-Ok.ensures.runs in
    written_behind {T = SessionEnd} _ (session_behind [] all) _ _ _ (Err c.in-Err-write_out.fault) so_far.0 so_far.1
    (c.in-Err-write_out.ensures.err _ (session_behind [] all) so_far.0 next.marked)

pub returns-in-Err-write_out-clause-left : goal.returns-in-Err-write_out-clause-left
returns-in-Err-write_out-clause-left g c = λ unfailed. absurd (both_ways _ unfailed c.in-Err-write_out.ensures.fault)

-- they are
pub loop-statement-preserved : goal.loop-statement-preserved
loop-statement-preserved g c =
    let so_far = c.loop-statement.invariant.so_far in
    let new = c.run_statement.new in
    let next = Progress-next (options_in c.args.system.now.config) c.args.statements.now _ _ _ _ c.split_at.ensures.back c.loop-statement-test.true c.statement-item.is _ _
    new.system so_far.0 _ new.listing.marks.items _ new.listing.text.kept so_far.2 c.in-Ok.ensures.runs in
    let out = c.in-Ok-write_out.ensures in
    let more = applied_more _ _ _ _ _ _ _ _ _ so_far.0 so_far.3.0 so_far.3.1 _ c.in-Ok.ensures.runs in
    record {
      so_far = (
        so_far.0 ++ new.listing.text.kept,
        appended_twice _ _ _ _ _ so_far.1 out.ok,
        Progress-written _ _ _ _ _ _ _ _ _ _ _ next out.marks out.text,
        (more.0, rw (out.text, append-nil) more.1),
      );
      unfailed = search rules;
      same = search rules;
    }

pub returns-clause-outcome : goal.returns-clause-outcome
returns-clause-outcome g c =
    let all = c.args.statements.now in
    let so_far = c.loop-statement.invariant.so_far in
    let done = rest_done all _ _ _ c.split_at.ensures.back c.loop-statement-test.false in
    let ends = Progress-ends (options_in c.args.system.now.config) all _ _ _ so_far.0 _ _ (record {}) (rw done at so_far.2) in
    written_behind _ (session_behind [] all) _ _ _ c.end-2.result so_far.0 so_far.1 (c.end-2.ensures.outcome _ (session_behind [] all) so_far.0 ends.outcome ends.marked)

pub returns-clause-left : goal.returns-clause-left
returns-clause-left g c = λ unfailed.
    let so_far = c.loop-statement.invariant.so_far in
    written_whole _ _ _ _ _ so_far.0 _ so_far.1 (c.end-2.ensures.written unfailed) (all_left _ _ so_far.3.0 _ _ so_far.3.1)
