use Rattle.std.proofs.Common.{arith, rules}
use Rattle.session_core.proofs.Streams.{appended_twice, still_within, taken_more}
use Rattle.session_core.proofs.transfer.write_text.Goals as goal

pub loop-at-preserved : goal.loop-at-preserved
loop-at-preserved g c =
    let at = c.loop-at.at in
    let count = c.in-Ok.count in
    let text = c.args.text.now in
    let bound = c.in-Ok.ensures.bound in
    record {
      within = still_within at count text (omega arith) bound.1;
      written = rw (← taken_more at count text) (appended_twice _ _ _ _ _ c.loop-at.invariant.written c.in-Ok.ensures.bytes);
      unfailed = search rules;
      same = search rules;
    }
