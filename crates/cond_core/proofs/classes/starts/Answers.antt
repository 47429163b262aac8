use Rattle.std.proofs.Common.{◌≤◌}
use Rattle.std.proofs.lemmas.List.Elements.{All-append, All-same}
use Rattle.cond_core.proofs.Intervals.{starts_more}
use Rattle.cond_core.proofs.classes.starts.Goals as goal

pub loop-test-preserved : goal.loop-test-preserved
loop-test-preserved c = record {
  items = starts_more c.args.tests.now c.loop-test.test-index c.test-item.result _ _ c.loop-test-test.true c.test-item.is c.loop-test.invariant.items
      c.in_ok-push_breaks.ensures.items;
  codes = All-same (λ n. n ≤ 4095) _ _ c.in_ok-push_breaks.ensures.items (All-append (λ n. n ≤ 4095) _ _ c.loop-test.invariant.codes
      c.in_ok-push_breaks.ensures.codes);
}
