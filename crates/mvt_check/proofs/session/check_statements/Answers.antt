use Rattle.std.proofs.Common.{arith}
use Rattle.session_core.proofs.Standing.{drop_at}
use Rattle.mvt_check.proofs.Adding.{adds_on, counted_on, refused_on}
use Rattle.mvt_check.proofs.session.check_statements.Goals as goal

pub loop-n-preserved : goal.loop-n-preserved
loop-n-preserved c =
    let units = c.args.sources.now.units.now in
    let library = c.args.sources.now.library.now in
    let statements = c.args.statements.now in
    let s = c.index-statements-n.result in
    let cut = drop_at statements c.loop-n.n s c.loop-n-test.true c.index-statements-n.is in
    record {
      refused = refused_on units library statements c.loop-n.n s cut c.loop-n.refused c.in_ok-own.own c.either-refused.result
          c.loop-n.invariant.refused c.in_ok-own.ensures.refused c.either-refused.ensures;
      counted = counted_on units library statements c.loop-n.n s cut c.loop-n.count c.in_ok-own.own c.one-count.result
          c.loop-n.invariant.counted c.in_ok-own.ensures.refused c.one-count.ensures.number;
      few = omega (arith, c.loop-n.invariant.few, c.one-count.ensures.bound);
      added = adds_on units library statements c.loop-n.n s cut c.args.known.answers.now c.loop-n.decks.now c.decks_left-decks.result.now c.deck_for-deck.result
          c.args.known.above c.args.text.now.items c.loop-n.text.items c.check_statement.new.text.items
          c.deck_for-deck.ensures c.decks_left-decks.ensures c.in_ok-own.ensures.added c.loop-n.invariant.added;
    }
