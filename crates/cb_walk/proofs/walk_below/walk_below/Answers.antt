use Rattle.std.proofs.Common.{sym}
use Rattle.cb_walk.specs.Below.{below_from, jfcb_from}
use Rattle.cb_walk.specs.Follows.{cards_from}
use Rattle.cb_walk.proofs.UnderDds.{below_cards, below_none, below_set, ends_alike}
use Rattle.cb_walk.proofs.walk_below.walk_below.Goals as goal

pub returns-then-is_set : goal.returns-then-is_set
returns-then-is_set g c =
    let q = g.S.RecordStore.queue c.args.store.now in
    ends_alike c.args.marks.now c.walk_jfcb.new.marks (below_from q c.args.job c.args.fuel c.args.steps.now c.args.dds.now c.args.siot.now)
    (jfcb_from q c.args.job c.args.steps.now c.args.dds.now c.args.siot.now c.number-below.result) c.walk_jfcb.result
    (below_set q c.layout-layout.result.now c.layout-layout.ensures.value c.args.job c.args.fuel c.args.steps.now c.args.dds.now c.args.siot.now
    c.number-below.result c.number-below.ensures.value (sym c.if-is_set.ensures)) c.walk_jfcb.ensures

pub returns-then-has_cards : goal.returns-then-has_cards
returns-then-has_cards g c =
    let q = g.S.RecordStore.queue c.args.store.now in
    ends_alike c.args.marks.now c.walk_cards.new.marks (below_from q c.args.job c.args.fuel c.args.steps.now c.args.dds.now c.args.siot.now)
    (cards_from q c.args.job c.args.fuel c.number.result 0 c.number-below.result) c.walk_cards.result
    (below_cards q c.layout-layout.result.now c.layout-layout.ensures.value c.args.job c.args.fuel c.args.steps.now c.args.dds.now c.args.siot.now
    c.number.result c.number-below.result c.number.ensures.value c.number-below.ensures.value (sym c.if-is_set.ensures) (sym c.if-has_cards.ensures))
    c.walk_cards.ensures

pub returns-else-has_cards : goal.returns-else-has_cards
returns-else-has_cards g c =
    let q = g.S.RecordStore.queue c.args.store.now in
    λ seen marked. (
      seen,
      marked,
      below_none q c.args.job c.args.fuel c.args.steps.now c.args.dds.now c.args.siot.now (sym c.if-is_set.ensures)
          (sym c.if-has_cards.ensures) seen,
    )
