use Rattle.std.proofs.Common.{◌≡◌, ◌≢◌, ◌∙◌, arith}
use Rattle.std.specs.Prelude.{Ok}
use Rattle.cb_walk.specs.Follows.{cards_from}
use Rattle.cb_walk.proofs.Following.{cards_end, cards_none, cards_other}
use Rattle.cb_walk.proofs.Onward.{all_passed, none_left, one_passed, one_refused}
use Rattle.cb_walk.proofs.walk_cards.walk_cards.Goals as goal

pub returns-then-read-from : goal.returns-then-read-from
returns-then-read-from g c =
    let q = g.S.RecordStore.queue c.args.store.now in
    all_passed (λ x. cards_from q c.args.job x c.args.stated c.loop-left.read c.loop-left.n) c.loop-left.left c.args.marks.now c.loop-left.marks
    (cards_from q c.args.job c.args.fuel c.args.stated 0 c.args.first) c.loop-left.invariant.goes c.loop-left-test.true (λ met. Ok met)
    (cards_end q c.args.job c.args.stated c.loop-left.read c.loop-left.n c.loop-left.marks c.if-n-eq0.true (c.if-read-from.true ∙ c.from.ensures))

pub returns-else-read-from : goal.returns-else-read-from
returns-else-read-from g c =
    let q = g.S.RecordStore.queue c.args.store.now in
    let other : c.loop-left.read ≢ c.from.result = c.if-read-from.false in
    let is : c.from.result ≡ c.args.stated = c.from.ensures in
    one_refused (λ x. cards_from q c.args.job x c.args.stated c.loop-left.read c.loop-left.n) c.loop-left.left c.args.marks.now c.loop-left.marks
    (cards_from q c.args.job c.args.fuel c.args.stated 0 c.args.first) c.loop-left.invariant.goes c.loop-left-test.true 5
    (cards_other q c.args.job c.args.stated c.loop-left.read c.loop-left.n c.loop-left.marks c.if-n-eq0.true (λ e. omega (arith, other, is, e)))

pub returns-in-Err : goal.returns-in-Err
returns-in-Err g c =
    let q = g.S.RecordStore.queue c.args.store.now in
    one_refused (λ x. cards_from q c.args.job x c.args.stated c.loop-left.read c.loop-left.n) c.loop-left.left c.args.marks.now c.loop-left.marks
    (cards_from q c.args.job c.args.fuel c.args.stated 0 c.args.first) c.loop-left.invariant.goes c.loop-left-test.true c.in-Err.fault c.in-Err.ensures

pub loop-left-preserved : goal.loop-left-preserved
loop-left-preserved g c =
    let q = g.S.RecordStore.queue c.args.store.now in
    record {
      within = c.in-Ok.ensures.within;
      goes = one_passed (λ x. cards_from q c.args.job x c.args.stated c.loop-left.read c.loop-left.n) c.loop-left.left c.args.marks.now c.loop-left.marks
          (cards_from q c.args.job c.args.fuel c.args.stated 0 c.args.first) c.loop-left.invariant.goes c.loop-left-test.true
          (λ x. cards_from q c.args.job x c.args.stated c.in-Ok.more c.in-Ok.next) c.pass_cards.new.marks c.in-Ok.ensures.follows;
    }

pub returns : goal.returns
returns g c =
    let q = g.S.RecordStore.queue c.args.store.now in
    none_left (λ x. cards_from q c.args.job x c.args.stated c.loop-left.read c.loop-left.n) c.loop-left.left c.args.marks.now c.loop-left.marks
    (cards_from q c.args.job c.args.fuel c.args.stated 0 c.args.first) c.loop-left.invariant.goes c.loop-left-test.false
    (cards_none q c.args.job c.args.stated c.loop-left.read c.loop-left.n c.loop-left.marks)
