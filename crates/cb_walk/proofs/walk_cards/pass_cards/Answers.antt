use Rattle.std.proofs.Common.{◌≡◌, ◌+◌, ◌<◌, ◌≤◌, ◌∙◌, arith}
use Rattle.cb_queue.specs.RecordQueues.{shown}
use Rattle.cb_walk.proofs.Following.{bad_cards, cards_unmet, many_cards, passed_cards}
use Rattle.cb_walk.proofs.walk_cards.pass_cards.Goals as goal

pub returns-in-Err : goal.returns-in-Err
returns-in-Err g c =
    let q = g.S.RecordStore.queue c.args.store.now in
    λ fuel seen marked.
    cards_unmet q.layout (shown q) c.args.job fuel c.args.stated c.args.read c.args.n seen c.in-Err.fault c.requires.some (c.in-Err.ensures seen marked)

pub returns-in-Some : goal.returns-in-Some
returns-in-Some g c =
    bad_cards (g.S.RecordStore.queue c.args.store.now) c.layout-layout.result.now c.layout-layout.ensures.value c.args.job c.args.stated c.args.read c.args.n
    c.args.marks.now c.arrive.new.marks c.arrive.new.own c.in-Some.fault c.requires.some c.in-Ok.ensures c.in-Some.ensures

pub returns-then-from-more : goal.returns-then-from-more
returns-then-from-more g c =
    let many : c.from-2.result < c.args.read + c.from.result = c.if-from-more.true in
    let is : c.from-2.result ≡ c.args.stated = c.from-2.ensures in
    many_cards (g.S.RecordStore.queue c.args.store.now) c.layout-layout.result.now c.layout-layout.ensures.value c.args.job c.args.stated c.args.read c.args.n
    c.args.marks.now c.arrive.new.marks c.arrive.new.own c.from.result c.requires.some c.in-Ok.ensures c.in-None.ensures (c.from.ensures ∙ c.byte.ensures)
    (omega (arith, many, is))

pub returns : goal.returns
returns g c =
    let few : c.args.read + c.from.result ≤ c.from-2.result = c.if-from-more.false in
    let is : c.from-2.result ≡ c.args.stated = c.from-2.ensures in
    passed_cards (g.S.RecordStore.queue c.args.store.now) c.layout-layout.result.now c.layout-layout.ensures.value c.args.job c.args.stated c.args.read c.args.n
    c.args.marks.now c.arrive.new.marks c.arrive.new.own c.from.result c.number.result c.requires.some c.in-Ok.ensures c.in-None.ensures
    (c.from.ensures ∙ c.byte.ensures) (omega (arith, few, is)) c.number.ensures.value
