-- The number of a DD's cards fits its field.
use Rattle.std.proofs.Common.{ℕ, ◌*◌, ◌^◌, ◌≤◌, ◌<◌, length, arith}
use Rattle.jcl_plan.specs.declared.plan.DdKind.{DdKind}
use Rattle.jcl_plan.specs.declared.plan.DdKind.TheVariants.{Cards, Dummy, Set, Sysout}
use Rattle.cb_meaning.specs.Needs.{records_below}
use Rattle.cb_meaning.specs.Spelled.{cards_of}
use Rattle.cb_queue.specs.RecordQueues.{RecordQueue}
use Rattle.cb_chain.specs.Taking.{IsReady}
use Rattle.cb_chain.proofs.Among.{at_most}

few_cards : (kind : DdKind) (free most top : ℕ) → records_below kind ≤ free → free ≤ most → 2 * most < top → length (cards_of kind) < top
few_cards (Sysout class) free most top h a b = omega (arith, b)
few_cards Dummy free most top h a b = omega (arith, b)
few_cards (Cards cards) free most top h a b = omega (arith, h, a, b)
few_cards (Set p) free most top h a b = omega (arith, b)

pub cards_fit : (kind : DdKind) (q : RecordQueue) → IsReady q → records_below kind ≤ length q.free → length (cards_of kind) < 256 ^ q.layout.cards.width
cards_fit kind q ready room =
    few_cards kind (length q.free) q.layout.most_records (256 ^ q.layout.cards.width) room (at_most q.free q.layout.most_records ready.once ready.within)
    ready.holds.card_count
