use Rattle.std.proofs.Common.{◌≡◌, List, ℕ, length}
use Rattle.cb_chain.specs.Taking.{CardsFrom, cards_needed}
use Rattle.cb_chain.proofs.SoFar.{SoFar}
use Rattle.cb_chain.proofs.cards.write_cards.Given as goal

abbrev pub invariant-loop-rest : goal.invariant-loop-rest
invariant-loop-rest g l =
    record {
      so : SoFar {X = List ℕ} l.job cards_needed (CardsFrom l.layout l.job) l.cards l.rest (g.S.RecordStore.queue l.fn.store)
          (g.S.RecordStore.queue l.store) l.first l.here;
      room : g.S.RecordStore.lacking l.store ≡ g.S.RecordStore.lacking l.fn.store;
    }

abbrev pub decreases-loop-rest : goal.decreases-loop-rest
decreases-loop-rest g l = length l.rest
