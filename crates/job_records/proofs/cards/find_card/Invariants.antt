use Rattle.std.proofs.Common.{◌≡◌, ◌≤◌, ◌-◌}
use Rattle.cb_read.specs.Chains.{cards_from}
use Rattle.job_text.specs.Places.{card_at}
use Rattle.job_records.specs.Recorded.{HasCard, IsPassed}
use Rattle.job_records.proofs.cards.find_card.Given as goal

-- the card is in the records from here on
abbrev pub invariant-loop-left : goal.invariant-loop-left
invariant-loop-left g l =
    let q = g.S.RecordStore.queue l.store in
    record {
      there : HasCard q l.n l.left;
      is : card_at (cards_from q l.first) l.place ≡ card_at (cards_from q l.n) l.left;
      within : l.left ≤ l.place;
      passed : IsPassed q l.first l.n (l.place - l.left);
    }

abbrev pub decreases-loop-left : goal.decreases-loop-left
decreases-loop-left g l = l.left
