use Rattle.std.proofs.Common.{◌≡◌, ◌≤◌, ◌-◌, false, length}
use Rattle.deck_places.specs.Cards.{walk_from}
use Rattle.deck_places.specs.Walks.{behind}
use Rattle.deck_places.proofs.walk.walk_cards.Given as goal

abbrev pub invariant-loop-card : goal.invariant-loop-card
invariant-loop-card l = record {
  so : walk_from false 0 0 l.cards ≡ behind l.begun.items (walk_from l.called (length l.cards - length l.rest) 0 l.rest);
  within : length l.rest ≤ length l.cards;
}

abbrev pub decreases-loop-card : goal.decreases-loop-card
decreases-loop-card l = length l.rest
