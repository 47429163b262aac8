use Rattle.std.proofs.Common.{◌≡◌, ◌≤◌, ◌-◌, length}
use Rattle.deck_places.specs.Cards.{continued_at}
use Rattle.deck_places.proofs.walk.continued_at.Given as goal

abbrev pub invariant-loop-card : goal.invariant-loop-card
invariant-loop-card l = record {
  so : continued_at 0 l.cards ≡ continued_at (length l.cards - length l.rest) l.rest;
  within : length l.rest ≤ length l.cards;
}

abbrev pub decreases-loop-card : goal.decreases-loop-card
decreases-loop-card l = length l.rest
