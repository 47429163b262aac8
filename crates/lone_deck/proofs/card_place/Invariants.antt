use Rattle.std.proofs.Common.{◌≡◌, ◌<◌, ◌≤◌, ◌+◌, ℕ, false}
use Rattle.lone_deck.specs.Framing.{is_card_on, line_at}
use Rattle.lone_deck.proofs.card_place.Given as goal

abbrev pub invariant-loop-place : goal.invariant-loop-place
invariant-loop-place l = record {
  line : l.line ≡ line_at l.text l.place;
  few : l.line ≤ l.place + 1;
  none : (n : ℕ) → n < l.place → is_card_on l.fn.number l.text n ≡ false;
}
