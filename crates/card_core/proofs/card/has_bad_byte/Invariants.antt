use Rattle.std.proofs.Common.{◌≡◌, not, take}
use Rattle.std.specs.List.{list_any}
use Rattle.card_core.specs.Cards.{is_printable}
use Rattle.card_core.proofs.card.has_bad_byte.Given as goal

abbrev pub invariant-loop-c : goal.invariant-loop-c
invariant-loop-c l = l.found ≡ list_any (λ c. not (is_printable c)) (take l.c-index l.line)
