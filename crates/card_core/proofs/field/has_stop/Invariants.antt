use Rattle.std.proofs.Common.{◌≡◌, not, take}
use Rattle.std.specs.List.{list_any}
use Rattle.card_core.specs.Fields.{is_unquoted}
use Rattle.card_core.proofs.field.has_stop.Given as goal

abbrev pub invariant-loop-c : goal.invariant-loop-c
invariant-loop-c l = l.found ≡ list_any (λ c. not (is_unquoted c)) (take l.c-index l.text)
