use Rattle.std.proofs.Common.{◌≡◌, ◌≤◌, ◌+◌, ◌-◌, drop, length, take_while}
use Rattle.card_core.specs.Fields.{is_unquoted}
use Rattle.card_core.proofs.field.in_eights.Given as goal

abbrev pub invariant-loop-count : goal.invariant-loop-count
invariant-loop-count l = (length (take_while is_unquoted l.text) ≡ l.count + length (take_while is_unquoted (drop l.count l.text))) × (l.count ≤ length l.text)

abbrev pub decreases-loop-count : goal.decreases-loop-count
decreases-loop-count l = length l.text - l.count
