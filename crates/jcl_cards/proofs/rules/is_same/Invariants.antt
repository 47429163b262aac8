use Rattle.std.proofs.Common.{◌≡◌, drop}
use Rattle.std.specs.Str.{bytes_eq}
use Rattle.jcl_cards.proofs.rules.is_same.Given as goal

abbrev pub invariant-loop-c : goal.invariant-loop-c
invariant-loop-c l = bytes_eq l.text l.other ≡ bytes_eq (drop l.c-index l.text) l.rest
