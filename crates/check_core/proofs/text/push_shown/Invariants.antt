use Rattle.std.proofs.Common.{◌≡◌, ◌++◌, map, take}
use Rattle.check_core.specs.Texts.{shown}
use Rattle.check_core.proofs.text.push_shown.Given as goal

abbrev pub invariant-loop-c : goal.invariant-loop-c
invariant-loop-c l = l.text.items ≡ l.initial.text.items ++ map shown (take l.c-index l.fn.columns)
