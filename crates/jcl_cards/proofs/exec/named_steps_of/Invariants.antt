use Rattle.std.proofs.Common.{◌≡◌, ◌++◌, drop}
use Rattle.jcl_cards.specs.Execs.{named_steps_of}
use Rattle.jcl_cards.proofs.exec.named_steps_of.Given as goal

abbrev pub invariant-loop-keyword : goal.invariant-loop-keyword
invariant-loop-keyword l = named_steps_of l.keywords ≡ l.steps.items ++ named_steps_of (drop l.keyword-index l.keywords)
