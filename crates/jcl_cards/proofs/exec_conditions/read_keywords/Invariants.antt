use Rattle.std.proofs.Common.{take}
use Rattle.jcl_cards.specs.Conditions.{AreAllRead}
use Rattle.jcl_cards.proofs.exec_conditions.read_keywords.Given as goal

abbrev pub invariant-loop-keyword : goal.invariant-loop-keyword
invariant-loop-keyword l = AreAllRead l.calls (take l.keyword-index l.keywords) l.conditions l.fault
