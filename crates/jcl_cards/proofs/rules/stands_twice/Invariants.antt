use Rattle.std.proofs.Common.{◌≡◌, drop}
use Rattle.jcl_cards.specs.Keywords.{stands_twice}
use Rattle.jcl_cards.specs.Reading.{spelled_by}
use Rattle.jcl_cards.proofs.rules.stands_twice.Given as goal

abbrev pub invariant-loop-at : goal.invariant-loop-at
invariant-loop-at l = stands_twice (spelled_by l.spelling) l.keywords ≡ stands_twice (spelled_by l.spelling) (drop l.at l.keywords)
