use Rattle.std.proofs.Common.{◌≤◌, drop, length}
use Rattle.value_core.specs.Reads.{IsRead}
use Rattle.jcl_cards.specs.JobCards.{is_key}
use Rattle.jcl_cards.specs.Keywords.{value_in}
use Rattle.jcl_cards.proofs.value_in.value_in.Given as goal

abbrev pub invariant-loop-at : goal.invariant-loop-at
invariant-loop-at g l = (l.at ≤ length l.keywords) × IsRead l.found (value_in (is_key l.key) g.R.ValueReader.reads g.R.ValueOr.other (drop l.at l.keywords))

abbrev pub decreases-loop-at : goal.decreases-loop-at
decreases-loop-at g l = l.at
