use Rattle.std.proofs.Common.{◌≡◌, drop}
use Rattle.deck_places.specs.Stands.{head_from, head_of}
use Rattle.deck_places.proofs.stands.head_of.Given as goal

abbrev pub invariant-loop-n : goal.invariant-loop-n
invariant-loop-n l = head_of l.dds ≡ head_from l.n (drop l.n l.dds) (record { name = l.name; at = l.at })
