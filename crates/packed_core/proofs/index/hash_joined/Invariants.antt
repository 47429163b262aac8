use Rattle.std.proofs.Common.{◌≡◌, take}
use Rattle.packed_core.specs.Indexed.{hash_from}
use Rattle.packed_core.specs.Words.{joined_words}
use Rattle.packed_core.proofs.index.hash_joined.Given as goal

abbrev pub invariant-loop-j : goal.invariant-loop-j
invariant-loop-j l = l.hash ≡ hash_from 0 (take l.j (joined_words l.row l.mask))
