use Rattle.std.proofs.Common.{◌≡◌, take}
use Rattle.packed_core.specs.Indexed.{hash_from}
use Rattle.packed_core.proofs.index.hash_of.Given as goal

abbrev pub invariant-loop-word : goal.invariant-loop-word
invariant-loop-word l = l.hash ≡ hash_from 0 (take l.word-index l.row)
