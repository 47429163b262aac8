use Rattle.packed_core.specs.Ways.{HasNoOthers}
use Rattle.packed_core.proofs.ways.note_all.Given as goal

abbrev pub invariant-loop-one : goal.invariant-loop-one
invariant-loop-one l = HasNoOthers l.fn.notes.items l.notes.items l.looked
