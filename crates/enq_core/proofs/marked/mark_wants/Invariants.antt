use Rattle.std.proofs.Common.{◌≡◌, ℕ, ◌<◌, get_or, false, true}
use Rattle.enq_core.specs.declared.table.Want.{Want}
use Rattle.enq_core.specs.Marks.{mark_of}
use Rattle.enq_core.proofs.marked.mark_wants.Given as goal

abbrev pub invariant-loop-want : goal.invariant-loop-want
invariant-loop-want l = (k : ℕ) (d : Want) → k < l.want-index → get_or l.marks (mark_of (get_or l.wants k d).name) false ≡ true
