use Rattle.std.proofs.Common.{◌<◌, ℕ}
use Rattle.std.specs.Prelude.{slice_index_or}
use Rattle.solo_core.specs.declared.path.MetFault.{MetFault}
use Rattle.path_core.specs.MarksMet.{IsMetBy}
use Rattle.path_core.proofs.check.is_met.Given as goal

abbrev pub invariant-loop-met : goal.invariant-loop-met
invariant-loop-met l = (k : ℕ) (d : MetFault) → k < l.met-index → IsMetBy (slice_index_or l.faults k d) l.fault l.marks → ⊥
