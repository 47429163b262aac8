-- The answers along a chain of machines.
use Rattle.std.proofs.Common.{List}
use Rattle.jcl_plan.specs.declared.entry.Entry.{Entry}
use Rattle.session_input.specs.declared.event.Event.{Event}
use Rattle.sched_core.specs.Systems.{Drives, Machine, world_of}
use Rattle.sched_core.proofs.Driving.{along}
use Rattle.machine_laws.specs.Answers.{AnswersAreExact, AreExact, AreExactAlong}

pub exact_along : AnswersAreExact → (old new : Machine) (events : List Event) (entries : List (List Entry)) (chain : Drives old events entries new) →
    AreExactAlong old events entries new chain
exact_along law old new events entries chain = record {
  along = along (λ m e lines next s. AreExact m lines) (λ m e lines next s. law.each m e lines (world_of next) s) old new events entries chain;
}
