use Rattle.std.proofs.Common.{◌<◌, ◌≤◌, ◌+◌, ◌-◌, length, take}
use Rattle.jcl_plan.specs.declared.fault.Cause.{Cause}
use Rattle.jcl_procs.specs.Calling.{call_of}
use Rattle.deck_places.specs.Called.{IsRefusedTo}
use Rattle.deck_places.specs.Short.{StandFor}
use Rattle.deck_places.specs.Tried.{IsHigh, WantsStep}
use Rattle.deck_places.proofs.called.first_refusal.Given as goal

abbrev pub invariant-loop-low : goal.invariant-loop-low
invariant-loop-low l = record {
  stands : StandFor (call_of l.fn.caller) l.short.items (take l.low l.fn.statements);
  taken : (cause : Cause) → IsRefusedTo (call_of l.fn.caller) l.fn.statements cause l.low → WantsStep cause;
  behind : IsHigh (call_of l.fn.caller) l.fn.statements l.high l.found;
  order : l.low < l.high;
  within : l.high ≤ length l.fn.statements + 1;
}

abbrev pub decreases-loop-low : goal.decreases-loop-low
decreases-loop-low l = l.high - l.low
