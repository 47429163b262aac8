-- What an event leaves of a machine, and what it writes: nothing is open but what no event looks at, and which path a RISK tells. (This profile)
use Rattle.std.specs.Prelude.{◌≡◌, ◌≢◌, ◌⊎◌, ℕ, List, ◌∷◌}
use Rattle.plain.specs.Lists.{Differ}
use Rattle.jcl_plan.specs.declared.entry.Entry.{Entry}
use Rattle.jcl_plan.specs.declared.entry.Entry.TheVariants as entry
use Rattle.jcl_plan.specs.declared.entry.JobLine.TheVariants as line
use Rattle.jcl_plan.specs.declared.fault.Fault.{Fault}
use Rattle.jcl_plan.specs.declared.outcome.Outcome.{Outcome}
use Rattle.law_core.specs.Soundness.{IsSound}
use Rattle.open_laws.specs.Open.{IsSameButOpen}
use Rattle.session_input.specs.declared.event.Event.{Event}
use Rattle.sched_core.specs.Systems.{IsNext, IsSameFixed, IsWhole, Machine, Steps, world_of}

-- Two machines are the same but for what is open in records: links, status bytes, and what stands in free ones.
pub record AreAlike (one other : Machine) : Type 0 where
  pub store : other.parts.store ≡ one.parts.store
  pub fixed : IsSameFixed one other
  pub world : IsSameButOpen (world_of one) (world_of other)

-- Both tell a RISK of one job at one step and DD, and by other paths, or of other faults: which path there is told, and which fault is met on it, is open.
pub record PartAtRisk (lines more : List Entry) : Type 0 where
  pub job : ℕ
  pub step : ℕ
  pub dd : ℕ
  pub fault : Fault
  pub other_fault : Fault
  pub path : List Outcome
  pub other_path : List Outcome
  pub behind : List Entry
  pub other_behind : List Entry
  pub told : lines ≡ entry.Job job (line.Risk fault step dd path) ∷ behind
  pub told_too : more ≡ entry.Job job (line.Risk other_fault step dd other_path) ∷ other_behind
  pub differ : (fault ≢ other_fault) ⊎ (path ≢ other_path)

-- From two machines that are alike an event writes the same and leaves two that are alike, or they part at a RISK.
abbrev pub NextIsDecided : Type 0
NextIsDecided = (old beside new newer : Machine) (e : Event) (lines more : List Entry) → IsSound (world_of old) → Differ old.config.volumes → IsWhole old →
    AreAlike old beside → Steps old e lines (world_of new) → IsNext old new → Steps beside e more (world_of newer) → IsNext beside newer →
    ((lines ≡ more) × AreAlike new newer) ⊎ PartAtRisk lines more
