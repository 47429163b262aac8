-- Machines of printable characters. (This profile)
use Rattle.std.specs.Prelude.{ℕ, ◌≤◌, List, [], ◌∷◌, IfSome, All}
use Rattle.machine_meaning.specs.declared.machine.SpoolSet.{SpoolSet}
use Rattle.machine_meaning.specs.declared.machine.TheConstants.{MOST_JOBS}
use Rattle.vtoc_core.specs.declared.entry.SetKey.{SetKey}
use Rattle.world_meaning.specs.Lenses.{WorldStore}
use Rattle.world_meaning.specs.Worlds.{Admitted, Named, Running, Selected, Stage, Waiting, Wanting, World}
use Rattle.line_laws.specs.Printable.{IsPrintable, IsPrintableLine, IsPrintableWritten}
use Rattle.print_laws.specs.Printable.{ArePrintablePrograms, IsPrintableCatEntry, IsPrintableFixed, IsPrintableOwn, IsPrintablePlan, IsPrintableSet}

pub record IsPrintableWorldStore (s : WorldStore) : Type 0 where
  pub sets : (key : SetKey) (serial : List ℕ) → IfSome (s.set key serial) IsPrintableSet
  pub entries : (name : List ℕ) → IfSome (s.catalog name) IsPrintableCatEntry

abbrev pub IsPrintableStage : Stage → Type 0
IsPrintableStage (Selected first) = Unit {0}
IsPrintableStage (Wanting plan) = IsPrintablePlan plan
IsPrintableStage (Named plan) = IsPrintablePlan plan
IsPrintableStage (Admitted plan a count own) = IsPrintablePlan plan × IsPrintableFixed a.fixed × IsPrintableOwn own

pub record IsPrintableRunning (r : Running) : Type 0 where
  pub numbered : r.job ≤ MOST_JOBS
  pub listing : All IsPrintableLine r.listing
  pub stage : IsPrintableStage r.stage

pub record IsPrintableWaiting (x : Waiting) : Type 0 where
  pub numbered : x.job ≤ MOST_JOBS
  pub listing : All IsPrintableLine x.listing

pub record IsPrintableSpoolSet (x : SpoolSet) : Type 0 where
  pub class : IsPrintable (x.class ∷ [])
  pub lines : All IsPrintableWritten x.lines

-- All that a line of the listing may come to tell is printable, and jobs' numbers have four digits.
pub record ArePrintableTexts (w : World) : Type 0 where
  pub volumes : All IsPrintable w.config.volumes
  pub units : All (λ serials. All IsPrintable serials) w.config.units
  pub programs : ArePrintablePrograms w.config.programs
  pub store : IsPrintableWorldStore w.shared.store
  pub holds : All (λ h. IsPrintable h.name) w.shared.holds
  pub spool : All IsPrintableSpoolSet w.shared.spool
  pub jobs : w.jobs ≤ MOST_JOBS
  pub waiting : All IsPrintableWaiting w.waiting
  pub running : All (λ x. IfSome x.running IsPrintableRunning) w.initiators
