-- A turn that tells that a job waits, for its names or for space, changes nothing but the count of events and the job's listing. (This profile)
use Rattle.std.specs.Prelude.{◌≡◌, ℕ, Bool, true, false, [], ◌∷◌, ◌++◌, Some}
use Rattle.jcl_plan.specs.declared.entry.Entry.TheVariants as entry
use Rattle.jcl_plan.specs.declared.entry.JobLine.{JobLine}
use Rattle.jcl_plan.specs.declared.entry.JobLine.TheVariants as line
use Rattle.world_meaning.specs.declared.event.Event.TheVariants as event
use Rattle.world_meaning.specs.Readings.{Denoting}
use Rattle.world_meaning.specs.Records.{Reopened}
use Rattle.world_meaning.specs.Transitions.{Transition}
use Rattle.world_meaning.specs.Worlds.{Admitted, Initiator, IsAt, Named, Running, Selected, Stage, Wanting, World, counted, with_running}

-- WAIT NAMES, WAIT SPACE
abbrev pub is_wait : JobLine → Bool
is_wait (line.WaitNames job name) = true
is_wait (line.WaitSpace serial) = true
is_wait other = false

-- The job is as far as it was; at its first turn its records were read, and it waits for its names then.
abbrev pub IsAsFar : Stage → Stage → Type 0
IsAsFar (Selected first) (Wanting plan) = Unit {0}
IsAsFar (Selected first) other = ⊥
IsAsFar (Wanting plan) after = after ≡ Wanting plan
IsAsFar (Named plan) after = after ≡ Named plan
IsAsFar (Admitted plan a count own) after = ⊥

pub record OnlyWaits (old : World) (job : ℕ) (wait : JobLine) (new : World) : Type 0 where
  pub place : ℕ
  pub it : Initiator
  pub runs : Running
  pub after : Stage
  pub at : IsAt old place it
  pub running : it.running ≡ Some runs
  pub its_own : runs.job ≡ job
  pub as_far : IsAsFar runs.stage after
  pub reopened : Reopened old.config.layout old.shared new.shared
  pub rest : new ≡ record (counted old) {
    shared = new.shared;
    initiators = with_running old.initiators place it (Some (record runs { listing = runs.listing ++ wait ∷ []; stage = after }));
  }

-- What all jobs share stays as it was, but for what is open in records.
abbrev pub WaitsChangeNothing : Type 0
WaitsChangeNothing = (job_of : Denoting) (old new : World) (number job : ℕ) (wait : JobLine) → is_wait wait ≡ true →
    Transition job_of old (event.Turn number) (entry.Job job wait ∷ []) new → OnlyWaits old job wait new
