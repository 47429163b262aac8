-- A job is cancelled: CANCEL nnnn, CANCELLED.
use Rattle.std.specs.Prelude.{◌≡◌, ◌≢◌, ℕ, Bool, true, false, List, [], ◌∷◌, ◌++◌, Option, Some, None, All, if◌then◌else◌}
use Rattle.std.specs.List.{Contains}
use Rattle.jcl_plan.specs.declared.entry.Entry.{Entry}
use Rattle.jcl_plan.specs.declared.entry.Entry.TheVariants as entry
use Rattle.jcl_plan.specs.declared.entry.JobLine.TheVariants as line
use Rattle.jcl_plan.specs.declared.fault.Cause.TheVariants.{A}
use Rattle.jcl_plan.specs.declared.fault.EventFault.TheVariants.{NoSuchJob}
use Rattle.world_meaning.specs.Holdings.{released}
use Rattle.world_meaning.specs.Tracks.{Conserves}
use Rattle.world_meaning.specs.Turns.{has_cancel}
use Rattle.world_meaning.specs.Worlds.{Admitted, Initiator, IsAt, Named, Running, Selected, Shared, Stage, Waiting, Wanting, World, with_running, without_waiting}

abbrev pub is_admitted : Stage → Bool
is_admitted (Selected first) = false
is_admitted (Wanting plan) = false
is_admitted (Named plan) = false
is_admitted (Admitted plan a count own) = true

abbrev pub RunsNot : Option Running → ℕ → Type 0
RunsNot None job = Unit {0}
RunsNot (Some r) job = r.job ≢ job

-- a job that is over, or that never was, neither waits nor has an initiator
pub record IsNoJob (w : World) (job : ℕ) : Type 0 where
  pub waits_not : All (λ x. x.job ≢ job) w.waiting
  pub runs_not : All (λ x. RunsNot x.running job) w.initiators

abbrev pub cancelled_lines : ℕ → List Entry
cancelled_lines job = entry.Cancel job ∷ entry.Job job line.Cancelled ∷ []

-- the cancel of an admitted job acts at its next program line; while one has not acted another adds nothing
abbrev pub with_cancel : Shared → ℕ → Shared
with_cancel s job = if has_cancel s.cancels job then s else record s { cancels = s.cancels ++ job ∷ [] }

pub data CancelsJob (old : World) (job : ℕ) (lines : List Entry) (new : World) : Type 0 where
  no_job : IsNoJob old job → lines ≡ entry.Refused (A NoSuchJob) ∷ [] → new ≡ old → CancelsJob old job lines new
  waiting : (w : Waiting) (free : List ℕ → ℕ) → Contains old.waiting w → w.job ≡ job → lines ≡ cancelled_lines job →
      new ≡ record old { waiting = without_waiting old.waiting job; shared = released old.config old.shared job free } →
      Conserves old.shared new.shared → CancelsJob old job lines new
  selected : (place : ℕ) (x : Initiator) (r : Running) (free : List ℕ → ℕ) → IsAt old place x → x.running ≡ Some r → r.job ≡ job →
      is_admitted r.stage ≡ false → lines ≡ cancelled_lines job →
      new ≡ record old { initiators = with_running old.initiators place x None; shared = released old.config old.shared job free } →
      Conserves old.shared new.shared → CancelsJob old job lines new
  admitted : (place : ℕ) (x : Initiator) (r : Running) → IsAt old place x → x.running ≡ Some r → r.job ≡ job →
      is_admitted r.stage ≡ true → lines ≡ entry.Cancel job ∷ [] →
      new ≡ record old { shared = with_cancel old.shared job } → CancelsJob old job lines new
