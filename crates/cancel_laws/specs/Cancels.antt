-- S222 and the cancels that it uses up. (This profile)
use Rattle.std.specs.Prelude.{◌≡◌, ℕ, ◌+◌, ◌<◌, ◌≤◌, Bool, true, false, ◌==◌, List, ◌∷◌, ◌++◌, filter, length, if◌then◌else◌}
use Rattle.std.specs.List.{flat_map}
use Rattle.jcl_plan.specs.declared.entry.Entry.{Entry}
use Rattle.jcl_plan.specs.declared.entry.Entry.TheVariants as entry
use Rattle.jcl_plan.specs.declared.entry.JobLine.{JobLine}
use Rattle.jcl_plan.specs.declared.entry.JobLine.TheVariants as line
use Rattle.jcl_plan.specs.declared.outcome.Abend.TheVariants.{S222}
use Rattle.world_meaning.specs.declared.event.Event.{Event}
use Rattle.world_meaning.specs.Readings.{Denoting}
use Rattle.world_meaning.specs.Starts.{IsStart}
use Rattle.world_meaning.specs.Transitions.{Runs}
use Rattle.world_meaning.specs.Turns.{has_cancel}
use Rattle.world_meaning.specs.Worlds.{World}

-- `-- CANCEL nnnn` of a job, and its `nnnn ABEND S222`
abbrev pub is_cancel_of : ℕ → Entry → Bool
is_cancel_of job (entry.Cancel other) = other == job
is_cancel_of job other = false

abbrev pub is_s222 : JobLine → Bool
is_s222 (line.Abend S222) = true
is_s222 other = false

abbrev pub is_s222_of : ℕ → Entry → Bool
is_s222_of job (entry.Job other l) = if other == job then is_s222 l else false
is_s222_of job other = false

-- how many of them a listing has
abbrev pub count_in : (Entry → Bool) → List (List Entry) → ℕ
count_in p told = length (filter p (flat_map (λ lines. lines) told))

-- Of the cancels of a job so far each S222 of it has used one, and one more is left where it has not acted yet.
abbrev pub CancelsAreUsedOnce : Type 0
CancelsAreUsedOnce = (job_of : Denoting) (start end : World) (events : List Event) (told : List (List Entry)) (job : ℕ) → IsStart start →
    Runs job_of start events told end →
    count_in (is_s222_of job) told + (if has_cancel end.shared.cancels job then 1 else 0) ≤ count_in (is_cancel_of job) told

-- Before each S222 of a job stands a CANCEL of it that none of those before used.
abbrev pub CancelsComeFirst : Type 0
CancelsComeFirst = (job_of : Denoting) (start end : World) (events : List Event) (told : List (List Entry)) (job : ℕ) (before after : List Entry) →
    IsStart start → Runs job_of start events told end → flat_map (λ lines. lines) told ≡ before ++ entry.Job job (line.Abend S222) ∷ after →
    length (filter (is_s222_of job) before) < length (filter (is_cancel_of job) before)
