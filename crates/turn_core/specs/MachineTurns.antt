-- A job's turn as an event of the machine.
use Rattle.std.specs.Prelude.{◌≡◌, ℕ, true, List, [], ◌∷◌, ◌++◌, Some, None, if◌then◌else◌}
use Rattle.jcl_plan.specs.declared.entry.JobLine.{JobLine}
use Rattle.jcl_plan.specs.declared.entry.JobLine.TheVariants as line
use Rattle.jcl_plan.specs.declared.plan.JobPlan.{JobPlan}
use Rattle.jcl_meaning.specs.declared.state.Output.{Output}
use Rattle.jcl_meaning.specs.States.{Fixed}
use Rattle.jcl_meaning.specs.Stores.{Store}
use Rattle.machine_meaning.specs.Spools.{sets_of, with_sets}
use Rattle.disp_core.specs.Grants.{made_of}
use Rattle.world_meaning.specs.Choices.{AtAction, Closed, choice_of_advance}
use Rattle.world_meaning.specs.Holdings.{cancels_without, released}
use Rattle.world_meaning.specs.Lenses.{put_back, seen}
use Rattle.world_meaning.specs.Tracks.{Conserves, kept_unless_made}
use Rattle.world_meaning.specs.Turns.{Advances, has_cancel}
use Rattle.world_meaning.specs.Worlds.{Admission, Admitted, Config, Running, Shared}
use Rattle.turn_core.specs.Performing.{StoreAnswers}
use Rattle.turn_core.specs.Standing.{JobActs, JobEnds, count_at, undone}
use Rattle.turn_core.specs.Turning.{Around, Waits, operations_by}
use Rattle.turn_core.specs.declared.walk.Acted.{Acted}
use Rattle.turn_core.specs.declared.walk.Walk.{Walk}

abbrev pub around : Config → Shared → ℕ → JobPlan → Fixed → StoreAnswers → Around
around c s job plan fixed grants = record {
  programs = c.programs;
  steps = plan.steps;
  fixed = fixed;
  operations = s.operations;
  job = job;
  cancel = has_cancel s.cancels job;
  grants = grants;
}

-- what all jobs change, behind a turn that wrote lines, and behind a job's last
abbrev pub shared_told : Shared → ℕ → Store → Acted → (List ℕ → ℕ) → Shared
shared_told s job new told free = record s {
  store = put_back job s.store new;
  free = free;
  kept = kept_unless_made s.kept job (made_of told.made);
  operations = operations_by s.operations job told.starts told.cancelled;
  cancels = if told.cancelled then cancels_without s.cancels job else s.cancels;
}

abbrev pub shared_ended : Config → Shared → ℕ → JobPlan → List JobLine → List Output → (List ℕ → ℕ) → Shared
shared_ended c s job plan listing outputs free = released c (record s {
  store = put_back job s.store (seen job s.store);
  free = free;
  spool = with_sets s.spool (sets_of job plan.message_class (listing ++ line.End ∷ []) outputs);
}) job free

abbrev pub running_told : Config → Running → JobPlan → Admission → Walk → Running
running_told c r plan a walk = record r { listing = walk.course.lines; stage = Admitted plan a (count_at plan c.programs walk.todo) walk.course.own }

-- a job that waits does so in the machine, and nothing is open in that
abbrev pub WaitsAdvance : Type 0
WaitsAdvance = (c : Config) (s : Shared) (r : Running) (plan : JobPlan) (a : Admission) (grants : StoreAnswers) (walk : Walk) →
    Waits (around c s r.job plan a.fixed grants) (undone plan c.programs walk.todo) (seen r.job s.store) walk.course.own (count_at plan c.programs walk.todo) →
    (g : Advances c s r plan a (count_at plan c.programs walk.todo) walk.course.own [] s (Some r)) × (choice_of_advance g ≡ Closed)

-- A turn that wrote lines is one of the machine's, where the tracks add up, and where the primary of a job that cannot fail was granted, if it asked
-- for one; what is open in it was answered by the store.
abbrev pub ActsAdvance : Type 0
ActsAdvance = (c : Config) (s : Shared) (r : Running) (plan : JobPlan) (a : Admission) (grants : StoreAnswers) (before after : Walk) (new : Store) (told : Acted) (free : List ℕ → ℕ) →
    r.listing ≡ before.course.lines → (h : JobActs (around c s r.job plan a.fixed grants) plan (seen r.job s.store) new before after told) →
    (a.assured ≡ true → h.acts.primary ≡ true) → Conserves s (shared_told s r.job new told free) →
    (g : Advances c s r plan a (count_at plan c.programs before.todo) before.course.own h.acts.its_turn.done.lines (shared_told s r.job new told free)
    (Some (running_told c r plan a after)))
    × (choice_of_advance g ≡ AtAction r.job (has_cancel s.cancels r.job) a h.acts.its_turn h.acts.growth h.acts.primary)

-- and so is the turn of its last line
abbrev pub EndsAdvance : Type 0
EndsAdvance = (c : Config) (s : Shared) (r : Running) (plan : JobPlan) (a : Admission) (grants : StoreAnswers) (walk : Walk) (free : List ℕ → ℕ) →
    r.listing ≡ walk.course.lines → JobEnds (around c s r.job plan a.fixed grants) plan (seen r.job s.store) walk →
    Conserves s (shared_ended c s r.job plan walk.course.lines walk.course.own.outputs free) →
    (g : Advances c s r plan a (count_at plan c.programs walk.todo) walk.course.own (line.End ∷ [])
    (shared_ended c s r.job plan walk.course.lines walk.course.own.outputs free) None) × (choice_of_advance g ≡ Closed)
