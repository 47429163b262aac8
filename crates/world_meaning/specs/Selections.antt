-- An idle initiator selects a job: SELECTED. (GC28-6704, CLASS and PRTY parameters)
use Rattle.std.specs.Prelude.{◌≡◌, ◌≢◌, ℕ, ◌≤◌, List, [], ◌∷◌, ◌++◌, Some, All}
use Rattle.std.specs.List.{Contains}
use Rattle.jcl_plan.specs.declared.entry.Entry.{Entry}
use Rattle.jcl_plan.specs.declared.entry.JobLine.TheVariants as line
use Rattle.world_meaning.specs.Worlds.{Initiator, Running, Selected, Waiting, World, of_job, with_running, without_waiting}

-- no job of the class waits
abbrev pub HasNone : List Waiting → ℕ → Type 0
HasNone waiting class = All (λ w. w.class ≢ class) waiting

-- of the jobs of its class none has a higher priority, and none of the same was read before it
pub record IsFirst (waiting : List Waiting) (class : ℕ) (w : Waiting) : Type 0 where
  pub contained : Contains waiting w
  pub of_class : w.class ≡ class
  pub highest : All (λ x. x.class ≡ class → x.priority ≤ w.priority) waiting
  pub earliest : All (λ x. x.class ≡ class → x.priority ≡ w.priority → w.job ≤ x.job) waiting

-- the first job of the first of these classes that has one
pub record IsSelected (waiting : List Waiting) (classes : List ℕ) (w : Waiting) : Type 0 where
  pub before : List ℕ
  pub class : ℕ
  pub after : List ℕ
  pub stands : classes ≡ before ++ class ∷ after
  pub none_before : All (HasNone waiting) before
  pub first : IsFirst waiting class w

-- the job at the initiator of this number
abbrev pub taken_by : ℕ → Waiting → Running
taken_by number w = record { job = w.job; listing = w.listing ++ line.Selected number ∷ []; stage = Selected w.first }

-- SELECTED i
pub data Selects (old : World) (place : ℕ) (x : Initiator) (lines : List Entry) (new : World) : Type 0 where
  nothing : All (HasNone old.waiting) x.classes → lines ≡ [] → new ≡ old → Selects old place x lines new
  selected : (w : Waiting) → IsSelected old.waiting x.classes w → lines ≡ of_job w.job (line.Selected x.number ∷ []) →
      new ≡ record old {
        waiting = without_waiting old.waiting w.job;
        initiators = with_running old.initiators place x (Some (taken_by x.number w));
      } → Selects old place x lines new
