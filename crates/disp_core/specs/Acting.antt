-- An action of a job over any store, as one fact: what it did, what want of memory leaves, and what becomes of all else in the store.
use Rattle.std.specs.Prelude.{◌≡◌, ◌-◌, ℕ, Bool, List, [], ◌∷◌, ◌++◌, length, slice_get, Option, Result, IfOk, OnErr, OnOk}
use Rattle.jname_core.specs.declared.key.Key.{Key}
use Rattle.jcl_plan.specs.declared.fault.Fault.{Fault}
use Rattle.jcl_plan.specs.declared.entry.JobLine.TheVariants as line
use Rattle.jcl_plan.specs.declared.outcome.Outcome.{Outcome}
use Rattle.jcl_plan.specs.declared.plan.DdKind.{DdKind}
use Rattle.jcl_plan.specs.declared.plan.SetPlan.{SetPlan}
use Rattle.jcl_plan.specs.declared.plan.Word.{Word}
use Rattle.jcl_plan.specs.declared.words.DispWord.TheVariants as disp
use Rattle.job_text.specs.Texts.{disp_text, take_text}
use Rattle.job_text.specs.declared.texts.DispText.{DispText}
use Rattle.job_text.specs.declared.texts.TakeText.{TakeText}
use Rattle.jcl_meaning.specs.declared.state.TakenSet.{TakenSet}
use Rattle.jcl_meaning.specs.declared.state.Disposed.{Disposed}
use Rattle.jcl_meaning.specs.declared.state.Place.{Place}
use Rattle.jcl_meaning.specs.EndActs.{after_abend, disposes, set_disposed}
use Rattle.jcl_meaning.specs.Names.{is_temporary}
use Rattle.jcl_meaning.specs.Plans.{conditional_meaning, normal_meaning, word_done}
use Rattle.jcl_meaning.specs.States.{Done, Fixed, State, if_runs}
use Rattle.jcl_meaning.specs.Stores.{Store}
use Rattle.jcl_meaning.specs.TakeActs.{takes}
use Rattle.store_core.specs.declared.job_store.JobStore.{Ghosts}
use Rattle.disp_core.specs.Courses.{Carried, fixed_by}
use Rattle.disp_core.specs.Grants.{CarriedWith, made_of}
use Rattle.disp_core.specs.declared.course.Course.{Course}
use Rattle.disp_core.specs.declared.course.Given.{Given}
use Rattle.disp_core.specs.declared.site.Site.{Site}
use Rattle.disp_core.specs.declared.take.Taken.{Taken}

-- what an action of a DD is there
abbrev pub at_site : {X : Type 0} → (Fixed → ℕ → ℕ → Option (List ℕ) → X) → Given → Site → X
at_site action given at = action (fixed_by given) at.step at.dd at.name

-- the taking of a DD, and its disposition; a step that does not run passes them over
abbrev pub taking : Given → Site → DdKind → State → Done
taking given at kind s = if_runs s.own.runs s (at_site takes given at kind s)

abbrev pub disposition : Given → Site → DdKind → State → Done
disposition given at kind s = if_runs s.own.runs s (at_site (disposes (slice_get s.own.dds (at.dd - 1))) given at kind s)

-- the word done on a set at the end of its step
abbrev pub word_in : Option Outcome → SetPlan → TakenSet → Word
word_in over p t = word_done (normal_meaning (is_temporary t.key) p.normal) (conditional_meaning (is_temporary t.key) p.conditional) (after_abend over) t.made

-- a set of which this was decided
abbrev pub disposed_as : Given → Site → SetPlan → TakenSet → Disposed → State → Done
disposed_as given at p t disposed s = at_site set_disposed given at p t s disposed

-- the records of a SYSOUT DD stand for the writers
abbrev pub course_put_out : Site → ℕ → List (List ℕ) → Course → Course
course_put_out at class records c = record {
  own = record c.own { outputs = c.own.outputs ++ record { step = at.step; dd = at.dd; class = class; records = records } ∷ [] };
  lines = c.lines ++ line.Disp at.dd at.name (disp.Spooled (length records)) ∷ [];
}

-- an action was carried out: the fault that it met is told, or that it met none
abbrev pub Meets : (State → Done) → Store → Course → Store → Course → Option Fault → Type 0
Meets action old before new after meets = Carried action old before new after meets []

-- also where it made a set
abbrev pub MeetsAndMakes : (State → Done) → Store → Course → Store → Course → Taken → Type 0
MeetsAndMakes action old before new after told = Carried action old before new after told.meets (made_of told.made)

-- where the answer to its primary is this
abbrev pub MeetsIfGranted : Bool → (State → Done) → Store → Course → Store → Course → Taken → Type 0
MeetsIfGranted primary action old before new after told = CarriedWith primary action old before new after told.meets (made_of told.made)

-- An action over a store: it was carried out, or memory was wanting and nothing has changed. Of all else that is known of the store it makes no set,
-- but a set may give tracks up, or grow.
pub record Acts {S T E : Type 0} (store : Ghosts S) (job : ℕ) (does : Store → Course → Store → Course → T → Type 0)
    (result : Result T E) (old : S) (before : Course) (new : S) (after : Course) : Type 0 where
  pub ok : IfOk result (λ told. does (store.seen job old) before (store.seen job new) after told)
  pub err : OnErr result ((new ≡ old) × (after ≡ before))
  pub rest : OnOk result (store.takes job [] (store.rest job old) (store.rest job new))

-- The same for an action that may make a set.
pub record Makes {S E : Type 0} (store : Ghosts S) (job : ℕ) (does : Store → Course → Store → Course → Taken → Type 0)
    (result : Result Taken E) (old : S) (before : Course) (new : S) (after : Course) : Type 0 where
  pub ok : IfOk result (λ told. does (store.seen job old) before (store.seen job new) after told)
  pub err : OnErr result ((new ≡ old) × (after ≡ before))
  pub rest : IfOk result (λ told. store.takes job (made_of told.made) (store.rest job old) (store.rest job new))

-- An action of each DD whose disposition reads this.
abbrev pub ActsAs : {S T E : Type 0} → Ghosts S → ℕ → DispText → (DdKind → Store → Course → Store → Course → T → Type 0) →
    Result T E → S → Course → S → Course → Type 0
ActsAs store job text does result old before new after = (dd : DdKind) → disp_text dd ≡ text → Acts store job (does dd) result old before new after

-- The same, where what it does goes by the store's own answer to its primary.
abbrev pub MakesWith : {S E : Type 0} → Ghosts S → ℕ → ((Key → Place → ℕ → Bool) → Store → Course → Store → Course → Taken → Type 0) →
    Result Taken E → S → Course → S → Course → Type 0
MakesWith store job does result old before new after = Makes store job (does (store.grants_new job old)) result old before new after

-- and of each DD whose taking reads this
abbrev pub MakesAs : {S E : Type 0} → Ghosts S → ℕ → TakeText → (DdKind → (Key → Place → ℕ → Bool) → Store → Course → Store → Course → Taken → Type 0) →
    Result Taken E → S → Course → S → Course → Type 0
MakesAs store job text does result old before new after = (dd : DdKind) → take_text dd ≡ text → MakesWith store job (does dd) result old before new after

-- An action that touches no store.
pub record ActsAside {E : Type 0} (does : Course → Course → Type 0) (result : Result Unit E) (before after : Course) : Type 0 where
  pub ok : IfOk result (λ told. does before after)
  pub err : OnErr result (after ≡ before)
