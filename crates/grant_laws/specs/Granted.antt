-- A job's turn, where its store grants the primary of each set that it may yet make.
use Rattle.std.specs.Prelude.{◌≡◌, true}
use Rattle.jname_core.specs.declared.key.Key.{Key}
use Rattle.jcl_plan.specs.declared.plan.JobPlan.{JobPlan}
use Rattle.jcl_meaning.specs.declared.state.Place.{Place}
use Rattle.jcl_meaning.specs.Names.{names_of}
use Rattle.jcl_meaning.specs.Stores.{Store}
use Rattle.jcl_meaning.specs.WellFormed.{AreWellFormedPrograms}
use Rattle.part_laws.specs.Fits.{Fits, sees_set}
use Rattle.cb_meaning.specs.Writable.{kind_at}
use Rattle.world_meaning.specs.Admissions.{primary_asked}
use Rattle.turn_core.specs.Standing.{JobActs, undone}
use Rattle.turn_core.specs.Turning.{Around}
use Rattle.turn_core.specs.declared.walk.Acted.{Acted}
use Rattle.turn_core.specs.declared.walk.Walk.{Walk}
use Rattle.case_laws.specs.Cases.{MayMake}

-- what the store answers, with all primaries granted
abbrev pub with_primaries : Around → Around
with_primaries w = record w { grants = record w.grants { new = λ key place tracks. true } }

-- the store grants the primary of each set that the job may yet make, under a key that it sees
abbrev pub GrantsAll : Around → JobPlan → Store → Walk → Type 0
GrantsAll w plan seen before = (p : Place) (key : Key) → MayMake w.fixed (undone plan w.programs before.todo) seen before.course.own p →
    sees_set (names_of plan) key ≡ true → w.grants.new key p (primary_asked (kind_at plan.steps p.step p.dd)) ≡ true

-- Such a job's turn is one with all primaries granted.
abbrev pub GrantedTurns : Type 0
GrantedTurns = (w : Around) (plan : JobPlan) (old new : Store) (before after : Walk) (told : Acted) → AreWellFormedPrograms w.programs →
    Fits (names_of plan) w.fixed.meanings (undone plan w.programs before.todo) before.course.own → GrantsAll w plan old before →
    JobActs w plan old new before after told → (h : JobActs (with_primaries w) plan old new before after told) × (h.acts.primary ≡ true)
