-- What a turn of an admitted job comes to, where a store decides what is granted. (This profile)
use Rattle.std.specs.Prelude.{◌≡◌, ℕ, Bool, true, List, Option, Some, if◌then◌else◌}
use Rattle.jcl_plan.specs.declared.entry.JobLine.{JobLine}
use Rattle.jcl_plan.specs.declared.plan.JobPlan.{JobPlan}
use Rattle.jcl_meaning.specs.declared.state.Own.{Own}
use Rattle.jcl_meaning.specs.Agendas.{Over}
use Rattle.turn_core.specs.Performing.{StoreAnswers, growth_by, primary_by}
use Rattle.world_meaning.specs.Choices.{AtAction, AtAdmission, Choice, Closed, choice_of_advance}
use Rattle.world_meaning.specs.Turns.{Advanced, Advances, advanced, is_over}
use Rattle.world_meaning.specs.Worlds.{Admission, Config, Running, Shared}

-- At an action a growth is granted exactly where the store has room for it, and so is a primary; that of an assured job is granted.
pub record IsGrantedBy (grants : StoreAnswers) (cancel : Bool) (a : Admission) (x : Advanced) (growth primary : Bool) : Type 0 where
  pub growth_answered : growth ≡ growth_by grants.growth cancel x.action x.before.store x.before.own
  pub primary_answered : primary ≡ if a.assured then true else primary_by grants.new a.fixed x.action x.before.store x.before.own

-- what a turn of an admitted job leaves open is as the store decides it
abbrev pub IsDecidedBy : (ℕ → StoreAnswers) → Choice → Type 0
IsDecidedBy grants Closed = Unit {0}
IsDecidedBy grants (AtAdmission job plan places lines) = ⊥
IsDecidedBy grants (AtAction job cancel a x growth primary) = IsGrantedBy (grants job) cancel a x growth primary

-- the same, but for the free tracks
pub record IsSameTurn (told more : List JobLine) (one other : Shared) (left others : Option Running) : Type 0 where
  pub lines : more ≡ told
  pub runs : others ≡ left
  pub shared : other ≡ record one { free = other.free }

abbrev pub TurnsAreDecided : Type 0
TurnsAreDecided = (c : Config) (grants : ℕ → StoreAnswers) (old : Shared) (r : Running) (plan : JobPlan) (a : Admission) (count : ℕ) (own : Own)
    (lines more : List JobLine) (one other : Shared) (runs others : Option Running) (g : Advances c old r plan a count own lines one runs)
    (h : Advances c old r plan a count own more other others) → IsDecidedBy grants (choice_of_advance g) → IsDecidedBy grants (choice_of_advance h) →
    IsSameTurn lines more one other runs others

-- the last action of a job's agenda is Over
abbrev pub JobsEndWithOver : Type 0
JobsEndWithOver = (c : Config) (old : Shared) (job : ℕ) (plan : JobPlan) (a : Admission) (count : ℕ) (own : Own) (growth primary : Bool) (x : Advanced) →
    advanced c old job plan a count own growth primary ≡ Some x → is_over c plan x ≡ true → x.action ≡ Over
