-- What an action does to the tracks of sets.
use Rattle.std.specs.Prelude.{◌≡◌, ℕ, ◌≤◌, true, false, List, [], ◌∷◌, Some}
use Rattle.std.specs.List.{list_any}
use Rattle.jname_core.specs.declared.key.Key.{Key}
use Rattle.jcl_plan.specs.declared.entry.JobLine.{JobLine}
use Rattle.jcl_plan.specs.declared.plan.DdKind.TheVariants.{Set}
use Rattle.jcl_plan.specs.declared.plan.DdPlan.{DdPlan}
use Rattle.jcl_plan.specs.declared.plan.SetPlan.{SetPlan}
use Rattle.jcl_meaning.specs.Acts.{act}
use Rattle.jcl_meaning.specs.Agendas.{Action, Take}
use Rattle.jcl_meaning.specs.Names.{same_key}
use Rattle.jcl_meaning.specs.RequestActs.{head_or}
use Rattle.jcl_meaning.specs.States.{Done, Fixed, State}
use Rattle.jcl_meaning.specs.Stores.{Store, with_set}
use Rattle.jcl_meaning.specs.TakeActs.{new_set}
use Rattle.world_meaning.specs.Tracks.{tracks_of}

-- Sets under these keys alone changed, and none has more tracks than before.
pub record GainsNone (s t : Store) : Type 0 where
  pub touched : List Key
  pub others : (k : Key) (serial : List ℕ) → list_any (same_key k) touched ≡ false → t.set k serial ≡ s.set k serial
  pub less : (k : Key) (serial : List ℕ) → tracks_of (t.set k serial) ≤ tracks_of (s.set k serial)

-- A set that a DD makes: its primary was granted, and a line tells of it.
pub record MakesSet (fixed : Fixed) (a : Action) (s : State) (d : Done) : Type 0 where
  pub step : ℕ
  pub number : ℕ
  pub dd : DdPlan
  pub plan : SetPlan
  pub key : Key
  pub serial : List ℕ
  pub line : JobLine
  pub takes : a ≡ Take step number dd
  pub for_set : dd.kind ≡ Set plan
  pub granted : s.answers.primary ≡ true
  pub told : d.lines ≡ line ∷ []
  pub made : d.made ≡ record { step = step; dd = number; serial = serial } ∷ []
  pub store : d.state.store ≡ with_set s.store key serial (Some (new_set fixed plan key))

-- An action makes no set, and none gains, or a growth is granted; or it makes one, and changes no other.
pub data Gains (fixed : Fixed) (a : Action) (s : State) (d : Done) : Type 0 where
  none : GainsNone s.store d.state.store → d.made ≡ [] → Gains fixed a s d
  grows : head_or true s.answers.grants ≡ true → d.made ≡ [] → Gains fixed a s d
  one : MakesSet fixed a s d → Gains fixed a s d

-- No action gives a set more tracks, but for a growth that is granted and the set that it makes.
abbrev pub ActGains : Type 0
ActGains = (fixed : Fixed) (a : Action) (s : State) → Gains fixed a s (act fixed a s)
