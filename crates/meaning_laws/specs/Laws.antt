-- Laws of runs, of names and of parts.
use Rattle.std.specs.Prelude.{◌≡◌, ℕ, ◌+◌, false, List, ◌++◌, map, length}
use Rattle.std.specs.List.{Contains}
use Rattle.jcl_plan.specs.declared.plan.JobPlan.{JobPlan}
use Rattle.jcl_meaning.specs.declared.names.HeldName.{HeldName}
use Rattle.jcl_meaning.specs.Agendas.{Action}
use Rattle.jcl_meaning.specs.Names.{IsCompatible, names_of}
use Rattle.jcl_meaning.specs.Parts.{SamePart}
use Rattle.jcl_meaning.specs.Solo.{Met, Ran, run}
use Rattle.jcl_meaning.specs.States.{Fixed, State}
use Rattle.jcl_meaning.specs.Stores.{Store}

-- a fault that is met behind so many actions more
abbrev pub behind : ℕ → Met → Met
behind count m = record { place = count + m.place; fault = m.fault }

-- a run of so many actions, and one from where it came to
abbrev pub joined : ℕ → Ran → Ran → Ran
joined count a b = record {
  lines = a.lines ++ b.lines;
  state = b.state;
  faults = a.faults ++ map (behind count) b.faults;
  made = a.made ++ b.made;
}

abbrev pub Splits : Type 0
Splits = (fixed : Fixed) (xs ys : List Action) (s : State) →
    run fixed (xs ++ ys) s ≡ joined (length xs) (run fixed xs s) (run fixed ys (run fixed xs s).state)

abbrev pub CompatibleBothWays : Type 0
CompatibleBothWays = (plan other : JobPlan) → IsCompatible plan other → IsCompatible other plan

abbrev pub SharedByBoth : Type 0
SharedByBoth = (plan other : JobPlan) (a b : HeldName) → IsCompatible plan other → Contains (names_of plan) a → Contains (names_of other) b →
    a.name ≡ b.name → (a.exclusive ≡ false) × (b.exclusive ≡ false)

pub record EqualPartsChain : Type 0 where
  pub same : (names : List HeldName) (s : Store) → SamePart names s s
  pub both_ways : (names : List HeldName) (s t : Store) → SamePart names s t → SamePart names t s
  pub along : (names : List HeldName) (s t u : Store) → SamePart names s t → SamePart names t u → SamePart names s u
