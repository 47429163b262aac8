-- What is known behind a part while the views before it are led over it.
use Rattle.std.specs.Prelude.{◌≡◌, ◌⊎◌, ℕ, ◌+◌, ◌-◌, ◌<◌, ◌≤◌, true, List, [], ◌∷◌, ◌++◌, drop, length, slice_get, Option, Some, None, IfSome, All, Contains}
use Rattle.plain.specs.Lists.{Differ}
use Rattle.jcl_plan.specs.declared.outcome.Abend.TheVariants.{User}
use Rattle.jcl_plan.specs.declared.outcome.Outcome.{Outcome}
use Rattle.jcl_plan.specs.declared.outcome.Outcome.TheVariants as outcome
use Rattle.jcl_plan.specs.declared.plan.JobPlan.{JobPlan}
use Rattle.jcl_plan.specs.declared.plan.StepPlan.{StepPlan}
use Rattle.jcl_meaning.specs.History.{IsStepOutcome}
use Rattle.jcl_meaning.specs.Solo.{Met, Ran, is_clean}
use Rattle.jcl_meaning.specs.States.{Fixed}
use Rattle.jcl_meaning.specs.Stores.{Store}
use Rattle.jcl_meaning.specs.Views.{View, ran_to, view_at, view_of}
use Rattle.path_meaning.specs.Paths.{Makes, fates_in, path_shown}
use Rattle.path_laws.specs.Paths.{part_ran}
use Rattle.view_domain.specs.declared.crossed.Crossed.{Crossed}
use Rattle.view_domain.specs.Crossings.{IsCrossed, IsStop}
use Rattle.path_search.specs.declared.behind.Behind.{Behind}
use Rattle.path_search.specs.declared.stops.Found.{Found}
use Rattle.path_search.specs.declared.trail.Link.{Link}
use Rattle.path_search.specs.Makings.{AreMarked, IsMarked, Rows, made_of, no_rows}
use Rattle.path_search.specs.Puts.{ArePut, told_of}
use Rattle.path_search.specs.Stops.{with_crossed}
use Rattle.path_search.specs.Trails.{link_at}

-- the views behind the part and their links, the earliest stop, and the volumes of each DD that makes its set
pub record Known : Type 0 where
  pub views : List View
  pub links : List Link
  pub best : Option Found
  pub made : Rows

abbrev pub known_of : {X : Type 0} → (X → List View) → Behind X → Known
known_of members behind = record { views = members behind.views; links = behind.links; best = behind.best; made = behind.made.items }

-- nothing is known yet
pub record IsNothing (plan : JobPlan) (k : ℕ) (known : Known) : Type 0 where
  pub views : known.views ≡ []
  pub links : known.links ≡ []
  pub best : known.best ≡ None
  pub made : (step : StepPlan) (later : List StepPlan) → drop k plan.steps ≡ step ∷ later → known.made ≡ no_rows (length step.dds)

-- A view is led over part k: what it comes to there, and all of it is known then.
pub record IsCrossing {V : Type 0} (meaning : V → View) (plan : JobPlan) (fixed : Fixed) (k limit number : ℕ) (before : List View) (crossed : Crossed V)
    (old new : Known) : Type 0 where
  pub covered : (view : View) → slice_get before number ≡ Some view → IsCrossed meaning plan fixed k old.views view crossed
  pub best : new.best ≡ with_crossed number crossed old.best
  pub put : ArePut limit old.views old.links (told_of meaning number crossed) new.views new.links
  pub made : AreMarked (made_of crossed) old.made new.made

-- a domain's view with this number is led over part k, and comes to something there
abbrev pub IsLedOver : {S X V : Type 0} → (S → X → List View) → (S → X → V → View) → (S → JobPlan) → (S → Fixed) → S → ℕ → ℕ → ℕ → X → Behind X → Behind X →
    Type 0
IsLedOver {S} {X} {V} members meaning plan fixed domain k limit number before old new = (crossed : Crossed V)
    × IsCrossing (meaning domain new.views) (plan domain) (fixed domain) k limit number (members domain before) crossed
    (known_of (members domain) old) (known_of (members domain) new)

-- outcomes along which a view is seen behind the first k steps, with no fault
pub record IsAlong (fixed : Fixed) (plan : JobPlan) (store : Store) (k : ℕ) (view : View) (outcomes : List Outcome) : Type 0 where
  pub within : All IsStepOutcome outcomes
  pub clean : is_clean (ran_to fixed plan store k outcomes) ≡ true
  pub seen : view ≡ view_of fixed plan store k outcomes

-- outcomes of the first k steps alone lead there, and this is what a path shows of them
pub record LeadsTo (fixed : Fixed) (plan : JobPlan) (store : Store) (k : ℕ) (path : List Outcome) (view : View) : Type 0 where
  pub outcomes : List Outcome
  pub along : IsAlong fixed plan store k view outcomes
  pub count : length outcomes ≡ k
  pub shown : path ≡ path_shown (fates_in (ran_to fixed plan store k outcomes).lines) outcomes

-- A stop is one that is met from a view before the part, where the part's step ends as is said.
abbrev pub IsOwnEnd : Outcome → Type 0
IsOwnEnd o = (o ≡ outcome.Code 0) ⊎ (o ≡ outcome.Abend (User 0))

pub record IsMet (fixed : Fixed) (plan : JobPlan) (store : Store) (k : ℕ) (before : List View) (found : Found) : Type 0 where
  pub view : View
  pub there : slice_get before found.parent ≡ Some view
  pub own : IsOwnEnd found.outcome
  pub stops : (outcomes : List Outcome) → IsAlong fixed plan store k view outcomes → length outcomes ≡ k →
      IsStop plan k found.stop (part_ran fixed plan store k (outcomes ++ found.outcome ∷ [])).faults

-- no fault comes before the earliest stop
abbrev pub NoneBefore : Option Found → List Met → Type 0
NoneBefore None faults = faults ≡ []
NoneBefore (Some found) faults = All (λ met. found.stop.at ≤ met.place) faults

-- along no outcomes that lead to one of these views the part meets a fault before the stop, and the stop is met
pub record AreStopsNoted (fixed : Fixed) (plan : JobPlan) (store : Store) (k : ℕ) (before : List View) (count : ℕ) (best : Option Found) : Type 0 where
  pub none_before : (number : ℕ) (view : View) (outcomes : List Outcome) → number < count → slice_get before number ≡ Some view →
      IsAlong fixed plan store k view outcomes → NoneBefore best (part_ran fixed plan store k outcomes).faults
  pub met : IfSome best (IsMet fixed plan store k before)

-- Where the part meets no fault its view is known, within the limit, and the sets that it made are marked.
pub record IsKnown (plan : JobPlan) (date k limit : ℕ) (known : Known) (ran : Ran) : Type 0 where
  pub stands : length known.views ≤ limit → Contains known.views (view_at plan (k + 1) date ran.state)
  pub made : All (λ p. IsMarked known.made (p.dd - 1) p.serial) ran.made

-- A view behind the part has a link to one before it.
pub record IsLinked (fixed : Fixed) (plan : JobPlan) (store : Store) (k : ℕ) (before : List View) (view : View) (link : Link) : Type 0 where
  pub parent : View
  pub there : slice_get before link.parent ≡ Some parent
  pub leads : (path : List Outcome) → LeadsTo fixed plan store k path parent → LeadsTo fixed plan store (k + 1) (path ++ link.outcome ∷ []) view

-- Each DD of the part's step has its row.
abbrev pub HasRows : JobPlan → ℕ → Rows → Type 0
HasRows plan k rows = (step : StepPlan) (later : List StepPlan) → drop k plan.steps ≡ step ∷ later → length rows ≡ length step.dds

-- So many views were led over part k.
pub record IsAcross (fixed : Fixed) (plan : JobPlan) (store : Store) (k limit : ℕ) (before : List View) (count : ℕ) (known : Known) : Type 0 where
  pub stops : AreStopsNoted fixed plan store k before count known.best
  pub passed : (number : ℕ) (view : View) (outcomes : List Outcome) → number < count → slice_get before number ≡ Some view →
      IsAlong fixed plan store k view outcomes → (part_ran fixed plan store k outcomes).faults ≡ [] →
      IsKnown plan fixed.date k limit known (part_ran fixed plan store k outcomes)
  pub linked : (number : ℕ) (view : View) → slice_get known.views number ≡ Some view →
      IsLinked fixed plan store k before view (link_at known.links number)
  pub counted : length known.links ≡ length known.views
  pub different : Differ known.views
  pub made : (dd : ℕ) (serial : List ℕ) → IsMarked known.made dd serial →
      Makes fixed plan store (record { step = k + 1; dd = dd + 1; serial = serial })
  pub rows : HasRows plan k known.made

-- so many of a domain's views were led over part k
abbrev pub AreLedOver : {S X : Type 0} → (S → X → List View) → (S → Fixed) → (S → JobPlan) → (S → Store) → S → ℕ → ℕ → X → ℕ → Behind X → Type 0
AreLedOver members fixed plan store domain k limit before count behind =
    IsAcross (fixed domain) (plan domain) (store domain) k limit (members domain before) count (known_of (members domain) behind)
