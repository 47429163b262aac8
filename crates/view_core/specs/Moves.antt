-- The views behind a step that ends without a fault: one for each class of codes, and one for an ABEND.
use Rattle.std.specs.Prelude.{◌≡◌, ◌++◌, ℕ, Bool, true, Contains, List, [], ◌∷◌, map, Result, Ok, Err}
use Rattle.jcl_meaning.specs.Views.{View}
use Rattle.cond_core.specs.Classes.{AreClasses}
use Rattle.jcl_plan.specs.declared.outcome.Abend.TheVariants.{User}
use Rattle.jcl_plan.specs.declared.outcome.Outcome.{Outcome}
use Rattle.jcl_plan.specs.declared.outcome.Outcome.TheVariants as outcome
use Rattle.jcl_plan.specs.declared.plan.Test.{Test}
use Rattle.view_domain.specs.declared.crossed.Branch.{Branch}
use Rattle.view_domain.specs.declared.crossed.Branch.TheVariants as branch
use Rattle.view_domain.specs.declared.crossed.Move.{Move}
use Rattle.view_domain.specs.declared.crossed.Stop.{Stop}
use Rattle.view_domain.specs.Crossings.{views_of}
use Rattle.view_core.specs.declared.scene.Scene.{Scene}
use Rattle.view_core.specs.Bits.{bits_ended, looking}
use Rattle.view_core.specs.declared.scene.PlainView.{PlainView}

-- what a move tells
pub record Told : Type 0 where
  pub outcome : Outcome
  pub scene : Scene
  pub abended : Bool
  pub met : List Bool

abbrev pub told : Move PlainView → Told
told m = record { outcome = m.outcome; scene = m.view.scene.value; abended = m.view.abended; met = m.view.met.items }

-- step n ended by a code
abbrev pub told_code : ℕ → List Test → List Bool → Bool → Scene → ℕ → Told
told_code n tests bits abended scene code =
    record { outcome = outcome.Code code; scene = scene; abended = abended; met = bits_ended n (outcome.Code code) tests bits }

-- or by an ABEND, which meets no test
abbrev pub told_abend : List Bool → Scene → Told
told_abend bits scene = record { outcome = outcome.Abend (User 0); scene = scene; abended = true; met = bits }

-- Of what is to be told, each is a view that stood there or that a move leads to; and each move leads to one of them, by its outcome.
pub record AreTold {V : Type 0} (meaning : V → View) (view_of : Told → View) (there : List View) (tolds : List Told) (moves : List (Move V)) : Type 0 where
  pub covers : (t : Told) → Contains tolds t → Contains (there ++ views_of meaning moves) (view_of t)
  pub founded : (m : Move V) → Contains moves m → (t : Told) × Contains tolds t × (m.outcome ≡ t.outcome) × (meaning m.view ≡ view_of t)

-- By a code it comes to a move for each class of codes that these tests cannot tell apart, where no disposition meets a fault.
abbrev pub TellsByCode : {V : Type 0} → (V → View) → (Told → View) → List View → ℕ → List Test → List Bool → Bool → Result Scene Stop → Branch V → Type 0
TellsByCode meaning view_of there n tests bits abended (Err stop) (branch.Stops other) = other ≡ stop
TellsByCode meaning view_of there n tests bits abended (Err stop) (branch.Leads moves) = ⊥
TellsByCode meaning view_of there n tests bits abended (Ok scene) (branch.Stops other) = ⊥
TellsByCode meaning view_of there n tests bits abended (Ok scene) (branch.Leads moves) = (codes : List ℕ) × AreClasses (looking n tests) codes
    × AreTold meaning view_of there (map (told_code n tests bits abended scene) codes) moves.items

abbrev pub TellsByAbend : {V : Type 0} → (V → View) → (Told → View) → List View → List Bool → Result Scene Stop → Branch V → Type 0
TellsByAbend meaning view_of there bits (Err stop) (branch.Stops other) = other ≡ stop
TellsByAbend meaning view_of there bits (Err stop) (branch.Leads moves) = ⊥
TellsByAbend meaning view_of there bits (Ok scene) (branch.Stops other) = ⊥
TellsByAbend meaning view_of there bits (Ok scene) (branch.Leads moves) = AreTold meaning view_of there (told_abend bits scene ∷ []) moves.items

-- With plain views each is told.
abbrev pub BranchesByCode : ℕ → List Test → List Bool → Bool → Result Scene Stop → Branch PlainView → Type 0
BranchesByCode n tests bits abended (Err stop) (branch.Stops other) = other ≡ stop
BranchesByCode n tests bits abended (Err stop) (branch.Leads moves) = ⊥
BranchesByCode n tests bits abended (Ok scene) (branch.Stops other) = ⊥
BranchesByCode n tests bits abended (Ok scene) (branch.Leads moves) =
    (codes : List ℕ) × AreClasses (looking n tests) codes × (map told moves.items ≡ map (told_code n tests bits abended scene) codes)

abbrev pub BranchesByAbend : List Bool → Result Scene Stop → Branch PlainView → Type 0
BranchesByAbend bits (Err stop) (branch.Stops other) = other ≡ stop
BranchesByAbend bits (Err stop) (branch.Leads moves) = ⊥
BranchesByAbend bits (Ok scene) (branch.Stops other) = ⊥
BranchesByAbend bits (Ok scene) (branch.Leads moves) = map told moves.items ≡ told_abend bits scene ∷ []
