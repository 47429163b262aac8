-- The DD statements of a procedure that bring the same DD at each call. (This profile)
use Rattle.std.specs.Prelude.{◌≡◌, ℕ, zero, suc, Bool, true, false, List, [], ◌∷◌, Option, Some, None, IfSome, map, Ok, All}
use Rattle.card_core.specs.declared.statement.Statement.{Statement}
use Rattle.jcl_dds.specs.declared.dd.DdCard.{DdCard}
use Rattle.jcl_dds.specs.Merging.{by_itself}
use Rattle.jcl_deck.specs.declared.deck.Procedure as in_stream
use Rattle.jcl_deck.specs.Decks.{last_has_dd}
use Rattle.jcl_procs.specs.declared.remembered.Remembered.{Remembered}
use Rattle.jcl_procs.specs.declared.step.FlatStep.{FlatStep}
use Rattle.jcl_procs.specs.Calling.{behind, with_dd}
use Rattle.jcl_procs.specs.Calls.{Call, Place}
use Rattle.jcl_procs.specs.Expansions.{Body, body_named}
use Rattle.proc_library.specs.declared.library.LibraryProcedure.{LibraryProcedure}

-- behind another DD of its step this statement brings this one, whatever the call and its symbols
pub record BringsDd (s : Statement) (dd : DdCard) : Type 0 where
  pub card : DdCard
  pub own : by_itself card ≡ dd
  pub same : (call : Call) (place : Place) → last_has_dd (map (λ step. step.dds) place.steps) ≡ true → behind call place s ≡ Ok (with_dd place card)

-- the DD that is remembered of a statement
abbrev pub dd_at : List (Option DdCard) → ℕ → Option DdCard
dd_at [] n = None
dd_at (dd ∷ dds) zero = dd
dd_at (dd ∷ dds) (suc n) = dd_at dds n

-- each statement brings the DD that is remembered of it
abbrev pub AreDdsOf : List (Option DdCard) → List Statement → Type 0
AreDdsOf [] statements = Unit {0}
AreDdsOf (dd ∷ dds) [] = Unit {0}
AreDdsOf (dd ∷ dds) (s ∷ statements) = IfSome dd (BringsDd s) × AreDdsOf dds statements

-- the last DD of the last step, and the DD that is remembered behind a statement
abbrev pub last_of : List DdCard → Option DdCard
last_of [] = None
last_of (dd ∷ []) = Some dd
last_of (dd ∷ next ∷ dds) = last_of (next ∷ dds)

abbrev pub last_dd : List FlatStep → Option DdCard
last_dd [] = None
last_dd (step ∷ []) = last_of step.dds
last_dd (step ∷ next ∷ steps) = last_dd (next ∷ steps)

abbrev pub kept_dd : Bool → List FlatStep → Option DdCard
kept_dd true steps = last_dd steps
kept_dd false steps = None

-- these are the statements of the procedure of a name
abbrev pub IsBody : List LibraryProcedure → List in_stream.Procedure → List ℕ → List Statement → Type 0
IsBody library procedures name statements =
    (body : Body) × (body_named library procedures name ≡ Ok body) × (body.statements ≡ statements)

-- what is remembered of a procedure holds of its statements
abbrev pub IsRemembered : List LibraryProcedure → List in_stream.Procedure → Remembered → Type 0
IsRemembered library procedures r = (body : Body) → body_named library procedures r.name ≡ Ok body → AreDdsOf r.dds body.statements

-- of procedures that are remembered this one has a name
abbrev pub IsRememberedOf : List Remembered → List ℕ → Remembered → Type 0
IsRememberedOf remembered name found = (library : List LibraryProcedure) (procedures : List in_stream.Procedure) →
    All (IsRemembered library procedures) remembered → IsRemembered library procedures found × (found.name ≡ name)
