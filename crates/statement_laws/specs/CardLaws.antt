-- Laws of the cards that statements are.
use Rattle.std.specs.Prelude.{◌≡◌, ℕ, List, Option, Some, None, All}
use Rattle.operand_core.specs.Faults.{told}
use Rattle.cb_meaning.specs.Writable.{IsCard}
use Rattle.jcl_cards.specs.ExecCards.{exec_card}
use Rattle.jcl_cards.specs.JobCards.{job_card}
use Rattle.jcl_dds.specs.declared.dd.DdCard.{DdCard}
use Rattle.jcl_dds.specs.DdCards.{dd_card}
use Rattle.jcl_dds.specs.Merging.{by_itself, merged}
use Rattle.statement_laws.specs.Ranges.{IsSoundDd, IsSoundExec, IsSoundJob}

-- A JOB of which no fault is told holds values in their ranges.
abbrev pub JobCardsAreSound : Type 0
JobCardsAreSound = (name operand : List ℕ) → told (job_card name operand).faults ≡ None → IsSoundJob (job_card name operand).value

-- An EXEC of which no fault is told does.
abbrev pub ExecCardsAreSound : Type 0
ExecCardsAreSound = (name operand : List ℕ) → told (exec_card name operand).faults ≡ None → IsSoundExec (exec_card name operand).value

-- the cards behind a DD, where there are some
abbrev pub AreCards : Option (List (List ℕ)) → Type 0
AreCards None = Unit {0}
AreCards (Some cards) = All IsCard cards

-- A DD of which no fault is told does, where the cards behind it are cards.
abbrev pub DdCardsAreSound : Type 0
DdCardsAreSound = (name operand : List ℕ) (cards : Option (List (List ℕ))) → AreCards cards → told (dd_card name operand cards).faults ≡ None →
    IsSoundDd (dd_card name operand cards).value

-- A DD with its override does where both do, whatever fault is told of the two.
abbrev pub MergedIsSound : Type 0
MergedIsSound = (dd override : DdCard) → IsSoundDd dd → IsSoundDd override → IsSoundDd (merged dd override).value

-- It keeps its name, and does not take that of the override.
abbrev pub MergedKeepsName : Type 0
MergedKeepsName = (dd override : DdCard) → (merged dd override).value.name ≡ dd.name

-- A DD that overrides none, and is taken by itself, does where it did.
abbrev pub ByItselfIsSound : Type 0
ByItselfIsSound = (dd : DdCard) → IsSoundDd dd → IsSoundDd (by_itself dd)
