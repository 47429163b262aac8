-- Turns of a job, one after another, and what they come to.
use Rattle.std.specs.Prelude.{◌≡◌, ℕ, ◌≤◌, true, Bool, List, [], ◌∷◌, ◌++◌, drop, length, Some}
use Rattle.jcl_plan.specs.declared.entry.JobLine.{JobLine}
use Rattle.jcl_plan.specs.declared.plan.JobPlan.{JobPlan}
use Rattle.jcl_meaning.specs.declared.program.SoloProgram.{SoloProgram}
use Rattle.jcl_meaning.specs.declared.solo.SoloAnswers.{SoloAnswers}
use Rattle.jcl_meaning.specs.declared.state.Own.{Own}
use Rattle.jcl_meaning.specs.Agendas.{agenda}
use Rattle.jcl_meaning.specs.Names.{names_of}
use Rattle.jcl_meaning.specs.Parts.{SamePart}
use Rattle.jcl_meaning.specs.Solo.{nothing_own, solo_of}
use Rattle.jcl_meaning.specs.States.{Fixed}
use Rattle.jcl_meaning.specs.Stores.{Store}
use Rattle.part_laws.specs.Fits.{Fits}
use Rattle.world_meaning.specs.Headlines.{IsPrefix}
use Rattle.world_meaning.specs.Turns.{Advanced, advance, answers_due, state_in}

-- A turn: the store as the job then sees it, whether it is cancelled, whether a growth is granted, and what it did. Its primary is granted.
pub record Turn : Type 0 where
  pub store : Store
  pub cancel : Bool
  pub growth : Bool
  pub did : Advanced

-- Each turn goes on where the one before ended, in a store in which the job sees what that one left.
abbrev pub AreTurns : List SoloProgram → JobPlan → Fixed → Store → ℕ → Own → List Turn → Type 0
AreTurns programs plan fixed s count own [] = Unit {0}
AreTurns programs plan fixed s count own (t ∷ ts) =
    SamePart (names_of plan) s t.store
    × (advance (answers_due programs plan.steps (record { cancel = t.cancel; growth = t.growth; primary = true })) fixed (drop count (agenda plan programs))
    (state_in t.store own) count ≡ Some t.did)
    × AreTurns programs plan fixed t.did.done.state.store t.did.count t.did.done.state.own ts

abbrev pub lines_in : List Turn → List JobLine
lines_in [] = []
lines_in (t ∷ ts) = t.did.done.lines ++ lines_in ts

-- how many actions of the agenda are done behind them
abbrev pub done_behind : ℕ → List Turn → ℕ
done_behind count [] = count
done_behind count (t ∷ ts) = done_behind t.did.count ts

-- For some answers the turns wrote what stands first in the solo meaning, and all of it where no action is left.
pub record Mean (programs : List SoloProgram) (plan : JobPlan) (fixed : Fixed) (start : Store) (turns : List Turn) : Type 0 where
  pub answers : SoloAnswers
  pub prefix : IsPrefix (lines_in turns) (solo_of fixed plan start programs answers).lines
  pub whole : length (agenda plan programs) ≤ done_behind 0 turns →
      lines_in turns ≡ (solo_of fixed plan start programs answers).lines

abbrev pub TurnsRun : Type 0
TurnsRun = (programs : List SoloProgram) (plan : JobPlan) (fixed : Fixed) (start : Store) (turns : List Turn) →
    Fits (names_of plan) fixed.meanings (agenda plan programs) nothing_own → AreTurns programs plan fixed start 0 nothing_own turns →
    Mean programs plan fixed start turns
