-- What events write, and what a statement behind the configuration does.
use Rattle.std.specs.Prelude.{◌≡◌, ◌⊎◌, ℕ, ◌≤◌, Bool, true, false, List, [], ◌∷◌, ◌++◌, length, replicate, Option, Some, Result, Ok, Err}
use Rattle.std.specs.List.{flat_map}
use Rattle.jcl_plan.specs.declared.entry.Entry.{Entry}
use Rattle.jcl_plan.specs.Lines.{text_of}
use Rattle.session_input.specs.declared.event.Event.{Event}
use Rattle.sched_core.specs.Systems.{Drives, Machine, Steps, world_of}
use Rattle.session_text.specs.declared.fault.Fault.{Fault}
use Rattle.session_text.specs.declared.statement.Says.{Says}
use Rattle.session_text.specs.declared.statement.Says.TheVariants as says
use Rattle.session_text.specs.declared.statement.Statement.{Statement}
use Rattle.world_meaning.specs.Worlds.{Config}
use Rattle.run_options.specs.declared.Options.{Options}
use Rattle.run_options.specs.declared.RiskChoice.{RiskChoice}
use Rattle.run_options.specs.declared.RiskChoice.TheVariants as risk
use Rattle.session_core.specs.declared.SessionFault.{SessionFault}
use Rattle.session_core.specs.declared.SessionFault.TheVariants.{Stopped, WriteFailed, Memory}
use Rattle.session_core.specs.declared.listing.Listing.{Listing}
use Rattle.session_core.specs.declared.listing.Mark.{Mark}
use Rattle.session_core.specs.Listings.{text_of_all}

-- the options that a machine was started with, by what is fixed of it
abbrev pub choice_of : Bool → RiskChoice
choice_of false = risk.Run
choice_of true = risk.Refuse

abbrev pub options_in : Config → Options
options_in c = record { risk = choice_of c.refuses; views = c.most_views; explains = c.explains }

-- an event, which is a step from one machine to the next, and the text before and after it
pub record IsApplied (old : Machine) (event : Event) (new : Machine) (text new_text : List ℕ) : Type 0 where
  pub lines : List Entry
  pub step : Steps old event lines (world_of new)
  pub text_so : new_text ≡ text ++ flat_map text_of lines

-- events, which are steps of machine after machine
pub record AreApplied (old : Machine) (events : List Event) (new : Machine) (text new_text : List ℕ) : Type 0 where
  pub entries : List (List Entry)
  pub drives : Drives old events entries new
  pub text_so : new_text ≡ text ++ text_of_all entries

-- the first times of an event that comes so many times
pub record AreAppliedInPart (old : Machine) (event : Event) (times : ℕ) (text new_text : List ℕ) : Type 0 where
  pub done : ℕ
  pub within : done ≤ times
  pub reached : Machine
  pub applied : AreApplied old (replicate done event) reached text new_text

-- nothing is listed
pub record IsSilent (marks : List Mark) (text : List ℕ) (new_marks : List Mark) (new_text : List ℕ) : Type 0 where
  pub marks_so : new_marks ≡ marks
  pub text_so : new_text ≡ text

abbrev pub mark_at : ℕ → List ℕ → Mark
mark_at line text = record { line = line; start = length text }

-- with what is told of a statement that is configuration
abbrev pub StatementRuns : {T : Type 0} → Option Fault → Machine → ℕ → Says → List Mark → List ℕ → Result T SessionFault → Machine → List Mark → List ℕ → Type 0
StatementRuns late old line (says.Events event times) marks text (Ok x) new new_marks new_text =
    (new_marks ≡ marks ++ mark_at line text ∷ []) × AreApplied old (replicate times event) new text new_text
StatementRuns late old line (says.Events event times) marks text (Err Memory) new new_marks new_text =
    ((new_marks ≡ marks ++ mark_at line text ∷ []) × AreAppliedInPart old event times text new_text) ⊎ IsSilent marks text new_marks new_text
StatementRuns late old line (says.Events event times) marks text (Err (Stopped f at)) new new_marks new_text = ⊥
StatementRuns late old line (says.Events event times) marks text (Err (WriteFailed at)) new new_marks new_text = ⊥
StatementRuns late old line (says.Refused own) marks text (Ok x) new new_marks new_text = ⊥
StatementRuns late old line (says.Refused own) marks text (Err fault) new new_marks new_text =
    (fault ≡ Stopped own line) × IsSilent marks text new_marks new_text
StatementRuns late old line (says.Config s has_end) marks text (Ok x) new new_marks new_text = ⊥
StatementRuns late old line (says.Config s has_end) marks text (Err fault) new new_marks new_text =
    (f : Fault) × (late ≡ Some f) × (fault ≡ Stopped f line) × IsSilent marks text new_marks new_text

-- so of what is held of a listing, before it and after it
abbrev pub StatementRunsIn : {T : Type 0} → Option Fault → Statement → Machine → Listing → Result T SessionFault → Machine → Listing → Type 0
StatementRunsIn late s old listing result new new_listing = StatementRuns late old s.line s.says listing.marks.items listing.text.kept
    result new new_listing.marks.items new_listing.text.kept
