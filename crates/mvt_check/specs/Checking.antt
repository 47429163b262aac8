-- What is found of the decks of a session, and what is written of it. (This profile)
use Rattle.std.specs.Prelude.{◌≡◌, ◌⊎◌, ℕ, ◌+◌, ◌-◌, ◌==◌, Bool, true, false, ◌||◌, List, [], ◌∷◌, ◌++◌, codes, decimal, Option, Some, None, is_some, is_err, take, if◌then◌else◌}
use Rattle.std.specs.Io.KnownBytes.{Appends}
use Rattle.std.specs.List.{list_any}
use Rattle.mvt_check.specs.declared.answers.answer.Answer.{Answer}
use Rattle.mvt_check.specs.declared.answers.answer.Answer.TheVariants as answer
use Rattle.mvt_check.specs.declared.answers.answer.Answers.{Answers}
use Rattle.mvt_check.specs.Above.{is_above, text_above, told_at, told_line}
use Rattle.mvt_check.specs.Brief.{brief_of, warnings_in}
use Rattle.mvt_check.specs.Telling.{AreAnswered}
use Rattle.check_core.specs.declared.report.Checked.{Checked}
use Rattle.check_core.specs.declared.report.Checked.TheVariants.{Refused, Taken}
use Rattle.check_core.specs.Reports.{AreTold}
use Rattle.check_core.specs.Texts.{AddsToldText}
use Rattle.check_core.specs.Warnings.{warned_of}
use Rattle.config_core.specs.Configs.{unit_names}
use Rattle.config_core.specs.declared.start.Fixed.{Fixed}
use Rattle.session_input.specs.declared.event.Event.{Event}
use Rattle.session_input.specs.declared.event.Event.TheVariants as event
use Rattle.jcl_job.specs.Jobs.{job_of}
use Rattle.proc_library.specs.declared.library.LibraryProcedure.{LibraryProcedure}
use Rattle.session_text.specs.declared.fault.Fault.{Fault}
use Rattle.session_text.specs.declared.statement.Ending.{Ending}
use Rattle.session_text.specs.declared.statement.Says.{Says}
use Rattle.session_text.specs.declared.statement.Says.TheVariants as says
use Rattle.session_text.specs.declared.statement.Statement.{Statement}
use Rattle.session_text.specs.FaultNumbers.{number_of}
use Rattle.session_text.specs.Statements.{statements_of}
use Rattle.session_core.specs.Opening.{IsOpened}
use Rattle.session_core.specs.Sessions.{session_behind}
use Rattle.session_core.specs.Streams.{IsRead, SinkState, SourceState, sink_state, source_state}
use Rattle.session_core.specs.declared.stream.Sink.{Sink}
use Rattle.session_core.specs.declared.stream.Source.{Source}
use Rattle.run_options.specs.declared.Options.{Options}
use Rattle.session_core.specs.declared.SessionFault.{SessionFault}
use Rattle.session_core.specs.declared.SessionFault.TheVariants.{Memory, Stopped, WriteFailed}
use Rattle.session_core.specs.declared.open.Opened.{Opened}
use Rattle.mvt_check.specs.declared.program.Wishes.{Wishes}
use Rattle.mvt_check.specs.declared.session.Found.{Found}
use Rattle.lone_deck.specs.declared.Framed.{Framed}
use Rattle.lone_deck.specs.Framing.{IsFramed}
use Rattle.mvt_check.specs.Cards.{TellsChecked}
use Rattle.deck_places.specs.Stands.{stood_in}
use Rattle.mvt_check.specs.declared.answers.answer.DeckRead.{DeckRead}
use Rattle.mvt_check.specs.declared.session.Looked.{Looked}
use Rattle.check_core.specs.declared.deck.Sources.{Sources}
use Rattle.mvt_check.specs.declared.known.Known.{Known}

-- a deck that is read denotes no job
abbrev pub is_refused_event : List (List ℕ) → List LibraryProcedure → Event → Bool
is_refused_event units library (event.Read lines) = is_err (job_of units library lines)
is_refused_event units library other = false

abbrev pub is_refused : List (List ℕ) → List LibraryProcedure → Says → Bool
is_refused units library (says.Events event times) = is_refused_event units library event
is_refused units library other = false

abbrev pub some_refused : List (List ℕ) → List LibraryProcedure → List Statement → Bool
some_refused units library statements = list_any (λ s. is_refused units library s.says) statements

-- a deck of these statements is refused, with the units and procedures of a configuration
abbrev pub has_refused : Fixed → List Statement → Bool
has_refused fixed statements = some_refused (unit_names fixed.units) fixed.library statements

-- a text is longer than another
abbrev pub GoesOn : List ℕ → List ℕ → Type 0
GoesOn old new = (more : List ℕ) × (new ≡ old ++ more)

-- Behind a text comes what is found of a deck, whose first card stands on this line, with what its cards warn of; and behind that, what is told of its job,
-- among that at which card admission answers it what.
pub record AddsFound (library : List LibraryProcedure) (answers : Answers) (deck : Option DeckRead) (first : ℕ) (lines : List (List ℕ)) (checked : Checked)
    (old new : List ℕ) : Type 0 where
  pub between : List ℕ
  pub added : AddsToldText first lines checked (warned_of checked lines) old between
  pub asides : List ℕ
  pub on : new ≡ between ++ asides
  pub answered : TellsChecked first (stood_in library lines) checked answers deck asides

abbrev pub AddsLooked : Looked → Answers → Option DeckRead → List ℕ → List ℕ → Type 0
AddsLooked found answers deck old new = AddsFound found.library.now answers deck found.first found.lines.now found.checked.now old new

-- so of what is found of it with these units and procedures
pub record AddsDeck (units : List (List ℕ)) (library : List LibraryProcedure) (answers : Answers) (deck : Option DeckRead) (first : ℕ)
    (lines : List (List ℕ)) (old new : List ℕ) : Type 0 where
  pub checked : Checked
  pub told : AreTold units library lines checked
  pub adds : AddsFound library answers deck first lines checked old new

-- a deck of which this is found is refused
abbrev pub is_refused_so : Checked → Bool
is_refused_so (Taken plan origins) = false
is_refused_so (Refused first later) = true

abbrev pub AddsEvent : List (List ℕ) → List LibraryProcedure → Answers → Option DeckRead → ℕ → Event → List ℕ → List ℕ → Type 0
AddsEvent units library answers deck first (event.Read lines) old new = AddsDeck units library answers deck first lines old new
AddsEvent units library answers deck first other old new = new ≡ old

-- So of an event on this line, where so many lines are above a deck that stands alone. A deck above that one keeps its lines of the session, and says so.
abbrev pub AddsRead : Bool → List (List ℕ) → List LibraryProcedure → Answers → Option DeckRead → ℕ → ℕ → Event → List ℕ → List ℕ → Type 0
AddsRead true units library answers deck above line event old new =
    (own : List ℕ) × AddsEvent units library answers deck (line + 1) event [] own × (new ≡ old ++ text_above own)
AddsRead false units library answers deck above line event old new = AddsEvent units library answers deck (line + 1 - above) event old new

-- the same, where the line tells whether it is above
abbrev pub AddsReadAt : List (List ℕ) → List LibraryProcedure → Answers → Option DeckRead → ℕ → ℕ → Event → List ℕ → List ℕ → Type 0
AddsReadAt units library answers deck above line event old new = AddsRead (is_above above line) units library answers deck above line event old new

-- so of a statement, which has a deck or none
abbrev pub AddsSaid : List (List ℕ) → List LibraryProcedure → Answers → Option DeckRead → ℕ → ℕ → Says → List ℕ → List ℕ → Type 0
AddsSaid units library answers deck above line (says.Events event times) old new = AddsReadAt units library answers deck above line event old new
AddsSaid units library answers deck above line other old new = new ≡ old

-- the same of a statement with its line
abbrev pub AddsStatement : List (List ℕ) → List LibraryProcedure → Answers → Option DeckRead → ℕ → Statement → List ℕ → List ℕ → Type 0
AddsStatement units library answers deck above s old new = AddsSaid units library answers deck above s.line s.says old new

-- of the decks that are left the first is that of a statement, or of a later one
abbrev pub deck_for : List DeckRead → ℕ → Option DeckRead
deck_for [] at = None
deck_for (deck ∷ decks) at = if deck.statement == at then Some deck else None

abbrev pub decks_left : List DeckRead → ℕ → List DeckRead
decks_left [] at = []
decks_left (deck ∷ decks) at = if deck.statement == at then decks else deck ∷ decks

-- and of statements one after another, of which the first has this number
abbrev pub AddsAll : List (List ℕ) → List LibraryProcedure → Answers → List DeckRead → ℕ → ℕ → List Statement → List ℕ → List ℕ → Type 0
AddsAll units library answers decks above at [] old new = new ≡ old
AddsAll units library answers decks above at (s ∷ statements) old new =
    (between : List ℕ) × AddsStatement units library answers (deck_for decks at) above s old between
    × AddsAll units library answers (decks_left decks at) above (at + 1) statements between new

abbrev pub AddsStatements : List (List ℕ) → List LibraryProcedure → Answers → ℕ → List Statement → List ℕ → List ℕ → Type 0
AddsStatements units library answers above statements old new = AddsAll units library answers answers.decks.items above 0 statements old new

-- so with what is known of a session
abbrev pub AddsDeckOf : Sources → Known → Option DeckRead → ℕ → List (List ℕ) → List ℕ → List ℕ → Type 0
AddsDeckOf s k deck first lines old new = AddsDeck s.units.now s.library.now k.answers.now deck first lines old new

abbrev pub AddsEventOf : Sources → Known → Option DeckRead → ℕ → Event → List ℕ → List ℕ → Type 0
AddsEventOf s k deck first event old new = AddsEvent s.units.now s.library.now k.answers.now deck first event old new

abbrev pub AddsReadOf : Sources → Known → Option DeckRead → ℕ → Event → List ℕ → List ℕ → Type 0
AddsReadOf s k deck line event old new = AddsReadAt s.units.now s.library.now k.answers.now deck k.above line event old new

abbrev pub AddsStatementOf : Sources → Known → Option DeckRead → Statement → List ℕ → List ℕ → Type 0
AddsStatementOf s k deck statement old new = AddsStatement s.units.now s.library.now k.answers.now deck k.above statement old new

abbrev pub AddsStatementsOf : Sources → Known → List Statement → List ℕ → List ℕ → Type 0
AddsStatementsOf s k statements old new = AddsStatements s.units.now s.library.now k.answers.now k.above statements old new

-- one for a deck that is refused
abbrev pub one : Bool → ℕ
one true = 1
one false = 0

abbrev pub refused_decks : List (List ℕ) → List LibraryProcedure → List Statement → ℕ
refused_decks units library [] = 0
refused_decks units library (s ∷ statements) = one (is_refused units library s.says) + refused_decks units library statements

abbrev pub warnings_text : ℕ → List ℕ
warnings_text n = if n == 1 then codes " warning\n" else codes " warnings\n"

-- the last line: how many decks are refused, how many jobs may fail or have too many paths, and how many warnings there are
abbrev pub sums_text : ℕ → ℕ → ℕ → List ℕ
sums_text refused risks warnings =
    decimal refused ++ codes " refused, " ++ decimal risks ++ codes " at risk, " ++ decimal warnings ++ warnings_text warnings

-- the session's own fault, if it has one
abbrev pub fault_text : Option (Fault × ℕ) → List ℕ
fault_text None = []
fault_text (Some (fault, line)) =
    codes "line " ++ decimal line ++ codes ": session fault S" ++ decimal (number_of fault)
    ++ codes "; nothing of the session after it is run (docs/SESSION.md)\n"

-- the fault of a session of these statements
abbrev pub fault_of : List Statement → Option (Fault × ℕ)
fault_of statements = (session_behind [] statements).fault

-- that of a statement behind the first event, where this is told of all configuration
abbrev pub fault_by : Option Fault → ℕ → Says → Option (Fault × ℕ)
fault_by late line (says.Events event times) = None
fault_by late line (says.Refused fault) = Some (fault, line)
fault_by None line (says.Config s has_end) = None
fault_by (Some fault) line (says.Config s has_end) = Some (fault, line)

abbrev pub fault_at : Option Fault → Statement → Option (Fault × ℕ)
fault_at late s = fault_by late s.line s.says

abbrev pub or_later : Option (Fault × ℕ) → Option (Fault × ℕ) → Option (Fault × ℕ)
or_later (Some fault) later = Some fault
or_later None later = later

-- the first of them
abbrev pub later_fault : Option Fault → List Statement → Option (Fault × ℕ)
later_fault late [] = None
later_fault late (s ∷ statements) = or_later (fault_at late s) (later_fault late statements)

-- a job may fail, or has too many paths
abbrev pub is_risk : Option Answer → Bool
is_risk None = false
is_risk (Some (answer.Assured tracks actions)) = false
is_risk (Some (answer.Risk fault step dd path lines)) = true
is_risk (Some (answer.TooMany step)) = true
is_risk (Some (answer.SpaceWait serial)) = false

-- how many of these jobs
abbrev pub risks_in : List (Option Answer) → ℕ
risks_in [] = 0
risks_in (a ∷ answers) = one (is_risk a) + risks_in answers

-- what is told of the session's own fault, if it has one: its sentence, and behind it the line and the reason
abbrev pub TellsFault : ℕ → Option (Fault × ℕ) → List ℕ → Type 0
TellsFault above None text = text ≡ []
TellsFault above (Some (fault, line)) text =
    (own : List ℕ) × GoesOn (fault_text (Some (fault, told_line above line))) own × (text ≡ told_at above line own)

-- no deck is looked at, for the session has a fault
pub record IsUnopened (above : ℕ) (statements : List Statement) (found : Found) : Type 0 where
  pub fault : is_some (fault_of statements) ≡ true
  pub text : TellsFault above (fault_of statements) found.text.items
  pub refused : found.refused ≡ true
  pub calm : found.at_risk ≡ false

-- what is found of a session that stops at a fault before its first event; of one for which memory is missing nothing is
abbrev pub TellsStop : ℕ → SessionFault → Found → Type 0
TellsStop above (Stopped fault line) found =
    TellsFault above (Some (fault, line)) found.text.items × (found.refused ≡ true) × (found.at_risk ≡ false)
TellsStop above (WriteFailed line) found = ⊥
TellsStop above Memory found = ⊥

-- what is found of all decks comes behind a text, and then the sums
pub record AddsOpened (units : List (List ℕ)) (library : List LibraryProcedure) (answers : Answers) (above : ℕ) (statements : List Statement)
    (old new : List ℕ) : Type 0 where
  pub body : List ℕ
  pub decks : AddsStatements units library answers above statements old body
  pub sums : new ≡ body ++ sums_text (refused_decks units library statements) (risks_in answers.by_job.items) (warnings_in body)

-- so with the units and procedures of a configuration, where jobs are answered this
abbrev pub AddsDecks : Fixed → Answers → ℕ → List Statement → List ℕ → List ℕ → Type 0
AddsDecks fixed answers above statements old new =
    AddsOpened (unit_names fixed.units) fixed.library answers above statements old new

-- the decks are looked at with the units and procedures that the session configures
pub record IsLookedAt (o : Options) (above : ℕ) (statements : List Statement) (found : Found) : Type 0 where
  pub opened : Opened
  pub is : IsOpened statements opened
  pub refused : found.refused ≡ (is_some (fault_of statements) || has_refused opened.fixed statements)
  pub answers : Answers
  pub answered : AreAnswered o statements answers
  pub told : List ℕ
  pub fault : TellsFault above (fault_of statements) told
  pub text : AddsDecks opened.fixed answers above statements told found.text.items
  pub risk : found.at_risk ≡ list_any is_risk answers.by_job.items

-- what is found of a session, where so many lines are above a deck that stands alone; 0 where none does
abbrev pub IsFound : Options → ℕ → List Statement → Found → Type 0
IsFound o above statements found = IsUnopened above statements found ⊎ IsLookedAt o above statements found

-- a text is written, or as much of it as the sink takes
abbrev pub IsTold : SinkState → SinkState → List ℕ → Bool → ℕ → Type 0
IsTold sink sink_after text fails status =
    Appends sink.contents sink_after.contents text × (status ≡ (if fails then 1 else 0))
    ⊎ ((n : ℕ) × Appends sink.contents sink_after.contents (take n text)) × (status ≡ 1)

-- what is found of a text: of the session that it is; or, where a deck that stands alone behind it is to be looked at, of the text with that deck as a block
pub record IsFoundIn (o : Options) (deck : Bool) (ending : Ending) (text : List ℕ) (found : Found) : Type 0 where
  pub framed : Framed
  pub frames : IsFramed deck ending text framed
  pub is : IsFound o framed.above (statements_of ending framed.text.items) found

-- a session was read, and what is found of it is written: the whole text, or in brief where that is asked for
pub record Checks (o : Options) (w : Wishes) (source source_after : SourceState) (sink sink_after : SinkState) (status : ℕ) : Type 0 where
  pub text : List ℕ
  pub ending : Ending
  pub read : IsRead source source_after text ending
  pub found : Found
  pub is : IsFoundIn o w.deck ending text found
  pub written : List ℕ
  pub whole : written ≡ (if w.brief then brief_of found.text.items else found.text.items)
  pub told : IsTold sink sink_after written (found.refused || found.at_risk) status

-- memory was wanting, and nothing is written
pub record Starves (sink sink_after : SinkState) (status : ℕ) : Type 0 where
  pub starved : status ≡ 3
  pub writes : Appends sink.contents sink_after.contents []

-- the session of a source is looked at, and what is found is written to a sink; or memory is missing
abbrev pub ChecksStreams : {R W : Type 0} → (R → Option (List ℕ)) → (W → Option (List ℕ)) → Options → Wishes → Source R → Source R → Sink W → Sink W
    → ℕ → Type 0
ChecksStreams remaining contents o w source source_after sink sink_after status =
    Checks o w (source_state remaining source) (source_state remaining source_after) (sink_state contents sink) (sink_state contents sink_after) status
    ⊎ Starves (sink_state contents sink) (sink_state contents sink_after) status
