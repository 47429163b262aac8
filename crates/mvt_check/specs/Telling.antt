-- What becomes of the decks of a session, as a machine that it configures tells it. (This profile)
use Rattle.std.specs.Prelude.{◌≡◌, ◌⊎◌, ℕ, ◌+◌, Bool, true, false, List, [], ◌∷◌, ◌++◌, Option, drop, is_some, map, replicate, take}
use Rattle.cb_meaning.specs.declared.layout.TheConstants.{QUEUE_LAYOUT}
use Rattle.config_core.specs.Configs.{Configuration}
use Rattle.session_input.specs.declared.event.Event.{Event}
use Rattle.jcl_plan.specs.declared.entry.Entry.{Entry}
use Rattle.sched_core.specs.Starting.{IsStarted}
use Rattle.sched_core.specs.Systems.{Drives, Machine}
use Rattle.session_text.specs.declared.statement.Says.{Says}
use Rattle.session_text.specs.declared.statement.Says.TheVariants as says
use Rattle.session_text.specs.declared.statement.Statement.{Statement}
use Rattle.session_core.specs.Configuring.{IsConfiguredBy}
use Rattle.session_core.specs.Sessions.{refuses_in, session_behind}
use Rattle.run_options.specs.declared.Options.{Options}
use Rattle.play_core.specs.Given.{event_of}
use Rattle.play_core.specs.Playing.{IsFound}
use Rattle.play_core.specs.declared.given.Given.{Given}
use Rattle.mvt_check.specs.Answers.{AreKept, first_number, statement_of}
use Rattle.mvt_check.specs.Reading.{is_read, reading_from}
use Rattle.mvt_check.specs.declared.answers.answer.Answer.{Answer}
use Rattle.mvt_check.specs.declared.answers.answer.Answers.{Answers}
use Rattle.mvt_check.specs.declared.answers.answer.DeckRead.{DeckRead}

-- the events of these statements, up to the first statement that is none
abbrev pub own_by : Says → List Event → List Event
own_by (says.Events e times) more = replicate times e ++ more
own_by (says.Config s has_end) more = []
own_by (says.Refused f) more = []

abbrev pub own_events : List Statement → List Event
own_events [] = []
own_events (s ∷ statements) = own_by s.says (own_events statements)

-- the deck of a statement, if it reads one: its job has the number that lines of its own event tell
abbrev pub deck_if : Bool → ℕ → Option ℕ → List DeckRead
deck_if true at job = record { statement = at; job = job } ∷ []
deck_if false at job = []

abbrev pub deck_of : ℕ → Says → List (List Entry) → List DeckRead
deck_of at (says.Events e times) entries = deck_if (is_read e) at (first_number (take times entries))
deck_of at (says.Config s has_end) entries = []
deck_of at (says.Refused f) entries = []

-- what the events behind a statement write; behind one that is no event none comes
abbrev pub behind_of : Says → List (List Entry) → List (List Entry)
behind_of (says.Events e times) entries = drop times entries
behind_of (says.Config s has_end) entries = []
behind_of (says.Refused f) entries = []

-- the decks of these statements, of which the first has this number, where their events write this
abbrev pub decks_from : ℕ → List Statement → List (List Entry) → List DeckRead
decks_from at [] entries = []
decks_from at (s ∷ statements) entries = deck_of at s.says entries ++ decks_from (at + 1) statements (behind_of s.says entries)

-- Events lead from one machine to another; a number is the first that they tell, and what jobs were answered last is kept.
pub record Tells (old : Machine) (before : List (Option Answer)) (events : List Event) (new : Machine) (after : List (Option Answer)) (number : Option ℕ) : Type 0 where
  pub entries : List (List Entry)
  pub drives : Drives old events entries new
  pub first : number ≡ first_number entries
  pub kept : (earlier : List (List Entry)) → AreKept earlier before → AreKept (earlier ++ entries) after

-- so do those of the statements from this one on, whose decks are these, whatever is written behind them
pub record TellsOwn (all : List Statement) (from : ℕ) (first last : Machine) (decks : List DeckRead) (before after : List (Option Answer)) : Type 0 where
  pub entries : List (List Entry)
  pub drives : Drives first (own_events (drop from all)) entries last
  pub decks_so : (more : List (List Entry)) → decks_from from (drop from all) (entries ++ more) ≡ decks
  pub kept : (earlier : List (List Entry)) → AreKept earlier before → AreKept (earlier ++ entries) after

-- the events of these statements, and those that are added
pub record TellsAll (all : List Statement) (from : ℕ) (given : List Given) (first last : Machine) (before : List (Option Answer)) (after : Answers) : Type 0 where
  pub entries : List (List Entry)
  pub drives : Drives first (own_events (drop from all) ++ map event_of given) entries last
  pub decks_so : after.decks.items ≡ decks_from from (drop from all) entries
  pub kept : (earlier : List (List Entry)) → AreKept earlier before → AreKept (earlier ++ entries) after.by_job.items

-- A machine that the statements before the first event configure, started with these options and so that risks are explained, goes through the session's
-- events and those that are added. The decks are those of the session in their order, each with the number that the lines of its own READ tell; and each
-- job has what it was answered last.
pub record AreAnsweredFrom (o : Options) (statements : List Statement) (answers : Answers) : Type 0 where
  pub at : ℕ
  pub config : Configuration
  pub configured : IsConfiguredBy statements at config
  pub first : Machine
  pub started : IsStarted config (refuses_in o) o.views true QUEUE_LAYOUT first
  pub given : List Given
  pub found : IsFound o (session_behind [] statements) given
  pub last : Machine
  pub entries : List (List Entry)
  pub drives : Drives first (own_events (drop at statements) ++ map event_of given) entries last
  pub in_order : map statement_of answers.decks.items ≡ reading_from 0 statements
  pub decks : answers.decks.items ≡ decks_from at (drop at statements) entries
  pub kept : AreKept entries answers.by_job.items

-- or the session has a fault, and nothing is told
pub record AreUnknown (statements : List Statement) (answers : Answers) : Type 0 where
  pub fault : is_some (session_behind [] statements).fault ≡ true
  pub decks : answers.decks.items ≡ []
  pub kept : answers.by_job.items ≡ []

abbrev pub AreAnswered : Options → List Statement → Answers → Type 0
AreAnswered o statements answers = AreAnsweredFrom o statements answers ⊎ AreUnknown statements answers
