-- What a session writes.
use Rattle.std.specs.Prelude.{◌≡◌, ℕ, ◌≤◌, ◌<◌, List, [], ◌∷◌, ◌++◌, length, take}
use Rattle.std.specs.List.{flat_map}
use Rattle.jcl_plan.specs.declared.entry.Entry.{Entry}
use Rattle.jcl_plan.specs.declared.entry.Entry.TheVariants as entry
use Rattle.jcl_plan.specs.declared.fault.Cause.TheVariants as cause
use Rattle.jcl_plan.specs.declared.fault.EventFault.TheVariants as event_fault
use Rattle.jcl_plan.specs.Lines.{text_of}
use Rattle.cb_meaning.specs.declared.layout.TheConstants.{QUEUE_LAYOUT}
use Rattle.session_input.specs.declared.event.Event.{Event}
use Rattle.sched_core.specs.Starting.{IsStarted}
use Rattle.sched_core.specs.Systems.{Drives, IsWhole, Machine}
use Rattle.session_text.specs.declared.statement.Statement.{Statement}
use Rattle.session_core.specs.Sessions.{configuration_of, events_in, events_of, refuses_in}
use Rattle.run_options.specs.declared.Options.{Options}

-- the line of an event past the last that is done
abbrev pub past_limit : List Entry
past_limit = entry.Refused (cause.A event_fault.PastLimit) ∷ []

-- the lines of events as text
abbrev pub text_of_all : List (List Entry) → List ℕ
text_of_all entries = flat_map (λ lines. flat_map text_of lines) entries

-- These events, from the machine that these statements configure, started with these options, write this listing: along a chain of machines, each whole, each
-- event decided by the volumes of the machine before it.
pub record Lists (o : Options) (config : List Statement) (events : List Event) (listing : List ℕ) : Type 0 where
  pub first : Machine
  pub last : Machine
  pub started : IsStarted (configuration_of config) (refuses_in o) o.views o.explains QUEUE_LAYOUT first
  pub whole : IsWhole first
  pub entries : List (List Entry)
  pub drives : Drives first events entries last
  pub text : listing ≡ text_of_all entries

-- the events of these statements, and of one more as many as were done
pub record ListsUpTo (o : Options) (before : List Statement) (statement : Statement) (listing : List ℕ) : Type 0 where
  pub done : ℕ
  pub in_statement : done ≤ length (events_in statement.says)
  pub lists : Lists o before (events_of before ++ take done (events_in statement.says)) listing

-- One chain of machines lists the events of these statements, and goes on with events of the next: what is listed earlier, and what then.
pub record ListsOn (o : Options) (before : List Statement) (events : List Event) (earlier own : List ℕ) : Type 0 where
  pub lists : Lists o before (events_of before) earlier
  pub last : Machine
  pub entries : List (List Entry)
  pub drives : Drives lists.last events entries last
  pub text : own ≡ text_of_all entries

-- the listing that is written stops within the lines of the statement that begins at this line: what is listed before it is written, and of what is listed with
-- it so much, and not all
pub record StopsIn (o : Options) (stands : List Statement) (line : ℕ) (written : List ℕ) : Type 0 where
  pub before : List Statement
  pub statement : Statement
  pub after : List Statement
  pub stands_so : stands ≡ before ++ statement ∷ after
  pub at : statement.line ≡ line
  pub done : ℕ
  pub in_statement : done ≤ length (events_in statement.says)
  pub earlier : List ℕ
  pub own : List ℕ
  pub lists : ListsOn o before (take done (events_in statement.says)) earlier own
  pub taken : ℕ
  pub is_written : written ≡ earlier ++ take taken own
  pub not_whole : taken < length own
