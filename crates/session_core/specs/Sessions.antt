-- What a session is: the statements that stand, and the first fault.
use Rattle.std.specs.Prelude.{ℕ, Bool, true, false, List, [], ◌∷◌, ◌++◌, fold, replicate, Option, Some, None}
use Rattle.std.specs.List.{flat_map, list_any}
use Rattle.machine_meaning.specs.declared.config.ConfigFault.{ConfigFault}
use Rattle.machine_meaning.specs.declared.config.ConfigFault.TheVariants as config
use Rattle.cb_meaning.specs.declared.layout.TheConstants.{QUEUE_LAYOUT}
use Rattle.config_core.specs.Configs.{Configuration, config_fault, configured, nothing_configured, unit_names}
use Rattle.config_core.specs.Starts.{start_of}
use Rattle.session_input.specs.declared.event.Event.{Event}
use Rattle.jcl_job.specs.Jobs.{job_of}
use Rattle.sched_core.specs.declared.start.TheConstants.{FIRST_DAY}
use Rattle.world_meaning.specs.Readings.{Denoting}
use Rattle.world_meaning.specs.Worlds.{World}
use Rattle.run_options.specs.declared.Options.{Options}
use Rattle.run_options.specs.declared.RiskChoice.{RiskChoice}
use Rattle.run_options.specs.declared.RiskChoice.TheVariants as risk
use Rattle.session_text.specs.declared.fault.Fault.{Fault}
use Rattle.session_text.specs.declared.fault.Fault.TheVariants as fault
use Rattle.session_text.specs.declared.statement.Ending.{Ending}
use Rattle.session_text.specs.declared.statement.Says.{Says}
use Rattle.session_text.specs.declared.statement.Says.TheVariants.{Config, Events, Refused}
use Rattle.session_text.specs.declared.statement.Statement.{Statement}
use Rattle.session_text.specs.Statements.{statements_of}

-- the events of a statement
abbrev pub events_in : Says → List Event
events_in (Events e times) = replicate times e
events_in (Config s has_end) = []
events_in (Refused f) = []

abbrev pub events_of : List Statement → List Event
events_of statements = flat_map (λ s. events_in s.says) statements

-- what a statement configures
abbrev pub configured_by : Configuration → Says → Configuration
configured_by c (Config s has_end) = configured c s
configured_by c (Events e times) = c
configured_by c (Refused f) = c

abbrev pub configuration_of : List Statement → Configuration
configuration_of statements = fold (λ c s. configured_by c s.says) nothing_configured statements

-- whether a job at risk is refused
abbrev pub is_refusal : RiskChoice → Bool
is_refusal risk.Run = false
is_refusal risk.Refuse = true

abbrev pub refuses_in : Options → Bool
refuses_in o = is_refusal o.risk

-- the machine that they configure, before its first event, started with these options, and the job that a deck denotes in it
abbrev pub start_in : Options → Configuration → World
start_in o c = start_of c (refuses_in o) o.views o.explains QUEUE_LAYOUT FIRST_DAY

abbrev pub world_at_start : Options → List Statement → World
world_at_start o statements = start_in o (configuration_of statements)

abbrev pub denoting_in : Configuration → Denoting
denoting_in c = job_of (unit_names c.units) c.library

abbrev pub denoting_of : List Statement → Denoting
denoting_of statements = denoting_in (configuration_of statements)

abbrev pub has_events : Says → Bool
has_events (Events e times) = true
has_events (Config s has_end) = false
has_events (Refused f) = false

abbrev pub has_begun : List Statement → Bool
has_begun statements = list_any (λ s. has_events s.says) statements

abbrev pub told : ConfigFault → Fault
told config.BadValue = fault.BadValue
told config.DefinedTwice = fault.DefinedTwice

-- Configuration has an END where it is a block, and stands before the first event. The lowest number is told.
abbrev pub unless_late : Option ConfigFault → Bool → Bool → Option Fault
unless_late (Some own) has_end begun = Some (told own)
unless_late None false begun = Some fault.NoEnd
unless_late None true true = Some fault.LateConfiguration
unless_late None true false = None

-- what refuses a statement that stands behind these
abbrev pub fault_behind : List Statement → Says → Option Fault
fault_behind before (Config s has_end) = unless_late (config_fault (configuration_of before) s) has_end (has_begun before)
fault_behind before (Events e times) = None
fault_behind before (Refused f) = Some f

-- the statements before the first fault, and that fault with its line
pub record Session : Type 0 where
  pub stands : List Statement
  pub fault : Option (Fault × ℕ)

abbrev pub session_by : Option Fault → List Statement → Statement → Session → Session
session_by None before s more = more
session_by (Some f) before s more = record { stands = before; fault = Some (f, s.line) }

abbrev pub session_behind : List Statement → List Statement → Session
session_behind before [] = record { stands = before; fault = None }
session_behind before (s ∷ statements) = session_by (fault_behind before s.says) before s (session_behind (before ++ s ∷ []) statements)

abbrev pub session_of : Ending → List ℕ → Session
session_of ending text = session_behind [] (statements_of ending text)
