-- A session that is opened: what stands before its first event configures a machine.
use Rattle.std.specs.Prelude.{◌≡◌, ℕ, List, drop, Option}
use Rattle.cb_meaning.specs.declared.layout.TheConstants.{QUEUE_LAYOUT}
use Rattle.cb_queue.specs.RecordQueues.{empty_queue}
use Rattle.config_core.specs.Configs.{Configuration}
use Rattle.config_core.specs.Configured.{IsConfigured}
use Rattle.config_core.specs.Starts.{IsTakenApart}
use Rattle.run_options.specs.declared.Options.{Options}
use Rattle.sched_core.specs.Starting.{IsStarted}
use Rattle.sched_core.specs.Systems.{IsWhole, Machine}
use Rattle.session_text.specs.declared.fault.Fault.{Fault}
use Rattle.session_text.specs.declared.statement.Statement.{Statement}
use Rattle.session_core.specs.Configuring.{IsConfiguredBy, late_in}
use Rattle.session_core.specs.Running.{options_in}
use Rattle.session_core.specs.Sessions.{refuses_in}
use Rattle.session_core.specs.declared.open.Opened.{Opened}

-- the parts of the machine, where its first event stands, and what is told of configuration after that
pub record IsOpened (all : List Statement) (x : Opened) : Type 0 where
  pub config : Configuration
  pub by : IsConfiguredBy all x.from config
  pub late : x.late ≡ late_in config (drop x.from all)
  pub sound : IsConfigured config
  pub apart : IsTakenApart config x.store x.fixed
  pub empty : x.queue.queue ≡ empty_queue QUEUE_LAYOUT

-- the machine of a configuration before its first event, started with these options
abbrev pub IsStartedWith : Options → Configuration → Machine → Type 0
IsStartedWith o c m = IsStarted c (refuses_in o) o.views o.explains QUEUE_LAYOUT m

-- Each configuration has such a machine, a whole one, with whichever options it is started.
abbrev pub ConfigurationsHaveMachines : Type 0
ConfigurationsHaveMachines = (o : Options) (c : Configuration) → IsConfigured c → (first : Machine) × IsStartedWith o c first × IsWhole first

-- a machine before its first event, of what the statements before this place configure, and what is told of configuration after that
abbrev pub IsReadyToRun : List Statement → ℕ → Option Fault → Machine → Type 0
IsReadyToRun statements from late m = (c : Configuration) × IsConfiguredBy statements from c × (late ≡ late_in c (drop from statements))
    × IsStarted c (refuses_in (options_in m.config)) m.config.most_views m.config.explains QUEUE_LAYOUT m
