-- How the configuration is read, statement by statement.
use Rattle.std.specs.Prelude.{◌≡◌, ℕ, ◌≤◌, Bool, true, false, List, [], ◌∷◌, length, take, drop, Option, None}
use Rattle.config_core.specs.Configs.{Configuration, config_fault}
use Rattle.session_text.specs.declared.fault.Fault.{Fault}
use Rattle.session_text.specs.declared.statement.Says.{Says}
use Rattle.session_text.specs.declared.statement.Says.TheVariants.{Config, Events, Refused}
use Rattle.session_text.specs.declared.statement.Statement.{Statement}
use Rattle.session_core.specs.Sessions.{configuration_of, has_begun, has_events, session_behind, unless_late}

-- what is told of the first of these statements that is configuration, where they stand behind the first event
abbrev pub late_by : Configuration → Says → Option Fault → Option Fault
late_by c (Config s has_end) more = unless_late (config_fault c s) has_end true
late_by c (Events e times) more = more
late_by c (Refused f) more = more

abbrev pub late_in : Configuration → List Statement → Option Fault
late_in c [] = None
late_in c (s ∷ statements) = late_by c s.says (late_in c statements)

abbrev pub begins_with_event : List Statement → Bool
begins_with_event [] = true
begins_with_event (s ∷ statements) = has_events s.says

-- the statements before this place are the configuration, all of which stands, and an event stands there
pub record IsConfiguredBy (all : List Statement) (at : ℕ) (c : Configuration) : Type 0 where
  pub within : at ≤ length all
  pub session : session_behind [] all ≡ session_behind (take at all) (drop at all)
  pub configured : c ≡ configuration_of (take at all)
  pub not_begun : has_begun (take at all) ≡ false
  pub next : begins_with_event (drop at all) ≡ true
