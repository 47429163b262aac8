-- What the search for the added events finds. (This profile)
use Rattle.std.specs.Prelude.{◌≡◌, true, false, List, Option, Some, None}
use Rattle.std.specs.List.{list_all}
use Rattle.sched_core.specs.Systems.{Machine}
use Rattle.session_core.specs.Sessions.{events_of, has_events}
use Rattle.session_text.specs.declared.statement.Statement.{Statement}
use Rattle.play_core.specs.Giving.{Gives, IsOver, Leads}
use Rattle.play_core.specs.declared.given.Given.{Given}
use Rattle.play_core.specs.declared.giving.Added.{Added}

abbrev pub AreEvents : List Statement → Type 0
AreEvents statements = list_all (λ s. has_events s.says) statements ≡ true

-- events lead from a machine to one that takes the added events until nothing moves
pub record Plays (first : Machine) (events : List Statement) (given : List Given) : Type 0 where
  pub reached : Machine
  pub leads : Leads first (events_of events) reached
  pub last : Machine
  pub gives : Gives reached given last
  pub over : IsOver last given

-- they are found where all of these statements are events
abbrev pub PlaysMachine : Machine → List Statement → Option Added → Type 0
PlaysMachine first rest None = list_all (λ s. has_events s.says) rest ≡ false
PlaysMachine first rest (Some added) = AreEvents rest × Plays first rest added.given.items
