-- A session has one listing. (This profile)
use Rattle.std.specs.Prelude.{◌≡◌, ◌⊎◌, ℕ, List, ◌∷◌, ◌++◌}
use Rattle.jcl_plan.specs.declared.entry.Entry.{Entry}
use Rattle.run_options.specs.declared.Options.{Options}
use Rattle.session_input.specs.declared.event.Event.{Event}
use Rattle.session_text.specs.declared.statement.Statement.{Statement}
use Rattle.session_core.specs.Listings.{Lists}
use Rattle.machine_laws.specs.Alike.{PartAtRisk}

-- the same lines up to an event, at which they part at a RISK
pub record PartSomewhere (entries others : List (List Entry)) : Type 0 where
  pub before : List (List Entry)
  pub lines : List Entry
  pub more : List Entry
  pub after : List (List Entry)
  pub other_after : List (List Entry)
  pub one_so : entries ≡ before ++ lines ∷ after
  pub other_so : others ≡ before ++ more ∷ other_after
  pub at_risk : PartAtRisk lines more

-- what is listed goes on so
pub record GoesOn (one other : List ℕ) : Type 0 where
  pub behind : List ℕ
  pub is : other ≡ one ++ behind

-- Of two listings of one configuration, the one of some events, and the other of these and more, the one is the front of the other; or they part at a RISK.
-- Where the events are the same the listings are.
pub record OneListing : Type 0 where
  pub same : (o : Options) (config : List Statement) (events : List Event) (one other : List ℕ) (l : Lists o config events one)
      (m : Lists o config events other) → (one ≡ other) ⊎ PartSomewhere l.entries m.entries
  pub front : (o : Options) (config : List Statement) (events more : List Event) (one other : List ℕ) (l : Lists o config events one)
      (m : Lists o config (events ++ more) other) → GoesOn one other ⊎ PartSomewhere l.entries m.entries
