-- The promise of each ASSURED line of a session, along the chain of machines that its listing has.
use Rattle.std.specs.Prelude.{ℕ, List, map}
use Rattle.session_input.specs.declared.event.Event.{Event}
use Rattle.sched_core.specs.Promised.{ArePromisedAlong}
use Rattle.sched_core.specs.Systems.{meant_by, world_of}
use Rattle.world_meaning.specs.Transitions.{Runs}
use Rattle.session_text.specs.declared.statement.Statement.{Statement}
use Rattle.session_core.specs.Listings.{Lists}
use Rattle.session_core.specs.Sessions.{denoting_of, world_at_start}
use Rattle.run_options.specs.declared.Options.{Options}

-- with whichever options, each ASSURED line among the entries of a listing is kept, from there on
abbrev pub PromisesOfSession : Type 0
PromisesOfSession = (o : Options) (config : List Statement) (events : List Event) (listing : List ℕ) → (l : Lists o config events listing) →
    ArePromisedAlong l.first events l.entries l.last l.drives

-- That chain is a run of the machine's definitions, from what the statements configure.
abbrev pub ListingsAreRuns : Type 0
ListingsAreRuns = (o : Options) (config : List Statement) (events : List Event) (listing : List ℕ) → (l : Lists o config events listing) →
    Runs (denoting_of config) (world_at_start o config) (map meant_by events) l.entries (world_of l.last)
