-- That what each job of a session is answered is exact, and what its volumes decide: along the chain of machines that its listing has.
use Rattle.std.specs.Prelude.{ℕ, List}
use Rattle.session_input.specs.declared.event.Event.{Event}
use Rattle.session_text.specs.declared.statement.Statement.{Statement}
use Rattle.run_options.specs.declared.Options.{Options}
use Rattle.session_core.specs.Listings.{Lists}
use Rattle.machine_laws.specs.Answers.{AreExactAlong}
use Rattle.machine_laws.specs.Deciding.{AreDecidedAlong}

-- With whichever options, each line of a listing that answers a job holds of it in the machine as it was, and is the only answer: BROKEN, ASSURED, WAIT SPACE,
-- RISK, TOOMANY.
abbrev pub AnswersOfSession : Type 0
AnswersOfSession = (o : Options) (config : List Statement) (events : List Event) (listing : List ℕ) → (l : Lists o config events listing) →
    AreExactAlong l.first events l.entries l.last l.drives

-- And each event of it is decided by the volumes of the machine before it.
abbrev pub VolumesDecideSession : Type 0
VolumesDecideSession = (o : Options) (config : List Statement) (events : List Event) (listing : List ℕ) → (l : Lists o config events listing) →
    AreDecidedAlong l.first events l.entries l.last l.drives
