-- What comes of an event.
use Rattle.std.specs.Prelude.{Err, List, Ok, Option, Result, [], ℕ, ◌∷◌, ◌≡◌}
use Rattle.jcl_plan.specs.declared.entry.Entry.{Entry}
use Rattle.jcl_plan.specs.declared.entry.Entry.TheVariants as entry
use Rattle.jcl_plan.specs.declared.fault.Cause.{Cause}
use Rattle.world_meaning.specs.Records.{Reopened}
use Rattle.world_meaning.specs.Selections.{Selects}
use Rattle.world_meaning.specs.Transitions.{Acts, Does, Transition, Turns}
use Rattle.world_meaning.specs.Worlds.{Initiator, IsAt, Running, World}
use Rattle.sched_core.specs.declared.fault.ApplyFault.{ApplyFault}
use Rattle.sched_core.specs.declared.fault.ApplyFault.TheVariants.{Memory, Refused}
use Rattle.world_meaning.specs.Choices.{choice_of, choice_of_acting, choice_of_event, choice_of_turn}
use Rattle.world_meaning.specs.Readings.{Denoting}
use Rattle.shared_core.specs.declared.store.SharedStore.{SharedStore}
use Rattle.init_core.specs.Choosing.{IsChosenByVolumes}
use Rattle.world_meaning.specs.declared.event.Event.{Event}

-- it leads to this world, but for what is open in records
pub record LeadsTo (does : World → Type 0) (new : World) : Type 0 where
  pub middle : World
  pub does_so : does middle
  pub reopened : Reopened middle.config.layout middle.shared new.shared
  pub rest : new ≡ record middle { shared = new.shared }

-- what was done is allowed; a refusal is one that is allowed, and changes nothing; where memory was wanting nothing changed
abbrev pub Answers : Result (List Entry) ApplyFault → World → World → (List Entry → World → Type 0) → Type 0
Answers (Ok lines) old new does = LeadsTo (does lines) new
Answers (Err (Refused cause)) old new does = does (entry.Refused cause ∷ []) old × (new ≡ old)
Answers (Err Memory) old new does = new ≡ old

-- what the machine refuses is refused, and told as that, whether or not memory is missing
abbrev pub RefusesFirst : Result (List Entry) ApplyFault → (List Entry → World → Type 0) → Type 0
RefusesFirst result does = (cause : Cause) (new : World) → does (entry.Refused cause ∷ []) new → result ≡ Err (Refused cause)

-- What the initiator at a place may do, what a turn, an event and a step come to: a case of the table, of which what it leaves open is as these
-- volumes decide it.
abbrev pub ActsSo : SharedStore → World → ℕ → Initiator → Option Running → List Entry → World → Type 0
ActsSo store old place x running lines new = (g : Acts old place x running lines new)
    × IsChosenByVolumes old.config store old.shared.date (choice_of_acting old place x running lines new g)

abbrev pub ActsAt : SharedStore → World → ℕ → List Entry → World → Type 0
ActsAt store old place lines new = (x : Initiator) → IsAt old place x → ActsSo store old place x x.running lines new

abbrev pub TurnsSo : SharedStore → World → ℕ → List Entry → World → Type 0
TurnsSo store old number lines new = (g : Turns old number lines new) × IsChosenByVolumes old.config store old.shared.date (choice_of_turn g)

abbrev pub DoesSo : SharedStore → Denoting → World → Event → List Entry → World → Type 0
DoesSo store job_of old e lines new = (d : Does job_of old e lines new) × IsChosenByVolumes old.config store old.shared.date (choice_of_event job_of old e lines new d)

abbrev pub FollowsSo : SharedStore → Denoting → World → Event → List Entry → World → Type 0
FollowsSo store job_of old e lines new = (t : Transition job_of old e lines new) × IsChosenByVolumes old.config store old.shared.date (choice_of t)

-- it selects a job, or none waits for it
abbrev pub SelectsAt : World → ℕ → List Entry → World → Type 0
SelectsAt old place lines new = (x : Initiator) → IsAt old place x → Selects old place x lines new
