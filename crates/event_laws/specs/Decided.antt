-- What an event leaves of a machine, where what is open of it is as a store decides it. (This profile)
use Rattle.std.specs.Prelude.{◌≡◌, ℕ, List}
use Rattle.jcl_plan.specs.declared.entry.Entry.{Entry}
use Rattle.turn_core.specs.Performing.{StoreAnswers}
use Rattle.world_meaning.specs.declared.event.Event.{Event}
use Rattle.world_meaning.specs.Choices.{choice_of}
use Rattle.world_meaning.specs.Readings.{Denoting}
use Rattle.world_meaning.specs.Records.{SameRecords}
use Rattle.world_meaning.specs.Transitions.{Transition}
use Rattle.world_meaning.specs.Worlds.{World}
use Rattle.walk_laws.specs.WalkLaws.{AreRecords}
use Rattle.law_core.specs.Soundness.{IsSound}
use Rattle.turn_laws.specs.Decided.{IsDecidedBy}

-- Two machines are the same but for what is open in records, and for the free tracks, which the volumes have.
pub record AreAlike (one other : World) : Type 0 where
  pub records : SameRecords one.config.layout one.shared.records other.shared.records
  pub rest : other ≡ record one { shared = record one.shared { records = other.shared.records; free = other.shared.free } }

-- the same lines, and machines that are alike
pub record IsSameEvent (told others : List Entry) (one other : World) : Type 0 where
  pub lines : others ≡ told
  pub alike : AreAlike one other

-- From one machine an event, at which no job asks for its admission, leads to the same, where a store decides what is granted.
abbrev pub EventsAreDecided : Type 0
EventsAreDecided = (job_of : Denoting) (grants : ℕ → StoreAnswers) (w one other : World) (e : Event) (lines more : List Entry) → IsSound w →
    AreRecords one.shared.records → AreRecords other.shared.records → (t : Transition job_of w e lines one) (u : Transition job_of w e more other) →
    IsDecidedBy grants (choice_of t) → IsDecidedBy grants (choice_of u) → IsSameEvent lines more one other
