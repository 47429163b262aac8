-- The volumes behind any event. (This profile)
use Rattle.std.specs.Prelude.{◌≡◌, ℕ, Bool, true, false, List, ◌∷◌}
use Rattle.std.specs.List.{Contains}
use Rattle.plain.specs.Lists.{Differ}
use Rattle.jcl_plan.specs.declared.entry.Entry.{Entry}
use Rattle.jcl_plan.specs.declared.entry.JobLine.{JobLine}
use Rattle.jcl_plan.specs.declared.entry.JobLine.TheVariants as line
use Rattle.jcl_plan.specs.declared.plan.JobPlan.{JobPlan}
use Rattle.jcl_meaning.specs.declared.state.Place.{Place}
use Rattle.path_meaning.specs.Verdicts.{AreRising}
use Rattle.world_meaning.specs.declared.event.Event.{Event}
use Rattle.world_meaning.specs.Admissions.{AreKept}
use Rattle.world_meaning.specs.Choices.{AtAction, AtAdmission, Choice, Closed, choice_of}
use Rattle.world_meaning.specs.Readings.{Denoting}
use Rattle.world_meaning.specs.Tracks.{kept_without}
use Rattle.world_meaning.specs.Transitions.{Transition}
use Rattle.world_meaning.specs.Worlds.{Kept, World}
use Rattle.shared_core.specs.LaidOut.{VolumesAreLaidOut}
use Rattle.shared_core.specs.Shown.{world_store_of}
use Rattle.shared_core.specs.Tracks.{kept_shown}
use Rattle.shared_core.specs.declared.store.SharedStore.{SharedStore}
use Rattle.place_core.specs.Keepings.{kept_in}
use Rattle.place_core.specs.Placings.{serials_of}
use Rattle.init_core.specs.Extents.{ExtentsFollow}

-- The volumes of a store stay in their order, their extents follow, or some are kept, and each of their tracks is what these say.
pub record IsNextOf (old new : SharedStore) : Type 0 where
  pub serials : serials_of new.volumes ≡ serials_of old.volumes
  pub extents : ExtentsFollow old new
  pub laid_out : VolumesAreLaidOut new.volumes

-- Where the primaries of a job are kept at these places, which rise, the store is what the rule of keeping leaves; whatever else could be kept there.
abbrev pub KeepingIsDecided : Type 0
KeepingIsDecided = (job : ℕ) (plan : JobPlan) (made : List Place) (old new : SharedStore) → Differ (serials_of old.volumes) →
    VolumesAreLaidOut old.volumes → IsNextOf old new → AreRising (serials_of old.volumes) made → world_store_of new ≡ world_store_of old →
    AreKept plan job made (kept_shown new.volumes) → kept_without (kept_shown new.volumes) job ≡ kept_shown old.volumes →
    new ≡ record old { volumes = (kept_in job plan made old.volumes).volumes }

-- nothing is kept that was not kept before
abbrev pub KeepsNoMore : (List ℕ → List Kept) → (List ℕ → List Kept) → Type 0
KeepsNoMore old new = (serial : List ℕ) (k : Kept) → Contains (new serial) k → Contains (old serial) k

-- Two such stores of which the same is shown, and no more is kept than before, are one.
abbrev pub NextOfIsDecided : Type 0
NextOfIsDecided = (old one other : SharedStore) → Differ (serials_of old.volumes) → VolumesAreLaidOut old.volumes → IsNextOf old one → IsNextOf old other →
    KeepsNoMore (kept_shown old.volumes) (kept_shown one.volumes) → world_store_of one ≡ world_store_of other → kept_shown one.volumes ≡ kept_shown other.volumes →
    one ≡ other

-- the event is no admission at which a job is assured
abbrev pub begins_assured : List JobLine → Bool
begins_assured (line.Assured tracks actions ∷ lines) = true
begins_assured other = false

abbrev pub AssuresNone : Choice → Type 0
AssuresNone Closed = Unit {0}
AssuresNone (AtAdmission job plan places lines) = begins_assured lines ≡ false
AssuresNone (AtAction job cancel a x growth primary) = Unit {0}

-- Nothing more is kept then.
abbrev pub EventsKeepNoMore : Type 0
EventsKeepNoMore = (job_of : Denoting) (old new : World) (e : Event) (lines : List Entry) (t : Transition job_of old e lines new) → AssuresNone (choice_of t) →
    KeepsNoMore old.shared.kept new.shared.kept
