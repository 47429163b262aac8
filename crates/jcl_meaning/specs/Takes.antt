-- Where a DD's set is found, and what taking it does. (GC28-6704, DISP and VOLUME parameters; the order of faults is this profile's)
use Rattle.std.specs.Prelude.{ℕ, ◌+◌, Bool, true, false, ◌&&◌, ◌==◌, List, [], ◌∷◌, Option, Some, None, is_some, if◌then◌else◌}
use Rattle.std.specs.List.{list_any}
use Rattle.std.specs.Str.{bytes_eq}
use Rattle.jname_core.specs.declared.key.Key.{Key}
use Rattle.jname_core.specs.declared.key.Key.TheVariants.{Named}
use Rattle.jcl_plan.specs.declared.fault.Fault.TheVariants.{F1, F2, F6, F7, F10}
use Rattle.jcl_plan.specs.declared.plan.Expiry.{Expiry}
use Rattle.jcl_plan.specs.declared.plan.Expiry.TheVariants as label
use Rattle.jcl_plan.specs.declared.plan.Space.{Space}
use Rattle.jcl_plan.specs.declared.plan.Status.{Status}
use Rattle.jcl_plan.specs.declared.plan.Status.TheVariants.{New, Old, Shr, Mod}
use Rattle.jcl_plan.specs.declared.plan.VolumePlan.{VolumePlan}
use Rattle.jcl_plan.specs.declared.plan.VolumePlan.TheVariants.{NotCoded, Serial, OfName, OfDd}
use Rattle.jcl_meaning.specs.declared.state.DdVolume.{DdVolume}
use Rattle.jcl_meaning.specs.declared.state.Passed.{Passed}
use Rattle.jcl_meaning.specs.declared.state.TakenSet.{TakenSet}
use Rattle.jcl_meaning.specs.declared.take.Decision.{Decision}
use Rattle.jcl_meaning.specs.declared.take.Decision.TheVariants.{Refuses, Takes}
use Rattle.jcl_meaning.specs.declared.take.How.{How}
use Rattle.jcl_meaning.specs.declared.take.How.TheVariants as how
use Rattle.jcl_meaning.specs.declared.take.Target.{Target}
use Rattle.jcl_meaning.specs.declared.take.Target.TheVariants as target
use Rattle.jcl_meaning.specs.declared.take.Where.{Where}
use Rattle.jcl_meaning.specs.declared.take.Where.TheVariants.{Anywhere, At, Lost}
use Rattle.jcl_meaning.specs.Names.{same_key}
use Rattle.jcl_meaning.specs.Stores.{Store, volume_of}

-- the first passed set of a key, and the list without it
abbrev pub first_passed : List Passed → Key → Option Passed
first_passed [] key = None
first_passed (p ∷ ps) key = if same_key p.key key then Some p else first_passed ps key

abbrev pub without_passed : List Passed → Key → List Passed
without_passed [] key = []
without_passed (p ∷ ps) key = if same_key p.key key then ps else p ∷ without_passed ps key

-- the volume on which a DD's set was taken
abbrev pub dd_volume : List DdVolume → ℕ → ℕ → Option (List ℕ)
dd_volume [] step dd = None
dd_volume (x ∷ xs) step dd = if x.step == step && x.dd == dd then Some x.serial else dd_volume xs step dd

-- the volume that VOL names: a reference to nothing is lost
abbrev pub at_or_lost : Option (List ℕ) → Where
at_or_lost None = Lost
at_or_lost (Some serial) = At serial

abbrev pub passed_or_else : Option Passed → Option (List ℕ) → Where
passed_or_else (Some p) entered = At p.serial
passed_or_else None entered = at_or_lost entered

abbrev pub where_of : VolumePlan → Store → List Passed → List DdVolume → Where
where_of NotCoded s passed volumes = Anywhere
where_of (Serial serial) s passed volumes = At serial
where_of (OfName name) s passed volumes = passed_or_else (first_passed passed (Named name)) (volume_of s name)
where_of (OfDd step dd) s passed volumes = at_or_lost (dd_volume volumes step dd)

-- What a DD goes for. OLD and SHR go for a set that is there: on the volume of VOL, else the first passed set of the name, else the one
-- in the catalog; MOD likewise, and with none of these, as NEW, for a set to be made: on the volume of VOL, else where it was placed.
abbrev pub there_or : Option Passed → Option (List ℕ) → Target → Target
there_or (Some p) entered other = target.Receives p
there_or None (Some serial) other = target.FindsByCatalog serial
there_or None None other = other

abbrev pub found_or_made : Status → Option Passed → Option (List ℕ) → Option (List ℕ) → Target
found_or_made New passed entered place = target.Makes place
found_or_made Old passed entered place = there_or passed entered target.Misses
found_or_made Shr passed entered place = there_or passed entered target.Misses
found_or_made Mod passed entered place = there_or passed entered (target.Makes place)

abbrev pub on_volume : Status → List ℕ → Target
on_volume New serial = target.Makes (Some serial)
on_volume Old serial = target.Finds serial
on_volume Shr serial = target.Finds serial
on_volume Mod serial = target.Finds serial

abbrev pub target_of : Status → Where → Option Passed → Option (List ℕ) → Option (List ℕ) → Target
target_of status Lost passed entered place = target.Misses
target_of status (At serial) passed entered place = on_volume status serial
target_of status Anywhere passed entered place = found_or_made status passed entered place

-- the volume that is looked at
abbrev pub looked_at : Target → Option (List ℕ)
looked_at (target.Makes place) = place
looked_at (target.Finds serial) = Some serial
looked_at (target.Receives p) = Some p.serial
looked_at (target.FindsByCatalog serial) = Some serial
looked_at target.Misses = None

abbrev pub taken : Key → List ℕ → How → TakenSet
taken key serial how.Made = record { key = key; serial = serial; made = true; by_catalog = false; made_here = true }
taken key serial how.Found = record { key = key; serial = serial; made = false; by_catalog = false; made_here = false }
taken key serial how.FoundByCatalog = record { key = key; serial = serial; made = false; by_catalog = true; made_here = false }
taken key serial (how.Received made by_catalog) = record { key = key; serial = serial; made = made; by_catalog = by_catalog; made_here = false }

-- The faults of a take in order. A set to be made: F10 volume unknown, F2 name on it, F7 no SPACE, F6 no room. A set that is to be there:
-- F10 where the volume of VOL is unknown, else F1 where it is not.
--                                       known there  space  granted
abbrev pub decide : Target → Bool → Bool → Bool → Bool → Decision
decide (target.Makes None) known there space granted = Refuses F10
decide (target.Makes (Some serial)) false there space granted = Refuses F10
decide (target.Makes (Some serial)) true true space granted = Refuses F2
decide (target.Makes (Some serial)) true false false granted = Refuses F7
decide (target.Makes (Some serial)) true false true false = Refuses F6
decide (target.Makes (Some serial)) true false true true = Takes serial how.Made
decide (target.Finds serial) false there space granted = Refuses F10
decide (target.Finds serial) true false space granted = Refuses F1
decide (target.Finds serial) true true space granted = Takes serial how.Found
decide (target.Receives p) known false space granted = Refuses F1
decide (target.Receives p) known true space granted = Takes p.serial (how.Received p.made p.by_catalog)
decide (target.FindsByCatalog serial) known false space granted = Refuses F1
decide (target.FindsByCatalog serial) known true space granted = Takes serial how.FoundByCatalog
decide target.Misses known there space granted = Refuses F1

-- what stands on a volume, where one is named
abbrev pub is_there : Store → Key → Option (List ℕ) → Bool
is_there s key None = false
is_there s key (Some serial) = is_some (s.set key serial)

abbrev pub is_known : List (List ℕ) → Option (List ℕ) → Bool
is_known volumes None = false
is_known volumes (Some serial) = list_any (bytes_eq serial) volumes

-- the day of a set that is made; temporary sets have none
abbrev pub day_of : Expiry → Bool → ℕ → Option ℕ
day_of expiry temporary date = if temporary then None else coded_day expiry date
  where
    coded_day : Expiry → ℕ → Option ℕ
    coded_day label.NotCoded date = None
    coded_day (label.Day day) date = Some day
    coded_day (label.DaysFromToday days) date = Some (date + days)

abbrev pub primary_of : Option Space → ℕ
primary_of None = 0
primary_of (Some space) = space.primary

abbrev pub secondary_of : Option Space → ℕ
secondary_of None = 0
secondary_of (Some space) = space.secondary

abbrev pub releases : Option Space → Bool
releases None = false
releases (Some space) = space.release
