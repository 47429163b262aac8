-- Why some rules are as they are: with one of them dropped something that is promised is false, in a small machine.
use Rattle.std.specs.Prelude.{◌≡◌, ℕ, ◌+◌, true, false, List, [], ◌∷◌, codes, Some, None}
use Rattle.jname_core.specs.declared.key.Key.{Key}
use Rattle.jname_core.specs.declared.key.Key.TheVariants.{Named, Relative, Temporary}
use Rattle.jname_core.specs.declared.key.Sign.TheVariants.{Plus}
use Rattle.enq_core.specs.declared.table.Hold.{Hold}
use Rattle.enq_core.specs.declared.table.Want.{Want}
use Rattle.enq_core.specs.Holds.{is_blocked}
use Rattle.jcl_plan.specs.declared.plan.SetPlan.{SetPlan}
use Rattle.jcl_plan.specs.declared.plan.Status.TheVariants as status
use Rattle.jcl_plan.specs.declared.plan.Word.TheVariants as word
use Rattle.jcl_meaning.specs.declared.names.HeldName.{HeldName}
use Rattle.jcl_meaning.specs.declared.state.Own.{Own}
use Rattle.jcl_meaning.specs.declared.state.Resolution.TheVariants.{Means}
use Rattle.jcl_meaning.specs.Acts.{act}
use Rattle.jcl_meaning.specs.Agendas.{Action, Dispose, Take}
use Rattle.jcl_meaning.specs.Parts.{SamePart}
use Rattle.jcl_meaning.specs.Solo.{given, nothing_own}
use Rattle.jcl_meaning.specs.States.{Fixed, State}
use Rattle.jcl_meaning.specs.Stores.{Store, generation_entered, resolution_of}
use Rattle.cb_meaning.specs.Walks.{first_fault}
use Rattle.world_meaning.specs.Lenses.{WorldStore, put_back, seen}
use Rattle.world_meaning.specs.Records.{with_record}
use Rattle.world_meaning.specs.Tracks.{kept_on}
use Rattle.world_rows.specs.Devices as devices
use Rattle.world_rows.specs.Generations as generations
use Rattle.world_rows.specs.Growths.{kept_there, no_sets, of_another}
use Rattle.world_rows.specs.Machines.{dd_with, few_records, fixed_with, free_tracks, serial, set_of, shared_set, store_with}
use Rattle.world_rows.specs.Zaps.{records}
use Rattle.cb_meaning.specs.Fields.{with_part}

-- what one action of a running step leaves of a store
abbrev pub runs_with : Own → Store → State
runs_with own s = record { store = s; own = record own { runs = true }; answers = given [] }

abbrev pub left_by : Fixed → Action → Own → Store → Store
left_by fixed a own s = (act fixed a (runs_with own s)).state.store

-- &&T carries its job: without that a job sees the set that another makes.
abbrev pub temporary : Key
temporary = Temporary (codes "T")

abbrev pub made_temporary : SetPlan
made_temporary = record (shared_set []) { key = temporary; status = status.New; space = Some (record { primary = 1; secondary = 0; release = false }) }

abbrev pub fixed : Fixed
fixed = fixed_with (record { step = 1; dd = 1; serial = serial } ∷ []) (record { step = 1; dd = 1; means = Means temporary } ∷ [])

abbrev pub after_making : Store → Store
after_making s = left_by fixed (Take 1 1 (dd_with (codes "D") made_temporary)) nothing_own s

pub record TemporariesCarryTheirJob : Type 0 where
  pub of_no_job : SamePart [] (seen 2 no_sets) (after_making (seen 2 no_sets)) → ⊥
  pub of_a_job : (seen 2 (put_back 1 no_sets (after_making (seen 1 no_sets)))).set temporary serial ≡ None

-- (SHR,DELETE) is held alone: otherwise the set goes while another job shares its name.
abbrev pub deletes : SetPlan
deletes = record (shared_set devices.name) { normal = Some word.Delete }

abbrev pub with_the_set : WorldStore
with_the_set = store_with devices.name (set_of 1 []) (λ n. None)

abbrev pub after_deleting : Store
after_deleting = left_by devices.fixed (Dispose 1 1 (dd_with (codes "IN") deletes)) devices.own (seen 2 with_the_set)

abbrev pub shares : List HeldName
shares = record { name = devices.name; exclusive = false } ∷ []

pub record DeletersHoldAlone : Type 0 where
  pub gone : SamePart shares (seen 1 with_the_set) after_deleting → ⊥

-- Relative numbers are resolved once: otherwise (+1) is another generation once the first is entered.
abbrev pub next : Key
next = Relative generations.base Plus 1

abbrev pub once_entered : Store
once_entered = generation_entered (seen 2 generations.store) (Named generations.new_name) serial 25567

pub record NumbersAreResolvedOnce : Type 0 where
  pub at_first : resolution_of (seen 2 generations.store) next ≡ Means (Named generations.new_name)
  pub later : resolution_of once_entered next ≡ Means (Named (codes "PAY.G.G0004V00"))

-- A Zap is refused once its job is selected: otherwise the records of a job stop denoting it.
pub record ZapsComeBefore : Type 0 where
  pub good : first_fault few_records 1 records 1 1 ≡ None
  pub bad : first_fault few_records 1 (with_record records 4 (with_part (records.at 4) 8 (0 ∷ 3 ∷ []))) 1 1 ≡ Some 4

-- Kept tracks are one job's: once another has made its set of them, no number of tracks is left that the first may take ten of.
pub record TracksAreKeptForOne : Type 0 where
  pub kept : kept_on (kept_there (of_another ∷ [])) serial ≡ 10
  pub left : (n : ℕ) → n + 10 ≡ free_tracks 1 serial + kept_on (kept_there []) serial → ⊥

-- A job that waits holds no name: two that hold what they could get would wait for one another for ever.
abbrev pub holds_one_each : List Hold
holds_one_each = record { job = 1; name = codes "B"; exclusive = true } ∷ record { job = 2; name = codes "A"; exclusive = true } ∷ []

abbrev pub want : List ℕ → Want
want name = record { name = name; exclusive = true }

pub record WaitingJobsHoldNothing : Type 0 where
  pub first_waits : is_blocked holds_one_each (want (codes "A")) ≡ true
  pub second_waits : is_blocked holds_one_each (want (codes "B")) ≡ true
  pub first_would_run : is_blocked [] (want (codes "A")) ≡ false
