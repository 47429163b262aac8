-- Laws of what a job sees of a store.
use Rattle.std.specs.Prelude.{◌≡◌, ℕ, true, List, ◌∷◌, ◌++◌, drop, Option, Some}
use Rattle.jname_core.specs.declared.key.Key.{Key}
use Rattle.jname_core.specs.Generations.{base_of}
use Rattle.jcl_plan.specs.declared.outcome.Outcome.{Outcome}
use Rattle.jcl_plan.specs.declared.plan.DdPlan.{DdPlan}
use Rattle.jcl_plan.specs.declared.plan.JobPlan.{JobPlan}
use Rattle.jcl_plan.specs.declared.plan.VolumePlan.{VolumePlan}
use Rattle.jcl_plan.specs.declared.plan.Word.{Word}
use Rattle.group_core.specs.declared.entry.CatEntry.{CatEntry}
use Rattle.jcl_meaning.specs.declared.names.HeldName.{HeldName}
use Rattle.jcl_meaning.specs.declared.program.SoloProgram.{SoloProgram}
use Rattle.jcl_meaning.specs.declared.solo.SoloAnswers.{SoloAnswers}
use Rattle.jcl_meaning.specs.declared.state.Change.{Change}
use Rattle.jcl_meaning.specs.declared.state.DdState.{DdState}
use Rattle.jcl_meaning.specs.declared.state.DdVolume.{DdVolume}
use Rattle.jcl_meaning.specs.declared.state.Passed.{Passed}
use Rattle.jcl_meaning.specs.declared.state.Place.{Place}
use Rattle.jcl_meaning.specs.declared.state.TakenSet.{TakenSet}
use Rattle.jcl_meaning.specs.declared.store.DataSet.{DataSet}
use Rattle.jcl_meaning.specs.Acts.{act}
use Rattle.jcl_meaning.specs.Agendas.{Action, agenda}
use Rattle.jcl_meaning.specs.Dispositions.{changed, disposed_by}
use Rattle.jcl_meaning.specs.EndActs.{tracks_released}
use Rattle.jcl_meaning.specs.Names.{names_of}
use Rattle.jcl_meaning.specs.Parts.{SamePart, but_for_tracks, is_among}
use Rattle.jcl_meaning.specs.Programs.{sources_from, taken_at}
use Rattle.jcl_meaning.specs.RequestActs.{appended_at}
use Rattle.jcl_meaning.specs.Resolutions.{meanings_of}
use Rattle.jcl_meaning.specs.Solo.{fixed_in, nothing_own, run, solo_of, solo_path_of}
use Rattle.jcl_meaning.specs.States.{Fixed, State}
use Rattle.jcl_meaning.specs.Stores.{Store, catalogued, group_of, member_of, volume_of, with_entry, with_set, with_set_there}
use Rattle.jcl_meaning.specs.Takes.{where_of}
use Rattle.jcl_meaning.specs.WellFormed.{IsWellFormedPlan, IsWellFormedStore}
use Rattle.part_laws.specs.Alike.{Alike, AlikeDone, AlikeRun}
use Rattle.part_laws.specs.Fits.{Fits, IsVolumeHeld, sees_alone, sees_set}
use Rattle.part_laws.specs.Keeping.{AreCompatible, HasSoundGroups, SameNamed, StaysWithin}

-- What a job reads is the same in two stores with equal parts: all of a set that it holds alone, all but the tracks of any that it sees, the
-- group of a base that is held, the volume and the number of a name whose base is held, where VOL leads, what a GET reads, and what a
-- disposition comes to.
pub record SameReads (names : List HeldName) (s t : Store) : Type 0 where
  pub alone : (key : Key) (serial : List ℕ) → sees_alone names key ≡ true → s.set key serial ≡ t.set key serial
  pub seen : (key : Key) (serial : List ℕ) → sees_set names key ≡ true → but_for_tracks (s.set key serial) ≡ but_for_tracks (t.set key serial)
  pub group : (base : List ℕ) → is_among names base ≡ true → group_of s base ≡ group_of t base
  pub member : (name : List ℕ) → is_among names (base_of name) ≡ true → member_of s name ≡ member_of t name
  pub volume : (name : List ℕ) → is_among names (base_of name) ≡ true → volume_of s name ≡ volume_of t name
  pub catalogued : (key : Key) → sees_set names key ≡ true → catalogued s key ≡ catalogued t key
  pub where_found : (volume : VolumePlan) (passed : List Passed) (volumes : List DdVolume) → IsVolumeHeld names volume →
      where_of volume s passed volumes ≡ where_of volume t passed volumes
  pub sources : (dds : List DdPlan) (xs : List DdState) (n : ℕ) → ((k : ℕ) (x : TakenSet) → taken_at xs k ≡ Some x → sees_set names x.key ≡ true) →
      sources_from s dds xs n ≡ sources_from t dds xs n
  pub disposed : (w : Word) (x : TakenSet) (date : ℕ) → sees_set names x.key ≡ true → disposed_by w s x date ≡ disposed_by w t x date

abbrev pub EqualReads : Type 0
EqualReads = (names : List HeldName) (s t : Store) → SamePart names s t → SameReads names s t

-- What it writes in both leaves equal parts: a set, a set that is there, an entry, a record put, what a disposition changes, and
-- tracks tracks_released.
pub record SameWrites (names : List HeldName) (s t : Store) : Type 0 where
  pub set : (key : Key) (serial : List ℕ) (there : Option DataSet) → SamePart names (with_set s key serial there) (with_set t key serial there)
  pub set_there : (key : Key) (serial : List ℕ) (set : DataSet) → sees_set names key ≡ true →
      SamePart names (with_set_there (s.set key serial) set s key serial) (with_set_there (t.set key serial) set t key serial)
  pub entry : (name : List ℕ) (entry : Option CatEntry) → SamePart names (with_entry s name entry) (with_entry t name entry)
  pub record_put : (x : TakenSet) (text : List ℕ) → sees_set names x.key ≡ true → SamePart names (appended_at (Some x) text s) (appended_at (Some x) text t)
  pub change : (c : Change) (key : Key) (serial : List ℕ) (date : ℕ) → sees_set names key ≡ true →
      SamePart names (changed c s key serial date) (changed c t key serial date)
  pub release : (key : Key) (serial : List ℕ) → sees_set names key ≡ true → SamePart names (tracks_released true key serial s) (tracks_released true key serial t)

abbrev pub EqualWrites : Type 0
EqualWrites = (names : List HeldName) (s t : Store) → SamePart names s t → SameWrites names s t

-- At its start the own state of a job fits its agenda, its keys meaning what they mean in the store there.
abbrev pub StartFits : Type 0
StartFits = (plan : JobPlan) (programs : List SoloProgram) (s : Store) → IsWellFormedPlan plan → HasSoundGroups s →
    Fits (names_of plan) (meanings_of s plan) (agenda plan programs) nothing_own

-- and it fits what is left after each action, whatever the store is
abbrev pub ActFits : Type 0
ActFits = (names : List HeldName) (fixed : Fixed) (a : Action) (rest : List Action) (s : State) → Fits names fixed.meanings (a ∷ rest) s.own →
    Fits names fixed.meanings rest (act fixed a s).state.own

abbrev pub RunFits : Type 0
RunFits = (names : List HeldName) (fixed : Fixed) (done rest : List Action) (s : State) → Fits names fixed.meanings (done ++ rest) s.own →
    Fits names fixed.meanings rest (run fixed done s).state.own

-- In states alike, an action that is due does the same.
abbrev pub ActAlike : Type 0
ActAlike =
    (names : List HeldName) (fixed : Fixed) (a : Action) (rest : List Action) (s t : State) → Alike names s t → Fits names fixed.meanings (a ∷ rest) s.own →
    AlikeDone names (act fixed a s) (act fixed a t)

-- So do all actions that are left, one after the other.
abbrev pub RunAlike : Type 0
RunAlike = (names : List HeldName) (fixed : Fixed) (rest : List Action) (s t : State) → Alike names s t → Fits names fixed.meanings rest s.own →
    AlikeRun names (run fixed rest s) (run fixed rest t)

-- A job's keys mean the same in stores with equal parts.
abbrev pub SameMeanings : Type 0
SameMeanings = (plan : JobPlan) (s t : Store) → SamePart (names_of plan) s t → meanings_of s plan ≡ meanings_of t plan

-- From any place of its agenda a job does the same in states alike.
abbrev pub SameLines : Type 0
SameLines = (plan : JobPlan) (programs : List SoloProgram) (fixed : Fixed) (n : ℕ) (s t : State) → Alike (names_of plan) s t →
    Fits (names_of plan) fixed.meanings (drop n (agenda plan programs)) s.own →
    AlikeRun (names_of plan) (run fixed (drop n (agenda plan programs)) s) (run fixed (drop n (agenda plan programs)) t)

-- The solo meanings of a job in two stores with equal parts are the same, with what is fixed in either.
abbrev pub SameSolo : Type 0
SameSolo = (volumes : List (List ℕ)) (plan : JobPlan) (s t : Store) (places : List Place) (programs : List SoloProgram) (answers : SoloAnswers) (date : ℕ) →
    IsWellFormedPlan plan → HasSoundGroups s → SamePart (names_of plan) s t →
    AlikeRun (names_of plan) (solo_of (fixed_in volumes s plan places date) plan s programs answers) (solo_of (fixed_in volumes t plan places date) plan t programs answers)

-- and so are those along given outcomes
abbrev pub SameSoloPath : Type 0
SameSoloPath = (volumes : List (List ℕ)) (plan : JobPlan) (s t : Store) (places : List Place) (outcomes : List Outcome) (date : ℕ) →
    IsWellFormedPlan plan → HasSoundGroups s → SamePart (names_of plan) s t →
    AlikeRun (names_of plan) (solo_path_of (fixed_in volumes s plan places date) plan s outcomes) (solo_path_of (fixed_in volumes t plan places date) plan t outcomes)

-- What an action does stays within the names of its job.
abbrev pub ActStays : Type 0
ActStays = (names : List HeldName) (fixed : Fixed) (a : Action) (rest : List Action) (s : State) → Fits names fixed.meanings (a ∷ rest) s.own →
    StaysWithin names s.store (act fixed a s).state.store

-- So a job whose names are compatible sees nothing of it.
abbrev pub ActKeeps : Type 0
ActKeeps = (names others : List HeldName) (fixed : Fixed) (a : Action) (rest : List Action) (s : State) → AreCompatible names others →
    Fits names fixed.meanings (a ∷ rest) s.own → SameNamed others s.store (act fixed a s).state.store

-- nor of any actions in a row
abbrev pub RunKeeps : Type 0
RunKeeps = (names others : List HeldName) (fixed : Fixed) (done rest : List Action) (s : State) → AreCompatible names others →
    Fits names fixed.meanings (done ++ rest) s.own → SameNamed others s.store (run fixed done s).state.store

-- Groups are sound in a well-formed store, and stay so.
abbrev pub SoundGroups : Type 0
SoundGroups = (s : Store) → IsWellFormedStore s → HasSoundGroups s

abbrev pub ActSound : Type 0
ActSound = (names : List HeldName) (fixed : Fixed) (a : Action) (rest : List Action) (s : State) → Fits names fixed.meanings (a ∷ rest) s.own →
    HasSoundGroups s.store → HasSoundGroups (act fixed a s).state.store
