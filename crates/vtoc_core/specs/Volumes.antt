-- A volume: what each of its tracks is, and its sets.
use Rattle.std.specs.Prelude.{◌≡◌, ◌≢◌, ◌≤◌, ◌<◌, ℕ, ◌+◌, ◌-◌, ◌==◌, Bool, true, false, min, List, [], ◌∷◌, ◌++◌, length, count_by, slice_get, Option, Some, None, Result, Ok, Err, if◌then◌else◌, IsSome, replicate, refl}
use Rattle.std.specs.Coded.{Coded, code_by, coded×, coded_bool, coded_list}
use Rattle.std.specs.FinMap.{entries, get, insert, remove}
use Rattle.std.specs.List.{list_any, flat_map}
use Rattle.jcl_plan.specs.declared.plan.TheConstants.{MOST_TRACKS}
use Rattle.extent_core.specs.declared.extent.Extent.{Extent}
use Rattle.extent_core.specs.Extents.{is_in}
use Rattle.vtoc_core.specs.declared.entry.SetEntry.{SetEntry}
use Rattle.vtoc_core.specs.declared.entry.SetKey.{SetKey}
use Rattle.vtoc_core.specs.declared.volume.Track.{Track}
use Rattle.vtoc_core.specs.declared.volume.Track.TheVariants.{Free, Aside, InSet, Unusable}
use Rattle.vtoc_core.specs.declared.volume.TrackCounts.{TrackCounts}
use Rattle.vtoc_core.specs.declared.fault.VolumeFault.{VolumeFault}
use Rattle.vtoc_core.specs.declared.fault.VolumeFault.TheVariants as fault
use Rattle.vtoc_core.specs.Entries.{Sets, changed, coded_sets, with_extents, with_records}
use Rattle.vtoc_core.specs.Extents.{free_extents, five_largest, planned, tracks_in, kept_front, past_front}

pub record VolumeState : Type 0 where
  pub tracks : List Track
  pub sets : Sets

-- the code by which volumes are told apart
abbrev pub bits_of : Track → Bool × Bool
bits_of Free = (false, false)
bits_of Aside = (false, true)
bits_of InSet = (true, false)
bits_of Unusable = (true, true)

abbrev pub track_of : Bool × Bool → Track
track_of (false, false) = Free
track_of (false, true) = Aside
track_of (true, false) = InSet
track_of (true, true) = Unusable

abbrev pub track_of-bits_of : (t : Track) → track_of (bits_of t) ≡ t
track_of-bits_of Free = refl
track_of-bits_of Aside = refl
track_of-bits_of InSet = refl
track_of-bits_of Unusable = refl

abbrev pub coded_track : Coded Track
coded_track = code_by (Bool × Bool) (coded× coded_bool coded_bool) bits_of track_of track_of-bits_of

abbrev pub coded_volume : Coded VolumeState
coded_volume =
    code_by (List Track × Sets) (coded× (coded_list coded_track) coded_sets) (λ v. (v.tracks, v.sets)) (λ p. record { tracks = p.0; sets = p.1 }) (λ _. refl)

-- a track lies in one of these extents
abbrev pub is_in_some : ℕ → List Extent → Bool
is_in_some track extents = list_any (λ e. is_in track e) extents

-- the tracks of these extents are now of this kind
abbrev pub marked_from : ℕ → Track → List Extent → List Track → List Track
marked_from at kind extents [] = []
marked_from at kind extents (t ∷ ts) = (if is_in_some at extents then kind else t) ∷ marked_from (at + 1) kind extents ts

abbrev pub marked : Track → List Extent → List Track → List Track
marked kind extents tracks = marked_from 0 kind extents tracks

-- a new volume's tracks
abbrev pub first_tracks : ℕ → List Extent → List Track
first_tracks n unusable = marked Unusable unusable (replicate n Free)

-- how many of these extents a track lies in
abbrev pub times_in : ℕ → List Extent → ℕ
times_in track extents = count_by (λ e. is_in track e) extents

-- the extents' tracks lie below a track
abbrev pub LieBelow : ℕ → List Extent → Type 0
LieBelow n extents = (track : ℕ) → 0 < times_in track extents → track < n

-- how many of these extents have no track
abbrev pub empty_among : List Extent → ℕ
empty_among extents = count_by (λ e. e.tracks == 0) extents

-- extents of a volume whose tracks are all of a kind, no track twice, and none of them without a track
pub record AreOf (kind : Track) (tracks : List Track) (extents : List Extent) : Type 0 where
  pub kinds : (track : ℕ) → 0 < times_in track extents → slice_get tracks track ≡ Some kind
  pub once : (track : ℕ) → times_in track extents ≤ 1
  pub none_empty : empty_among extents ≡ 0

abbrev pub is_kind : Track → Track → Bool
is_kind Free Free = true
is_kind Aside Aside = true
is_kind InSet InSet = true
is_kind Unusable Unusable = true
is_kind _ _ = false

-- how many tracks are of a kind
abbrev pub count_of : Track → List Track → ℕ
count_of kind tracks = count_by (λ t. is_kind kind t) tracks

-- tracks that were set aside on the volume
abbrev pub IsAside : VolumeState → List Extent → Type 0
IsAside v list = AreOf Aside v.tracks list

-- the counts of a volume's tracks
abbrev pub count_in : TrackCounts → Track → ℕ
count_in c Free = c.free
count_in c Aside = c.aside
count_in c InSet = c.in_sets
count_in c Unusable = c.unusable

abbrev pub Counted : TrackCounts → List Track → Type 0
Counted counts tracks = (kind : Track) → count_in counts kind ≡ count_of kind tracks

-- so many tracks that were of one kind are of another now, and of each other kind there are as many as before
pub record Moves (from to : Track) (n : ℕ) (old new : List Track) : Type 0 where
  pub fewer : count_of from new + n ≡ count_of from old
  pub more : count_of to new ≡ count_of to old + n
  pub others : (kind : Track) → kind ≢ from → kind ≢ to → count_of kind new ≡ count_of kind old

-- so many free tracks of a volume are of another kind now: those planned
pub record IsSpace (to : Track) (n : ℕ) (old : List Track) (list : List Extent) (new : List Track) : Type 0 where
  pub planned : planned (free_extents old) n ≡ Some list
  pub held : n ≤ five_largest (free_extents old)
  pub free : AreOf Free old list
  pub size : tracks_in list ≡ n
  pub few : length list ≤ 5
  pub marked : new ≡ marked to list old
  pub counts : Moves Free to n old new

-- there is no space for so many tracks: the five largest free extents do not hold them, and nothing is changed
pub record LacksSpace (n : ℕ) (old new : List Track) : Type 0 where
  pub none : planned (free_extents old) n ≡ None
  pub exceeded : five_largest (free_extents old) < n
  pub same : new ≡ old

-- how many tracks a set loses that is cut to so many
abbrev pub tracks_past : ℕ → List Extent → ℕ
tracks_past n extents = tracks_in extents - min n (tracks_in extents)

-- the extents of all sets, in the order of the keys
abbrev pub extents_of_all : Sets → List Extent
extents_of_all sets = flat_map (λ s. s.1.extents.items) (entries sets)

-- the tracks of sets are marked so, none of them is in two extents, and all tracks marked so are of a set
pub record IsSoundVolume (v : VolumeState) : Type 0 where
  pub in_sets : AreOf InSet v.tracks (extents_of_all v.sets)
  pub no_others : (track : ℕ) → slice_get v.tracks track ≡ Some InSet → 0 < times_in track (extents_of_all v.sets)
  pub size : length v.tracks ≤ MOST_TRACKS

-- no track lies in an extent of both lists
abbrev pub LieApart : List Extent → List Extent → Type 0
LieApart list extents = (track : ℕ) → 0 < times_in track list → times_in track extents ≡ 0

-- tracks that are aside stay so where others become of any kind, which are apart or were of another kind
abbrev pub OthersStayAside : Type 0
OthersStayAside = (kind : Track) (tracks : List Track) (list extents : List Extent) → AreOf Aside tracks list → LieApart list extents →
    AreOf Aside (marked kind extents tracks) list

abbrev pub OtherKindsLieApart : Type 0
OtherKindsLieApart = (kind : Track) (tracks : List Track) (list extents : List Extent) → kind ≢ Aside → AreOf Aside tracks list →
    AreOf kind tracks extents → LieApart list extents

-- making a set of tracks set aside: the name there first, else it is done but for want of memory; a refusal hands the list back
abbrev pub AnswersMake : {A : Type 0} → Result A (List Extent × VolumeFault) → VolumeState → List Extent → SetKey → Type 0
AnswersMake (Ok _) v list key = get v.sets key ≡ None
AnswersMake (Err (back, fault.NameThere)) v list key = (back ≡ list) × IsSome (get v.sets key)
AnswersMake (Err (back, fault.Memory)) v list key = (back ≡ list) × (get v.sets key ≡ None)
AnswersMake (Err (back, _)) v list key = ⊥

-- growing a set: it takes what is planned, unless it is not there, there is no space, or it would have over sixteen extents
abbrev pub AnswersGrow : {A : Type 0} → Result A VolumeFault → VolumeState → SetKey → ℕ → VolumeState → Type 0
AnswersGrow (Ok _) old key n new = (entry : SetEntry) × (more : List Extent)
    × (get old.sets key ≡ Some entry) × (planned (free_extents old.tracks) n ≡ Some more)
    × (length entry.extents.items + length more ≤ 16)
    × (new ≡ record {
      tracks = marked InSet more old.tracks;
      sets = changed old.sets key (with_extents (λ all. all ++ more));
    })
    × Moves Free InSet n old.tracks new.tracks
AnswersGrow (Err fault.NameMissing) old key n new = (get old.sets key ≡ None) × (new ≡ old)
AnswersGrow (Err fault.NoSpace) old key n new =
    IsSome (get old.sets key) × (five_largest (free_extents old.tracks) < n) × (new ≡ old)
AnswersGrow (Err fault.TooManyExtents) old key n new = (entry : SetEntry) × (more : List Extent)
    × (get old.sets key ≡ Some entry) × (planned (free_extents old.tracks) n ≡ Some more)
    × (16 < length entry.extents.items + length more)
    × (new ≡ old)
AnswersGrow (Err _) old key n new = ⊥

-- writing records of a set: it is not there, or all is done but for want of memory
abbrev pub AnswersWrite : {A : Type 0} → Result A VolumeFault → Option SetEntry → Type 0
AnswersWrite (Ok _) set = IsSome set
AnswersWrite (Err fault.NameMissing) set = set ≡ None
AnswersWrite (Err fault.Memory) set = IsSome set
AnswersWrite (Err _) set = ⊥

-- a volume with a new set of these extents, without a record
abbrev pub with_new_set : VolumeState → List Extent → SetKey → Option ℕ → VolumeState
with_new_set v list key expires = record {
  tracks = marked InSet list v.tracks;
  sets = insert v.sets key (record { extents = record { items = list }; expires = expires; records = [] });
}

-- a set was made of so many free tracks
abbrev pub MakesSet : VolumeState → SetKey → ℕ → Option ℕ → VolumeState → Type 0
MakesSet old key n expires new =
    (list : List Extent) × (planned (free_extents old.tracks) n ≡ Some list) × (new ≡ with_new_set old list key expires)

-- a set was scratched: its tracks are free
abbrev pub Scratches : VolumeState → SetKey → VolumeState → Type 0
Scratches old key new = (entry : SetEntry) × (get old.sets key ≡ Some entry)
    × (new ≡ record {
      tracks = marked Free entry.extents.items old.tracks;
      sets = remove old.sets key;
    })
    × Moves InSet Free (tracks_in entry.extents.items) old.tracks new.tracks

-- a set was cut to so many tracks: those past them are free
abbrev pub Trims : VolumeState → SetKey → ℕ → VolumeState → Type 0
Trims old key n new = (entry : SetEntry) × (get old.sets key ≡ Some entry)
    × (new ≡ record {
      tracks = marked Free (past_front n entry.extents.items) old.tracks;
      sets = changed old.sets key (with_extents (kept_front n));
    })
    × Moves InSet Free (tracks_past n entry.extents.items) old.tracks new.tracks

-- a volume with the records of a set changed
abbrev pub with_records_at : VolumeState → SetKey → (List (List ℕ) → List (List ℕ)) → VolumeState
with_records_at v key change = record v { sets = changed v.sets key (with_records change) }

-- extents and more after them, sixteen at most
abbrev pub AreJoined : List Extent → List Extent → List Extent → Type 0
AreJoined extents more all = (length extents + length more ≤ 16) × (all ≡ extents ++ more)

-- how many tracks are of a kind once so many of one kind are of another
abbrev pub shifted_count : TrackCounts → Track → Track → ℕ → Track → ℕ
shifted_count counts from to n other =
    count_in counts other - (if is_kind other from then n else 0) + (if is_kind other to then n else 0)
