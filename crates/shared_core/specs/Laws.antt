-- What holds between two stores of all jobs.
use Rattle.std.specs.Prelude.{◌≡◌, ◌≤◌, ℕ, List, [], length, map}
use Rattle.jcl_meaning.specs.declared.state.Place.{Place}
use Rattle.world_meaning.specs.Lenses.{put_back, seen}
use Rattle.world_meaning.specs.Tracks.{kept_unless_made}
use Rattle.shared_core.specs.declared.store.SharedStore.{SharedStore}
use Rattle.shared_core.specs.Rooms.{Take, others_of, room_of, without_kept}
use Rattle.shared_core.specs.Extents.{FollowOn}
use Rattle.shared_core.specs.Shown.{mounted_in, world_store_of}
use Rattle.shared_core.specs.Tracks.{ConservesTracks, NothingKept, VolumesAddUp, kept_shown}

-- where nothing changed that a job does not see, it wrote what it sees
abbrev pub JobWritesWhatItSees : Type 0
JobWritesWhatItSees = (job : ℕ) (old new : SharedStore) → others_of job new ≡ others_of job old →
    world_store_of new ≡ put_back job (world_store_of old) (seen job (world_store_of new))

-- where the sets that others alone see are as before, a job wrote what it sees
abbrev pub SetsOfOthersStay : Type 0
SetsOfOthersStay = (job : ℕ) (old new : SharedStore) → (others_of job new).set ≡ (others_of job old).set →
    world_store_of new ≡ put_back job (world_store_of old) (seen job (world_store_of new))

-- a job that makes sets uses up what was kept for them
abbrev pub KeptIsSpent : Type 0
KeptIsSpent = (job : ℕ) (places : List Place) (old new : SharedStore) → (others_of job new).kept ≡ without_kept job places (others_of job old).kept →
    kept_shown new.volumes ≡ kept_unless_made (kept_shown old.volumes) job places

-- what becomes of the extents of all volumes
abbrev pub Follow : SharedStore → SharedStore → Type 0
Follow old new = (serial : List ℕ) → FollowOn (mounted_in old.volumes serial) (mounted_in new.volumes serial)

-- where a job takes tracks, for one set that it makes at most
abbrev pub TakingFollows : Type 0
TakingFollows = (job : ℕ) (places : List Place) (old new : SharedStore) → length places ≤ 1 → Take job places (others_of job old) (others_of job new) → Follow old new

-- where nothing is kept nothing is shown
abbrev pub NothingIsShown : Type 0
NothingIsShown = (s : SharedStore) → NothingKept s → (serial : List ℕ) → kept_shown s.volumes serial ≡ []

-- Between two stores whose volumes have as many tracks for sets each volume's tracks are conserved.
abbrev pub TracksAreConserved : Type 0
TracksAreConserved = (old new : SharedStore) → VolumesAddUp old → VolumesAddUp new → map room_of new.volumes ≡ map room_of old.volumes → ConservesTracks old new
