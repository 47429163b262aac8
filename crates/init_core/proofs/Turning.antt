-- What a turn leaves of the store of all jobs.
use Rattle.std.proofs.Common.{◌≡◌, ◌≤◌, ℕ, List, Option, None, Some, length, map, arith}
use Rattle.jcl_meaning.specs.declared.state.Place.{Place}
use Rattle.disp_core.specs.Grants.{made_of}
use Rattle.shared_core.specs.Laws.{KeptIsSpent, SetsOfOthersStay, TakingFollows, TracksAreConserved}
use Rattle.shared_core.specs.Rooms.{Take, others_of, room_of}
use Rattle.shared_core.specs.Tracks.{VolumesAddUp}
use Rattle.shared_core.specs.declared.store.SharedStore.{SharedStore}
use Rattle.turn_core.specs.Turning.{made_in}
use Rattle.turn_core.specs.declared.walk.Turned.{Turned}
use Rattle.init_core.specs.Turning.{IsWritten}
use Rattle.init_core.proofs.Serials.{same_serials}

one_made : (made : Option Place) → length (made_of made) ≤ 1
one_made None = omega arith
one_made (Some place) = omega arith

module _ (job : ℕ) (old new : SharedStore) (sets : SetsOfOthersStay) (spends : KeptIsSpent) (conserved : TracksAreConserved) (follows : TakingFollows)
    (before : VolumesAddUp old) (behind : VolumesAddUp new) where
  written : (made : List Place) → length made ≤ 1 → Take job made (others_of job old) (others_of job new) → IsWritten job made old new
  written made few rest =
      let rooms : map room_of new.volumes ≡ map room_of old.volumes = rest.rooms in
      record {
        world = sets job old new rest.set;
        kept = spends job made old new rest.kept;
        volumes = same_serials old.volumes new.volumes rooms;
        conserves = conserved old new before behind rooms;
        extents = follows job made old new few rest;
      }

  pub written_by : (told : Turned) → Take job (made_of (made_in told)) (others_of job old) (others_of job new) → IsWritten job (made_of (made_in told)) old new
  written_by told rest = written (made_of (made_in told)) (one_made (made_in told)) rest
