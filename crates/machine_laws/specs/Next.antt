-- The volumes behind a step of the machine.
use Rattle.std.specs.Prelude.{◌≡◌}
use Rattle.plain.specs.Lists.{Differ}
use Rattle.shared_core.specs.Laws.{Follow}
use Rattle.sched_core.specs.Systems.{IsNext, IsWhole, Machine, world_of}

-- One machine and the next, where nothing is kept between them.
pub record IsNextWithoutKeeping (old new : Machine) : Type 0 where
  pub next : IsNext old new
  pub follow : Follow old.parts.store new.parts.store

-- Two machines that follow one so and show the same world have the same catalog and the same volumes, track by track.
abbrev pub NextVolumesAreDecided : Type 0
NextVolumesAreDecided = (old one other : Machine) → Differ old.config.volumes → IsWhole old → IsNextWithoutKeeping old one →
    IsNextWithoutKeeping old other → world_of one ≡ world_of other → one.parts.store ≡ other.parts.store
