use Rattle.std.proofs.Common.{ap}
use Rattle.std.specs.FinMap.{empty}
use Rattle.vtoc_core.specs.Entries.{sets_of}
use Rattle.vtoc_core.specs.Volumes.{first_tracks}
use Rattle.vtoc_core.proofs.SoundLemmas.{sound_as, sound_first}
use Rattle.vtoc_core.proofs.volume.Volume.new.Goals as goal

pub invariant_of-result : goal.invariant_of-result
invariant_of-result c =
    sound_as (first_tracks c.args.tracks c.args.unusable.now) c.in_ok-new.field-0 empty (sets_of c.new-2.result.entries) c.in_ok-new.ensures
    (ap sets_of c.new-2.ensures.empty)
    (sound_first c.args.tracks c.args.unusable.now c.requires)
