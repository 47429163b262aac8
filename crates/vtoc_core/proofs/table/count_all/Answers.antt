use Rattle.std.proofs.Common.{◌≡◌, List}
use Rattle.vtoc_core.specs.declared.volume.Track.{Track}
use Rattle.vtoc_core.specs.declared.volume.Track.TheVariants.{Free, Aside, InSet, Unusable}
use Rattle.vtoc_core.specs.declared.volume.TrackCounts.{TrackCounts}
use Rattle.vtoc_core.specs.Volumes.{count_in, count_of}
use Rattle.vtoc_core.proofs.table.count_all.Goals as goal

all_counted : (counts : TrackCounts) (ts : List Track) → counts.free ≡ count_of Free ts → counts.aside ≡ count_of Aside ts →
    counts.in_sets ≡ count_of InSet ts → counts.unusable ≡ count_of Unusable ts → (kind : Track) → count_in counts kind ≡ count_of kind ts
all_counted counts ts f a i u Free = f
all_counted counts ts f a i u Aside = a
all_counted counts ts f a i u InSet = i
all_counted counts ts f a i u Unusable = u

pub returns : goal.returns
returns c = all_counted _ c.args.tracks.now c.count_of.ensures c.count_of-2.ensures c.count_of-3.ensures c.count_of-4.ensures
