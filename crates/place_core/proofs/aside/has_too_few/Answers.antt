use Rattle.std.proofs.Common.{◌≡◌, ◌<◌, ap, ◌∙◌, arith}
use Rattle.std.proofs.lemmas.Bool.{ltb-true}
use Rattle.vtoc_core.specs.declared.volume.Track.TheVariants.{Free}
use Rattle.vtoc_core.specs.Volumes.{VolumeState, count_of}
use Rattle.place_core.proofs.Few.{few_lack_room}
use Rattle.place_core.proofs.aside.has_too_few.Goals as goal

pub returns : goal.returns
returns c = λ fewer.
    let free : c.track_counts.result.free ≡ count_of Free c.args.m.now.volume.tracks =
    c.track_counts.ensures.free ∙ ap (λ (v : VolumeState). count_of Free v.tracks) c.volume.ensures in
    let less : c.track_counts.result.free < c.from.result = ltb-true c.track_counts.result.free c.from.result fewer in
    few_lack_room c.args.m.now c.args.tracks (omega (arith, less, free, c.from.ensures))
