use Rattle.std.proofs.Common.{length, ap, ◌∙◌, arith}
use Rattle.vtoc_core.specs.declared.volume.Track.TheVariants.{Free, Aside, InSet, Unusable}
use Rattle.vtoc_core.specs.Volumes.{VolumeState, count_of}
use Rattle.vtoc_core.proofs.CountLemmas.{counts_sum}
use Rattle.vtoc_core.proofs.volume.Volume.track_counts.Goals as goal

pub returns-clause-free : goal.returns-clause-free
returns-clause-free c = c.counts.ensures.counted Free ∙ ap (λ (w : VolumeState). count_of Free w.tracks) c.self.view_is

pub returns-clause-aside : goal.returns-clause-aside
returns-clause-aside c = c.counts.ensures.counted Aside ∙ ap (λ (w : VolumeState). count_of Aside w.tracks) c.self.view_is

pub returns-clause-in_sets : goal.returns-clause-in_sets
returns-clause-in_sets c = c.counts.ensures.counted InSet ∙ ap (λ (w : VolumeState). count_of InSet w.tracks) c.self.view_is

pub returns-clause-unusable : goal.returns-clause-unusable
returns-clause-unusable c = c.counts.ensures.counted Unusable ∙ ap (λ (w : VolumeState). count_of Unusable w.tracks) c.self.view_is

pub returns-clause-sum : goal.returns-clause-sum
returns-clause-sum c =
    omega (
      arith,
      counts_sum c.self.inside.tracks,
      c.counts.ensures.counted Free,
      c.counts.ensures.counted Aside,
      c.counts.ensures.counted InSet,
      c.counts.ensures.counted Unusable,
      ap (λ (w : VolumeState). length w.tracks) c.self.view_is,
    )
