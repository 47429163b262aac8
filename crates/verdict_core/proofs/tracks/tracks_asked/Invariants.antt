use Rattle.std.proofs.Common.{◌≡◌, take}
use Rattle.world_meaning.specs.Admissions.{tracks_asked}
use Rattle.verdict_core.proofs.tracks.tracks_asked.Given as goal

abbrev pub invariant-loop-place : goal.invariant-loop-place
invariant-loop-place l = l.tracks ≡ tracks_asked l.plan (take l.place-index l.places)
