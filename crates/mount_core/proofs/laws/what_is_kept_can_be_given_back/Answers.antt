use Rattle.std.proofs.Common.{◌≡◌, ap, ◌∙◌}
use Rattle.vtoc_core.specs.Volumes.{marked}
use Rattle.vtoc_core.specs.declared.volume.Track.TheVariants.{Aside, Free}
use Rattle.vtoc_core.proofs.KindLemmas.{marked_back}
use Rattle.vtoc_core.proofs.PlanLemmas.{planned_is}
use Rattle.mount_core.specs.Mounts.{kept_given_back, kept_for}
use Rattle.mount_core.proofs.KeptMaps.{get_inserted, remove-insert}
use Rattle.mount_core.proofs.laws.what_is_kept_can_be_given_back.Goals as goal

pub returns : goal.returns
returns c = λ m place n list none plan.
    let tracks : marked Free list (marked Aside list m.volume.tracks) ≡ m.volume.tracks = marked_back Aside Free list m.volume.tracks (planned_is m.volume.tracks n list plan).free in
    ap (λ o. kept_given_back o (kept_for m place list) place) (get_inserted m.kept place list)
    ∙ (λ i. record { serial = m.serial; volume = record { tracks = tracks i; sets = m.volume.sets }; kept = remove-insert m.kept place list none i })
