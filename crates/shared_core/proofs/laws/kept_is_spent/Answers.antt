use Rattle.std.proofs.Common.{ℕ, List, Option, not, refl, ap, ◌∙◌}
use Rattle.std.specs.List.{list_any}
use Rattle.world_meaning.specs.Tracks.{is_kept_for}
use Rattle.extent_core.specs.declared.extent.Extent.{Extent}
use Rattle.mount_core.specs.declared.place.KeptPlace.{KeptPlace}
use Rattle.shared_core.specs.Shown.{kept_extents, mounted_in}
use Rattle.shared_core.proofs.Showing.{is_made, part_shown, without-kept}
use Rattle.shared_core.proofs.laws.kept_is_spent.Goals as goal

pub returns : goal.returns
returns c = λ job places old new h i serial.
    part_shown (λ at. not (is_made job places serial at)) (λ k. not (list_any (λ p. is_kept_for job p serial k) places)) (λ e. refl)
    (mounted_in old.volumes serial) (mounted_in new.volumes serial)
    (λ at. ap (λ (kept : List ℕ → KeptPlace → Option (List Extent)). kept serial at) h ∙ without-kept job places (λ s a. kept_extents (mounted_in old.volumes s) a) serial at) i
