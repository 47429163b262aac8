-- On new volumes nothing is kept.
use Rattle.std.proofs.Common.{◌≡◌, ℕ, Bool, true, false, cond, List, [], ◌∷◌, Option, Some, None, refl, ap, ◌∙◌}
use Rattle.std.specs.FinMap.{empty, get, get-empty}
use Rattle.std.specs.List.{All}
use Rattle.std.specs.Str.{bytes_eq}
use Rattle.std.proofs.lemmas.List.Elements.{All-head, All-tail}
use Rattle.mount_core.specs.declared.place.KeptPlace.{KeptPlace}
use Rattle.mount_core.specs.Kept.{Kept, place_cmp}
use Rattle.mount_core.specs.Mounts.{MountedState}
use Rattle.shared_core.specs.Shown.{kept_extents, mounted_in}

first_or : (at : KeptPlace) (b : Bool) (m : MountedState) (o : Option MountedState) → get m.kept at ≡ None → kept_extents o at ≡ None → kept_extents (cond b (Some m) o) at ≡ None
first_or at true m o h k = h
first_or at false m o h k = k

pub new_keep_nothing : (volumes : List MountedState) → All (λ (m : MountedState). m.kept ≡ empty) volumes → (serial : List ℕ) (at : KeptPlace) →
    kept_extents (mounted_in volumes serial) at ≡ None
new_keep_nothing [] a serial at = refl
new_keep_nothing (m ∷ ms) a serial at =
    first_or at (bytes_eq m.serial serial) m (mounted_in ms serial)
    (ap (λ (kept : Kept). get kept at) (All-head (λ (x : MountedState). x.kept ≡ empty) m ms a) ∙ get-empty place_cmp at)
    (new_keep_nothing ms (All-tail (λ (x : MountedState). x.kept ≡ empty) m ms a) serial at)
