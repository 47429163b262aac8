-- Tracks that are marked anew stay usable.
use Rattle.std.proofs.Common.{◌≡◌, ◌<◌, ◌≤◌, ℕ, false, List, Some, refl, sym, ap, ◌∙◌, arith, ⊎_elim}
use Rattle.std.proofs.lemmas.Bool.{cases_lt}
use Rattle.std.specs.Option.{option_map}
use Rattle.extent_core.specs.declared.extent.Extent.{Extent}
use Rattle.vtoc_core.specs.declared.volume.Track.{Track}
use Rattle.vtoc_core.specs.Volumes.{AreOf, marked, times_in}
use Rattle.vtoc_core.proofs.KindLemmas.{marked_in, marked_not_in}
use Rattle.mount_core.specs.Mounts.{is_unusable, unusable_at}

-- tracks that were of one kind are of another, and none that is never free is among them
pub same_use : (kind from : Track) (list : List Extent) (tracks : List Track) → is_unusable kind ≡ false → is_unusable from ≡ false →
    AreOf from tracks list → (n : ℕ) → unusable_at (marked kind list tracks) n ≡ unusable_at tracks n
same_use kind from list tracks u v are n =
    ⊎_elim
    (λ (p : 0 < times_in n list).
    ap (option_map is_unusable) (marked_in kind list tracks n from (are.kinds n p) p)
    ∙ ap Some (u ∙ sym v)
    ∙ sym (ap (option_map is_unusable) (are.kinds n p)))
    (λ (p : times_in n list ≤ 0). ap (option_map is_unusable) (marked_not_in kind list tracks n (omega (arith, p))))
    (cases_lt 0 (times_in n list))
