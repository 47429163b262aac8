-- The extents of each set behind an event.
use Rattle.std.proofs.Common.{◌≡◌, ◌⊎◌, List, Option, Some, None, refl, sym, ap, ◌∙◌, inl, inr}
use Rattle.std.specs.FinMap.{get}
use Rattle.extent_core.specs.declared.extent.Extent.{Extent}
use Rattle.vtoc_core.specs.Extents.{free_extents, planned, tracks_in}
use Rattle.vtoc_core.specs.Volumes.{empty_among}
use Rattle.mount_core.specs.Mounts.{MountedState}
use Rattle.shared_core.specs.Extents.{Follows, IsFront, IsGrown, IsMadeOf, StaysKept}
use Rattle.mount_core.specs.declared.place.KeptPlace.{KeptPlace}
use Rattle.next_laws.proofs.Fronts.{behind, front_is, grown_is, or_none}
use Rattle.next_laws.proofs.Keeping.{gone_or_same}

module _ (old one other : MountedState) (same : one.kept ≡ other.kept) (stay : (at : KeptPlace) → StaysKept (get old.kept at) (get one.kept at)) where
  abbrev free : List Extent
  free = free_extents old.volume.tracks

  -- of one that is made
  made_so : (list list_too : List Extent) → IsMadeOf (Some old) (Some one) list → IsMadeOf (Some old) (Some other) list_too →
      tracks_in list ≡ tracks_in list_too → list ≡ list_too
  made_so list list_too made made_too size =
      elim (gone_or_same old.kept one.kept stay) [
        | inl gone ↦ made.kept gone.at gone.extents gone.was gone.is
            ∙ sym (made_too.kept gone.at gone.extents gone.was (sym (ap (λ k. get k gone.at) same) ∙ gone.is))
        | inr all ↦
            ap or_none (sym (made.free all) ∙ ap (planned free) size ∙ made_too.free (λ at. sym (ap (λ k. get k at) same) ∙ all at))
      ]

  pub follow_so : (before : Option (List Extent)) → ((list : List Extent) → before ≡ Some list → empty_among list ≡ 0) → (list list_too : List Extent) →
      Follows (Some old) (Some one) before (Some list) → Follows (Some old) (Some other) before (Some list_too) → tracks_in list ≡ tracks_in list_too →
      list ≡ list_too
  follow_so None none list list_too made made_too size = made_so list list_too made made_too size
  follow_so (Some es) none list list_too so so_too size = known list so ∙ ap (behind free es) size ∙ sym (known list_too so_too)
    where
      known : (l : List Extent) → IsFront es l ⊎ IsGrown free es l → l ≡ behind free es (tracks_in l)
      known l follows =
          elim follows [
            | inl front ↦ front_is free es l (none es refl) front
            | inr grown ↦ grown_is free es l (none es refl) grown
          ]
