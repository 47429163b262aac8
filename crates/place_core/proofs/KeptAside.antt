-- Tracks set aside on a volume: when it has room for them, and that they can be given back.
use Rattle.std.proofs.Common.{◌≡◌, ◌≢◌, ℕ, ◌<◌, ◌==◌, nat_le, Bool, true, false, cond, List, Option, Some, None, refl, ap, ◌∙◌, arith}
use Rattle.std.specs.FinMap.{get, get-insert}
use Rattle.std.specs.Ordering.{eq_by_cmp}
use Rattle.std.proofs.lemmas.Bool.{eqb-true, false_from_ne_true, le-leb, leb-false, leb-true}
use Rattle.extent_core.specs.declared.extent.Extent.{Extent}
use Rattle.vtoc_core.specs.declared.volume.Track.TheVariants.{Aside, Free}
use Rattle.vtoc_core.specs.Extents.{five_largest, free_extents, planned}
use Rattle.vtoc_core.specs.Volumes.{marked}
use Rattle.vtoc_core.proofs.KindLemmas.{marked_back}
use Rattle.vtoc_core.proofs.PlanLemmas.{planned_is, planned_some}
use Rattle.mount_core.specs.declared.place.KeptPlace.{KeptPlace}
use Rattle.mount_core.specs.Kept.{place_cmp}
use Rattle.mount_core.specs.Mounts.{MountedState, kept_given_back, kept_for}
use Rattle.mount_core.proofs.KeptMaps.{get_inserted, remove-insert, tied_equal}
use Rattle.mount_core.proofs.Places.{place_total}
use Rattle.place_core.specs.Keepings.{keep_on}
use Rattle.place_core.specs.Volumes.{aside_by, aside_on, back_on, has_room}

module _ (at : KeptPlace) (n : ℕ) (m : MountedState) where
  abbrev free_here : List Extent
  free_here = free_extents m.volume.tracks

  -- where there is no room for them nothing changes
  no_plan : (o : Option (List Extent)) → planned free_here n ≡ o → five_largest free_here < n → aside_by o at m ≡ m
  no_plan None p l = refl
  no_plan (Some list) p l = absurd (omega (arith, l, planned_some free_here n list p))

  -- tracks that are planned are kept
  pub keep_is : (list : List Extent) → planned free_here n ≡ Some list → keep_on at n m ≡ kept_for m at list
  keep_is list p = ap (λ o. aside_by o at m) p

  pub keep_not : five_largest free_here < n → keep_on at n m ≡ m
  keep_not l = no_plan (planned free_here n) refl l

  -- some tracks set aside are kept
  pub aside_keeps : 0 < n → aside_on at n m ≡ keep_on at n m
  aside_keeps l = ap (λ b. cond b m (aside_by (planned free_here n) at m)) (false_from_ne_true (n == 0) (λ h. omega (arith, l, eqb-true n 0 h)))

  pub room_is : (list : List Extent) → planned free_here n ≡ Some list → has_room n (Some m) ≡ true
  room_is list p = le-leb n (five_largest free_here) (planned_some free_here n list p)

  either : (b : Bool) (x : MountedState) → x ≡ m → cond b m x ≡ m
  either true x h = refl
  either false x h = h

  pub aside_not : five_largest free_here < n → aside_on at n m ≡ m
  aside_not l = either (n == 0) (aside_by (planned free_here n) at m) (no_plan (planned free_here n) refl l)

  pub room_not : five_largest free_here < n → has_room n (Some m) ≡ false
  room_not l = false_from_ne_true (nat_le n (five_largest free_here)) (λ h. omega (arith, l, leb-true n (five_largest free_here) h))

  pub not_aside : has_room n (Some m) ≡ false → aside_on at n m ≡ m
  not_aside h = aside_not (leb-false n (five_largest free_here) h)

  -- the serial stays
  serial_by : (o : Option (List Extent)) → (aside_by o at m).serial ≡ m.serial
  serial_by None = refl
  serial_by (Some list) = refl

  serial_if : (b : Bool) (x : MountedState) → x.serial ≡ m.serial → (cond b m x).serial ≡ m.serial
  serial_if true x h = refl
  serial_if false x h = h

  pub keep_serial : (keep_on at n m).serial ≡ m.serial
  keep_serial = serial_by (planned free_here n)

  pub serial_stays : (aside_on at n m).serial ≡ m.serial
  serial_stays = serial_if (n == 0) (aside_by (planned free_here n) at m) (serial_by (planned free_here n))

  -- what is set aside is given back
  abbrev Returns : MountedState → Type 0
  Returns x = back_on at x ≡ m

  nothing_back : get m.kept at ≡ None → Returns m
  nothing_back none = ap (λ o. kept_given_back o m at) none

  back_by : get m.kept at ≡ None → (o : Option (List Extent)) → planned free_here n ≡ o → Returns (aside_by o at m)
  back_by none None p = nothing_back none
  back_by none (Some list) p =
      let tracks : marked Free list (marked Aside list m.volume.tracks) ≡ m.volume.tracks =
      marked_back Aside Free list m.volume.tracks (planned_is m.volume.tracks n list p).free in
      ap (λ o. kept_given_back o (kept_for m at list) at) (get_inserted m.kept at list)
      ∙ (λ i. record { serial = m.serial; volume = record { tracks = tracks i; sets = m.volume.sets }; kept = remove-insert m.kept at list none i })

  pub keep_back : get m.kept at ≡ None → back_on at (keep_on at n m) ≡ m
  keep_back none = back_by none (planned free_here n) refl

  back_if : (b : Bool) (x : MountedState) → Returns m → Returns x → Returns (cond b m x)
  back_if true x h k = h
  back_if false x h k = k

  pub aside_back : get m.kept at ≡ None → back_on at (aside_on at n m) ≡ m
  aside_back none = back_if (n == 0) (aside_by (planned free_here n) at m) (nothing_back none) (back_by none (planned free_here n) refl)

  -- what is set aside for others stays
  module _ (other : KeptPlace) (differs : other ≢ at) where
    others_by : (o : Option (List Extent)) → get (aside_by o at m).kept other ≡ get m.kept other
    others_by None = refl
    others_by (Some list) =
        get-insert place_total m.kept at list other
        ∙ ap (λ b. cond b (Some list) (get m.kept other)) (false_from_ne_true (eq_by_cmp place_cmp other at) (λ h. differs (tied_equal other at h)))

    others_if : (b : Bool) (x : MountedState) → get x.kept other ≡ get m.kept other → get (cond b m x).kept other ≡ get m.kept other
    others_if true x h = refl
    others_if false x h = h

    pub others_stay : get (aside_on at n m).kept other ≡ get m.kept other
    others_stay = others_if (n == 0) (aside_by (planned free_here n) at m) (others_by (planned free_here n))
