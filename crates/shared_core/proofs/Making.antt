-- A set made on a mounted volume: of the tracks that are kept for it, or of free ones.
use Rattle.std.proofs.Common.{◌≡◌, ℕ, ◌==◌, ◌&&◌, Bool, true, false, cond, List, [], Option, Some, None, refl, sym, ap, subst, ◌∙◌}
use Rattle.std.specs.FinMap.{get, get-remove, remove}
use Rattle.std.specs.Ordering.{eq_by_cmp}
use Rattle.std.proofs.lemmas.Bool.{and_parts, and_from, eqb-true, eq-eqb}
use Rattle.std.proofs.lemmas.Cmp.{eq_by_cmp_equiv}
use Rattle.extent_core.specs.declared.extent.Extent.{Extent}
use Rattle.vtoc_core.specs.declared.entry.SetEntry.{SetEntry}
use Rattle.vtoc_core.specs.declared.entry.SetKey.{SetKey}
use Rattle.vtoc_core.specs.Extents.{tracks_in}
use Rattle.store_core.specs.Actions.{new_set_of}
use Rattle.mount_core.specs.declared.place.KeptPlace.{KeptPlace}
use Rattle.mount_core.specs.Kept.{Kept, place_cmp}
use Rattle.mount_core.specs.Mounts.{MountedState, WasMade, holds}
use Rattle.mount_core.proofs.KeptMaps.{tied_equal}
use Rattle.mount_core.proofs.Places.{place_total}
use Rattle.shared_core.specs.Rooms.{holds_new, is_same_place}
use Rattle.shared_core.specs.Writes.{KeepsOthersOn, WritesOn}
use Rattle.shared_core.proofs.Written.{put_on, taken_all, used_all}

pub same_place-true : (a b : KeptPlace) → is_same_place a b ≡ true → a ≡ b
same_place-true a b h =
    let p : (((a.job == b.job) && (a.step == b.step)) ≡ true) × ((a.dd == b.dd) ≡ true) = and_parts (a.job == b.job && a.step == b.step) (a.dd == b.dd) h in
    let q : ((a.job == b.job) ≡ true) × ((a.step == b.step) ≡ true) = and_parts (a.job == b.job) (a.step == b.step) p.0 in
    let i : a.job ≡ b.job = eqb-true a.job b.job q.0 in
    let s : a.step ≡ b.step = eqb-true a.step b.step q.1 in
    let d : a.dd ≡ b.dd = eqb-true a.dd b.dd p.1 in
    λ k. record { job = i k; step = s k; dd = d k }

pub same_place-refl : (a : KeptPlace) → is_same_place a a ≡ true
same_place-refl a =
    and_from (a.job == a.job && a.step == a.step) (a.dd == a.dd)
    (and_from (a.job == a.job) (a.step == a.step) (eq-eqb a.job a.job refl) (eq-eqb a.step a.step refl)) (eq-eqb a.dd a.dd refl)

-- the order tells two places apart exactly where they differ
both : (x y : Bool) → (x ≡ true → y ≡ true) → (y ≡ true → x ≡ true) → x ≡ y
both true true f g = refl
both true false f g = sym (f refl)
both false true f g = g refl
both false false f g = refl

pub same_in_order : (at place : KeptPlace) → eq_by_cmp place_cmp at place ≡ is_same_place at place
same_in_order at place =
    both (eq_by_cmp place_cmp at place) (is_same_place at place)
    (λ h. subst (λ p. is_same_place at p ≡ true) (tied_equal at place h) (same_place-refl at))
    (λ h. subst (λ p. eq_by_cmp place_cmp at p ≡ true) (same_place-true at place h) ((eq_by_cmp_equiv place_total).refl at))

-- one list is taken out
pub list_gone : (kept : Kept) (place at : KeptPlace) → get (remove kept place) at ≡ cond (is_same_place at place) None (get kept at)
list_gone kept place at = get-remove place_total kept place at ∙ ap (λ b. cond b None (get kept at)) (same_in_order at place)

-- where none is kept, none is used up
none_used : (b : Bool) (x y : Option (List Extent)) → (b ≡ true → x ≡ None) → x ≡ cond b None x
none_used true x y h = h refl
none_used false x y h = refl

module _ (old new : MountedState) (place : KeptPlace) (key : SetKey) (n : ℕ) (expires : Option ℕ) where
  abbrev entry_of : List Extent → SetEntry
  entry_of list = record { extents = record { items = list }; expires = expires; records = [] }

  abbrev Made : Type 0
  Made = WritesOn old new key (Some (new_set_of n expires)) × KeepsOthersOn old new place × (holds_new (Some key) (Some old) place n ≡ true)

  sized : (list : List Extent) → tracks_in list ≡ n → WritesOn old new key (Some (new_set_of (tracks_in list) expires)) → WritesOn old new key (Some (new_set_of n expires))
  sized list s w = subst (λ k. WritesOn old new key (Some (new_set_of k expires))) s w

  pub made_by : (o : Option (List Extent)) → get old.kept place ≡ o → WasMade o old place key n expires new → holds o old.volume n ≡ true → Made
  made_by None e w g = (
    sized w.0 w.2 (put_on old new key (ap (λ (m : MountedState). m.serial) w.3) (taken_all _ _ _ w.4) (entry_of w.0) (ap (λ (m : MountedState). m.volume.sets) w.3)),
    λ at. ap (λ (m : MountedState). get m.kept at) w.3
        ∙ none_used (is_same_place at place) (get old.kept at) None (λ h. ap (get old.kept) (same_place-true at place h) ∙ e),
    ap (λ o. holds o old.volume n) e ∙ g,
  )
  made_by (Some list) e w g = (
    sized list w.0 (put_on old new key (ap (λ (m : MountedState). m.serial) w.1) (used_all _ _ _ w.2) (entry_of list) (ap (λ (m : MountedState). m.volume.sets) w.1)),
    λ at. ap (λ (m : MountedState). get m.kept at) w.1 ∙ list_gone old.kept place at,
    ap (λ o. holds o old.volume n) e ∙ g,
  )
