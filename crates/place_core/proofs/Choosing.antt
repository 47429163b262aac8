-- The first volume that has room.
use Rattle.std.proofs.Common.{◌≡◌, ℕ, zero, suc, ◌<◌, ◌==◌, true, false, cond, List, [], ◌∷◌, Option, Some, None, length, get_or, take, refl, sym, ap, ◌∙◌, arith}
use Rattle.std.specs.List.{All, slice_get}
use Rattle.std.proofs.lemmas.Bool.{eqb-true, false_from_ne_true}
use Rattle.std.proofs.lemmas.List.Elements.{All-head, All-tail}
use Rattle.mount_core.specs.declared.place.KeptPlace.{KeptPlace}
use Rattle.mount_core.specs.Mounts.{MountedState}
use Rattle.shared_core.specs.Shown.{mounted_in}
use Rattle.place_core.specs.Placings.{chosen, first_with_room}
use Rattle.place_core.specs.Volumes.{aside_at, aside_on, changed_on, has_room}
use Rattle.place_core.proofs.KeptAside.{not_aside}
use Rattle.place_core.proofs.Changing.{unchanged}

module _ (volumes : List MountedState) (n : ℕ) where
  abbrev pub LacksRoom : List ℕ → Type 0
  LacksRoom serial = has_room n (mounted_in volumes serial) ≡ false

  found_first : (other : List ℕ) (among : List (List ℕ)) (i : ℕ) (d : List ℕ) → i < length among → All LacksRoom (take i among) →
      has_room n (mounted_in volumes (get_or among i d)) ≡ true → first_with_room volumes n other among ≡ get_or among i d
  found_first other [] i d l a h = absurd (omega (arith, l))
  found_first other (s ∷ among) zero d l a h = ap (λ b. cond b s (first_with_room volumes n other among)) h
  found_first other (s ∷ among) (suc i) d l a h =
      ap (λ b. cond b s (first_with_room volumes n other among)) (All-head LacksRoom s (take i among) a)
      ∙ found_first other among i d (omega (arith, l)) (All-tail LacksRoom s (take i among) a) h

  none_found : (other : List ℕ) (among : List (List ℕ)) → All LacksRoom among → first_with_room volumes n other among ≡ other
  none_found other [] a = refl
  none_found other (s ∷ among) a =
      ap (λ b. cond b s (first_with_room volumes n other among)) (All-head LacksRoom s among a) ∙ none_found other among (All-tail LacksRoom s among a)

  not_zero : 0 < n → (n == 0) ≡ false
  not_zero l = false_from_ne_true (n == 0) (λ h. omega (arith, l, eqb-true n 0 h))

  pub chosen_at : 0 < n → (among : List (List ℕ)) (i : ℕ) (d : List ℕ) → i < length among → All LacksRoom (take i among) →
      has_room n (mounted_in volumes (get_or among i d)) ≡ true → chosen volumes n among ≡ Some (get_or among i d)
  chosen_at z [] i d l a h = absurd (omega (arith, l))
  chosen_at z (first ∷ among) i d l a h =
      ap (λ b. Some (cond b first (first_with_room volumes n first (first ∷ among)))) (not_zero z)
      ∙ ap Some (found_first first (first ∷ among) i d l a h)

  pub chosen_none : 0 < n → (among : List (List ℕ)) → All LacksRoom among → chosen volumes n among ≡ slice_get among 0
  chosen_none z [] a = refl
  chosen_none z (first ∷ among) a =
      ap (λ b. Some (cond b first (first_with_room volumes n first (first ∷ among)))) (not_zero z)
      ∙ ap Some (none_found first (first ∷ among) a)

  pub room_lacks : (at : KeptPlace) (serial : List ℕ) → LacksRoom serial → changed_on (aside_on at n) serial volumes ≡ volumes
  room_lacks at serial h = unchanged (aside_on at n) serial volumes (λ x e. not_aside at n x (sym (ap (has_room n) e) ∙ h))

  pub head_same : (at : KeptPlace) (among : List (List ℕ)) → All LacksRoom among → aside_at (slice_get among 0) at n volumes ≡ volumes
  head_same at [] a = refl
  head_same at (first ∷ among) a = room_lacks at first (All-head LacksRoom first among a)

-- where no tracks are asked for
pub chosen_zero : (volumes : List MountedState) (among : List (List ℕ)) → chosen volumes 0 among ≡ slice_get among 0
chosen_zero volumes [] = refl
chosen_zero volumes (first ∷ among) = refl

pub zero_same : (volumes : List MountedState) (at : KeptPlace) (o : Option (List ℕ)) → aside_at o at 0 volumes ≡ volumes
zero_same volumes at None = refl
zero_same volumes at (Some serial) = unchanged (aside_on at 0) serial volumes (λ x e. refl)
