-- What is set aside set by set is given back in the other order.
use Rattle.std.proofs.Common.{◌≡◌, ◌≢◌, ℕ, ◌+◌, ◌<◌, ◌≤◌, List, [], ◌∷◌, ◌++◌, Option, Some, None, refl, sym, ap, ◌∙◌, arith, append-nil, inl, inr, ⊎_elim}
use Rattle.jcl_meaning.specs.declared.state.Place.{Place}
use Rattle.mount_core.specs.declared.place.KeptPlace.{KeptPlace}
use Rattle.mount_core.specs.Mounts.{MountedState}
use Rattle.shared_core.specs.Rooms.{kept_place}
use Rattle.shared_core.specs.Shown.{kept_extents}
use Rattle.place_core.specs.Placings.{IsAhead, IsClearFrom, spot}
use Rattle.place_core.specs.Volumes.{IsClear, all_back, aside_at, aside_on, back_on, changed_on}
use Rattle.place_core.proofs.KeptAside.{aside_back, others_stay, serial_stays}
use Rattle.place_core.proofs.Changing.{kept_alike, undone}

-- one set more
pub all_back-push : (job : ℕ) (places : List Place) (p : Place) (volumes : List MountedState) →
    all_back job (places ++ p ∷ []) volumes ≡ all_back job places (changed_on (back_on (kept_place job p)) p.serial volumes)
all_back-push job [] p volumes = refl
all_back-push job (q ∷ places) p volumes = ap (changed_on (back_on (kept_place job q)) q.serial) (all_back-push job places p volumes)

-- what is set aside on a volume where nothing is at the place
pub aside_undone : (volumes : List MountedState) (at : KeptPlace) (n : ℕ) (serial : List ℕ) → IsClear volumes at →
    changed_on (back_on at) serial (changed_on (aside_on at n) serial volumes) ≡ volumes
aside_undone volumes at n serial clear =
    undone (aside_on at n) (back_on at) serial (serial_stays at n) volumes
    (λ x e. aside_back at n x (sym (ap (λ o. kept_extents o at) e) ∙ clear serial))

pub spot_undone : (job step dd n : ℕ) (o : Option (List ℕ)) (places : List Place) (volumes : List MountedState) →
    IsClear volumes (record { job = job; step = step; dd = dd }) →
    all_back job (places ++ spot o (record { job = job; step = step; dd = dd })) (aside_at o (record { job = job; step = step; dd = dd }) n volumes)
    ≡ all_back job places volumes
spot_undone job step dd n None places volumes clear = ap (λ ps. all_back job ps volumes) (append-nil places)
spot_undone job step dd n (Some serial) places volumes clear =
    let at : KeptPlace = record { job = job; step = step; dd = dd } in
    all_back-push job places (record { step = step; dd = dd; serial = serial }) (changed_on (aside_on at n) serial volumes)
    ∙ ap (all_back job places) (aside_undone volumes at n serial clear)

-- what is ahead stays clear
ahead_more : (job step dd : ℕ) (at : KeptPlace) → IsAhead job step (dd + 1) at → IsAhead job step dd at
ahead_more job step dd at h = (h.0, ⊎_elim (λ (p : step < at.step). inl p) (λ (p : (at.step ≡ step) × (dd + 1 ≤ at.dd)). inr (p.0, omega (arith, p.1))) h.1)

ahead_differs : (job step dd : ℕ) (at : KeptPlace) → IsAhead job step (dd + 1) at → at ≢ record { job = job; step = step; dd = dd }
ahead_differs job step dd at h e =
    let s : at.step ≡ step = ap (λ (k : KeptPlace). k.step) e in
    let d : at.dd ≡ dd = ap (λ (k : KeptPlace). k.dd) e in
    ⊎_elim (λ (p : step < at.step). omega (arith, p, s)) (λ (p : (at.step ≡ step) × (dd + 1 ≤ at.dd)). omega (arith, p.1, d)) h.1

pub clear_more : (job step dd n : ℕ) (o : Option (List ℕ)) (volumes : List MountedState) → IsClearFrom volumes job step dd →
    IsClearFrom (aside_at o (record { job = job; step = step; dd = dd }) n volumes) job step (dd + 1)
clear_more job step dd n None volumes clear v at h = clear v at (ahead_more job step dd at h)
clear_more job step dd n (Some serial) volumes clear v at h =
    let here : KeptPlace = record { job = job; step = step; dd = dd } in
    kept_alike (aside_on here n) serial at (serial_stays here n) (λ m. others_stay here n m at (ahead_differs job step dd at h)) v volumes
    ∙ clear v at (ahead_more job step dd at h)

pub clear_here : (volumes : List MountedState) (job step dd : ℕ) → IsClearFrom volumes job step dd → IsClear volumes (record { job = job; step = step; dd = dd })
clear_here volumes job step dd clear v = clear v (record { job = job; step = step; dd = dd }) (refl, inr (refl, omega (arith)))
