-- Sets are placed among the volumes that are configured for them.
use Rattle.std.proofs.Common.{◌≡◌, ℕ, suc, ◌+◌, ◌==◌, Bool, true, false, cond, List, [], ◌∷◌, ◌++◌, Some, refl, sym, ap, subst, ◌∙◌, append_assoc, append-nil, arith}
use Rattle.std.specs.List.{Contains}
use Rattle.jcl_plan.specs.declared.plan.DdKind.{DdKind}
use Rattle.jcl_plan.specs.declared.plan.DdKind.TheVariants.{Cards, Dummy, Set, Sysout}
use Rattle.jcl_plan.specs.declared.plan.DdPlan.{DdPlan}
use Rattle.jcl_plan.specs.declared.plan.JobPlan.{JobPlan}
use Rattle.jcl_plan.specs.declared.plan.SetPlan.{SetPlan}
use Rattle.jcl_plan.specs.declared.plan.StepPlan.{StepPlan}
use Rattle.jcl_plan.specs.declared.plan.VolumePlan.{VolumePlan}
use Rattle.jcl_plan.specs.declared.plan.VolumePlan.TheVariants as volume
use Rattle.jcl_meaning.specs.declared.state.Place.{Place}
use Rattle.world_meaning.specs.Admissions.{primary_asked}
use Rattle.world_meaning.specs.Placements.{ArePlaces, PlacedAmong, PlacedBy, PlacedDd, PlacedDds, PlacedIf, PlacedSteps, among, nowhere, places, unit_volumes}
use Rattle.world_meaning.specs.Worlds.{Config}
use Rattle.mount_core.specs.declared.place.KeptPlace.{KeptPlace}
use Rattle.mount_core.specs.Mounts.{MountedState}
use Rattle.shared_core.specs.Shown.{mounted_in}
use Rattle.place_core.specs.Placings.{Placing, candidates, chosen, first_with_room, placed, placed_dd, placed_dds, placed_steps, serials_of, spot, volumes_for}
use Rattle.place_core.specs.Volumes.{has_room}

-- the volume that is chosen is one of those
at_head : (x : List ℕ) (xs : List (List ℕ)) → Contains (x ∷ xs) x
at_head x xs = (0, omega (arith), refl)

behind_head : (y x : List ℕ) (xs : List (List ℕ)) → Contains xs x → Contains (y ∷ xs) x
behind_head y x xs c = (suc c.0, omega (arith, c.1), c.2)

module _ (volumes : List MountedState) (n : ℕ) (all : List (List ℕ)) where
  either : (b : Bool) (s t : List ℕ) → Contains all s → Contains all t → Contains all (cond b s t)
  either true s t h k = h
  either false s t h k = k

  first_among : (other : List ℕ) (serials : List (List ℕ)) → Contains all other → ((s : List ℕ) → Contains serials s → Contains all s) →
      Contains all (first_with_room volumes n other serials)
  first_among other [] h sub = h
  first_among other (s ∷ serials) h sub =
      either (has_room n (mounted_in volumes s)) s (first_with_room volumes n other serials) (sub s (at_head s serials))
      (first_among other serials h (λ t c. sub t (behind_head s t serials c)))

same_either : (b : Bool) (s t : List ℕ) → t ≡ s → cond b s t ≡ s
same_either true s t e = refl
same_either false s t e = e

module _ (volumes : List MountedState) (n job step dd : ℕ) where
  abbrev here : KeptPlace
  here = record { job = job; step = step; dd = dd }

  chosen_of : (listed : List (List ℕ)) → PlacedAmong listed step dd (spot (chosen volumes n listed) here)
  chosen_of [] = nowhere refl refl
  chosen_of (first ∷ serials) =
      let it = cond (n == 0) first (first_with_room volumes n first (first ∷ serials)) in
      among it
      (either volumes n (first ∷ serials) (n == 0) first (first_with_room volumes n first (first ∷ serials)) (at_head first serials)
      (first_among volumes n (first ∷ serials) first (first ∷ serials) (at_head first serials) (λ s c. c)))
      refl

  coded : (serial : List ℕ) → chosen volumes n (serial ∷ []) ≡ Some serial
  coded serial = ap Some (same_either (n == 0) serial (first_with_room volumes n serial (serial ∷ []))
      (same_either (has_room n (mounted_in volumes serial)) serial serial refl))

  by_volume : (v : VolumePlan) (listed : List (List ℕ)) → PlacedBy v listed step dd (spot (chosen volumes n (candidates v listed)) here)
  by_volume volume.NotCoded listed = chosen_of listed
  by_volume (volume.Serial serial) listed = ap (λ o. spot o here) (coded serial)
  by_volume (volume.OfName name) listed = refl
  by_volume (volume.OfDd s d) listed = refl

  by_status : (c : Config) (p : SetPlan) (b : Bool) → PlacedIf b c step dd p (spot (chosen volumes n (cond b (candidates p.volume (unit_volumes c.volumes c.units p.units)) [])) here)
  by_status c p true = by_volume p.volume (unit_volumes c.volumes c.units p.units)
  by_status c p false = refl

one_dd : (c : Config) (volumes : List MountedState) (job step dd : ℕ) (kind : DdKind) →
    PlacedDd c step dd kind (spot (chosen volumes (primary_asked (Some kind)) (volumes_for c.volumes c.units kind)) (record { job = job; step = step; dd = dd }))
one_dd c volumes job step dd (Sysout class) = refl
one_dd c volumes job step dd Dummy = refl
one_dd c volumes job step dd (Cards cards) = refl
one_dd c volumes job step dd (Set p) = by_status volumes (primary_asked (Some (Set p))) job step dd c p (places p.status p.volume)

-- what is placed more
module _ (c : Config) (job : ℕ) where
  abbrev MoreDds : ℕ → ℕ → List DdPlan → Placing → Type 0
  MoreDds step dd ds p = (more : List Place) × ((placed_dds c.volumes c.units job step dd ds p).places ≡ p.places ++ more) × PlacedDds c step dd ds more

  more_dds : (step dd : ℕ) (ds : List DdPlan) (p : Placing) → MoreDds step dd ds p
  more_dds step dd [] p = ([], sym (append-nil p.places), refl)
  more_dds step dd (d ∷ ds) p =
      let at : KeptPlace = record { job = job; step = step; dd = dd } in
      let spots : List Place = spot (chosen p.volumes (primary_asked (Some d.kind)) (volumes_for c.volumes c.units d.kind)) at in
      let m : MoreDds step (dd + 1) ds (placed_dd c.volumes c.units at d.kind p) = more_dds step (dd + 1) ds (placed_dd c.volumes c.units at d.kind p) in
      (spots ++ m.0, m.1 ∙ append_assoc p.places spots m.0, (spots, m.0, refl, one_dd c p.volumes job step dd d.kind, m.2))

  abbrev MoreSteps : ℕ → List StepPlan → Placing → Type 0
  MoreSteps n steps p = (more : List Place) × ((placed_steps c.volumes c.units job n steps p).places ≡ p.places ++ more) × PlacedSteps c n steps more

  more_steps : (n : ℕ) (steps : List StepPlan) (p : Placing) → MoreSteps n steps p
  more_steps n [] p = ([], sym (append-nil p.places), refl)
  more_steps n (step ∷ steps) p =
      let d : MoreDds n 1 step.dds p = more_dds n 1 step.dds p in
      let q : Placing = placed_dds c.volumes c.units job n 1 step.dds p in
      let m : MoreSteps (n + 1) steps q = more_steps (n + 1) steps q in
      (d.0 ++ m.0, m.1 ∙ ap (λ places. places ++ m.0) d.1 ∙ append_assoc p.places d.0 m.0, (d.0, m.0, refl, d.2, m.2))

pub are_places : (c : Config) (volumes : List MountedState) (job : ℕ) (plan : JobPlan) → c.volumes ≡ serials_of volumes → ArePlaces c plan (placed volumes c.units job plan)
are_places c volumes job plan e =
    let m = more_steps c job 1 plan.steps (record { volumes = volumes; places = [] }) in
    let is : placed volumes c.units job plan ≡ m.0 =
    sym (ap (λ all. (placed_steps all c.units job 1 plan.steps (record { volumes = volumes; places = [] })).places) e) ∙ m.1 in
    subst (ArePlaces c plan) (sym is) m.2
