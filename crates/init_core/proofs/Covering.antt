-- Where tracks are kept for all that a job may yet make, its store grants each primary.
use Rattle.std.proofs.Common.{◌≡◌, ℕ, ◌==◌, ◌&&◌, ◌||◌, Bool, true, false, List, [], ◌∷◌, All, Option, Some, None, map, refl, sym, ap, ◌∙◌}
use Rattle.std.specs.FinMap.{entries, get}
use Rattle.std.specs.List.{list_any}
use Rattle.std.specs.Str.{bytes_eq}
use Rattle.std.proofs.lemmas.Bool.{and_parts, eqb-true}
use Rattle.std.proofs.lemmas.List.Elements.{All-head, All-tail}
use Rattle.jname_core.specs.declared.key.Key.{Key}
use Rattle.jname_core.specs.declared.key.Key.TheVariants as key
use Rattle.extent_core.specs.declared.extent.Extent.{Extent}
use Rattle.vtoc_core.specs.Extents.{tracks_in}
use Rattle.jcl_plan.specs.declared.plan.JobPlan.{JobPlan}
use Rattle.jcl_meaning.specs.declared.names.HeldName.{HeldName}
use Rattle.jcl_meaning.specs.declared.state.Place.{Place}
use Rattle.part_laws.specs.Fits.{sees_set}
use Rattle.cb_meaning.specs.Writable.{kind_at}
use Rattle.world_meaning.specs.Admissions.{primary_asked}
use Rattle.world_meaning.specs.Lenses.{world_key}
use Rattle.world_meaning.specs.Tracks.{is_kept_for}
use Rattle.world_meaning.specs.Worlds.{Kept}
use Rattle.case_laws.specs.Cases.{HasTracks, is_asked}
use Rattle.mount_core.specs.declared.place.KeptPlace.{KeptPlace}
use Rattle.mount_core.specs.Mounts.{MountedState, holds}
use Rattle.mount_core.proofs.EntryLists.{each_entry}
use Rattle.shared_core.specs.Rooms.{holds_new, kept_place}
use Rattle.shared_core.specs.Tracks.{kept_entry, kept_tracks}

by_test : (R : Type 0) (q : Kept → Bool) (e : KeptPlace × List Extent) (es : List (KeptPlace × List Extent)) (b : Bool) → q (kept_entry e) ≡ b →
    (q (kept_entry e) ≡ true → R) → (list_any q (map kept_entry es) ≡ true → R) → (b || list_any q (map kept_entry es)) ≡ true → R
by_test R q e es true f here more h = here f
by_test R q e es false f here more h = more h

-- what follows of each list that passes a test follows where some list does
any_gives : (R : Type 0) (q : Kept → Bool) (es : List (KeptPlace × List Extent)) → All (λ e. q (kept_entry e) ≡ true → R) es →
    list_any q (map kept_entry es) ≡ true → R
any_gives R q [] all h = absurd cc
any_gives R q (e ∷ es) all h =
    by_test R q e es (q (kept_entry e)) refl (All-head (λ x. q (kept_entry x) ≡ true → R) e es all)
    (any_gives R q es (All-tail (λ x. q (kept_entry x) ≡ true → R) e es all)) h

module _ (plan : JobPlan) (job : ℕ) (p : Place) where
  abbrev asked : ℕ
  asked = primary_asked (kind_at plan.steps p.step p.dd)

  -- a list that is asked for is the one at the place
  record IsThere (at : KeptPlace) (list : List Extent) : Type 0 where
    same : at ≡ kept_place job p
    many : (tracks_in list == asked) ≡ true

  is_there : (at : KeptPlace) (list : List Extent) → is_asked plan job p (kept_entry (at, list)) ≡ true → IsThere at list
  is_there at list h =
      let both = and_parts (is_kept_for job p p.serial (kept_entry (at, list))) (tracks_in list == asked) h in
      let three = and_parts (at.job == job && at.step == p.step && at.dd == p.dd) (bytes_eq p.serial p.serial) both.0 in
      let two = and_parts (at.job == job && at.step == p.step) (at.dd == p.dd) three.0 in
      let one = and_parts (at.job == job) (at.step == p.step) two.0 in
      let j : at.job ≡ job = eqb-true at.job job one.0 in
      let s : at.step ≡ p.step = eqb-true at.step p.step one.1 in
      let d : at.dd ≡ p.dd = eqb-true at.dd p.dd two.1 in
      record { same = λ i. record { job = j i; step = s i; dd = d i }; many = both.1 }

  held_there : (m : MountedState) → HasTracks (kept_tracks (Some m)) plan job p → holds (get m.kept (kept_place job p)) m.volume asked ≡ true
  held_there m h =
      any_gives (holds (get m.kept (kept_place job p)) m.volume asked ≡ true) (is_asked plan job p) (entries m.kept)
      (each_entry (λ e. is_asked plan job p (kept_entry e) ≡ true → holds (get m.kept (kept_place job p)) m.volume asked ≡ true) m.kept
      (λ at list found e.
      let t : IsThere at list = is_there at list e in
      ap (λ o. holds o m.volume asked) (ap (get m.kept) (sym t.same) ∙ found) ∙ t.many))
      h

  on_volume : (o : Option MountedState) → HasTracks (kept_tracks o) plan job p → (m : MountedState) × (o ≡ Some m) × (holds (get m.kept (kept_place job p)) m.volume asked ≡ true)
  on_volume None h = absurd cc
  on_volume (Some m) h = (m, refl, held_there m h)

  -- under any key that a job sees a set by
  pub granted : (names : List HeldName) (k : Key) (o : Option MountedState) → sees_set names k ≡ true → HasTracks (kept_tracks o) plan job p →
      holds_new (world_key job k) o (kept_place job p) asked ≡ true
  granted names (key.Named name) o sees h = let v = on_volume o h in ap (λ x. holds_new (world_key job (key.Named name)) x (kept_place job p) asked) v.1 ∙ v.2
  granted names (key.Relative base sign amount) o sees h = absurd cc
  granted names (key.Temporary name) o sees h = let v = on_volume o h in ap (λ x. holds_new (world_key job (key.Temporary name)) x (kept_place job p) asked) v.1 ∙ v.2
  granted names (key.Unnamed step dd) o sees h = let v = on_volume o h in ap (λ x. holds_new (world_key job (key.Unnamed step dd)) x (kept_place job p) asked) v.1 ∙ v.2
