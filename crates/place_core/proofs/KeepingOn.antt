-- The primaries of places, kept one after the other.
use Rattle.std.proofs.Common.{◌≡◌, ℕ, ◌+◌, ◌<◌, ◌==◌, ◌&&◌, not, Bool, true, false, cond, List, ◌∷◌, Some, None, All, length, drop, take, get_or, refl, sym, ap, subst, ◌∙◌}
use Rattle.std.specs.List.{list_any}
use Rattle.std.specs.Str.{bytes_eq}
use Rattle.std.proofs.lemmas.Bool.{and_from, and_parts, both_ways, eq-eqb, false_from_ne_true, leb-false}
use Rattle.std.proofs.lemmas.List.{at_drop_more, take_more}
use Rattle.std.proofs.lemmas.List.Elements.{All-head, All-tail}
use Rattle.std.proofs.lemmas.List.Folds.{list_any_at}
use Rattle.std.proofs.lemmas.Slice.Eq.{bytes_eq-Decides}
use Rattle.vtoc_core.specs.Extents.{five_largest, free_extents}
use Rattle.jcl_plan.specs.declared.plan.JobPlan.{JobPlan}
use Rattle.jcl_meaning.specs.declared.state.Place.{Place}
use Rattle.plain.specs.Lists.{all_different}
use Rattle.mount_core.specs.declared.place.KeptPlace.{KeptPlace}
use Rattle.mount_core.specs.Mounts.{MountedState}
use Rattle.shared_core.specs.Rooms.{is_same_place, kept_place}
use Rattle.shared_core.specs.Shown.{kept_extents, mounted_in}
use Rattle.shared_core.proofs.Making.{same_place-true}
use Rattle.world_meaning.specs.Admissions.{asked_at}
use Rattle.place_core.specs.Keepings.{AreApart, AreClearFor, Keeping, is_same_spot, keep_on, kept_in}
use Rattle.place_core.specs.Volumes.{all_back, back_on, changed_on, has_room}
use Rattle.place_core.proofs.Changing.{unchanged, undone}
use Rattle.place_core.proofs.KeptAside.{keep_back, keep_not, keep_serial}
use Rattle.place_core.proofs.KeptOn.{KeepsOne, keeps_one}
use Rattle.place_core.proofs.Undoing.{all_back-push}

-- what is kept where nothing was is given back
keep_undone : (volumes : List MountedState) (at : KeptPlace) (n : ℕ) (serial : List ℕ) → kept_extents (mounted_in volumes serial) at ≡ None →
    changed_on (back_on at) serial (changed_on (keep_on at n) serial volumes) ≡ volumes
keep_undone volumes at n serial clear =
    undone (keep_on at n) (back_on at) serial (keep_serial at n) volumes (λ x e. keep_back at n x (sym (ap (λ o. kept_extents o at) e) ∙ clear))

-- where there is no room nothing is kept
pub no_room : (volumes : List MountedState) (at : KeptPlace) (n : ℕ) (serial : List ℕ) → has_room n (mounted_in volumes serial) ≡ false →
    changed_on (keep_on at n) serial volumes ≡ volumes
no_room volumes at n serial h =
    unchanged (keep_on at n) serial volumes (λ x e. keep_not at n x (leb-false n (five_largest (free_extents x.volume.tracks)) (sym (ap (has_room n) e) ∙ h)))

module _ (job : ℕ) (p q : Place) where
  -- places that lie apart are kept apart
  apart_spots : is_same_spot p q ≡ false → (is_same_place (kept_place job q) (kept_place job p) && bytes_eq q.serial p.serial) ≡ false
  apart_spots h = false_from_ne_true (is_same_place (kept_place job q) (kept_place job p) && bytes_eq q.serial p.serial) (λ e.
      let both = and_parts (is_same_place (kept_place job q) (kept_place job p)) (bytes_eq q.serial p.serial) e in
      let same : kept_place job q ≡ kept_place job p = same_place-true (kept_place job q) (kept_place job p) both.0 in
      both_ways (is_same_spot p q) h
      (and_from (p.step == q.step && p.dd == q.dd) (bytes_eq p.serial q.serial)
      (and_from (p.step == q.step) (p.dd == q.dd) (eq-eqb p.step q.step (sym (ap (λ (k : KeptPlace). k.step) same))) (eq-eqb p.dd q.dd (sym (ap (λ (k : KeptPlace). k.dd) same))))
      ((bytes_eq-Decides p.serial q.serial).1 (sym ((bytes_eq-Decides q.serial p.serial).0 both.1)))))

module _ (job : ℕ) (p : Place) (places : List Place) where
  spots_apart : list_any (is_same_spot p) places ≡ false → All (λ q. is_same_spot p q ≡ false) places
  spots_apart h = λ k d l. false_from_ne_true (is_same_spot p (get_or places k d)) (λ e. both_ways (list_any (is_same_spot p) places) h (list_any_at (is_same_spot p) places k d l e))

  not_true : (b : Bool) → not b ≡ true → b ≡ false
  not_true true h = absurd cc
  not_true false h = refl

  first_apart : AreApart (p ∷ places) → All (λ q. is_same_spot p q ≡ false) places
  first_apart h = spots_apart (not_true (list_any (is_same_spot p) places) (and_parts (not (list_any (is_same_spot p) places)) (all_different is_same_spot places) h).0)

  rest_apart : AreApart (p ∷ places) → AreApart places
  rest_apart h = (and_parts (not (list_any (is_same_spot p) places)) (all_different is_same_spot places) h).1

  rest_clear : (n : ℕ) (old new : List MountedState) → KeepsOne old new (kept_place job p) p.serial n → AreApart (p ∷ places) → AreClearFor old job (p ∷ places) →
      AreClearFor new job places
  rest_clear n old new one apart clear = λ k d l.
      let q : Place = get_or places k d in
      one.kept q.serial (kept_place job q)
      ∙ ap (λ b. cond b (Some one.list) (kept_extents (mounted_in old q.serial) (kept_place job q))) (apart_spots job p q (first_apart apart k d l))
      ∙ All-tail (λ (r : Place). kept_extents (mounted_in old r.serial) (kept_place job r) ≡ None) p places clear k d l

-- so many of the places are kept
pub record KeptUpTo (job : ℕ) (plan : JobPlan) (places : List Place) (first : List MountedState) (i : ℕ) (volumes : List MountedState) : Type 0 where
  pub run : kept_in job plan (drop i places) volumes ≡ kept_in job plan places first
  pub clear : AreClearFor volumes job (drop i places)
  pub apart : AreApart (drop i places)
  pub back : all_back job (take i places) volumes ≡ first

module _ (job : ℕ) (plan : JobPlan) (places : List Place) (first : List MountedState) (i : ℕ) (volumes : List MountedState) (d : Place) (l : i < length places)
    (h : KeptUpTo job plan places first i volumes) where
  abbrev here : Place
  here = get_or places i d

  abbrev rest : List Place
  rest = drop (i + 1) places

  apart_here : AreApart (here ∷ rest)
  apart_here = sym (at_drop_more (λ ps. all_different is_same_spot ps) places i d l) ∙ h.apart

  split : drop i places ≡ here ∷ rest
  split = at_drop_more (λ (ps : List Place). ps) places i d l

  clear_all : AreClearFor volumes job (here ∷ rest)
  clear_all = subst (AreClearFor volumes job) split h.clear

  pub clear_here : kept_extents (mounted_in volumes here.serial) (kept_place job here) ≡ None
  clear_here = All-head (λ (r : Place). kept_extents (mounted_in volumes r.serial) (kept_place job r) ≡ None) here rest clear_all

  run_here : kept_in job plan (here ∷ rest) volumes ≡ kept_in job plan places first
  run_here = sym (ap (λ ps. kept_in job plan ps volumes) split) ∙ h.run

  abbrev n : ℕ
  n = asked_at plan here

  abbrev next : List MountedState
  next = changed_on (keep_on (kept_place job here) n) here.serial volumes

  abbrev stopped : Keeping
  stopped = record { volumes = volumes; refused = Some here.serial }

  pub one_more : has_room n (mounted_in volumes here.serial) ≡ true → KeptUpTo job plan places first (i + 1) next
  one_more room = record {
    run = ap (λ b. cond b (kept_in job plan rest next) stopped) (sym room) ∙ run_here;
    clear = rest_clear job here rest n volumes next (keeps_one (kept_place job here) n volumes here.serial room) apart_here clear_all;
    apart = rest_apart job here rest apart_here;
    back = ap (λ ps. all_back job ps next) (take_more places i d l)
        ∙ all_back-push job (take i places) here next
        ∙ ap (all_back job (take i places)) (keep_undone volumes (kept_place job here) n here.serial clear_here)
        ∙ h.back;
  }

  pub refused_here : has_room n (mounted_in volumes here.serial) ≡ false → (kept_in job plan places first).refused ≡ Some here.serial
  refused_here room =
      ap (λ (k : Keeping). k.refused) (sym run_here)
      ∙ ap (λ b. (cond b (kept_in job plan rest next) stopped).refused) room
