-- What is shown of the tracks that are kept, list by list.
use Rattle.std.proofs.Common.{◌≡◌, ◌≢◌, ℕ, ◌==◌, ◌||◌, not, Bool, true, false, cond, get_or, is_lt, List, [], ◌∷◌, map, Option, Some, All, refl, sym, ap, subst, ◌∙◌}
use Rattle.std.specs.Prelude.{filter}
use Rattle.std.specs.FinMap.{entries}
use Rattle.std.specs.List.{list_any}
use Rattle.std.proofs.lemmas.Bool.{and_from, and_parts, both_ways, eqb-true, false_from_ne_true}
use Rattle.std.proofs.lemmas.Cmp.{tied_itself}
use Rattle.std.proofs.lemmas.List.Elements.{All-filter, All-map, filter_passes}
use Rattle.std.proofs.lemmas.List.Folds.{list_any_none}
use Rattle.extent_core.specs.declared.extent.Extent.{Extent}
use Rattle.plain.specs.Lists.{all_different}
use Rattle.world_meaning.specs.Admissions.{is_same_dd}
use Rattle.world_meaning.specs.Worlds.{Kept}
use Rattle.mount_core.specs.declared.place.KeptPlace.{KeptPlace}
use Rattle.mount_core.specs.Kept.{place_cmp}
use Rattle.mount_core.specs.Mounts.{MountedState}
use Rattle.mount_core.proofs.EntryLists.{IsRising, any_entry, each_entry, entries_rise}
use Rattle.mount_core.proofs.Places.{place_total}
use Rattle.shared_core.specs.Shown.{kept_extents}
use Rattle.shared_core.specs.Tracks.{kept_entry, kept_tracks}
use Rattle.shared_core.proofs.Showing.{extents_of_map, kept_map, tracks_of_map}

abbrev Lists : Type 0
Lists = List (KeptPlace × List Extent)

-- what holds of each list that is kept and passes a test holds of all that are shown and pass it
pub each_shown : (P : Kept → Type 0) (q : Kept → Bool) (o : Option MountedState) →
    ((at : KeptPlace) (list : List Extent) → kept_extents o at ≡ Some list → q (kept_entry (at, list)) ≡ true → P (kept_entry (at, list))) → All P (filter q (kept_tracks o))
each_shown P q o h =
    let W : Kept → Type 0 = λ k. q k ≡ true → P k in
    let all : All W (map kept_entry (entries (kept_map o))) =
    All-map W kept_entry (entries (kept_map o)) (each_entry (λ e. W (kept_entry e)) (kept_map o) (λ at list e. h at list (extents_of_map o at ∙ e))) in
    subst (λ (ks : List Kept). All P (filter q ks)) (sym (tracks_of_map o))
    (λ k d l. All-filter q W (map kept_entry (entries (kept_map o))) all k d l (filter_passes q (map kept_entry (entries (kept_map o))) k d l))

any-map : (q : Kept → Bool) (es : Lists) → list_any q (map kept_entry es) ≡ list_any (λ e. q (kept_entry e)) es
any-map q [] = refl
any-map q (e ∷ es) = ap (λ b. q (kept_entry e) || b) (any-map q es)

-- a list that is kept is shown
pub any_shown : (q : Kept → Bool) (o : Option MountedState) (at : KeptPlace) (list : List Extent) → kept_extents o at ≡ Some list → q (kept_entry (at, list)) ≡ true →
    list_any q (kept_tracks o) ≡ true
any_shown q o at list e h =
    ap (list_any q) (tracks_of_map o) ∙ any-map q (entries (kept_map o)) ∙ any_entry (λ x. q (kept_entry x)) (kept_map o) at list (sym (extents_of_map o at) ∙ e) h

-- for a DD of a job once
module _ (job : ℕ) where
  abbrev of_job : Kept → Bool
  of_job k = k.job == job

  not_itself : (e f : KeptPlace × List Extent) → is_lt (place_cmp e.0 f.0) ≡ true → e.0 ≢ f.0
  not_itself e f h same =
      both_ways (is_lt (place_cmp e.0 f.0)) (ap is_lt (ap (place_cmp e.0) (sym same) ∙ tied_itself place_total e.0)) h

  other_dd : (e f : KeptPlace × List Extent) → of_job (kept_entry e) ≡ true → is_lt (place_cmp e.0 f.0) ≡ true → of_job (kept_entry f) ≡ true →
      is_same_dd (kept_entry e) (kept_entry f) ≡ false
  other_dd e f a h b = false_from_ne_true (is_same_dd (kept_entry e) (kept_entry f)) (λ t.
      let both = and_parts (e.0.step == f.0.step) (e.0.dd == f.0.dd) t in
      let j : e.0.job ≡ f.0.job = eqb-true e.0.job job a ∙ sym (eqb-true f.0.job job b) in
      let s : e.0.step ≡ f.0.step = eqb-true e.0.step f.0.step both.0 in
      let d : e.0.dd ≡ f.0.dd = eqb-true e.0.dd f.0.dd both.1 in
      not_itself e f h (λ i. record { job = j i; step = s i; dd = d i }))

  none_alike : (e : KeptPlace × List Extent) (es : Lists) → of_job (kept_entry e) ≡ true → All (λ f. is_lt (place_cmp e.0 f.0) ≡ true) es →
      list_any (is_same_dd (kept_entry e)) (filter of_job (map kept_entry es)) ≡ false
  none_alike e es a h =
      let W : Kept → Type 0 = λ k. of_job k ≡ true → is_same_dd (kept_entry e) k ≡ false in
      let all : All W (map kept_entry es) = All-map W kept_entry es (λ k d l. other_dd e (get_or es k d) a (h k d l)) in
      list_any_none (is_same_dd (kept_entry e)) (filter of_job (map kept_entry es))
      (λ k d l. All-filter of_job W (map kept_entry es) all k d l (filter_passes of_job (map kept_entry es) k d l))

  once_step : (e : KeptPlace × List Extent) (es : Lists) (b : Bool) → of_job (kept_entry e) ≡ b → All (λ f. is_lt (place_cmp e.0 f.0) ≡ true) es →
      all_different is_same_dd (filter of_job (map kept_entry es)) ≡ true →
      all_different is_same_dd (cond b (kept_entry e ∷ filter of_job (map kept_entry es)) (filter of_job (map kept_entry es))) ≡ true
  once_step e es true a h ih =
      and_from (not (list_any (is_same_dd (kept_entry e)) (filter of_job (map kept_entry es)))) (all_different is_same_dd (filter of_job (map kept_entry es)))
      (ap not (none_alike e es a h)) ih
  once_step e es false a h ih = ih

  once_in : (es : Lists) → IsRising es → all_different is_same_dd (filter of_job (map kept_entry es)) ≡ true
  once_in [] h = refl
  once_in (e ∷ es) h = once_step e es (of_job (kept_entry e)) refl h.0 (once_in es h.1)

  pub once_shown : (o : Option MountedState) → all_different is_same_dd (filter of_job (kept_tracks o)) ≡ true
  once_shown o =
      ap (λ (ks : List Kept). all_different is_same_dd (filter of_job ks)) (tracks_of_map o) ∙ once_in (entries (kept_map o)) (entries_rise (kept_map o))
