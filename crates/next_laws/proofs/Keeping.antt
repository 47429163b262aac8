-- What is kept behind an event at which nothing more is kept.
use Rattle.std.proofs.Common.{◌≡◌, ◌||◌, ◌⊎◌, Bool, true, false, List, [], ◌∷◌, map, Option, Some, None, is_some, refl, sym, ap, ◌∙◌, inl, inr}
use Rattle.std.specs.FinMap.{contains_key-keys, entries, get, keys, same_map}
use Rattle.std.specs.List.{list_any}
use Rattle.std.specs.Ordering.{eq_by_cmp}
use Rattle.std.proofs.lemmas.Bool.{cases_Bool, or_left, or_right}
use Rattle.std.proofs.lemmas.Cmp.{eq_by_cmp_equiv}
use Rattle.extent_core.specs.declared.extent.Extent.{Extent}
use Rattle.mount_core.specs.declared.place.KeptPlace.{KeptPlace}
use Rattle.mount_core.specs.Kept.{Kept, place_cmp}
use Rattle.mount_core.proofs.KeptMaps.{tied_equal}
use Rattle.mount_core.proofs.Places.{place_total, places_tie}
use Rattle.shared_core.specs.Extents.{StaysKept}
use Rattle.shared_core.specs.Tracks.{kept_entry}
use Rattle.world_meaning.specs.Worlds as world

is_none : {X : Type 0} (o : Option X) → is_some o ≡ false → o ≡ None
is_none None empty = refl
is_none (Some x) empty = cc

its_some : {X : Type 0} (o : Option X) → is_some o ≡ true → (x : X) × (o ≡ Some x)
its_some None some = cc
its_some (Some x) some = (x, refl)

-- what is shown of it says where something is kept
shown_place : world.Kept → KeptPlace
shown_place k = record { job = k.job; step = k.step; dd = k.dd }

shown_places : (es : List (KeptPlace × List Extent)) → map shown_place (map kept_entry es) ≡ map (λ e. e.0) es
unfolding shown_place
shown_places [] = refl
shown_places (e ∷ es) = ap (λ places. e.0 ∷ places) (shown_places es)

module _ (old one other : Kept) (shown : map kept_entry (entries one) ≡ map kept_entry (entries other))
    (stay : (at : KeptPlace) → StaysKept (get old at) (get one at)) (stay_too : (at : KeptPlace) → StaysKept (get old at) (get other at)) where
  same_places : keys one ≡ keys other
  same_places = sym (shown_places (entries one)) ∙ ap (map shown_place) shown ∙ shown_places (entries other)

  both_there : (at : KeptPlace) → is_some (get one at) ≡ is_some (get other at)
  both_there at = contains_key-keys one at ∙ ap (list_any (eq_by_cmp place_cmp at)) same_places ∙ sym (contains_key-keys other at)

  same_at : (at : KeptPlace) → get one at ≡ get other at
  same_at at =
      elim (stay at) [
        | inr gone ↦ gone ∙ sym (is_none (get other at) (sym (both_there at) ∙ ap is_some gone))
        | inl here ↦ elim (stay_too at) [
          | inl here_too ↦ here ∙ sym here_too
          | inr gone ↦ is_none (get one at) (both_there at ∙ ap is_some gone) ∙ sym gone
        ]
      ]

  pub same_kept : one ≡ other
  same_kept = same_map place_total places_tie one other same_at

-- Something that was kept is kept no more.
pub record IsGone (old new : Kept) : Type 0 where
  pub at : KeptPlace
  pub extents : List Extent
  pub was : get old at ≡ Some extents
  pub is : get new at ≡ None

module _ (old new : Kept) (stay : (at : KeptPlace) → StaysKept (get old at) (get new at)) where
  abbrev among : KeptPlace → List KeptPlace → Bool
  among at places = list_any (eq_by_cmp place_cmp at) places

  -- of these places one is given up, or none
  one_or_none : (places : List KeptPlace) → ((at : KeptPlace) → among at places ≡ true → is_some (get old at) ≡ true) →
      IsGone old new ⊎ ((at : KeptPlace) → among at places ≡ true → get new at ≡ get old at)
  one_or_none [] there = inr (λ at found. cc)
  one_or_none (k ∷ ks) there =
      elim (stay k) [
        | inr gone ↦
            let had = its_some (get old k) (there k (or_left (eq_by_cmp place_cmp k k) (among k ks) ((eq_by_cmp_equiv place_total).refl k))) in
            inl (record { at = k; extents = had.0; was = had.1; is = gone })
        | inl here ↦ elim (one_or_none ks (λ at found. there at (or_right (eq_by_cmp place_cmp at k) (among at ks) found))) [
          | inl gone ↦ inl gone
          | inr rest ↦ inr (λ at found. elim (cases_Bool (eq_by_cmp place_cmp at k)) [
            | inl tied ↦ ap (get new) (tied_equal at k tied) ∙ here ∙ sym (ap (get old) (tied_equal at k tied))
            | inr apart ↦ rest at (sym (ap (λ b. b || among at ks) apart) ∙ found)
          ])
        ]
      ]

  -- what was not kept is not kept
  not_there : (at : KeptPlace) → is_some (get old at) ≡ false → get new at ≡ get old at
  not_there at never =
      elim (stay at) [
        | inl here ↦ here
        | inr gone ↦ gone ∙ sym (is_none (get old at) never)
      ]

  pub gone_or_same : IsGone old new ⊎ ((at : KeptPlace) → get new at ≡ get old at)
  gone_or_same =
      elim (one_or_none (keys old) (λ at found. contains_key-keys old at ∙ found)) [
        | inl gone ↦ inl gone
        | inr rest ↦ inr (λ at. elim (cases_Bool (is_some (get old at))) [
          | inl there ↦ rest at (sym (contains_key-keys old at) ∙ there)
          | inr never ↦ not_there at never
        ])
      ]
