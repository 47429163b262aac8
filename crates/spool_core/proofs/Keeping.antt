-- What a change under one key leaves of the other sets.
use Rattle.std.proofs.Common.{◌≡◌, ◌≢◌, ℕ, zero, suc, ◌+◌, ◌<◌, List, [], ◌∷◌, ◌++◌, Some, All, AllPairs, length, get_or, map, take, drop, refl, sym, ap, ◌∙◌, unwrap_or, arith, get_or-take, get_or-drop, length-drop, length-take-le}
use Rattle.std.specs.Prelude.{slice_get}
use Rattle.std.specs.List.{remove}
use Rattle.std.proofs.lemmas.List.{drop-map, map-append, take-map}
use Rattle.std.proofs.lemmas.List.Elements.{All-append, All-drop, All-head, All-tail, All-take}
use Rattle.std.proofs.lemmas.List.Quantifiers.{all_pairs_remove}
use Rattle.std.proofs.lemmas.Option.{get_or_from_slice_get, slice_get_within}
use Rattle.slab.specs.Slab.{Slab, get}
use Rattle.machine_meaning.specs.declared.machine.SpoolSet.{SpoolSet}
use Rattle.machine_meaning.specs.Spools.{has_lines}
use Rattle.spool_core.specs.declared.spool.Place.{Place}
use Rattle.spool_core.specs.Places.{HasSet, Stand, no_set, set_under, sets_at}

-- only what lies under the key may have changed
abbrev pub SameBut : Slab SpoolSet → Slab SpoolSet → ℕ → Type 0
SameBut old new key = (other : ℕ) → other ≢ key → get new other ≡ get old other

abbrev pub Apart : ℕ → List Place → Type 0
Apart key = All (λ (p : Place). p.key ≢ key)

same_under : (old new : Slab SpoolSet) (key : ℕ) → SameBut old new key → (other : ℕ) → other ≢ key → set_under new other ≡ set_under old other
same_under old new key same other differs = ap (λ o. unwrap_or o no_set) (same other differs)

pub same_sets : (old new : Slab SpoolSet) (key : ℕ) (places : List Place) → SameBut old new key → Apart key places → sets_at new places ≡ sets_at old places
same_sets old new key [] same apart = refl
same_sets old new key (p ∷ places) same apart =
    ap (λ s. s ∷ sets_at new places) (same_under old new key same p.key (All-head (λ (q : Place). q.key ≢ key) p places apart)) ∙
    ap (λ l. set_under old p.key ∷ l) (same_sets old new key places same (All-tail (λ (q : Place). q.key ≢ key) p places apart))

pub still_filled : (old new : Slab SpoolSet) (key : ℕ) (places : List Place) → SameBut old new key → Apart key places → All (HasSet old) places → All (HasSet new) places
still_filled old new key places same apart filled k d within =
    let is = same_under old new key same (get_or places k d).key (apart k d within) in
    let was = filled k d within in
    record {
      of_class = ap (λ (s : SpoolSet). s.class) is ∙ was.of_class;
      with_lines = ap has_lines is ∙ was.with_lines;
    }

pub split_at : {X : Type 0} (xs : List X) (i : ℕ) (x : X) → slice_get xs i ≡ Some x → xs ≡ take i xs ++ x ∷ drop (suc i) xs
split_at [] i x e = absurd (cc)
split_at (y ∷ xs) zero x e = ap (λ z. z ∷ xs) (cc)
split_at (y ∷ xs) (suc i) x e = ap (λ l. y ∷ l) (split_at xs i x e)

pub apart_before : (places : List Place) (i : ℕ) (place : Place) → slice_get places i ≡ Some place → AllPairs (λ (p q : Place). p.key ≢ q.key) places → Apart place.key (take i places)
apart_before places i place at apart k d within =
    let inside : i < length places = slice_get_within places i place at in
    let low : k < i = omega (arith, length-take-le i places (omega arith)) in
    let is = get_or_from_slice_get places i place d at in
    λ e. apart k i d low inside (ap (λ (p : Place). p.key) (sym (get_or-take i places k d low)) ∙ e ∙ ap (λ (p : Place). p.key) (sym is))

pub apart_behind : (places : List Place) (i : ℕ) (place : Place) → slice_get places i ≡ Some place → AllPairs (λ (p q : Place). p.key ≢ q.key) places → Apart place.key (drop (suc i) places)
apart_behind places i place at apart k d within =
    let inside : i < length places = slice_get_within places i place at in
    let is = get_or_from_slice_get places i place d at in
    let low : i < suc i + k = omega arith in
    let high : suc i + k < length places = omega (arith, length-drop (suc i) places) in
    λ e. apart i (suc i + k) d low high (ap (λ (p : Place). p.key) is ∙ sym e ∙ ap (λ (p : Place). p.key) (get_or-drop (suc i) places k d))

-- a set is gone
pub stand_without : (old new : Slab SpoolSet) (places : List Place) (i : ℕ) (place : Place) → Stand old places → slice_get places i ≡ Some place → SameBut old new place.key → Stand new (remove places i)
stand_without old new places i place stand at same = record {
  filled = All-append (HasSet new) (take i places) (drop (suc i) places)
      (still_filled old new place.key (take i places) same (apart_before places i place at stand.apart) (All-take (HasSet old) i places stand.filled))
      (still_filled old new place.key (drop (suc i) places) same (apart_behind places i place at stand.apart) (All-drop (HasSet old) (suc i) places stand.filled));
  apart = all_pairs_remove (λ (p q : Place). p.key ≢ q.key) places i (slice_get_within places i place at) stand.apart;
}

pub sets_without : (old new : Slab SpoolSet) (places : List Place) (i : ℕ) (place : Place) → Stand old places → slice_get places i ≡ Some place → SameBut old new place.key → sets_at new (remove places i) ≡ take i (sets_at old places) ++ drop (suc i) (sets_at old places)
sets_without old new places i place stand at same =
    let f = λ (p : Place). set_under new p.key in
    let g = λ (p : Place). set_under old p.key in
    map-append f (take i places) (drop (suc i) places) ∙
    ap (λ l. l ++ sets_at new (drop (suc i) places)) (same_sets old new place.key (take i places) same (apart_before places i place at stand.apart) ∙ sym (take-map g i places)) ∙
    ap (λ l. take i (sets_at old places) ++ l) (same_sets old new place.key (drop (suc i) places) same (apart_behind places i place at stand.apart) ∙ sym (drop-map g (suc i) places))

-- a set is another one
pub sets_with : (old new : Slab SpoolSet) (places : List Place) (i : ℕ) (place : Place) → Stand old places → slice_get places i ≡ Some place → SameBut old new place.key → sets_at new places ≡ take i (sets_at old places) ++ set_under new place.key ∷ drop (suc i) (sets_at old places)
sets_with old new places i place stand at same =
    let f = λ (p : Place). set_under new p.key in
    let g = λ (p : Place). set_under old p.key in
    ap (map f) (split_at places i place at) ∙
    map-append f (take i places) (place ∷ drop (suc i) places) ∙
    ap (λ l. l ++ set_under new place.key ∷ sets_at new (drop (suc i) places)) (same_sets old new place.key (take i places) same (apart_before places i place at stand.apart) ∙ sym (take-map g i places)) ∙
    ap (λ l. take i (sets_at old places) ++ set_under new place.key ∷ l) (same_sets old new place.key (drop (suc i) places) same (apart_behind places i place at stand.apart) ∙ sym (drop-map g (suc i) places))
