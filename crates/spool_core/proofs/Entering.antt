-- A set is entered under a key that had none.
use Rattle.std.proofs.Common.{◌≡◌, ℕ, true, false, cond, List, [], ◌∷◌, ◌++◌, None, Some, All, filter, get_or, sym, ap, ◌∙◌, unwrap_or, append_assoc}
use Rattle.std.proofs.lemmas.List.{append-nil, map-append}
use Rattle.std.proofs.lemmas.List.Elements.{All-append, All-cons, All-nil, filter-append}
use Rattle.std.proofs.lemmas.List.Quantifiers.{all_pairs_push}
use Rattle.slab.specs.Slab.{Slab, Updates, get}
use Rattle.machine_meaning.specs.declared.machine.SpoolSet.{SpoolSet}
use Rattle.machine_meaning.specs.Spools.{has_lines, with_sets}
use Rattle.spool_core.specs.declared.spool.Place.{Place}
use Rattle.spool_core.specs.Places.{HasSet, Stand, no_set, set_under, sets_at}
use Rattle.spool_core.proofs.Keeping.{Apart, same_sets, still_filled}

new_apart : (sets : Slab SpoolSet) (places : List Place) (key : ℕ) → All (HasSet sets) places → get sets key ≡ None → Apart key places
new_apart sets places key filled vacant k d within e =
    let was = (filled k d within).with_lines in
    let none : set_under sets (get_or places k d).key ≡ no_set = ap (set_under sets) e ∙ ap (λ o. unwrap_or o no_set) vacant in
    let both : false ≡ true = ap has_lines (sym none) ∙ was in
    cc

module _ (old new : Slab SpoolSet) (places : List Place) (place : Place) (set : SpoolSet) (stand : Stand old places) (vacant : get old place.key ≡ None) (in_slab : Updates old new place.key (Some set)) (some : has_lines set ≡ true) where
  apart : Apart place.key places
  apart = new_apart old places place.key stand.filled vacant

  now_set : set_under new place.key ≡ set
  now_set = ap (λ o. unwrap_or o no_set) in_slab.changed

  pub stands_entered : place.class ≡ set.class → Stand new (places ++ place ∷ [])
  stands_entered class = record {
    filled = All-append (HasSet new) places (place ∷ []) (still_filled old new place.key places in_slab.others apart stand.filled)
        (All-cons (HasSet new) place [] record { of_class = ap (λ (s : SpoolSet). s.class) now_set ∙ sym class; with_lines = ap has_lines now_set ∙ some } (All-nil (HasSet new)));
    apart = all_pairs_push (λ (p q : Place). p.key ≡ q.key → ⊥) places place stand.apart apart;
  }

  pub sets_entered : sets_at new (places ++ place ∷ []) ≡ sets_at old places ++ filter has_lines (set ∷ [])
  sets_entered =
      map-append (λ (p : Place). set_under new p.key) places (place ∷ []) ∙
      ap (λ l. l ++ set_under new place.key ∷ []) (same_sets old new place.key places in_slab.others apart) ∙
      ap (λ s. sets_at old places ++ s ∷ []) now_set ∙
      ap (λ b. sets_at old places ++ cond b (set ∷ []) []) (sym some)

pub none_entered : (sets : List SpoolSet) (set : SpoolSet) → has_lines set ≡ false → sets ≡ sets ++ filter has_lines (set ∷ [])
none_entered sets set none = sym (append-nil sets) ∙ ap (λ b. sets ++ cond b (set ∷ []) []) (sym none)

-- what a job gives is entered
pub job_entered : (first mid last spool : List SpoolSet) (set : SpoolSet) (more : List SpoolSet) → first ≡ spool → mid ≡ first ++ filter has_lines (set ∷ []) →
    last ≡ mid ++ filter has_lines more → last ≡ with_sets spool (set ∷ more)
job_entered first mid last spool set more is mid_is last_is =
    last_is ∙ ap (λ l. l ++ filter has_lines more) (mid_is ∙ ap (λ l. l ++ filter has_lines (set ∷ [])) is)
    ∙ append_assoc spool (filter has_lines (set ∷ [])) (filter has_lines more) ∙ ap (λ l. spool ++ l) (sym (filter-append has_lines (set ∷ []) more))
