-- Whether a class has a line.
use Rattle.std.proofs.Common.{◌≡◌, ◌≢◌, ℕ, true, false, List, Some, All, length, sym, ap, ◌∙◌, arith}
use Rattle.std.specs.Prelude.{◌==◌, slice_get}
use Rattle.std.specs.Option.{option_map}
use Rattle.std.proofs.lemmas.Bool.{and_parts, eqb-true, eq-eqb}
use Rattle.std.proofs.lemmas.Bool.Decides.{Decides-eqb}
use Rattle.std.proofs.lemmas.List.Elements.{All-weaker}
use Rattle.std.proofs.lemmas.List.Folds.{list_any_at, list_any_none}
use Rattle.std.proofs.lemmas.Option.{get_or_from_slice_get, slice_get-map, slice_get_within}
use Rattle.slab.specs.Slab.{Slab}
use Rattle.machine_meaning.specs.declared.machine.SpoolSet.{SpoolSet}
use Rattle.machine_meaning.specs.Spools.{HasNoSet}
use Rattle.spool_core.specs.declared.spool.Place.{Place}
use Rattle.spool_core.specs.Places.{IsFirst, NoneBefore, Stand, filled_places, set_under, sets_at}
use Rattle.spool_core.specs.Sets.{has_set}
use Rattle.spool_core.proofs.Filled.{none_filled, none_in_front, parts, stands_at}
use Rattle.spool_core.proofs.Taking.{no_set_of, read}

pub has_none : (spool : List SpoolSet) (class : ℕ) → HasNoSet spool class → has_set spool class ≡ false
has_none spool class none = list_any_none (λ (set : SpoolSet). set.class == class) spool
    (All-weaker (λ (set : SpoolSet). set.class ≢ class) (λ (set : SpoolSet). (set.class == class) ≡ false) (λ set apart. grind (arith, apart)) spool none)

module _ (sets : Slab SpoolSet) (places : List Place) (class : ℕ) (stand : Stand sets (filled_places places)) where
  pub has_none_at : NoneBefore class (length places) places → has_set (sets_at sets (filled_places places)) class ≡ false
  has_none_at none = has_none (sets_at sets (filled_places places)) class (no_set_of sets (filled_places places) class stand.filled (none_filled class places none))

  pub has_first_at : (index : ℕ) → IsFirst places class index → has_set (sets_at sets (filled_places places)) class ≡ true
  has_first_at index first =
      let both = and_parts first.place.filled (first.place.class == class) first.of_class in
      let there = parts places index first.place first.at both.0 in
      let k = length there.front in
      let at = stands_at there in
      let is = read sets (filled_places places) class k first.place stand at (eqb-true first.place.class class both.1) (none_in_front there class first.none_before) in
      let set = set_under sets first.place.key in
      let found = slice_get-map (λ (q : Place). set_under sets q.key) (filled_places places) k ∙ ap (option_map (λ (q : Place). set_under sets q.key)) at in
      list_any_at (λ (s : SpoolSet). s.class == class) (sets_at sets (filled_places places)) k set (slice_get_within (sets_at sets (filled_places places)) k set found)
      (ap (λ (s : SpoolSet). s.class == class) (get_or_from_slice_get (sets_at sets (filled_places places)) k set set found) ∙ eq-eqb set.class class is.of_class)
