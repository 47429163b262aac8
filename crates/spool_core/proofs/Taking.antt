-- The first line of a set is taken.
use Rattle.std.proofs.Common.{◌⊎◌, inl, inr, ◌≡◌, ◌≢◌, ℕ, suc, ◌<◌, Bool, true, false, not, List, [], ◌∷◌, ◌++◌, None, Some, All, length, get_or, take, drop, refl, sym, ap, ◌∙◌, subst, unwrap_or, is_some}
use Rattle.std.specs.Prelude.{◌==◌, slice_get, slice_set}
use Rattle.std.proofs.lemmas.Bool.{and_parts, cases_eq, eqb-true}
use Rattle.std.specs.Option.{option_map}
use Rattle.std.proofs.Math.Dec.{eqb-suc-zero}
use Rattle.std.specs.List.{remove}
use Rattle.std.proofs.lemmas.List.{take-map}
use Rattle.std.proofs.lemmas.List.Elements.{All-map, All-same, All-take}
use Rattle.std.proofs.lemmas.Option.{get_or_from_slice_get, slice_get-map, slice_get_within}
use Rattle.slab.proofs.SlabLemmas.{Updates-with_value}
use Rattle.slab.specs.Slab.{Slab, Updates, get, with_value}
use Rattle.jcl_plan.specs.declared.entry.Written.{Written}
use Rattle.machine_meaning.specs.declared.machine.SpoolSet.{SpoolSet}
use Rattle.machine_meaning.specs.Spools.{HasNoSet, Takes, has_lines, left_of}
use Rattle.spool_core.specs.declared.spool.Place.{Place}
use Rattle.spool_core.specs.Places.{HasSet, IsFirst, Stand, filled_places, is_of, no_set, set_under, sets_at}
use Rattle.spool_core.proofs.Filled.{Parts, none_in_front, parts, removed, stands_at}
use Rattle.spool_core.proofs.Keeping.{SameBut, sets_with, sets_without, split_at, stand_without}

pub no_set_of : (sets : Slab SpoolSet) (places : List Place) (class : ℕ) → All (HasSet sets) places → All (λ (p : Place). p.class ≢ class) places → HasNoSet (sets_at sets places) class
no_set_of sets places class filled none =
    All-map (λ (set : SpoolSet). set.class ≢ class) (λ (p : Place). set_under sets p.key) places
    (λ k d within e. none k d within (sym (filled k d within).of_class ∙ e))

-- the first place of a class, as it is read
pub record IsRead (sets : Slab SpoolSet) (places : List Place) (class index : ℕ) (place : Place) : Type 0 where
  pub within : index < length places
  pub at : slice_get places index ≡ Some place
  pub of_class : (set_under sets place.key).class ≡ class
  pub place_class : (set_under sets place.key).class ≡ place.class
  pub with_lines : has_lines (set_under sets place.key) ≡ true
  pub none_before : All (λ (p : Place). p.class ≢ class) (take index places)

pub read : (sets : Slab SpoolSet) (places : List Place) (class index : ℕ) (place : Place) → Stand sets places → slice_get places index ≡ Some place → place.class ≡ class →
    All (λ (p : Place). p.class ≢ class) (take index places) → IsRead sets places class index place
read sets places class index place stand at of_class none =
    let within = slice_get_within places index place at in
    let has = subst (HasSet sets) (get_or_from_slice_get places index place place at) (stand.filled index place within) in
    record {
      within = within;
      at = at;
      of_class = has.of_class ∙ of_class;
      place_class = has.of_class;
      with_lines = has.with_lines;
      none_before = none;
    }

left_some : (set rest : SpoolSet) → rest ≡ record set { lines = rest.lines } → has_lines rest ≡ true → left_of set rest.lines ≡ rest ∷ []
left_some set rest e h = by_lines rest.lines refl
  where
    if_true : Bool → Type 0
    if_true true = Unit {0}
    if_true false = ⊥

    by_lines : (lines : List Written) → rest.lines ≡ lines → left_of set rest.lines ≡ rest ∷ []
    by_lines [] l = absurd (subst if_true (sym (ap (λ ls. has_lines (record rest { lines = ls })) (sym l) ∙ h)) tt)
    by_lines (x ∷ lines) l = ap (left_of set) l ∙ ap (λ ls. record set { lines = ls } ∷ []) (sym l) ∙ ap (λ s. s ∷ []) (sym e)

left_none : (set rest : SpoolSet) → has_lines rest ≡ false → left_of set rest.lines ≡ []
left_none set rest h = by_lines rest.lines refl
  where
    if_true : Bool → Type 0
    if_true true = Unit {0}
    if_true false = ⊥

    by_lines : (lines : List Written) → rest.lines ≡ lines → left_of set rest.lines ≡ []
    by_lines [] l = ap (left_of set) l
    by_lines (x ∷ lines) l = absurd (subst if_true (sym (ap not (eqb-suc-zero (length lines))) ∙ ap (λ ls. has_lines (record rest { lines = ls })) (sym l) ∙ h) tt)

-- a line is taken from the set at the first place of a class
pub record Pops (sets : Slab SpoolSet) (places : List Place) (class index : ℕ) (place : Place) (set rest : SpoolSet) (job : ℕ) (line : Written) : Type 0 where
  pub stand : Stand sets places
  pub there : IsRead sets places class index place
  pub set_is : Some set ≡ get sets place.key
  pub is_first : set.lines ≡ line ∷ rest.lines
  pub of_job : job ≡ set.job
  pub rest_is : rest ≡ record set { lines = rest.lines }

module _ {sets : Slab SpoolSet} {places : List Place} {class index : ℕ} {place : Place} {set rest : SpoolSet} {job : ℕ} {line : Written} (p : Pops sets places class index place set rest job line) where
  under : set_under sets place.key ≡ set
  under = ap (λ o. unwrap_or o no_set) (sym p.set_is)

  written : Updates sets (with_value sets place.key rest) place.key (Some rest)
  written = Updates-with_value sets place.key rest (ap is_some (sym p.set_is))

  now_rest : set_under (with_value sets place.key rest) place.key ≡ rest
  now_rest = ap (λ o. unwrap_or o no_set) written.changed

  taken : (left : List SpoolSet) → left ≡ take index (sets_at sets places) ++ (left_of set rest.lines ++ drop (suc index) (sets_at sets places)) → Takes (sets_at sets places) class job line left
  taken left is = record {
    before = take index (sets_at sets places);
    set = set;
    after = drop (suc index) (sets_at sets places);
    lines = rest.lines;
    stands = split_at (sets_at sets places) index set (slice_get-map (λ (q : Place). set_under sets q.key) places index ∙ ap (option_map (λ (q : Place). set_under sets q.key)) p.there.at ∙ ap Some under);
    none_before = All-same (λ (s : SpoolSet). s.class ≢ class) (take index (sets_at sets places)) (sets_at sets (take index places)) (take-map (λ (q : Place). set_under sets q.key) index places)
        (no_set_of sets (take index places) class (All-take (HasSet sets) index places p.stand.filled) p.there.none_before);
    of_class = ap (λ (s : SpoolSet). s.class) (sym under) ∙ p.there.of_class;
    of_job = sym p.of_job;
    is_first = p.is_first;
    is_left = is;
  }

  -- lines are left in the set
  pub taken_first : has_lines rest ≡ true → Takes (sets_at sets places) class job line (sets_at (with_value sets place.key rest) places)
  taken_first some =
      let front = take index (sets_at sets places) in
      let behind = drop (suc index) (sets_at sets places) in
      taken (sets_at (with_value sets place.key rest) places)
      (sets_with sets (with_value sets place.key rest) places index place p.stand p.there.at written.others ∙ ap (λ s. front ++ s ∷ behind) now_rest ∙ ap (λ l. front ++ (l ++ behind)) (sym (left_some set rest p.rest_is some)))

  pub stands_first : has_lines rest ≡ true → Stand (with_value sets place.key rest) places
  stands_first some = record { filled = λ k d within. by (get_or places k d) (p.stand.filled k d within) (cases_eq (get_or places k d).key place.key); apart = p.stand.apart }
    where
      by : (q : Place) → HasSet sets q → (q.key ≡ place.key) ⊎ (q.key ≡ place.key → ⊥) → HasSet (with_value sets place.key rest) q
      by q has (inl same) = record {
        of_class = ap (λ (key : ℕ). (set_under (with_value sets place.key rest) key).class) same ∙ ap (λ (s : SpoolSet). s.class) now_rest ∙ ap (λ (s : SpoolSet). s.class) p.rest_is
            ∙ ap (λ (s : SpoolSet). s.class) (sym under) ∙ ap (λ (key : ℕ). (set_under sets key).class) (sym same) ∙ has.of_class;
        with_lines = ap (λ (key : ℕ). has_lines (set_under (with_value sets place.key rest) key)) same ∙ ap has_lines now_rest ∙ some;
      }
      by q has (inr other) =
          let is = ap (λ o. unwrap_or o no_set) (written.others q.key other) in
          record { of_class = ap (λ (s : SpoolSet). s.class) is ∙ has.of_class; with_lines = ap has_lines is ∙ has.with_lines }

  -- it was the last line, and the set is taken out
  module _ (later : Slab SpoolSet) (out : Updates (with_value sets place.key rest) later place.key None) where
    same_but : SameBut sets later place.key
    same_but other differs = out.others other differs ∙ written.others other differs

    pub taken_last : has_lines rest ≡ false → Takes (sets_at sets places) class job line (sets_at later (remove places index))
    taken_last none =
        let front = take index (sets_at sets places) in
        let behind = drop (suc index) (sets_at sets places) in
        taken (sets_at later (remove places index))
        (sets_without sets later places index place p.stand p.there.at same_but ∙ ap (λ l. front ++ (l ++ behind)) (sym (left_none set rest none)))

    pub stands_last : Stand later (remove places index)
    stands_last = stand_without sets later places index place p.stand p.there.at same_but

-- a line is taken from the set at the first place of a class, among places of which some are empty
module _ {sets : Slab SpoolSet} {places : List Place} {class index : ℕ} {place : Place} {set rest : SpoolSet} {job : ℕ} {line : Written}
    (stand : Stand sets (filled_places places)) (first : IsFirst places class index) (is : place ≡ get_or places index place) (set_is : Some set ≡ get sets place.key)
    (took : (set.lines ≡ line ∷ rest.lines) × (job ≡ set.job) × (rest ≡ record set { lines = rest.lines })) where
  same_place : first.place ≡ place
  same_place = sym (is ∙ get_or_from_slice_get places index first.place place first.at)

  at_place : slice_get places index ≡ Some place
  at_place = first.at ∙ ap Some same_place

  of_class : (place.filled ≡ true) × ((place.class == class) ≡ true)
  of_class = and_parts place.filled (place.class == class) (ap (is_of class) (sym same_place) ∙ first.of_class)

  pub is_inside : index < length places
  is_inside = slice_get_within places index place at_place

  r : Parts places index place
  r = parts places index place at_place of_class.0

  popped : Pops sets (filled_places places) class (length r.front) place set rest job line
  popped = record {
    stand = stand;
    there = read sets (filled_places places) class (length r.front) place stand (stands_at r) (eqb-true place.class class of_class.1) (none_in_front r class first.none_before);
    set_is = set_is;
    is_first = took.0;
    of_job = took.1;
    rest_is = took.2;
  }

  pub first_stands : has_lines rest ≡ true → Stand (with_value sets place.key rest) (filled_places places)
  first_stands some = stands_first popped some

  pub first_taken : has_lines rest ≡ true → Takes (sets_at sets (filled_places places)) class job line (sets_at (with_value sets place.key rest) (filled_places places))
  first_taken some = taken_first popped some

  pub last_taken : (later : Slab SpoolSet) → Updates (with_value sets place.key rest) later place.key None → has_lines rest ≡ false → (q : Place) → q.filled ≡ false →
      Takes (sets_at sets (filled_places places)) class job line (sets_at later (filled_places (slice_set places index q)))
  last_taken later out none q e =
      subst (λ ps. Takes (sets_at sets (filled_places places)) class job line (sets_at later ps)) (removed r q e) (taken_last popped later out none)

  pub last_stands : (later : Slab SpoolSet) → Updates (with_value sets place.key rest) later place.key None → (q : Place) → q.filled ≡ false → Stand later (filled_places (slice_set places index q))
  last_stands later out q e = subst (Stand later) (removed r q e) (stands_last popped later out)

-- at the first place of a class lies a set with lines
pub has_first : (sets : Slab SpoolSet) (places : List Place) (class index : ℕ) (place : Place) → Stand sets (filled_places places) → IsFirst places class index → place ≡ get_or places index place →
    has_lines (set_under sets place.key) ≡ true
has_first sets places class index place stand first is =
    let same : first.place ≡ place = sym (is ∙ get_or_from_slice_get places index first.place place first.at) in
    let at : slice_get places index ≡ Some place = first.at ∙ ap Some same in
    let of_class = and_parts place.filled (place.class == class) (ap (is_of class) (sym same) ∙ first.of_class) in
    let r = parts places index place at of_class.0 in
    let within = slice_get_within (filled_places places) (length r.front) place (stands_at r) in
    (subst (HasSet sets) (get_or_from_slice_get (filled_places places) (length r.front) place place (stands_at r)) (stand.filled (length r.front) place within)).with_lines

pub set_there : (sets : Slab SpoolSet) (key : ℕ) → has_lines (set_under sets key) ≡ true → None ≡ get sets key → ⊥
set_there sets key some none =
    let both : false ≡ true = ap (λ o. has_lines (unwrap_or o no_set)) none ∙ some in
    absurd (cc)

pub lines_there : (sets : Slab SpoolSet) (key : ℕ) (set : SpoolSet) → has_lines (set_under sets key) ≡ true → Some set ≡ get sets key → set.lines ≡ [] → ⊥
lines_there sets key set some is none =
    let both : false ≡ true = ap (λ (l : List Written). has_lines (record set { lines = l })) (sym none) ∙ ap (λ o. has_lines (unwrap_or o no_set)) is ∙ some in
    absurd (cc)
