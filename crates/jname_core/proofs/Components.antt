-- The components of a data set name: no fault holds of any exactly where each keeps to the grammar, and those of a joined text.
use Rattle.std.proofs.Common.{◌≡◌, ◌↔◌, ◌<◌, ◌+◌, ℕ, Bool, true, false, ◌||◌, ◌==◌, cond, nat_lt, List, [], ◌∷◌, ◌++◌, length, None, refl, ap, ◌∙◌, sym, subst, arith, le-ltb, ltb-false, length-append}
use Rattle.std.specs.List.{slice_split, onto_first, list_any, AllByRecursion}
use Rattle.std.proofs.lemmas.Bool.{or_parts, or_from, or_left, not-false, not_from_true}
use Rattle.std.proofs.lemmas.List.Splits.{slice_split-cons_yes, slice_split-cons_no, length-slice_split}
use Rattle.jname_core.specs.Characters.{is_first, is_name_character, is_component_character}
use Rattle.jname_core.specs.Faults.{is_empty, begins_badly, has_other_than, has_empty_component, has_long_component, has_bad_component, ds_name_fault}
use Rattle.jname_core.specs.Generations.{is_bad_generation}
use Rattle.jname_core.specs.Grammar.{Consists, IsComponent, components_of, IsDotted, IsDsNameWithin}
use Rattle.jname_core.proofs.CharacterTests.{consists_from_none, none_from_consists, name_from_first, first_fault_none, first_fault_from}
use Rattle.jname_core.proofs.Names.{not_empty}

abbrev pub is_long : List ℕ → Bool
is_long part = nat_lt 8 (length part)

abbrev pub is_bad : List ℕ → Bool
is_bad part = begins_badly part || has_other_than is_component_character part

pub component_from_none : (part : List ℕ) → is_empty part ≡ false → is_long part ≡ false → is_bad part ≡ false → IsComponent part
component_from_none [] empty long bad = cc
component_from_none (c ∷ cs) empty long bad =
    let q : (begins_badly (c ∷ cs) ≡ false) × (has_other_than is_component_character (c ∷ cs) ≡ false)
    = or_parts (begins_badly (c ∷ cs)) (has_other_than is_component_character (c ∷ cs)) bad in
    let k : Consists is_component_character (c ∷ cs) = consists_from_none is_component_character (c ∷ cs) q.1 in
    (not-false (is_first c) q.0, k.1, omega (arith, ltb-false 8 (length (c ∷ cs)) long))

pub none_from_component : (part : List ℕ) → IsComponent part → (is_empty part ≡ false) × (is_long part ≡ false) × (is_bad part ≡ false)
none_from_component [] h = absurd h
none_from_component (c ∷ cs) h = (
  not_empty c cs,
  le-ltb 8 (length (c ∷ cs)) (omega arith),
  or_from (begins_badly (c ∷ cs)) (has_other_than is_component_character (c ∷ cs)) (not_from_true (is_first c) h.0)
      (none_from_consists is_component_character (c ∷ cs) (or_left (is_name_character c) (c == 45) (name_from_first c h.0), h.1)),
)

pub components_from_none : (parts : List (List ℕ)) → list_any is_empty parts ≡ false → list_any is_long parts ≡ false → list_any is_bad parts ≡ false → AllByRecursion IsComponent parts
components_from_none [] empty long bad = tt
components_from_none (part ∷ parts) empty long bad =
    let e : (is_empty part ≡ false) × (list_any is_empty parts ≡ false) = or_parts (is_empty part) (list_any is_empty parts) empty in
    let l : (is_long part ≡ false) × (list_any is_long parts ≡ false) = or_parts (is_long part) (list_any is_long parts) long in
    let b : (is_bad part ≡ false) × (list_any is_bad parts ≡ false) = or_parts (is_bad part) (list_any is_bad parts) bad in
    (component_from_none part e.0 l.0 b.0, components_from_none parts e.1 l.1 b.1)

pub none_from_components : (parts : List (List ℕ)) → AllByRecursion IsComponent parts → (list_any is_empty parts ≡ false) × (list_any is_long parts ≡ false) × (list_any is_bad parts ≡ false)
none_from_components [] h = (refl, refl, refl)
none_from_components (part ∷ parts) h =
    let p : (is_empty part ≡ false) × (is_long part ≡ false) × (is_bad part ≡ false) = none_from_component part h.0 in
    let q : (list_any is_empty parts ≡ false) × (list_any is_long parts ≡ false) × (list_any is_bad parts ≡ false) = none_from_components parts h.1 in (
      or_from (is_empty part) (list_any is_empty parts) p.0 q.0,
      or_from (is_long part) (list_any is_long parts) p.1 q.1,
      or_from (is_bad part) (list_any is_bad parts) p.2 q.2,
    )

pub ds_name_from_none : (limit : ℕ) (text : List ℕ) → ds_name_fault limit text ≡ None → IsDsNameWithin limit text
ds_name_from_none limit text h =
    let p : (has_empty_component text ≡ false) × ((nat_lt limit (length text) || has_long_component text) ≡ false) × (has_bad_component text ≡ false) × (is_bad_generation text ≡ false)
    = first_fault_none (has_empty_component text) (nat_lt limit (length text) || has_long_component text) (has_bad_component text) (is_bad_generation text) h in
    let q : (nat_lt limit (length text) ≡ false) × (has_long_component text ≡ false) = or_parts (nat_lt limit (length text)) (has_long_component text) p.1 in
    record {
      dotted = record {
        fits = ltb-false limit (length text) q.0;
        joined = components_from_none (components_of text) p.0 q.1 p.2;
      };
      generation = p.3;
    }

pub ds_name_none : (limit : ℕ) (text : List ℕ) → IsDsNameWithin limit text → ds_name_fault limit text ≡ None
ds_name_none limit text h =
    let q : (has_empty_component text ≡ false) × (has_long_component text ≡ false) × (has_bad_component text ≡ false) = none_from_components (components_of text) h.dotted.joined in
    first_fault_from (has_empty_component text) (nat_lt limit (length text) || has_long_component text) (has_bad_component text) (is_bad_generation text)
    q.0 (or_from (nat_lt limit (length text)) (has_long_component text) (le-ltb limit (length text) h.dotted.fits) q.1) q.2 h.generation

pub ds_name_exact : (limit : ℕ) (text : List ℕ) → (ds_name_fault limit text ≡ None) ↔ IsDsNameWithin limit text
ds_name_exact limit text = (ds_name_from_none limit text, ds_name_none limit text)

-- what stands before a period and what stands behind it is split apart
onto_first-append : {X : Type 0} (x : X) (parts more : List (List X)) → 0 < length parts → onto_first x (parts ++ more) ≡ onto_first x parts ++ more
onto_first-append x [] more h = absurd (omega arith)
onto_first-append x (part ∷ parts) more h = refl

split_step : {X : Type 0} (b : Bool) (x : X) (parts more : List (List X)) → 0 < length parts → cond b ([] ∷ (parts ++ more)) (onto_first x (parts ++ more)) ≡ cond b ([] ∷ parts) (onto_first x parts) ++ more
split_step true x parts more h = refl
split_step false x parts more h = onto_first-append x parts more h

pub slice_split-append : {X : Type 0} (p : X → Bool) (xs : List X) (y : X) (ys : List X) → p y ≡ true → slice_split p (xs ++ y ∷ ys) ≡ slice_split p xs ++ slice_split p ys
slice_split-append p [] y ys h = slice_split-cons_yes p y ys h
slice_split-append p (x ∷ xs) y ys h =
    ap (λ parts. cond (p x) ([] ∷ parts) (onto_first x parts)) (slice_split-append p xs y ys h)
    ∙ split_step (p x) x (slice_split p xs) (slice_split p ys) (omega (arith, length-slice_split p xs))

-- a text without a period is one component
pub split_of_none : {X : Type 0} (p : X → Bool) (xs : List X) → list_any p xs ≡ false → slice_split p xs ≡ xs ∷ []
split_of_none p [] h = refl
split_of_none p (x ∷ xs) h =
    let q : (p x ≡ false) × (list_any p xs ≡ false) = or_parts (p x) (list_any p xs) h in
    slice_split-cons_no p x xs q.0 ∙ ap (onto_first x) (split_of_none p xs q.1)

all_front : {X : Type 0} (P : X → Type 0) (xs ys : List X) → AllByRecursion P (xs ++ ys) → AllByRecursion P xs
all_front P [] ys h = tt
all_front P (x ∷ xs) ys h = (h.0, all_front P xs ys h.1)

all_joined : {X : Type 0} (P : X → Type 0) (xs ys : List X) → AllByRecursion P xs → AllByRecursion P ys → AllByRecursion P (xs ++ ys)
all_joined P [] ys h k = k
all_joined P (x ∷ xs) ys h k = (h.0, all_joined P xs ys h.1 k)

pub dotted_front : (limit : ℕ) (front rest : List ℕ) → IsDotted limit (front ++ 46 ∷ rest) → IsDotted limit front
dotted_front limit front rest h = record {
  fits = omega (arith, h.fits, length-append front (46 ∷ rest));
  joined = all_front IsComponent (components_of front) (components_of rest)
      (subst (AllByRecursion IsComponent) (slice_split-append (λ c. c == 46) front 46 rest refl) h.joined);
}

pub dotted_joined : (limit : ℕ) (front rest : List ℕ) → IsDotted limit front → AllByRecursion IsComponent (components_of rest) → length front + length rest < limit → IsDotted limit (front ++ 46 ∷ rest)
dotted_joined limit front rest h k l = record {
  fits = omega (arith, length-append front (46 ∷ rest));
  joined = subst (AllByRecursion IsComponent) (sym (slice_split-append (λ c. c == 46) front 46 rest refl))
      (all_joined IsComponent (components_of front) (components_of rest) h.joined k);
}
