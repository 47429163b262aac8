-- Names, and data set names by their components.
use Rattle.std.proofs.Common.{◌≡◌, ◌≤◌, ◌⊎◌, inl, inr, ℕ, Bool, true, false, cond, List, [], ◌∷◌, None, All, length, drop, refl, ap, ◌∙◌, subst, arith}
use Rattle.std.specs.Prelude.{not, ◌&&◌, ◌||◌, ◌==◌, suc, nat_le, nat_lt}
use Rattle.std.specs.List.{list_all, list_any}
use Rattle.std.proofs.lemmas.Bool.{and_parts, eqb-true, or_cases}
use Rattle.std.proofs.lemmas.List.Elements.{All-weaker}
use Rattle.std.proofs.lemmas.List.Folds.{list_all-append}
use Rattle.std.proofs.lemmas.List.Splits.{slice_split_at, slice_split_none}
use Rattle.std.proofs.lemmas.List.Sums.{AllPass-from_list_all}
use Rattle.jname_core.specs.Characters.{is_component_character, is_first, is_name_character}
use Rattle.jname_core.specs.Faults.{begins_badly, ds_name_fault, first_fault, has_other_than, name8_fault}
use Rattle.jname_core.specs.Faults as reader
use Rattle.jname_core.specs.Generations.{before_suffix, has_generation_form, is_bad_generation, suffix_number, suffix_version}
use Rattle.jname_core.specs.Grammar.{components_of}
use Rattle.reader_laws.specs.Spelled.{component_characters, first_characters, is_among, is_component, is_name, is_of, joined, name_characters}

-- what is among characters that pass a test passes it
-- by the first of the characters, or by one of the others
by_first : (p : ℕ → Bool) (d c : ℕ) (rest : Bool) → p d ≡ true → (rest ≡ true → p c ≡ true) → ((d == c) ≡ true) ⊎ (rest ≡ true) → p c ≡ true
by_first p d c rest h others (inl e) = subst (λ (x : ℕ). p x ≡ true) (eqb-true d c e) h
by_first p d c rest h others (inr e) = others e

pub among_passes : (p : ℕ → Bool) (characters : List ℕ) (c : ℕ) → list_all p characters ≡ true → is_among characters c ≡ true → p c ≡ true
among_passes p [] c h k = absurd cc
among_passes p (d ∷ characters) c h k =
    let halves = and_parts (p d) (list_all p characters) h in
    by_first p d c (is_among characters c) halves.0 (among_passes p characters c halves.1) (or_cases (d == c) (is_among characters c) k)

pub all_among : (p : ℕ → Bool) (characters text : List ℕ) → list_all p characters ≡ true → list_all (is_among characters) text ≡ true → list_all p text ≡ true
all_among p characters [] h k = refl
all_among p characters (c ∷ text) h k =
    let halves = and_parts (is_among characters c) (list_all (is_among characters) text) k in
    ap (λ (b : Bool). b && list_all p text) (among_passes p characters c h halves.0) ∙ all_among p characters text h halves.1

-- what a name has of its characters and its length
record IsOf (kind : ℕ → Bool) (text : List ℕ) : Type 0 where
  something : reader.is_empty text ≡ false
  short : nat_lt 8 (length text) ≡ false
  begins : begins_badly text ≡ false
  consists : list_all kind text ≡ true

pub not_zero : (n : ℕ) → (suc n == 0) ≡ false
not_zero n = grind (arith)

not_long : (n : ℕ) → nat_le n 7 ≡ true → nat_lt 8 (suc n) ≡ false
not_long n h = grind (arith)

of_kind : (kind : ℕ → Bool) (others text : List ℕ) → list_all kind first_characters ≡ true → list_all kind others ≡ true → is_of others text ≡ true →
    IsOf kind text
of_kind kind others [] h k e = absurd cc
of_kind kind others (c ∷ cs) h k e =
    let first = and_parts (is_among first_characters c) (list_all (is_among others) cs && nat_le (length cs) 7) e in
    let rest = and_parts (list_all (is_among others) cs) (nat_le (length cs) 7) first.1 in
    record {
      something = not_zero (length cs);
      short = not_long (length cs) rest.1;
      begins = ap not (among_passes is_first first_characters c refl first.0);
      consists = ap (λ (b : Bool). b && list_all kind cs) (among_passes kind first_characters c h first.0) ∙ all_among kind others cs k rest.0;
    }

-- all of a name, and of a component, passes a test
pub name_all : (p : ℕ → Bool) (text : List ℕ) → list_all p first_characters ≡ true → list_all p name_characters ≡ true → is_name text ≡ true →
    list_all p text ≡ true
name_all p text f n h = (of_kind p name_characters text f n h).consists

pub component_all : (p : ℕ → Bool) (part : List ℕ) → list_all p first_characters ≡ true → list_all p component_characters ≡ true →
    is_component part ≡ true → list_all p part ≡ true
component_all p part f n h = (of_kind p component_characters part f n h).consists

-- and all of a data set name
pub joined_all : (p : ℕ → Bool) (part : List ℕ) (parts : List (List ℕ)) → list_all p first_characters ≡ true → list_all p component_characters ≡ true →
    p 46 ≡ true → list_all is_component (part ∷ parts) ≡ true → list_all p (joined (part ∷ parts)) ≡ true
joined_all p part [] f n d h = component_all p part f n (and_parts (is_component part) true h).0
joined_all p part (next ∷ parts) f n d h =
    let halves = and_parts (is_component part) (list_all is_component (next ∷ parts)) h in
    list_all-append p part (46 ∷ joined (next ∷ parts)) ∙ λ i. component_all p part f n halves.0 i && (d i && joined_all p next parts f n d halves.1 i)

pub none_other : (kind : ℕ → Bool) (text : List ℕ) → list_all kind text ≡ true → has_other_than kind text ≡ false
none_other kind [] h = refl
none_other kind (c ∷ text) h =
    let halves = and_parts (kind c) (list_all kind text) h in
    ap (λ (b : Bool). not b || has_other_than kind text) halves.0 ∙ none_other kind text halves.1

no_fault : (a b c d : Bool) → a ≡ false → b ≡ false → c ≡ false → d ≡ false → first_fault a b c d ≡ None
no_fault a b c d h k l m = λ i. first_fault (h i) (k i) (l i) (m i)

pub neither : (a b : Bool) → a ≡ false → b ≡ false → (a || b) ≡ false
neither a b h k = ap (λ (x : Bool). x || b) h ∙ k

pub name_is : (text : List ℕ) → is_name text ≡ true → name8_fault text ≡ None
name_is text h =
    let n = of_kind is_name_character name_characters text refl refl h in
    no_fault (reader.is_empty text) (nat_lt 8 (length text)) (begins_badly text || has_other_than is_name_character text) false n.something n.short
    (neither (begins_badly text) (has_other_than is_name_character text) n.begins (none_other is_name_character text n.consists)) refl

is_false : (b : Bool) → not b ≡ true → b ≡ false
is_false true h = absurd cc
is_false false h = refl

-- no period stands in a component
no_period : (part : List ℕ) → is_component part ≡ true → All (λ c. (c == 46) ≡ false) part
no_period part h =
    let n = of_kind (λ c. not (c == 46)) component_characters part refl refl h in
    All-weaker (λ c. not (c == 46) ≡ true) (λ c. (c == 46)
    ≡ false) (λ c e. is_false (c == 46) e) part (AllPass-from_list_all (λ c. not (c == 46)) part n.consists)

pub components_are : (part : List ℕ) (parts : List (List ℕ)) → list_all is_component (part ∷ parts) ≡ true →
    components_of (joined (part ∷ parts)) ≡ part ∷ parts
components_are part [] h = slice_split_none (λ c. c == 46) part (no_period part (and_parts (is_component part) true h).0)
components_are part (next ∷ parts) h =
    let halves = and_parts (is_component part) (list_all is_component (next ∷ parts)) h in
    slice_split_at (λ c. c == 46) part 46 (joined (next ∷ parts)) (no_period part halves.0) refl
    ∙ ap (λ (rest : List (List ℕ)). part ∷ rest) (components_are next parts halves.1)

pub none_of : (p q : List ℕ → Bool) (parts : List (List ℕ)) → ((part : List ℕ) → q part ≡ true → p part ≡ false) → list_all q parts ≡ true →
    list_any p parts ≡ false
none_of p q [] each h = refl
none_of p q (part ∷ parts) each h =
    let halves = and_parts (q part) (list_all q parts) h in
    neither (p part) (list_any p parts) (each part halves.0) (none_of p q parts each halves.1)

component_of : (part : List ℕ) → is_component part ≡ true → IsOf is_component_character part
component_of part h = of_kind is_component_character component_characters part refl refl h

not_past : (most n : ℕ) → n ≤ most → nat_lt most n ≡ false
not_past most n h = grind (arith)

pub ds_name_within : (most : ℕ) (part : List ℕ) (parts : List (List ℕ)) → list_all is_component (part ∷ parts) ≡ true →
    length (joined (part ∷ parts)) ≤ most → is_bad_generation (joined (part ∷ parts)) ≡ false → ds_name_fault most (joined (part ∷ parts)) ≡ None
ds_name_within most part parts h fits good =
    let text : List ℕ = joined (part ∷ parts) in
    let all : List (List ℕ) = part ∷ parts in
    let are : components_of text ≡ all = components_are part parts h in
    let long : List ℕ → Bool = λ p. nat_lt 8 (length p) in
    let wrong : List ℕ → Bool = λ p. begins_badly p || has_other_than is_component_character p in
    no_fault (list_any reader.is_empty (components_of text)) (nat_lt most (length text) || list_any long (components_of text)) (list_any wrong
    (components_of text)) (is_bad_generation text)
    (ap (list_any reader.is_empty) are ∙ none_of reader.is_empty is_component all (λ p e. (component_of p e).something) h)
    (neither (nat_lt most (length text)) (list_any long (components_of text)) (not_past most (length text) fits)
    (ap (list_any long) are ∙ none_of long is_component all (λ p e. (component_of p e).short) h))
    (ap (list_any wrong) are ∙ none_of wrong is_component all
    (λ p e. neither (begins_badly p) (has_other_than is_component_character p) (component_of p e).begins (none_other is_component_character p
    (component_of p e).consists)) h)
    good

pub ds_name_is : (part : List ℕ) (parts : List (List ℕ)) → list_all is_component (part ∷ parts) ≡ true → length (joined (part ∷ parts)) ≤ 44 →
    has_generation_form (joined (part ∷ parts)) ≡ false → ds_name_fault 44 (joined (part ∷ parts)) ≡ None
ds_name_is part parts h fits plain =
    let text : List ℕ = joined (part ∷ parts) in
    ds_name_within 44 part parts h fits
    (ap (λ (b : Bool). b && cond (suffix_number (drop (before_suffix text) text) == 0) true (nat_lt 0 (suffix_version (drop (before_suffix text) text)))) plain)
