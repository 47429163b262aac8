-- the parts of a reference, one by one
use Rattle.std.proofs.Common.{◌≡◌, ℕ, ◌==◌, ◌<◌, ◌≤◌, ◌⊎◌, inl, inr, Bool, true, false, cond, not, List, [], ◌∷◌, ◌++◌, length, take, drop, take_while, Option, Some, None, is_some, nat_lt, Bor, refl, sym, ap, ◌∙◌, arith, lt-ltb, le-ltb, length-append, append_assoc}
use Rattle.std.specs.List.{flat_map, onto_first}
use Rattle.std.specs.Option.{option_copied}
use Rattle.std.proofs.lemmas.Bool.{cases_lt}
use Rattle.std.proofs.lemmas.Grind.{flat_map-append}
use Rattle.std.proofs.lemmas.List.{append-nil}
use Rattle.std.proofs.lemmas.List.Sums.{take_while-cons}
use Rattle.std.proofs.lemmas.List.Splits.{length-slice_split, slice_split-cons_yes, slice_split-cons_no}
use Rattle.jname_core.specs.Grammar.{components_of}
use Rattle.jcl_plan.specs.declared.fault.Cause.TheVariants.{P}
use Rattle.jcl_plan.specs.declared.fault.StatementFault.TheVariants.{BadValue}
use Rattle.operand_core.specs.Faults.{name_faults, told, when}
use Rattle.operand_core.specs.Qualified.{is_no_period}
use Rattle.value_core.specs.References.{components_left, dd_reference, parts_faults, step_reference}

abbrev pub behind_first : List ℕ → Option (List ℕ)
behind_first [] = None
behind_first (c ∷ cs) = Some cs

-- the parts, by what stands before the first period
abbrev pub first_and_left : List ℕ → List ℕ → List (List ℕ)
first_and_left text head = take (length head) text ∷ components_left (behind_first (drop (length head) text))

split_cases : (c : ℕ) (cs : List ℕ) (b : Bool) → (c == 46) ≡ b → components_of cs ≡ first_and_left cs (take_while is_no_period cs) →
    components_of (c ∷ cs) ≡ first_and_left (c ∷ cs) (take_while is_no_period (c ∷ cs))
split_cases c cs true is later =
    let head : take_while is_no_period (c ∷ cs) ≡ [] = take_while-cons is_no_period c cs ∙ ap (λ (b : Bool). cond (not b) (c ∷ take_while is_no_period cs) []) is in
    slice_split-cons_yes (λ x. x == 46) c cs is ∙ ap (first_and_left (c ∷ cs)) (sym head)
split_cases c cs false is later =
    let head : take_while is_no_period (c ∷ cs) ≡ c ∷ take_while is_no_period cs = take_while-cons is_no_period c cs ∙ ap (λ (b : Bool). cond (not b) (c ∷ take_while is_no_period cs) []) is in
    slice_split-cons_no (λ x. x == 46) c cs is ∙ ap (onto_first c) later ∙ ap (first_and_left (c ∷ cs)) (sym head)

pub components-first : (text : List ℕ) → components_of text ≡ first_and_left text (take_while is_no_period text)
components-first [] = refl
components-first (c ∷ cs) = split_cases c cs (c == 46) refl (components-first cs)

-- by a split of the text there
pub components_some : (text front back rest : List ℕ) (n c : ℕ) → n ≡ length (take_while is_no_period text) → front ≡ take n text → back ≡ drop n text → back ≡ c ∷ rest →
    components_of text ≡ front ∷ components_of rest
components_some text front back rest n c count f b is =
    let head : take (length (take_while is_no_period text)) text ≡ front = ap (λ k. take k text) (sym count) ∙ sym f in
    let tail : drop (length (take_while is_no_period text)) text ≡ c ∷ rest = ap (λ k. drop k text) (sym count) ∙ sym b ∙ is in
    components-first text
    ∙ ap (λ part. part ∷ components_left (behind_first (drop (length (take_while is_no_period text)) text))) head
    ∙ ap (λ behind. front ∷ components_left (behind_first behind)) tail

nothing : (xs : List ℕ) → length xs ≡ 0 → xs ≡ []
nothing [] h = refl
nothing (x ∷ xs) h = absurd (omega arith)

pub components_none : (text front back : List ℕ) (n : ℕ) → n ≡ length (take_while is_no_period text) → front ≡ take n text → back ≡ drop n text → length back ≡ 0 →
    components_of text ≡ front ∷ []
components_none text front back n count f b is =
    let head : take (length (take_while is_no_period text)) text ≡ front = ap (λ k. take k text) (sym count) ∙ sym f in
    let tail : drop (length (take_while is_no_period text)) text ≡ [] = ap (λ k. drop k text) (sym count) ∙ sym b ∙ nothing back is in
    components-first text
    ∙ ap (λ part. part ∷ components_left (behind_first (drop (length (take_while is_no_period text)) text))) head
    ∙ ap (λ behind. front ∷ components_left (behind_first behind)) tail

-- whether parts are left
pub some_left : (rest : Option (Bor (List ℕ))) → is_some rest ≡ nat_lt 0 (length (components_left (option_copied rest)))
some_left None = refl
some_left (Some text) = sym (lt-ltb 0 (length (components_of text.now)) (omega (arith, length-slice_split (λ c. c == 46) text.now)))

-- the faults of parts of which the first are not too many
too_many : (front more : List (List ℕ)) → nat_lt (length front) (length (front ++ more)) ≡ nat_lt 0 (length more)
too_many front more = tests (cases_lt 0 (length more))
  where
    tests : (0 < length more) ⊎ (length more ≤ 0) → nat_lt (length front) (length (front ++ more)) ≡ nat_lt 0 (length more)
    tests (inl some) = lt-ltb (length front) (length (front ++ more)) (omega (arith, length-append front more)) ∙ sym (lt-ltb 0 (length more) some)
    tests (inr none) = le-ltb (length front) (length (front ++ more)) (omega (arith, length-append front more)) ∙ sym (le-ltb 0 (length more) none)

pub front_faults : (front more : List (List ℕ)) → parts_faults (length front) (front ++ more) ≡ flat_map name_faults front ++ parts_faults 0 more
front_faults front more =
    ap (λ faults. faults ++ when (nat_lt (length front) (length (front ++ more))) (P BadValue)) (flat_map-append name_faults front more)
    ∙ append_assoc (flat_map name_faults front) (flat_map name_faults more) (when (nat_lt (length front) (length (front ++ more))) (P BadValue))
    ∙ ap (λ many. flat_map name_faults front ++ (flat_map name_faults more ++ when many (P BadValue))) (too_many front more)

pub two_faults : (most : ℕ) (parts : List (List ℕ)) (s d : List ℕ) → nat_lt most 2 ≡ false → parts ≡ s ∷ (d ∷ []) →
    told (parts_faults most parts) ≡ told (name_faults s ++ name_faults d)
two_faults most parts s d few is =
    ap (λ parts. told (parts_faults most parts)) is
    ∙ ap (λ (many : Bool). told ((name_faults s ++ (name_faults d ++ [])) ++ when many (P BadValue))) few
    ∙ ap told (append-nil (name_faults s ++ (name_faults d ++ [])))
    ∙ ap (λ faults. told (name_faults s ++ faults)) (append-nil (name_faults d))

pub step_faults : (text s p : List ℕ) (more : List (List ℕ)) → components_of text ≡ s ∷ (p ∷ more) →
    told (step_reference text).faults ≡ told ((name_faults s ++ name_faults p) ++ parts_faults 0 more)
step_faults text s p more is =
    ap (λ parts. told (parts_faults 2 parts)) is
    ∙ ap told (front_faults (s ∷ (p ∷ [])) more)
    ∙ ap (λ faults. told ((name_faults s ++ faults) ++ parts_faults 0 more)) (append-nil (name_faults p))

pub dd_faults : (text s p d : List ℕ) (more : List (List ℕ)) → components_of (drop 2 text) ≡ s ∷ (p ∷ (d ∷ more)) →
    told (dd_reference text).faults ≡ told ((name_faults s ++ (name_faults p ++ name_faults d)) ++ parts_faults 0 more)
dd_faults text s p d more is =
    ap (λ parts. told (parts_faults 3 parts)) is
    ∙ ap told (front_faults (s ∷ (p ∷ (d ∷ []))) more)
    ∙ ap (λ faults. told ((name_faults s ++ (name_faults p ++ faults)) ++ parts_faults 0 more)) (append-nil (name_faults d))
