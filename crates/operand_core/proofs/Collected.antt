-- the parts of an operand, collected one after another
use Rattle.std.proofs.Common.{◌≡◌, ℕ, suc, Bool, true, false, cond, not, ◌||◌, List, [], ◌∷◌, ◌++◌, drop, length, map, nat_lt, Option, Some, None, IfSome, IfNone, is_some, Bor, append_assoc, refl, sym, ap, ◌∙◌}
use Rattle.std.specs.List.{flat_map, list_any}
use Rattle.std.specs.Option.{option_copied}
use Rattle.std.proofs.lemmas.List.{append-nil, length-map}
use Rattle.std.proofs.lemmas.List.Sums.{take_while-cons}
use Rattle.jcl_plan.specs.declared.fault.Cause.{Cause}
use Rattle.operand_core.specs.Faults.{earlier, told}
use Rattle.operand_core.specs.Operands.{Keyword, behind_positional, is_crowded, is_positional, keyword_of, keywords_of, onto_keywords, part_faults, parts_of, places_of, positional_parts, read_of}
use Rattle.operand_core.specs.Reading.{Parts, all_parts, no_parts, put_behind, with_fault, with_part}
use Rattle.operand_core.specs.Subparameters.{places_left}
use Rattle.operand_core.proofs.Told.{earlier_assoc, told_append}

abbrev parts_by : List (Option (List ℕ)) → List Keyword → Bool → Option Cause → Parts
parts_by positional keywords crowded fault = record { positional = positional; keywords = keywords; crowded = crowded; fault = fault }

abbrev read_parts : List (List ℕ) → List (Option (List ℕ))
read_parts parts = map (λ part. read_of part part) parts

-- what is collected with those that are left
abbrev behind_by : List Keyword → Parts → List (List ℕ) → Parts
behind_by [] s rest = parts_by (s.positional ++ read_parts (positional_parts rest)) (keywords_of rest)
    (s.crowded || list_any is_positional (behind_positional rest)) (earlier s.fault (told (flat_map part_faults rest)))
behind_by (k ∷ keywords) s rest = parts_by s.positional ((k ∷ keywords) ++ keywords_of rest)
    (s.crowded || list_any is_positional rest) (earlier s.fault (told (flat_map part_faults rest)))

abbrev pub behind : Parts → List (List ℕ) → Parts
behind s rest = behind_by s.keywords s rest

-- how far it is to the end of what is left, none being left behind the last part
abbrev pub characters_left : Option (List ℕ) → ℕ
characters_left None = 0
characters_left (Some text) = suc (length text)

pub before_all : (parts : List (List ℕ)) → behind no_parts parts ≡ all_parts parts
before_all parts = refl

same_parts : {positional positional' : List (Option (List ℕ))} {keywords keywords' : List Keyword} {crowded crowded' : Bool} {fault fault' : Option Cause} →
    positional ≡ positional' → keywords ≡ keywords' → crowded ≡ crowded' → fault ≡ fault' →
    parts_by positional keywords crowded fault ≡ parts_by positional' keywords' crowded' fault'
same_parts p k c f = λ i. record { positional = p i; keywords = k i; crowded = c i; fault = f i }

or_false : (b : Bool) → (b || false) ≡ b
or_false true = refl
or_false false = refl

or_true : (b x : Bool) → (b || true) ≡ (true || x)
or_true true x = refl
or_true false x = refl

earlier_none : (f : Option Cause) → earlier f None ≡ f
earlier_none None = refl
earlier_none (Some f) = refl

none_left_by : (positional : List (Option (List ℕ))) (keywords : List Keyword) (crowded : Bool) (fault : Option Cause) →
    behind_by keywords (parts_by positional keywords crowded fault) [] ≡ parts_by positional keywords crowded fault
none_left_by positional [] crowded fault = same_parts (append-nil positional) refl (or_false crowded) (earlier_none fault)
none_left_by positional (k ∷ keywords) crowded fault = same_parts refl (append-nil (k ∷ keywords)) (or_false crowded) (earlier_none fault)

pub none_left : (s : Parts) → behind s [] ≡ s
none_left s = none_left_by s.positional s.keywords s.crowded s.fault

fault_more : (fault : Option Cause) (part : List ℕ) (rest : List (List ℕ)) →
    earlier fault (told (flat_map part_faults (part ∷ rest))) ≡ earlier (earlier fault (told (part_faults part))) (told (flat_map part_faults rest))
fault_more fault part rest =
    ap (earlier fault) (told_append (part_faults part) (flat_map part_faults rest))
    ∙ sym (earlier_assoc fault (told (part_faults part)) (told (flat_map part_faults rest)))

front_by : (part : List ℕ) (rest : List (List ℕ)) (found : Option (List ℕ × List ℕ)) → keyword_of part ≡ found →
    positional_parts (part ∷ rest) ≡ cond (not (is_some found)) (part ∷ positional_parts rest) []
front_by part rest found is =
    take_while-cons is_positional part rest ∙ ap (λ f. cond (not (is_some f)) (part ∷ positional_parts rest) []) is

any_by : (part : List ℕ) (rest : List (List ℕ)) (found : Option (List ℕ × List ℕ)) → keyword_of part ≡ found →
    list_any is_positional (part ∷ rest) ≡ (not (is_some found) || list_any is_positional rest)
any_by part rest found is = ap (λ f. not (is_some f) || list_any is_positional rest) is

keywords_by : (part : List ℕ) (rest : List (List ℕ)) (found : Option (List ℕ × List ℕ)) → keyword_of part ≡ found →
    keywords_of (part ∷ rest) ≡ onto_keywords part found (keywords_of rest)
keywords_by part rest found is = ap (λ f. onto_keywords part f (keywords_of rest)) is

one_more_by : (positional : List (Option (List ℕ))) (keywords : List Keyword) (crowded : Bool) (fault : Option Cause) (part : List ℕ) (rest : List (List ℕ))
    (found : Option (List ℕ × List ℕ)) → keyword_of part ≡ found →
    behind (parts_by positional keywords crowded fault) (part ∷ rest) ≡ behind (with_fault part (put_behind part found (parts_by positional keywords crowded fault))) rest
one_more_by positional [] crowded fault part rest None is =
    let front : positional_parts (part ∷ rest) ≡ part ∷ positional_parts rest = front_by part rest None is in
    same_parts
    (ap (λ parts. positional ++ read_parts parts) front ∙ sym (append_assoc positional (read_of part part ∷ []) (read_parts (positional_parts rest))))
    (keywords_by part rest None is)
    (ap (λ (parts : List (List ℕ)). crowded || list_any is_positional (drop (length parts) (part ∷ rest))) front)
    (fault_more fault part rest)
one_more_by positional [] crowded fault part rest (Some found) is =
    let front : positional_parts (part ∷ rest) ≡ [] = front_by part rest (Some found) is in
    same_parts
    (ap (λ parts. positional ++ read_parts parts) front ∙ append-nil positional)
    (keywords_by part rest (Some found) is)
    (ap (λ (parts : List (List ℕ)). crowded || list_any is_positional (drop (length parts) (part ∷ rest))) front
    ∙ ap (λ any. crowded || any) (any_by part rest (Some found) is))
    (fault_more fault part rest)
one_more_by positional (k ∷ keywords) crowded fault part rest None is =
    same_parts refl
    (ap (λ more. (k ∷ keywords) ++ more) (keywords_by part rest None is))
    (ap (λ any. crowded || any) (any_by part rest None is) ∙ or_true crowded (list_any is_positional rest))
    (fault_more fault part rest)
one_more_by positional (k ∷ keywords) crowded fault part rest (Some found) is =
    same_parts refl
    (ap (λ more. (k ∷ keywords) ++ more) (keywords_by part rest (Some found) is)
    ∙ sym (append_assoc (k ∷ keywords) (record { key = found.0; value = read_of part found.1 } ∷ []) (keywords_of rest)))
    (ap (λ any. crowded || any) (any_by part rest (Some found) is))
    (fault_more fault part rest)

pub one_more : (s : Parts) (part : List ℕ) (rest : List (List ℕ)) → behind s (part ∷ rest) ≡ behind (with_part part s) rest
one_more s part rest = one_more_by s.positional s.keywords s.crowded s.fault part rest (keyword_of part) refl

-- the part that a text begins with, and those that are left
pub next_places : (text part : List ℕ) (next : Option (Bor (List ℕ))) → IfSome next (λ behind. places_of text ≡ part ∷ places_of behind.now) →
    IfNone next (places_of text ≡ part ∷ []) → places_of text ≡ part ∷ places_left true (option_copied next)
next_places text part None some none = none
next_places text part (Some behind) some none = some

-- an operand is crowded by what is collected of it
pub crowded_by : (most : ℕ) (text : List ℕ) (s : Parts) → s ≡ all_parts (parts_of text) →
    (nat_lt most (length s.positional) || s.crowded) ≡ is_crowded most (parts_of text)
crowded_by most text s is =
    ap (λ (t : Parts). nat_lt most (length t.positional) || t.crowded) is
    ∙ ap (λ n. nat_lt most n || list_any is_positional (behind_positional (parts_of text))) (length-map (positional_parts (parts_of text)) (λ part. read_of part part))
