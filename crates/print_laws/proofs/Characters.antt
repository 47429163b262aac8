-- What names and serials consist of is printable.
use Rattle.std.proofs.Common.{◌≡◌, ◌≤◌, ◌⊎◌, ◌||◌, ◌&&◌, ◌==◌, ℕ, Bool, true, false, cond, inl, inr, IsTrue, List, [], ◌∷◌, nat_le, arith, eqb-true, leb-true, refl}
use Rattle.std.specs.List.{AllByRecursion, onto_first, slice_split}
use Rattle.std.proofs.lemmas.Bool.{and_parts, or_cases}
use Rattle.std.proofs.lemmas.List.Elements.{All-cons, All-head, All-nil, All-tail}
use Rattle.jname_core.specs.Characters.{is_component_character, is_digit, is_first, is_job_class, is_letter, is_letter_or_digit, is_name_character, is_national}
use Rattle.jname_core.specs.Grammar.{Consists, IsComponent, IsDsNameWithin, IsName8, IsSerial}
use Rattle.line_laws.specs.Printable.{IsPrintable}

abbrev pub IsShown : ℕ → Type 0
IsShown c = (32 ≤ c) × (c ≤ 126)

-- one character
between_shown : (low high c : ℕ) → 32 ≤ low → high ≤ 126 → IsTrue (nat_le low c && nat_le c high) → IsShown c
between_shown low high c above below h =
    let p : (nat_le low c ≡ true) × (nat_le c high ≡ true) = and_parts (nat_le low c) (nat_le c high) h in
    let k : low ≤ c = leb-true low c p.0 in
    let l : c ≤ high = leb-true c high p.1 in
    (omega arith, omega arith)

one_shown : (d c : ℕ) → 32 ≤ d → d ≤ 126 → IsTrue (c == d) → IsShown c
one_shown d c above below h =
    let e : c ≡ d = eqb-true c d h in
    (omega arith, omega arith)

letter_shown : (c : ℕ) → IsTrue (is_letter c) → IsShown c
letter_shown c h = between_shown 65 90 c (omega arith) (omega arith) h

digit_shown : (c : ℕ) → IsTrue (is_digit c) → IsShown c
digit_shown c h = between_shown 48 57 c (omega arith) (omega arith) h

pub job_class_shown : (c : ℕ) → IsTrue (is_job_class c) → IsShown c
job_class_shown c h = between_shown 65 79 c (omega arith) (omega arith) h

-- one or another
either_shown : (c : ℕ) (a b : Bool) → (a ≡ true → IsShown c) → (b ≡ true → IsShown c) → IsTrue (a || b) → IsShown c
either_shown c a b first second h = by_case (or_cases a b h)
  where
    by_case : (a ≡ true) ⊎ (b ≡ true) → IsShown c
    by_case (inl e) = first e
    by_case (inr e) = second e

pub letter_or_digit_shown : (c : ℕ) → IsTrue (is_letter_or_digit c) → IsShown c
letter_or_digit_shown c h = either_shown c (is_letter c) (is_digit c) (letter_shown c) (digit_shown c) h

national_shown : (c : ℕ) → IsTrue (is_national c) → IsShown c
national_shown c h =
    either_shown c (c == 35 || c == 64) (c == 36)
    (either_shown c (c == 35) (c == 64) (one_shown 35 c (omega arith) (omega arith)) (one_shown 64 c (omega arith) (omega arith)))
    (one_shown 36 c (omega arith) (omega arith)) h

first_shown : (c : ℕ) → IsTrue (is_first c) → IsShown c
first_shown c h = either_shown c (is_letter c) (is_national c) (letter_shown c) (national_shown c) h

name_shown : (c : ℕ) → IsTrue (is_name_character c) → IsShown c
name_shown c h = either_shown c (is_first c) (is_digit c) (first_shown c) (digit_shown c) h

component_shown : (c : ℕ) → IsTrue (is_component_character c) → IsShown c
component_shown c h = either_shown c (is_name_character c) (c == 45) (name_shown c) (one_shown 45 c (omega arith) (omega arith)) h

-- a text of such characters
text_printable : (kind : ℕ → Bool) (text : List ℕ) → ((c : ℕ) → IsTrue (kind c) → IsShown c) → Consists kind text → IsPrintable text
text_printable kind [] shown h = All-nil IsShown
text_printable kind (c ∷ cs) shown h = All-cons IsShown c cs (shown c h.0) (text_printable kind cs shown h.1)

pub name8_printable : (name : List ℕ) → IsName8 name → IsPrintable name
name8_printable [] h = absurd h
name8_printable (c ∷ cs) h = All-cons IsShown c cs (first_shown c h.0) (text_printable is_name_character cs name_shown h.1)

pub serial_printable : (serial : List ℕ) → IsSerial serial → IsPrintable serial
serial_printable [] h = absurd h
serial_printable (c ∷ cs) h = text_printable is_component_character (c ∷ cs) component_shown h.0

component_printable : (part : List ℕ) → IsComponent part → IsPrintable part
component_printable [] h = absurd h
component_printable (c ∷ cs) h = All-cons IsShown c cs (first_shown c h.0) (text_printable is_component_character cs component_shown h.1)

pub one_printable : (c : ℕ) → IsShown c → IsPrintable (c ∷ [])
one_printable c h = All-cons IsShown c [] h (All-nil IsShown)

-- a text whose parts are printable, joined by periods
all_components : (parts : List (List ℕ)) → AllByRecursion IsComponent parts → AllByRecursion IsPrintable parts
all_components [] h = tt
all_components (part ∷ parts) h = (component_printable part h.0, all_components parts h.1)

-- a part with one more in front
first_of_parts : (c : ℕ) (parts : List (List ℕ)) → AllByRecursion IsPrintable (onto_first c parts) → IsShown c × AllByRecursion IsPrintable parts
first_of_parts c [] h = (All-head IsShown c [] h.0, tt)
first_of_parts c (part ∷ parts) h = (All-head IsShown c part h.0, (All-tail IsShown c part h.0, h.1))

abbrev parts_of : List ℕ → List (List ℕ)
parts_of text = slice_split (λ c. c == 46) text

parts_printable : (text : List ℕ) → AllByRecursion IsPrintable (parts_of text) → IsPrintable text
parts_printable [] h = All-nil IsShown
parts_printable (c ∷ cs) h = by_test (c == 46) (one_shown 46 c (omega arith) (omega arith)) (λ rest. parts_printable cs rest) h
  where
    by_test : (b : Bool) → (b ≡ true → IsShown c) → (AllByRecursion IsPrintable (parts_of cs) → IsPrintable cs) →
        AllByRecursion IsPrintable (cond b ([] ∷ parts_of cs) (onto_first c (parts_of cs))) → IsPrintable (c ∷ cs)
    by_test true period rest all = All-cons IsShown c cs (period refl) (rest all.1)
    by_test false period rest all =
        let p : IsShown c × AllByRecursion IsPrintable (parts_of cs) = first_of_parts c (parts_of cs) all in
        All-cons IsShown c cs p.0 (rest p.1)

pub ds_name_printable : (limit : ℕ) (text : List ℕ) → IsDsNameWithin limit text → IsPrintable text
ds_name_printable limit text h = parts_printable text (all_components _ h.dotted.joined)
