-- The fields of a line, and what stands before a star.
use Rattle.std.proofs.Common.{◌≡◌, ◌+◌, ◌++◌, ℕ, Bool, true, false, cond, List, [], ◌∷◌, Some, None, All, length, take, refl, sym, ap, ◌∙◌, arith, append-nil, length-append}
use Rattle.std.specs.Prelude.{not, ◌&&◌, ◌==◌, suc, zero, filter, nat_lt}
use Rattle.std.specs.List.{list_all, position, prefix_len, slice_split}
use Rattle.std.proofs.lemmas.Bool.{and_parts}
use Rattle.std.proofs.lemmas.List.Elements.{All-weaker}
use Rattle.std.proofs.lemmas.List.Folds.{length-prefix_len}
use Rattle.std.proofs.lemmas.List.Splits.{slice_split_at, slice_split_none}
use Rattle.std.proofs.lemmas.List.Sums.{AllPass-from_list_all}
use Rattle.reader_laws.specs.SpelledForms.{Form, fields_in, spaced}
use Rattle.reader_laws.specs.WrittenCards.{blanks, has_no_blank, is_empty}
use Rattle.reader_laws.proofs.Fronts.{front_is}

pub is_false : (b : Bool) → not b ≡ true → b ≡ false
is_false true h = absurd cc
is_false false h = refl

pub none_pass : {X : Type 0} (p : X → Bool) (xs : List X) → list_all (λ x. not (p x)) xs ≡ true → All (λ x. p x ≡ false) xs
none_pass p xs h = All-weaker (λ x. not (p x) ≡ true) (λ x. p x ≡ false) (λ x e. is_false (p x) e) xs (AllPass-from_list_all (λ x. not (p x)) xs h)

-- the first place at which a test passes
less : (n m : ℕ) → nat_lt n (n + suc m) ≡ true
less n m = grind (arith)

not_less : (n : ℕ) → nat_lt n n ≡ false
not_less n = grind (arith)

pub position_is : {X : Type 0} (p : X → Bool) (xs : List X) (y : X) (ys : List X) → list_all (λ x. not (p x)) xs ≡ true → p y ≡ true →
    position p (xs ++ y ∷ ys) ≡ Some (length xs)
position_is {X} p xs y ys h k =
    let q : X → Bool = λ x. not (p x) in
    let at : prefix_len q (xs ++ y ∷ ys) ≡ length xs =
    sym (length-prefix_len q (xs ++ y ∷ ys)) ∙ ap length (front_is q xs (y ∷ ys) h (ap (λ (b : Bool). not (not b)) k)) in
    ap (λ (n : ℕ). cond (nat_lt n (length (xs ++ y ∷ ys))) (Some n) None) at
    ∙ ap (λ (n : ℕ). cond (nat_lt (length xs) n) (Some (length xs)) None) (length-append xs (y ∷ ys))
    ∙ ap (λ (b : Bool). cond b (Some (length xs)) None) (less (length xs) (length ys))

pub no_position : {X : Type 0} (p : X → Bool) (xs : List X) → list_all (λ x. not (p x)) xs ≡ true → position p xs ≡ None
no_position {X} p xs h =
    let q : X → Bool = λ x. not (p x) in
    let at : prefix_len q xs ≡ length xs =
    sym (length-prefix_len q xs) ∙ ap (λ (all : List X). length (take (prefix_len q all) all)) (sym (append-nil xs)) ∙ ap length (front_is q xs [] h refl) in
    ap (λ (n : ℕ). cond (nat_lt n (length xs)) (Some n) None) at ∙ ap (λ (b : Bool). cond b (Some (length xs)) None) (not_less (length xs))

-- fields, one after another
not_zero : (n : ℕ) → (suc n == 0) ≡ false
not_zero n = grind (arith)

kept : (field : List ℕ) (fields : List (List ℕ)) → is_empty field ≡ false →
    filter (λ f. not (length f == 0)) (field ∷ fields) ≡ field ∷ filter (λ f. not (length f == 0)) fields
kept [] fields h = absurd cc
kept (c ∷ field) fields h =
    let rest : List (List ℕ) = filter (λ f. not (length f == 0)) fields in
    ap (λ (b : Bool). cond (not b) ((c ∷ field) ∷ rest) rest) (not_zero (length field))

field_before : (field rest : List ℕ) → has_no_blank field ≡ true → is_empty field ≡ false → fields_in (field ++ 32 ∷ rest) ≡ field ∷ fields_in rest
field_before field rest h k =
    ap (filter (λ f. not (length f == 0))) (slice_split_at (λ b. b == 32) field 32 rest (none_pass (λ b. b == 32) field h) refl)
    ∙ kept field (slice_split (λ b. b == 32) rest) k

field_alone : (field : List ℕ) → has_no_blank field ≡ true → is_empty field ≡ false → fields_in field ≡ field ∷ []
field_alone field h k = ap (filter (λ f. not (length f == 0))) (slice_split_none (λ b. b == 32) field (none_pass (λ b. b == 32) field h)) ∙ kept field [] k

pub behind_blanks : (n : ℕ) (rest : List ℕ) → fields_in (blanks n ++ rest) ≡ fields_in rest
behind_blanks zero rest = refl
behind_blanks (suc n) rest = behind_blanks n rest

blanks_alone : (n : ℕ) → fields_in (blanks n) ≡ []
blanks_alone zero = refl
blanks_alone (suc n) = blanks_alone n

-- a field: something, without blanks
abbrev pub is_field : List ℕ → Bool
is_field text = has_no_blank text && not (is_empty text)

last_field : (field : List ℕ) (n : ℕ) → has_no_blank field ≡ true → is_empty field ≡ false → fields_in (field ++ blanks n) ≡ field ∷ []
last_field field zero h k = ap fields_in (append-nil field) ∙ field_alone field h k
last_field field (suc n) h k = field_before field (blanks n) h k ∙ ap (λ (fields : List (List ℕ)). field ∷ fields) (blanks_alone n)

pub spaced_are : (form : Form) (field : List ℕ) (fields : List (List ℕ)) → is_field field ≡ true → list_all is_field fields ≡ true →
    fields_in (field ++ spaced form fields) ≡ field ∷ fields
spaced_are form field [] h all =
    let halves = and_parts (has_no_blank field) (not (is_empty field)) h in
    last_field field form.blanks_behind halves.0 (is_false (is_empty field) halves.1)
spaced_are form field (next ∷ fields) h all =
    let halves = and_parts (has_no_blank field) (not (is_empty field)) h in
    let others = and_parts (is_field next) (list_all is_field fields) all in
    field_before field (blanks form.more_blanks ++ (next ++ spaced form fields)) halves.0 (is_false (is_empty field) halves.1)
    ∙ ap (λ (found : List (List ℕ)). field ∷ found) (behind_blanks form.more_blanks (next ++ spaced form fields)
    ∙ spaced_are form next fields others.0 others.1)
