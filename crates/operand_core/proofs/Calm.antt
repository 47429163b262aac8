-- texts without parentheses and apostrophes
use Rattle.std.proofs.Common.{◌≡◌, ℕ, zero, suc, ◌+◌, ◌≤◌, Bool, true, false, cond, not, ◌&&◌, ◌||◌, nat_eq, List, [], ◌∷◌, ◌++◌, length, take, drop, take_while, Option, Some, None, ◌⊎◌, inl, inr, refl, sym, ap, subst, ◌∙◌, arith}
use Rattle.std.specs.List.{list_all, list_any, onto_first, prefix_len}
use Rattle.std.proofs.lemmas.Bool.{eqb-true}
use Rattle.std.proofs.lemmas.List.{append-nil, nil_from_length, take-append-drop}
use Rattle.std.proofs.lemmas.List.Folds.{length-prefix_len, list_all-append}
use Rattle.std.proofs.lemmas.List.Sums.{take_while-cons}
use Rattle.card_core.specs.Fields.{quoted_after}
use Rattle.jcl_plan.specs.declared.fault.Cause.{Cause}
use Rattle.jcl_plan.specs.declared.fault.Cause.TheVariants.{P}
use Rattle.jcl_plan.specs.declared.fault.StatementFault.TheVariants.{BadValue, UnbalancedParentheses}
use Rattle.operand_core.specs.Calm.{is_calm, is_mark, is_plain}
use Rattle.operand_core.specs.Faults.{told, when}
use Rattle.operand_core.specs.Operands.{balanced_from, depth_after, is_balanced, is_closed, is_key_character, open_at_end, part_faults, parts_from, places_of, read_of}

neither : (a b : Bool) → (a || b) ≡ false → (a ≡ false) × (b ≡ false)
neither true b none = absurd (cc)
neither false b none = (refl, none)

unmarked : (b : Bool) → not b ≡ true → b ≡ false
unmarked true is = absurd (cc)
unmarked false is = refl

-- no apostrophe opens, and no parenthesis
same_quoted : (quote : Bool) → quote ≡ false → cond quote true false ≡ false
same_quoted true none = absurd (cc)
same_quoted false none = refl

same_depth : (opens closes : Bool) → opens ≡ false → closes ≡ false → ◌≡◌ {A = ℕ} (cond opens 1 (cond closes 0 0)) 0
same_depth true closes no_open no_close = absurd (cc)
same_depth false true no_open no_close = absurd (cc)
same_depth false false no_open no_close = refl

record Calm (c : ℕ) : Type 0 where
  opens : nat_eq c 40 ≡ false
  closes : nat_eq c 41 ≡ false
  quoted : quoted_after false c ≡ false
  depth : depth_after false 0 c ≡ 0

calm : (c : ℕ) → is_mark c ≡ false → Calm c
calm c none =
    let both = neither (nat_eq c 40 || nat_eq c 41) (nat_eq c 39) none in
    let round = neither (nat_eq c 40) (nat_eq c 41) both.0 in
    record {
      opens = round.0;
      closes = round.1;
      quoted = same_quoted (nat_eq c 39) both.1;
      depth = same_depth (nat_eq c 40) (nat_eq c 41) round.0 round.1;
    }

balanced : (text : List ℕ) → list_any is_mark text ≡ false → balanced_from false 0 text ≡ true
balanced [] none = refl
balanced (c ∷ cs) none =
    let both = neither (is_mark c) (list_any is_mark cs) none in
    let here = calm c both.0 in
    ap (λ b. cond b false (balanced_from (quoted_after false c) (depth_after false 0 c) cs)) here.closes
    ∙ ap (λ q. balanced_from q (depth_after false 0 c) cs) here.quoted
    ∙ ap (λ d. balanced_from false d cs) here.depth
    ∙ balanced cs both.1

calm_balanced : (text : List ℕ) → is_calm text ≡ true → is_balanced text ≡ true
calm_balanced text is = balanced text (unmarked (list_any is_mark text) is)

never_opens : (text : List ℕ) → list_any is_mark text ≡ false → open_at_end false text ≡ false
never_opens [] none = refl
never_opens (c ∷ cs) none =
    let both = neither (is_mark c) (list_any is_mark cs) none in
    let here = calm c both.0 in
    ap (λ q. open_at_end q cs) here.quoted ∙ never_opens cs both.1

calm_closed : (text : List ℕ) → is_calm text ≡ true → is_closed text ≡ true
calm_closed text is = ap not (never_opens text (unmarked (list_any is_mark text) is))

-- it has no fault
calm_faultless : (part : List ℕ) → is_calm part ≡ true → None ≡ told (part_faults part)
calm_faultless part is =
    let faults_by : Bool → Bool → List Cause = λ b s. cond b (when (not s) (P BadValue)) (P UnbalancedParentheses ∷ []) in
    sym (ap (λ b. told (faults_by b (is_closed part))) (calm_balanced part is) ∙ ap (λ s. told (faults_by true s)) (calm_closed part is))

-- a part is read where it has no fault
abbrev faults_by : Bool → Bool → List Cause
faults_by balanced closed = cond balanced (when (not closed) (P BadValue)) (P UnbalancedParentheses ∷ [])

read_cases : (balanced closed : Bool) (text : List ℕ) → told (faults_by balanced closed) ≡ None → Some text ≡ cond (balanced && closed) (Some text) None
read_cases true true text none = refl
read_cases true false text none = absurd (cc)
read_cases false closed text none = absurd (cc)

unread_cases : (balanced closed : Bool) (text : List ℕ) (fault : Cause) → told (faults_by balanced closed) ≡ Some fault →
    ◌≡◌ {A = Option (List ℕ)} None (cond (balanced && closed) (Some text) None)
unread_cases true true text fault is = absurd (cc)
unread_cases true false text fault is = refl
unread_cases false closed text fault is = refl

pub read_faultless : (part text : List ℕ) → told (part_faults part) ≡ None → Some text ≡ read_of part text
read_faultless part text none = read_cases (is_balanced part) (is_closed part) text none

pub unread_faulty : (part text : List ℕ) (fault : Cause) → told (part_faults part) ≡ Some fault → None ≡ read_of part text
unread_faulty part text fault is = unread_cases (is_balanced part) (is_closed part) text fault is

-- what stands before a text's first comma, parenthesis or apostrophe
both_hold : (a b : Bool) → (a && b) ≡ true → (a ≡ true) × (b ≡ true)
both_hold true b is = (refl, is)
both_hold false b is = absurd (cc)

one_holds : (a b : Bool) → (a || b) ≡ true → (a ≡ true) ⊎ (b ≡ true)
one_holds true b is = inl refl
one_holds false b is = inr is

no_stop : (c : ℕ) → is_plain c ≡ true → (is_mark c ≡ false) × (nat_eq c 44 ≡ false)
no_stop c is = neither (is_mark c) (nat_eq c 44) (unmarked (is_mark c || nat_eq c 44) is)

one_more_passes : {X : Type 0} (p : X → Bool) (x : X) (xs : List X) (b : Bool) → p x ≡ b → list_all p (take_while p xs) ≡ true →
    list_all p (cond b (x ∷ take_while p xs) []) ≡ true
one_more_passes p x xs true is all = ap (λ here. here && list_all p (take_while p xs)) is ∙ all
one_more_passes p x xs false is all = refl

all_pass : {X : Type 0} (p : X → Bool) (xs : List X) → list_all p (take_while p xs) ≡ true
all_pass p [] = refl
all_pass p (x ∷ xs) = ap (list_all p) (take_while-cons p x xs) ∙ one_more_passes p x xs (p x) refl (all_pass p xs)

all_calm : (front : List ℕ) → list_all is_plain front ≡ true → list_any is_mark front ≡ false
all_calm [] all = refl
all_calm (c ∷ cs) all =
    let both = both_hold (is_plain c) (list_all is_plain cs) all in
    ap (λ here. here || list_any is_mark cs) (no_stop c both.0).0 ∙ all_calm cs both.1

one_part : (front : List ℕ) → list_all is_plain front ≡ true → parts_from false 0 front ≡ front ∷ []
one_part [] all = refl
one_part (c ∷ cs) all =
    let both = both_hold (is_plain c) (list_all is_plain cs) all in
    let no = no_stop c both.0 in
    let here = calm c no.0 in
    ap (λ b. cond b ([] ∷ parts_from false 0 cs) (onto_first c (parts_from (quoted_after false c) (depth_after false 0 c) cs))) no.1
    ∙ ap (λ q. onto_first c (parts_from q (depth_after false 0 c) cs)) here.quoted
    ∙ ap (λ n. onto_first c (parts_from false n cs)) here.depth
    ∙ ap (onto_first c) (one_part cs both.1)

part_before : (front behind : List ℕ) → list_all is_plain front ≡ true → parts_from false 0 (front ++ 44 ∷ behind) ≡ front ∷ parts_from false 0 behind
part_before [] behind all = refl
part_before (c ∷ cs) behind all =
    let both = both_hold (is_plain c) (list_all is_plain cs) all in
    let no = no_stop c both.0 in
    let here = calm c no.0 in
    let rest = cs ++ 44 ∷ behind in
    ap (λ b. cond b ([] ∷ parts_from false 0 rest) (onto_first c (parts_from (quoted_after false c) (depth_after false 0 c) rest))) no.1
    ∙ ap (λ q. onto_first c (parts_from q (depth_after false 0 c) rest)) here.quoted
    ∙ ap (λ n. onto_first c (parts_from false n rest)) here.depth
    ∙ ap (onto_first c) (part_before cs behind both.1)

-- a text that is plain is one part
plain_whole : (text : List ℕ) (n : ℕ) → list_all is_plain (take n text) ≡ true → drop n text ≡ [] → places_of text ≡ take n text ∷ []
plain_whole text n all none =
    ap places_of (sym (take-append-drop n text) ∙ ap (λ rest. take n text ++ rest) none ∙ append-nil (take n text))
    ∙ one_part (take n text) all

-- the first part of a text that is plain up to a comma
plain_part : (text behind : List ℕ) (n : ℕ) → list_all is_plain (take n text) ≡ true → drop n text ≡ 44 ∷ behind →
    places_of text ≡ take n text ∷ places_of behind
plain_part text behind n all is =
    ap places_of (sym (take-append-drop n text) ∙ ap (λ rest. take n text ++ rest) is)
    ∙ part_before (take n text) behind all

-- the characters of a key are plain
stops : (c : ℕ) → is_key_character c ≡ true → (is_mark c || nat_eq c 44) ≡ true → ⊥
stops c is stop = by_comma (one_holds (is_mark c) (nat_eq c 44) stop)
  where
    at : (n : ℕ) → nat_eq c n ≡ true → is_key_character n ≡ true
    at n same = ap is_key_character (sym (eqb-true c n same)) ∙ is

    by_apostrophe : (nat_eq c 40 ≡ true) ⊎ (nat_eq c 41 ≡ true) → ⊥
    by_apostrophe (inl same) = let no : false ≡ true = at 40 same in cc
    by_apostrophe (inr same) = let no : false ≡ true = at 41 same in cc

    by_mark : ((nat_eq c 40 || nat_eq c 41) ≡ true) ⊎ (nat_eq c 39 ≡ true) → ⊥
    by_mark (inl one) = by_apostrophe (one_holds (nat_eq c 40) (nat_eq c 41) one)
    by_mark (inr same) = let no : false ≡ true = at 39 same in cc

    by_comma : (is_mark c ≡ true) ⊎ (nat_eq c 44 ≡ true) → ⊥
    by_comma (inl mark) = by_mark (one_holds (nat_eq c 40 || nat_eq c 41) (nat_eq c 39) mark)
    by_comma (inr same) = let no : false ≡ true = at 44 same in cc

key_plain : (c : ℕ) → is_key_character c ≡ true → is_plain c ≡ true
key_plain c is = by (is_mark c || nat_eq c 44) refl
  where
    by : (stop : Bool) → (is_mark c || nat_eq c 44) ≡ stop → not (is_mark c || nat_eq c 44) ≡ true
    by true stop = absurd (stops c is stop)
    by false stop = ap not stop

all_plain : (key : List ℕ) → list_all is_key_character key ≡ true → list_all is_plain key ≡ true
all_plain [] all = refl
all_plain (c ∷ cs) all =
    let both = both_hold (is_key_character c) (list_all is_key_character cs) all in
    ap (λ here. here && list_all is_plain cs) (key_plain c both.0) ∙ all_plain cs both.1

take_nothing : {X : Type 0} (m : ℕ) → ◌≡◌ {A = List X} (take m []) []
take_nothing zero = refl
take_nothing (suc m) = refl

take_both : {X : Type 0} (k m : ℕ) (xs : List X) → take (k + m) xs ≡ take k xs ++ take m (drop k xs)
take_both zero m xs = let e : 0 + m ≡ m = omega arith in ap (λ n. take n xs) e
take_both (suc k) m [] = let e : suc k + m ≡ suc (k + m) = omega arith in ap (λ n. take n []) e ∙ sym (take_nothing m)
take_both (suc k) m (x ∷ xs) = let e : suc k + m ≡ suc (k + m) = omega arith in ap (λ n. take n (x ∷ xs)) e ∙ ap (λ rest. x ∷ rest) (take_both k m xs)

-- a key's characters and the plain ones behind it
key_and_plain : (text : List ℕ) (k m : ℕ) → k ≡ length (take_while is_key_character text) → m ≡ length (take_while is_plain (drop k text)) →
    list_all is_plain (take (k + m) text) ≡ true
key_and_plain text k m k_is m_is =
    let rest = drop k text in
    let key : take k text ≡ take_while is_key_character text = ap (λ n. take n text) (k_is ∙ length-prefix_len is_key_character text) in
    let plain : take m rest ≡ take_while is_plain rest = ap (λ n. take n rest) (m_is ∙ length-prefix_len is_plain rest) in
    ap (list_all is_plain) (take_both k m text)
    ∙ list_all-append is_plain (take k text) (take m rest)
    ∙ ap (λ front. list_all is_plain front && list_all is_plain (take m rest)) key
    ∙ ap (λ here. here && list_all is_plain (take m rest)) (all_plain (take_while is_key_character text) (all_pass is_key_character text))
    ∙ ap (list_all is_plain) plain
    ∙ all_pass is_plain rest

-- a front that holds the whole key has the same key
one_kept : (b : Bool) (here whole n : ℕ) → (whole ≤ n → here ≡ whole) → cond b (1 + whole) 0 ≤ suc n → cond b (1 + here) 0 ≡ cond b (1 + whole) 0
one_kept true here whole n same le = ap (λ m. 1 + m) (same (omega (arith, le)))
one_kept false here whole n same le = refl

prefix_kept : {X : Type 0} (p : X → Bool) (xs : List X) (n : ℕ) → prefix_len p xs ≤ n → prefix_len p (take n xs) ≡ prefix_len p xs
prefix_kept p [] zero le = refl
prefix_kept p [] (suc n) le = refl
prefix_kept p (x ∷ xs) zero le = sym (omega (arith, le))
prefix_kept p (x ∷ xs) (suc n) le = one_kept (p x) (prefix_len p (take n xs)) (prefix_len p xs) n (prefix_kept p xs n) le

key_kept : (text : List ℕ) (k n : ℕ) → k ≡ length (take_while is_key_character text) → k ≤ n → k ≡ length (take_while is_key_character (take n text))
key_kept text k n k_is le =
    let len : k ≡ prefix_len is_key_character text = k_is ∙ length-prefix_len is_key_character text in
    len ∙ sym (length-prefix_len is_key_character (take n text) ∙ prefix_kept is_key_character text n (subst (λ m. m ≤ n) len le))

plain_faultless : (front : List ℕ) → list_all is_plain front ≡ true → None ≡ told (part_faults front)
plain_faultless front all = calm_faultless front (ap not (all_calm front all))

-- the first part of a text by its two cuts, one behind its key and one behind what is plain
pub record Front (text value front rest : List ℕ) (k m : ℕ) : Type 0 where
  pub key_is : k ≡ length (take_while is_key_character text)
  pub plain_is : m ≡ length (take_while is_plain value)
  pub value_is : value ≡ drop k text
  pub front_is : front ≡ take (k + m) text
  pub rest_is : rest ≡ drop (k + m) text

front_plain : {text value front rest : List ℕ} {k m : ℕ} → Front text value front rest k m → list_all is_plain (take (k + m) text) ≡ true
front_plain {text} {value} {front} {rest} {k} {m} cut =
    key_and_plain text k m cut.key_is (cut.plain_is ∙ ap (λ v. length (take_while is_plain v)) cut.value_is)

pub front_key : {text value front rest : List ℕ} {k m : ℕ} → Front text value front rest k m → k ≡ length (take_while is_key_character front)
front_key {text} {value} {front} {rest} {k} {m} cut =
    key_kept text k (k + m) cut.key_is (omega arith) ∙ ap (λ f. length (take_while is_key_character f)) (sym cut.front_is)

pub front_faultless : {text value front rest : List ℕ} {k m : ℕ} → Front text value front rest k m → None ≡ told (part_faults front)
front_faultless {text} {value} {front} {rest} {k} {m} cut =
    plain_faultless front (ap (list_all is_plain) cut.front_is ∙ front_plain cut)

pub front_whole : {text value front rest : List ℕ} {k m : ℕ} → Front text value front rest k m → length rest ≡ 0 → places_of text ≡ front ∷ []
front_whole {text} {value} {front} {rest} {k} {m} cut none =
    plain_whole text (k + m) (front_plain cut) (sym cut.rest_is ∙ nil_from_length rest none) ∙ ap (λ f. f ∷ []) (sym cut.front_is)

pub front_part : {text value front rest : List ℕ} {k m : ℕ} → Front text value front rest k m → (c : ℕ) (behind : List ℕ) → rest ≡ c ∷ behind → c ≡ 44 →
    places_of text ≡ front ∷ places_of behind
front_part {text} {value} {front} {rest} {k} {m} cut c behind is comma =
    plain_part text behind (k + m) (front_plain cut) (sym cut.rest_is ∙ is ∙ ap (λ d. d ∷ behind) comma) ∙ ap (λ f. f ∷ places_of behind) (sym cut.front_is)

-- and by the one cut behind what is plain
plain_from : (text : List ℕ) (n : ℕ) → n ≡ length (take_while is_plain text) → list_all is_plain (take n text) ≡ true
plain_from text n n_is = ap (λ m. list_all is_plain (take m text)) (n_is ∙ length-prefix_len is_plain text) ∙ all_pass is_plain text

pub first_whole : (text rest : List ℕ) (n : ℕ) → n ≡ length (take_while is_plain text) → rest ≡ drop n text → length rest ≡ 0 → places_of text ≡ text ∷ []
first_whole text rest n n_is rest_is none =
    let nothing : drop n text ≡ [] = sym rest_is ∙ nil_from_length rest none in
    let all : take n text ≡ text = sym (sym (take-append-drop n text) ∙ ap (λ r. take n text ++ r) nothing ∙ append-nil (take n text)) in
    plain_whole text n (plain_from text n n_is) nothing ∙ ap (λ part. part ∷ []) all

pub first_plain : (text rest : List ℕ) (c : ℕ) (behind : List ℕ) (n : ℕ) → n ≡ length (take_while is_plain text) → rest ≡ drop n text → rest ≡ c ∷ behind → c ≡ 44 →
    places_of text ≡ take n text ∷ places_of behind
first_plain text rest c behind n n_is rest_is is comma =
    plain_part text behind n (plain_from text n n_is) (sym rest_is ∙ is ∙ ap (λ d. d ∷ behind) comma)
