-- what is found in COND, place by place
use Rattle.std.proofs.Common.{◌≡◌, ℕ, suc, ◌+◌, ◌<◌, ◌≤◌, Bool, true, false, cond, not, ◌&&◌, ◌||◌, nat_le, nat_lt, List, [], ◌∷◌, ◌++◌, length, count_by, codes, Option, Some, None, Result, Ok, Err, refl, sym, ap, ◌∙◌, arith, append_assoc, subst, length-append, lt-ltb, le-ltb}
use Rattle.std.proofs.lemmas.Bool.Decides.{nat_tests}
use Rattle.std.specs.List.{cons_option, flat_map, list_any}
use Rattle.std.specs.Str.{bytes_eq}
use Rattle.std.proofs.lemmas.List.{append-nil}
use Rattle.std.proofs.lemmas.List.Sums.{sum_by-cons}
use Rattle.jcl_plan.specs.declared.fault.Cause.{Cause}
use Rattle.jcl_plan.specs.declared.fault.Cause.TheVariants.{P}
use Rattle.jcl_plan.specs.declared.fault.StatementFault.TheVariants.{BadValue, ExcludeOneAnother, TooManyTests}
use Rattle.jcl_plan.specs.declared.plan.AfterAbend.{AfterAbend}
use Rattle.jcl_plan.specs.declared.plan.AfterAbend.TheVariants as after
use Rattle.operand_core.specs.Faults.{earlier, told, when}
use Rattle.operand_core.specs.Operands.{places_of}
use Rattle.operand_core.specs.Subparameters.{inside, is_wrapped}
use Rattle.operand_core.proofs.Told.{earlier_assoc, told_append}
use Rattle.value_core.specs.Reads.{IsRead, Read}
use Rattle.list_values.specs.declared.condition.CodedTest.{CodedTest}
use Rattle.list_values.specs.declared.condition.Condition.{Condition}
use Rattle.list_values.specs.declared.found.Found.{Found}
use Rattle.list_values.specs.declared.found.FoundTests.{FoundTests}
use Rattle.list_values.specs.declared.found.FoundWords.{FoundWords}
use Rattle.list_values.specs.Conditions.{after_abend_if, after_abend_of, condition_of_places, is_neither, is_word, test_in, test_of_items, tests_in}
use Rattle.list_values.specs.Found.{Continues, HasTests, HasWords, IsWordOf, faults_of, first_said, is_said, values_of, words_said}
use Rattle.value_core.proofs.OneByOne.{earlier_none}
use Rattle.list_values.proofs.Told.{earlier-some, err_told, first-none, ok_told, second-none, told_once}

-- a test is kept, where there are not yet eight
pub record IsKept (found new : FoundTests) (test : CodedTest) : Type 0 where
  pub tests : new.tests.items ≡ cond (nat_le 8 (length found.tests.items)) found.tests.items (found.tests.items ++ test ∷ [])
  pub ninth : new.has_ninth ≡ (found.has_ninth || nat_le 8 (length found.tests.items))

ninth_more : (full ninth new : Bool) (had now : List CodedTest) (test : CodedTest) (left all : ℕ) → full ≡ nat_le 8 (length had) →
    now ≡ cond full had (had ++ test ∷ []) → new ≡ (ninth || full) → (ninth || nat_lt 8 (length had + suc left)) ≡ nat_lt 8 all →
    (new || nat_lt 8 (length now + left)) ≡ nat_lt 8 all
ninth_more full true new had now test left all is kept new_is before = ap (λ (n : Bool). n || nat_lt 8 (length now + left)) new_is ∙ before
ninth_more true false new had now test left all is kept new_is before =
    let eight : 8 ≤ length had = grind (arith, nat_tests) in
    ap (λ (n : Bool). n || nat_lt 8 (length now + left)) new_is ∙ sym (lt-ltb 8 (length had + suc left) (omega arith)) ∙ before
ninth_more false false new had now test left all is kept new_is before =
    let count : length now + left ≡ length had + suc left = omega (arith, ap length kept, length-append had (test ∷ [])) in
    ap (λ (n : Bool). n || nat_lt 8 (length now + left)) new_is ∙ ap (nat_lt 8) count ∙ before

few_more : (full : Bool) (had now : List CodedTest) (test : CodedTest) → full ≡ nat_le 8 (length had) → now ≡ cond full had (had ++ test ∷ []) →
    length had ≤ 8 → length now ≤ 8
few_more true had now test is kept few = omega (arith, ap length kept)
few_more false had now test is kept few =
    let below : length had < 8 = grind (arith, nat_tests) in
    omega (arith, ap length kept, length-append had (test ∷ []))

first_false : (a b : Bool) → (a || b) ≡ false → a ≡ false
first_false false b h = refl
first_false true b h = h

second_false : (a b : Bool) → (a || b) ≡ false → b ≡ false
second_false false b h = h
second_false true b h = absurd (cc)

-- a test that is read
pub takes_test : (found new : FoundTests) (test : CodedTest) (r : Read CodedTest) (left all : List (Read CodedTest)) → IsRead (Ok test) r → IsKept found new test →
    new.fault ≡ found.fault → HasTests found (r ∷ left) all → HasTests new left all
takes_test found new test r left all read kept same c =
    let ok = ok_told (told r.faults) r.value test read in
    let had = found.tests.items in
    record {
      faults =
          ap (λ f. earlier f (told (faults_of left))) same
          ∙ ap (λ f. earlier found.fault (earlier f (told (faults_of left)))) (sym ok.0)
          ∙ ap (earlier found.fault) (sym (told_append r.faults (faults_of left)))
          ∙ c.faults;
      ninth = ninth_more (nat_le 8 (length had)) found.has_ninth new.has_ninth had new.tests.items test (length left) (length all) refl kept.tests kept.ninth c.ninth;
      few = few_more (nat_le 8 (length had)) had new.tests.items test refl kept.tests c.few;
      tests = λ none eight.
          let others = sym kept.ninth ∙ eight in
          ap (λ xs. xs ++ values_of left) kept.tests
          ∙ ap (λ (full : Bool). cond full had (had ++ test ∷ []) ++ values_of left) (second_false found.has_ninth (nat_le 8 (length had)) others)
          ∙ append_assoc had (test ∷ []) (values_of left)
          ∙ ap (λ t. had ++ t ∷ values_of left) ok.1
          ∙ c.tests (sym same ∙ none) (first_false found.has_ninth (nat_le 8 (length had)) others);
    }

-- one that is not
pub refuses_test : (found new : FoundTests) (test : CodedTest) (fault : Cause) (r : Read CodedTest) (left all : List (Read CodedTest)) → IsRead (Err fault) r →
    IsKept found new test → new.fault ≡ earlier found.fault (Some fault) → HasTests found (r ∷ left) all → HasTests new left all
refuses_test found new test fault r left all read kept told_now c =
    let err = err_told (told r.faults) r.value fault read in
    let had = found.tests.items in
    record {
      faults =
          ap (λ f. earlier f (told (faults_of left))) told_now
          ∙ earlier_assoc found.fault (Some fault) (told (faults_of left))
          ∙ ap (λ f. earlier found.fault (earlier f (told (faults_of left)))) (sym err)
          ∙ ap (earlier found.fault) (sym (told_append r.faults (faults_of left)))
          ∙ c.faults;
      ninth = ninth_more (nat_le 8 (length had)) found.has_ninth new.has_ninth had new.tests.items test (length left) (length all) refl kept.tests kept.ninth c.ninth;
      few = few_more (nat_le 8 (length had)) had new.tests.items test refl kept.tests c.few;
      tests = λ none eight. absurd (earlier-some found.fault fault (sym told_now ∙ none));
    }

word_is_said : (even only : Bool) (word : AfterAbend) → (even || only) ≡ true → cond even after.Even (cond only after.Only after.Unsaid) ≡ word → is_said word ≡ true
word_is_said true only word is said = ap is_said (sym said)
word_is_said false true word is said = ap is_said (sym said)
word_is_said false false word is said = absurd (cc)

said_stays : (first word later : AfterAbend) → is_said word ≡ true → first_said (first_said first word) later ≡ first_said first word
said_stays after.Unsaid after.Unsaid later said = absurd (cc)
said_stays after.Unsaid after.Even later said = refl
said_stays after.Unsaid after.Only later said = refl
said_stays after.Even word later said = refl
said_stays after.Only word later said = refl

-- EVEN or ONLY stands in front
first_more : (steps : Bool) (place : List ℕ) (word : AfterAbend) (left : List (List ℕ)) → IsWordOf steps place word →
    (is_said word ≡ true) × (after_abend_if steps (place ∷ left) ≡ word)
first_more true place word left w = (word_is_said (bytes_eq place (codes "EVEN")) (bytes_eq place (codes "ONLY")) word w.is (w.said []), w.said left)
first_more false place word left w = absurd (let h : false ≡ true = w.is in cc)

second_more : (first word : AfterAbend) (second new : Bool) (left all : ℕ) → is_said word ≡ true → new ≡ (second || is_said first) →
    (second || nat_lt 1 (words_said first + (1 + left))) ≡ nat_lt 1 all → (new || nat_lt 1 (words_said (first_said first word) + left)) ≡ nat_lt 1 all
second_more first word true new left all said new_is before = ap (λ (n : Bool). n || nat_lt 1 (words_said (first_said first word) + left)) new_is ∙ before
second_more after.Unsaid after.Unsaid false new left all said new_is before = absurd (cc)
second_more after.Unsaid after.Even false new left all said new_is before =
    let same : 1 + left ≡ 0 + (1 + left) = omega arith in ap (λ (n : Bool). n || nat_lt 1 (1 + left)) new_is ∙ ap (nat_lt 1) same ∙ before
second_more after.Unsaid after.Only false new left all said new_is before =
    let same : 1 + left ≡ 0 + (1 + left) = omega arith in ap (λ (n : Bool). n || nat_lt 1 (1 + left)) new_is ∙ ap (nat_lt 1) same ∙ before
second_more after.Even word false new left all said new_is before =
    ap (λ (n : Bool). n || nat_lt 1 (1 + left)) new_is ∙ sym (lt-ltb 1 (1 + (1 + left)) (omega arith)) ∙ before
second_more after.Only word false new left all said new_is before =
    ap (λ (n : Bool). n || nat_lt 1 (1 + left)) new_is ∙ sym (lt-ltb 1 (1 + (1 + left)) (omega arith)) ∙ before

count_more : (steps : Bool) (place : List ℕ) (left : List (List ℕ)) →
    count_by (is_word steps) (place ∷ left) ≡ cond (is_word steps place) 1 0 + count_by (is_word steps) left
count_more steps place left = sum_by-cons (λ (text : List ℕ). cond (is_word steps text) 1 0) place left

-- a word is taken
pub takes_word : (steps : Bool) (found new : FoundWords) (place : List ℕ) (word : AfterAbend) (left all : List (List ℕ)) → IsWordOf steps place word →
    new.after_abend ≡ first_said found.after_abend word → new.has_second ≡ (found.has_second || is_said found.after_abend) →
    HasWords steps found (place ∷ left) all → HasWords steps new left all
takes_word steps found new place word left all w first second c =
    let in_front = first_more steps place word left w in
    let met = count_by (is_word steps) left in
    let counted : (found.has_second || nat_lt 1 (words_said found.after_abend + (1 + met))) ≡ nat_lt 1 (count_by (is_word steps) all) =
    ap (λ (b : Bool). found.has_second || nat_lt 1 (words_said found.after_abend + (cond b 1 0 + met))) (sym w.is)
    ∙ ap (λ n. found.has_second || nat_lt 1 (words_said found.after_abend + n)) (sym (count_more steps place left))
    ∙ c.second in
    record {
      first =
          ap (λ word. first_said word (after_abend_if steps left)) first
          ∙ said_stays found.after_abend word (after_abend_if steps left) in_front.0
          ∙ ap (first_said found.after_abend) (sym in_front.1)
          ∙ c.first;
      second =
          ap (λ word. new.has_second || nat_lt 1 (words_said word + met)) first
          ∙ second_more found.after_abend word found.has_second new.has_second met (count_by (is_word steps) all) in_front.0 second counted;
    }

-- a place that is none
after_abend_same : (steps : Bool) (place : List ℕ) (left : List (List ℕ)) → is_word steps place ≡ false → after_abend_if steps (place ∷ left) ≡ after_abend_if steps left
after_abend_same false place left none = refl
after_abend_same true place left none = either (bytes_eq place (codes "EVEN")) (bytes_eq place (codes "ONLY")) (after_abend_of left) none
  where
    either : (even only : Bool) (later : AfterAbend) → (even || only) ≡ false → cond even after.Even (cond only after.Only later) ≡ later
    either true only later h = absurd (cc)
    either false true later h = absurd (cc)
    either false false later h = refl

pub passes_word : (steps : Bool) (found : FoundWords) (place : List ℕ) (left all : List (List ℕ)) → is_word steps place ≡ false →
    HasWords steps found (place ∷ left) all → HasWords steps found left all
passes_word steps found place left all none c =
    let met = count_by (is_word steps) left in
    let same : met ≡ cond false 1 0 + met = omega arith in
    record {
      first = ap (first_said found.after_abend) (sym (after_abend_same steps place left none)) ∙ c.first;
      second =
          ap (λ n. found.has_second || nat_lt 1 (words_said found.after_abend + n)) same
          ∙ ap (λ (b : Bool). found.has_second || nat_lt 1 (words_said found.after_abend + (cond b 1 0 + met))) (sym none)
          ∙ ap (λ n. found.has_second || nat_lt 1 (words_said found.after_abend + n)) (sym (count_more steps place left))
          ∙ c.second;
    }

-- what a place is
test_with : (steps word wrapped : Bool) (text : List ℕ) → is_word steps text ≡ word → is_wrapped text ≡ wrapped →
    test_in steps text ≡ cond (not word && wrapped) (Some (test_of_items steps (places_of (inside text)))) None
test_with steps word wrapped text w r =
    ap (λ (b : Bool). cond (not b && is_wrapped text) (Some (test_of_items steps (places_of (inside text)))) None) w
    ∙ ap (λ (b : Bool). cond (not word && b) (Some (test_of_items steps (places_of (inside text)))) None) r

neither_with : (steps word wrapped : Bool) (text : List ℕ) → is_word steps text ≡ word → is_wrapped text ≡ wrapped → is_neither steps text ≡ (not word && not wrapped)
neither_with steps word wrapped text w r =
    ap (λ (b : Bool). not b && not (is_wrapped text)) w ∙ ap (λ (b : Bool). not word && not b) r

tests_same : (steps : Bool) (found : FoundTests) (place : List ℕ) (left all : List (List ℕ)) → test_in steps place ≡ None →
    HasTests found (tests_in steps (place ∷ left)) (tests_in steps all) → HasTests found (tests_in steps left) (tests_in steps all)
tests_same steps found place left all none c =
    subst (λ (o : Option (Read CodedTest)). HasTests found (cons_option o (tests_in steps left)) (tests_in steps all)) none c

others_same : (steps other neither : Bool) (place : List ℕ) (left all : List (List ℕ)) → is_neither steps place ≡ neither →
    (other || list_any (is_neither steps) (place ∷ left)) ≡ list_any (is_neither steps) all →
    (other || (neither || list_any (is_neither steps) left)) ≡ list_any (is_neither steps) all
others_same steps other neither place left all is c = ap (λ (b : Bool). other || (b || list_any (is_neither steps) left)) (sym is) ∙ c

-- a place of each kind
pub at_word : (steps : Bool) (found new : Found) (place : List ℕ) (word : AfterAbend) (left all : List (List ℕ)) → IsWordOf steps place word →
    new.tests ≡ found.tests → new.has_other ≡ found.has_other → new.words.after_abend ≡ first_said found.words.after_abend word →
    new.words.has_second ≡ (found.words.has_second || is_said found.words.after_abend) → Continues steps found (place ∷ left) all → Continues steps new left all
at_word steps found new place word left all w tests other first second c = record {
  tests = subst (λ (t : FoundTests). HasTests t (tests_in steps left) (tests_in steps all)) (sym tests)
      (tests_same steps found.tests place left all (test_with steps true (is_wrapped place) place w.is refl) c.tests);
  words = takes_word steps found.words new.words place word left all w first second c.words;
  others = ap (λ (b : Bool). b || list_any (is_neither steps) left) other
      ∙ others_same steps found.has_other false place left all (neither_with steps true (is_wrapped place) place w.is refl) c.others;
}

pub at_test : (steps : Bool) (found new : Found) (place : List ℕ) (test : Result CodedTest Cause) (left all : List (List ℕ)) → is_word steps place ≡ false →
    is_wrapped place ≡ true → new.words ≡ found.words → new.has_other ≡ found.has_other → IsRead test (test_of_items steps (places_of (inside place))) →
    ((r : Read CodedTest) (left all : List (Read CodedTest)) → IsRead test r → HasTests found.tests (r ∷ left) all → HasTests new.tests left all) →
    Continues steps found (place ∷ left) all → Continues steps new left all
at_test steps found new place test left all none wrapped words other read takes c =
    let met : HasTests found.tests (test_of_items steps (places_of (inside place)) ∷ tests_in steps left) (tests_in steps all) =
    subst (λ (o : Option (Read CodedTest)). HasTests found.tests (cons_option o (tests_in steps left)) (tests_in steps all)) (test_with steps false true place none wrapped) c.tests in
    record {
      tests = takes (test_of_items steps (places_of (inside place))) (tests_in steps left) (tests_in steps all) read met;
      words = subst (λ (w : FoundWords). HasWords steps w left all) (sym words) (passes_word steps found.words place left all none c.words);
      others = ap (λ (b : Bool). b || list_any (is_neither steps) left) other
          ∙ others_same steps found.has_other false place left all (neither_with steps false true place none wrapped) c.others;
    }

or_false : (a b : Bool) → b ≡ false → (a || b) ≡ a
or_false false b h = h
or_false true b h = refl

-- where no place is left, the faults that were found are those of all places
pub faults_are : (steps : Bool) (found : Found) (places : List (List ℕ)) → Continues steps found [] places →
    earlier found.tests.fault (earlier (told (when found.has_other (P BadValue))) (earlier (told (when found.tests.has_ninth (P TooManyTests))) (told (when found.words.has_second (P ExcludeOneAnother)))))
    ≡ told (condition_of_places steps places).faults
faults_are steps found places c =
    let tests = tests_in steps places in
    let others = flat_map (λ text. when (is_neither steps text) (P BadValue)) places in
    let many = when (nat_lt 8 (length tests)) (P TooManyTests) in
    let words = when (nat_lt 1 (count_by (is_word steps) places)) (P ExcludeOneAnother) in
    let a : found.tests.fault ≡ told (faults_of tests) = sym (earlier_none found.tests.fault) ∙ c.tests.faults in
    let b : told (when found.has_other (P BadValue)) ≡ told others =
    ap (λ (x : Bool). told (when x (P BadValue))) (sym (or_false found.has_other false refl) ∙ c.others)
    ∙ sym (told_once (is_neither steps) (P BadValue) places) in
    let d : told (when found.tests.has_ninth (P TooManyTests)) ≡ told many =
    ap (λ (x : Bool). told (when x (P TooManyTests)))
    (sym (or_false found.tests.has_ninth (nat_lt 8 (length found.tests.tests.items + 0)) (le-ltb 8 (length found.tests.tests.items + 0) (omega (arith, c.tests.few)))) ∙ c.tests.ninth) in
    let e : told (when found.words.has_second (P ExcludeOneAnother)) ≡ told words =
    ap (λ (x : Bool). told (when x (P ExcludeOneAnother)))
    (sym (or_false found.words.has_second (nat_lt 1 (words_said found.words.after_abend + 0)) (one_said found.words.after_abend)) ∙ c.words.second) in
    ap (λ f. earlier f (earlier (told (when found.has_other (P BadValue))) (earlier (told (when found.tests.has_ninth (P TooManyTests))) (told (when found.words.has_second (P ExcludeOneAnother)))))) a
    ∙ ap (λ f. earlier (told (faults_of tests)) (earlier f (earlier (told (when found.tests.has_ninth (P TooManyTests))) (told (when found.words.has_second (P ExcludeOneAnother)))))) b
    ∙ ap (λ f. earlier (told (faults_of tests)) (earlier (told others) (earlier f (told (when found.words.has_second (P ExcludeOneAnother)))))) d
    ∙ ap (λ f. earlier (told (faults_of tests)) (earlier (told others) (earlier (told many) f))) e
    ∙ ap (λ f. earlier (told (faults_of tests)) (earlier (told others) f)) (sym (told_append many words))
    ∙ ap (earlier (told (faults_of tests))) (sym (told_append others (many ++ words)))
    ∙ sym (told_append (faults_of tests) (others ++ (many ++ words)))
  where
    one_said : (word : AfterAbend) → nat_lt 1 (words_said word + 0) ≡ false
    one_said after.Unsaid = refl
    one_said after.Even = refl
    one_said after.Only = refl

-- and what was found is what they say
pub value_is : (steps : Bool) (found : Found) (places : List (List ℕ)) → Continues steps found [] places → told (condition_of_places steps places).faults ≡ None →
    record { tests = found.tests.tests; after_abend = found.words.after_abend } ≡ (condition_of_places steps places).value
value_is steps found places c none =
    let all : earlier found.tests.fault (earlier (told (when found.has_other (P BadValue))) (earlier (told (when found.tests.has_ninth (P TooManyTests))) (told (when found.words.has_second (P ExcludeOneAnother))))) ≡ None =
    faults_are steps found places c ∙ none in
    let no_ninth : found.tests.has_ninth ≡ false = not_told found.tests.has_ninth (first-none _ _ (second-none (told (when found.has_other (P BadValue))) _ (second-none found.tests.fault _ all))) in
    let tests = sym (append-nil found.tests.tests.items) ∙ c.tests.tests (first-none found.tests.fault _ all) no_ninth in
    let with_tests : List CodedTest → Condition = λ items. record { tests = record { items = items }; after_abend = found.words.after_abend } in
    let with_word : AfterAbend → Condition = λ word. record { tests = record { items = values_of (tests_in steps places) }; after_abend = word } in
    ap with_tests tests ∙ ap with_word (said_alone steps found.words.after_abend ∙ c.words.first)
  where
    not_told : (ninth : Bool) → told (when ninth (P TooManyTests)) ≡ None → ninth ≡ false
    not_told true h = absurd (cc)
    not_told false h = refl

    unsaid : (word : AfterAbend) → word ≡ first_said word after.Unsaid
    unsaid after.Unsaid = refl
    unsaid after.Even = refl
    unsaid after.Only = refl

    said_alone : (steps : Bool) (word : AfterAbend) → word ≡ first_said word (after_abend_if steps [])
    said_alone true word = unsaid word
    said_alone false word = unsaid word
