-- what a JOB statement codes, word by word
use Rattle.std.proofs.Common.{◌≡◌, ℕ, Bool, true, false, cond, ◌||◌, List, [], ◌∷◌, ◌++◌, Option, Some, None, Result, Ok, codes, refl, ap, ◌∙◌}
use Rattle.std.specs.List.{flat_map}
use Rattle.std.specs.Str.{bytes_eq}
use Rattle.arrayvec.specs.ArrayVec.{ArrayVec}
use Rattle.jcl_plan.specs.declared.fault.Cause.{Cause}
use Rattle.operand_core.specs.Faults.{or_fault, told}
use Rattle.operand_core.specs.Keywords.{has_key}
use Rattle.operand_core.specs.Operands.{Keyword, Operand}
use Rattle.operand_core.proofs.Faultless.{none_behind, none_in_front}
use Rattle.operand_core.proofs.Told.{told-none}
use Rattle.list_values.specs.declared.condition.CodedTest.{CodedTest}
use Rattle.value_core.specs.Reads.{IsRead, Read, and_faults, both, good, with_fault}
use Rattle.value_core.proofs.Both.{both_is, pair_of, with_fault_is}
use Rattle.jcl_cards.specs.declared.job.JobCard.{JobCard}
use Rattle.jcl_cards.specs.JobCards.{card_with, class, is_key, job_with, message_class, no_tests, priority, tests, tests_in, unknown_on_job}
use Rattle.jcl_cards.specs.Keywords.{and_later, as_it_is, read_or, twice_faults, value_in}
use Rattle.jcl_cards.specs.Reading.{job_name}

abbrev pub class_in : List Keyword → Read ℕ
class_in keywords = value_in (is_key (codes "CLASS")) class 65 keywords

abbrev pub priority_in : List Keyword → Read ℕ
priority_in keywords = value_in (is_key (codes "PRTY")) priority 6 keywords

abbrev pub message_class_in : List Keyword → Read ℕ
message_class_in keywords = value_in (is_key (codes "MSGCLASS")) message_class 65 keywords

abbrev pub named : List ℕ → Operand → Read (List ℕ)
named name operand = and_faults (job_name name) operand.faults

abbrev pub classed : List ℕ → Operand → Read (List ℕ × ℕ)
classed name operand = pair_of (named name operand) (class_in operand.keywords)

abbrev pub ranked : List ℕ → Operand → Read ((List ℕ × ℕ) × ℕ)
ranked name operand = pair_of (classed name operand) (priority_in operand.keywords)

abbrev pub listed : List ℕ → Operand → Read (((List ℕ × ℕ) × ℕ) × ℕ)
listed name operand = pair_of (ranked name operand) (message_class_in operand.keywords)

-- the words but for the tests
abbrev pub Words : Type 0
Words = ((List ℕ × ℕ) × ℕ) × ℕ

abbrev pub tested : List ℕ → Operand → Read Words
tested name operand = and_faults (listed name operand) (tests_in operand.keywords).faults

abbrev pub words_of : List ℕ → Operand → Read Words
words_of name operand = and_faults (and_faults (tested name operand) (flat_map unknown_on_job operand.keywords)) (twice_faults as_it_is operand.keywords)

pub words_are : (name : List ℕ) (operand : Operand) {n with_own : Result (List ℕ) Cause} {own of_tests unknown twice : Option Cause} {c p m : Result ℕ Cause}
    {with_class : Result (List ℕ × ℕ) Cause} {with_priority : Result ((List ℕ × ℕ) × ℕ) Cause} {with_message with_tests known all : Result Words Cause} →
    IsRead n (job_name name) → own ≡ told operand.faults → with_own ≡ with_fault n own →
    IsRead c (class_in operand.keywords) → with_class ≡ both with_own c →
    IsRead p (priority_in operand.keywords) → with_priority ≡ both with_class p →
    IsRead m (message_class_in operand.keywords) → with_message ≡ both with_priority m →
    of_tests ≡ told (tests_in operand.keywords).faults → with_tests ≡ with_fault with_message of_tests →
    unknown ≡ told (flat_map unknown_on_job operand.keywords) → known ≡ with_fault with_tests unknown →
    twice ≡ told (twice_faults as_it_is operand.keywords) → all ≡ with_fault known twice → IsRead all (words_of name operand)
words_are name operand n_is own_is named_is c_is classed_is p_is ranked_is m_is listed_is t_is tested_is unknown_is known_is twice_is all_is =
    let keywords = operand.keywords in
    let unknown_faults = flat_map unknown_on_job keywords in
    let one = with_fault_is (job_name name) operand.faults n_is own_is named_is in
    let two = both_is (named name operand) (class_in keywords) one c_is classed_is in
    let three = both_is (classed name operand) (priority_in keywords) two p_is ranked_is in
    let four = both_is (ranked name operand) (message_class_in keywords) three m_is listed_is in
    let five = with_fault_is (listed name operand) (tests_in keywords).faults four t_is tested_is in
    let six = with_fault_is (tested name operand) unknown_faults five unknown_is known_is in
    with_fault_is (and_faults (tested name operand) unknown_faults) (twice_faults as_it_is keywords) six twice_is all_is

-- where no fault is told of a statement, none is told of its tests
no_fault_of_tests : (name : List ℕ) (operand : Operand) → told (words_of name operand).faults ≡ None → (tests_in operand.keywords).faults ≡ []
no_fault_of_tests name operand none =
    let before = (listed name operand).faults in
    let of_tests = (tests_in operand.keywords).faults in
    let unknown = flat_map unknown_on_job operand.keywords in
    let twice = twice_faults as_it_is operand.keywords in
    let all = told-none (before ++ of_tests ++ unknown ++ twice) none in
    none_behind before of_tests (none_in_front (before ++ of_tests) unknown (none_in_front (before ++ of_tests ++ unknown) twice all))

with_cases : (f : Option Cause) (words : Words) {found value : ArrayVec CodedTest} {card : JobCard} → (f ≡ None → found ≡ value) → card_with value (Ok words) ≡ Ok card →
    card_with found (or_fault f words) ≡ or_fault f card
with_cases None words same is = ap (λ tests. card_with tests (Ok words)) (same refl) ∙ is
with_cases (Some fault) words same is = refl

-- the card by its tests and its other words
pub with_tests : (name : List ℕ) (operand : Operand) {of_tests : Option Cause} {found : ArrayVec CodedTest} {words : Result Words Cause} →
    of_tests ≡ told (tests_in operand.keywords).faults → (of_tests ≡ None → found ≡ (tests_in operand.keywords).value) → IsRead words (words_of name operand) →
    IsRead (card_with found words) (job_with name operand)
with_tests name operand {of_tests} {found} told_is value_is words_is =
    ap (card_with found) words_is
    ∙ with_cases (told (words_of name operand).faults) (words_of name operand).value
    (λ none. value_is (told_is ∙ ap told (no_fault_of_tests name operand none))) refl

neither : (a b : Bool) → (a || b) ≡ false → (a ≡ false) × (b ≡ false)
neither true b none = absurd (cc)
neither false b none = (refl, none)

passed_over : {A : Type 0} (b : Bool) (r later : Read A) (other : A) → b ≡ false → later ≡ good other → cond b (and_later r later) later ≡ good other
passed_over b r later other none is = ap (λ x. cond x (and_later r later) later) none ∙ is

-- no tests where COND does not stand
pub no_tests_in : (ks : List Keyword) → has_key (codes "COND") ks ≡ false → tests_in ks ≡ good no_tests
no_tests_in [] none = refl
no_tests_in (k ∷ ks) none =
    let both = neither (bytes_eq k.key (codes "COND")) (has_key (codes "COND") ks) none in
    passed_over (bytes_eq k.key (codes "COND")) (read_or tests no_tests k.value) (tests_in ks) no_tests both.0 (no_tests_in ks both.1)
