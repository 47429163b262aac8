use Rattle.std.proofs.Common.{◌≡◌, ℕ, List, nat_lt, length, Option, Result, sym, ap, ◌∙◌, drop}
use Rattle.std.proofs.lemmas.Result.{err_from_is_err_and}
use Rattle.jcl_plan.specs.declared.fault.Cause.{Cause}
use Rattle.jcl_plan.specs.declared.fault.Cause.TheVariants.{P}
use Rattle.jcl_plan.specs.declared.fault.StatementFault.TheVariants.{BadValue}
use Rattle.jcl_plan.specs.declared.plan.ConditionalWord.{ConditionalWord}
use Rattle.jcl_plan.specs.declared.plan.Status.{Status}
use Rattle.jcl_plan.specs.declared.plan.Word.{Word}
use Rattle.operand_core.specs.Faults.{or_fault, told, when}
use Rattle.value_core.specs.declared.set.Disposition.{Disposition}
use Rattle.value_core.specs.Dispositions.{conditional_of, disposition, disposition_of_places, place, status_of, word_of}
use Rattle.value_core.specs.Reads.{IsRead, Read, and_faults, both, with_fault}
use Rattle.value_core.proofs.Both.{both_is, err_is, ok_is, pair_of, with_fault_is}
use Rattle.value_core.proofs.OneByOne.{has_fourth, second_place, third_place}
use Rattle.value_core.proofs.disposition.disposition.Goals as goal

-- the words of a list of places
abbrev words_of : List (List ℕ) → Read (Status × (Option Word × Option ConditionalWord))
words_of places =
    pair_of (status_of (place places 0)) (pair_of (word_of (place places 1)) (and_faults (conditional_of (place places 2)) (when (nat_lt 3 (length places)) (P BadValue))))

words_are : (places : List (List ℕ)) {first second third : List ℕ} {fourth : Option Cause} {s : Result Status Cause} {n : Result (Option Word) Cause} {d with_fourth : Result (Option ConditionalWord) Cause}
    {inner : Result (Option Word × Option ConditionalWord) Cause} {all : Result (Status × (Option Word × Option ConditionalWord)) Cause} →
    first ≡ place places 0 → second ≡ place places 1 → third ≡ place places 2 → fourth ≡ told (when (nat_lt 3 (length places)) (P BadValue)) →
    IsRead s (status_of first) → IsRead n (word_of second) → IsRead d (conditional_of third) →
    with_fourth ≡ with_fault d fourth → inner ≡ both n with_fourth → all ≡ both s inner → IsRead all (words_of places)
words_are places first_is second_is third_is fourth_is s_is n_is d_is with_is inner_is all_is =
    both_is (status_of (place places 0)) (pair_of (word_of (place places 1)) (and_faults (conditional_of (place places 2)) (when (nat_lt 3 (length places)) (P BadValue))))
    (s_is ∙ ap (λ text. let r : Result Status Cause = or_fault (told (status_of text).faults) (status_of text).value in r) first_is)
    (both_is (word_of (place places 1)) (and_faults (conditional_of (place places 2)) (when (nat_lt 3 (length places)) (P BadValue)))
    (n_is ∙ ap (λ text. let r : Result (Option Word) Cause = or_fault (told (word_of text).faults) (word_of text).value in r) second_is)
    (with_fault_is (conditional_of (place places 2)) (when (nat_lt 3 (length places)) (P BadValue))
    (d_is ∙ ap (λ text. let r : Result (Option ConditionalWord) Cause = or_fault (told (conditional_of text).faults) (conditional_of text).value in r) third_is)
    fourth_is with_is)
    inner_is)
    all_is

pub returns-in_err-status : goal.returns-in_err-status
returns-in_err-status c =
    let places = c.of_value-places.result in
    let rest : c.next_place-3.new.places ≡ drop 1 (drop 1 (drop 1 places)) =
    c.next_place-3.ensures.rest ∙ ap (drop 1) (c.next_place-2.ensures.rest ∙ ap (drop 1) c.next_place.ensures.rest) in
    err_is (words_of places) (disposition c.args.text.now)
    (words_are places c.next_place.ensures.place
    (c.next_place-2.ensures.place ∙ ap (λ xs. place xs 0) c.next_place.ensures.rest ∙ second_place places)
    (c.next_place-3.ensures.place ∙ ap (λ xs. place xs 0) (c.next_place-2.ensures.rest ∙ ap (drop 1) c.next_place.ensures.rest) ∙ third_place places)
    (c.when-fourth.ensures ∙ ap (λ long. told (when long (P BadValue))) (c.is_some.ensures ∙ has_fourth places c.next_place-3.new.places c.next.new.self c.next.result rest c.next.ensures))
    c.status_of-status.ensures c.word_of-normal.ensures c.conditional_of-conditional.ensures c.with_fault.ensures c.both.ensures c.both-words.ensures)
    c.in_err-status.was (ap (λ xs. told (disposition_of_places xs).faults) (sym c.of_value-places.ensures))
    (err_from_is_err_and c.from_residual.result c.from_residual.ensures.1)

pub returns : goal.returns
returns c =
    let places = c.of_value-places.result in
    let rest : c.next_place-3.new.places ≡ drop 1 (drop 1 (drop 1 places)) =
    c.next_place-3.ensures.rest ∙ ap (drop 1) (c.next_place-2.ensures.rest ∙ ap (drop 1) c.next_place.ensures.rest) in
    let made : Status × (Option Word × Option ConditionalWord) → Disposition = λ words. record { status = words.0; normal = words.1.0; conditional = words.1.1 } in
    ok_is made (words_of places) (disposition c.args.text.now)
    (words_are places c.next_place.ensures.place
    (c.next_place-2.ensures.place ∙ ap (λ xs. place xs 0) c.next_place.ensures.rest ∙ second_place places)
    (c.next_place-3.ensures.place ∙ ap (λ xs. place xs 0) (c.next_place-2.ensures.rest ∙ ap (drop 1) c.next_place.ensures.rest) ∙ third_place places)
    (c.when-fourth.ensures ∙ ap (λ long. told (when long (P BadValue))) (c.is_some.ensures ∙ has_fourth places c.next_place-3.new.places c.next.new.self c.next.result rest c.next.ensures))
    c.status_of-status.ensures c.word_of-normal.ensures c.conditional_of-conditional.ensures c.with_fault.ensures c.both.ensures c.both-words.ensures)
    c.in_ok-status.was (ap (λ xs. told (disposition_of_places xs).faults) (sym c.of_value-places.ensures))
    (ap (λ xs. (disposition_of_places xs).value) (sym c.of_value-places.ensures))
