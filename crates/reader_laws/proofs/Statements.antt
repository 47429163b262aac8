-- JOB and EXEC statements.
use Rattle.std.proofs.Common.{◌≡◌, ◌≤◌, ◌++◌, ℕ, Bool, true, false, cond, List, [], ◌∷◌, Option, Some, None, Result, Ok, length, refl, sym, ap, ◌∙◌, arith, subst}
use Rattle.std.specs.Prelude.{not, ◌&&◌, ◌==◌, codes, nat_eq, nat_le}
use Rattle.std.specs.List.{flat_map, list_all, starts_with}
use Rattle.std.specs.Option.{is_some, unwrap_or}
use Rattle.std.proofs.lemmas.Bool.{and_parts}
use Rattle.jname_core.specs.Characters.{is_digit, is_job_class}
use Rattle.jname_core.specs.Decimals.{number_within}
use Rattle.jcl_plan.specs.declared.fault.Cause.{Cause}
use Rattle.jcl_plan.specs.declared.fault.Cause.TheVariants.{P}
use Rattle.jcl_plan.specs.declared.fault.StatementFault.TheVariants.{BadValue, LeftOut, MissingName, NotOneProgram}
use Rattle.operand_core.specs.Faults.{as_cause, long_faults, or_fault, read_name_faults, told, when, written_name_faults}
use Rattle.operand_core.specs.Operands.{Operand, first_of, operand_of}
use Rattle.value_core.specs.Reads.{answer}
use Rattle.jcl_cards.specs.declared.exec.ExecCard.{ExecCard}
use Rattle.jcl_cards.specs.declared.exec.Runs.{Runs}
use Rattle.jcl_cards.specs.declared.exec.Runs.TheVariants.{Procedure, Program}
use Rattle.jcl_cards.specs.declared.job.JobCard.{JobCard}
use Rattle.jcl_cards.specs.ExecCards.{calls, exec_card, exec_keyword, exec_with, faults_of, runs_badly}
use Rattle.jcl_cards.specs.Keywords.{as_it_is, twice_faults}
use Rattle.jcl_cards.specs.JobCards.{job_card, job_with}
use Rattle.reader_laws.specs.Spelled.{first_characters, is_among, is_name, name_characters, number_with_zeros}
use Rattle.reader_laws.specs.SpelledOperands.{Keyed, is_positional, is_value, of_characters, spelled}
use Rattle.reader_laws.specs.SpelledStatements.{IsJob, SpelledJob, call_operand, is_name_or_none, job_of, job_operand, keyed, name_text, program_operand, step_of}
use Rattle.reader_laws.specs.SpelledOperands.{is_plain}
use Rattle.reader_laws.specs.WrittenCards.{is_empty}
use Rattle.reader_laws.proofs.NamedStatements.{both, class_good, class_plain, is_not, name_faultless, name_plain, name_short, name_written, not_long, plain_value, text_is}
use Rattle.reader_laws.proofs.Names.{among_passes, name_all, name_is, not_zero}
use Rattle.reader_laws.proofs.Decimals.{more_zeros, spelled as spelled_number, within_is}
use Rattle.reader_laws.proofs.Operands.{operand_is}
use Rattle.reader_laws.proofs.Said.{each}

-- EXEC
first_no_star : (c : ℕ) → is_among first_characters c ≡ true → (42 == c) ≡ false
first_no_star c h = is_not (42 == c) (among_passes (λ d. not (42 == d)) first_characters c refl h)

no_star : (program : List ℕ) → is_name program ≡ true → starts_with nat_eq program (codes "*.") ≡ false
no_star [] h = absurd cc
no_star (c ∷ []) h = ap (λ (b : Bool). b && false) (first_no_star c (and_parts (is_among first_characters c) true h).0)
no_star (c ∷ d ∷ cs) h =
    ap (λ (b : Bool). b && ((46 == d) && true))
    (first_no_star c (and_parts (is_among first_characters c) (list_all (is_among name_characters) (d ∷ cs) && nat_le (length (d ∷ cs)) 7) h).0)

abbrev of_program : List ℕ → Operand
of_program program = record { positional = []; keywords = record { key = codes "PGM"; value = Some program } ∷ []; faults = [] }

program_operand_is : (program : List ℕ) → is_name program ≡ true → operand_of 1 (program_operand program) ≡ of_program program
program_operand_is program h =
    operand_is 1 [] (keyed (codes "PGM") program ∷ []) refl (ap (λ (b : Bool). b && true) (plain_value program (name_plain program h))) (omega arith) refl
    ∙ ap of_program (text_is program)

-- the faults of a step, with those of its name
abbrev with_faults : List Cause → Operand → List Cause
with_faults names o =
    names ++ o.faults ++ when (runs_badly o) (P NotOneProgram) ++ read_name_faults (first_of o.positional)
    ++ flat_map (λ k. faults_of (exec_keyword (calls o) k.key) k) o.keywords ++ twice_faults as_it_is o.keywords

exec_named : (name : Option (List ℕ)) (text : List ℕ) (o : Operand) (runs : Runs) → is_name_or_none name ≡ true → length text ≤ 1024 → operand_of 1 text ≡ o →
    with_faults [] o ≡ [] → (exec_with [] o).value ≡ step_of None runs → answer (exec_card (name_text name) text) ≡ Ok (step_of name runs)
exec_named name text o runs h fits is faultless means =
    let written : List ℕ = name_text name in
    let by : Bool → Operand → Result ExecCard Cause =
    λ long operand. answer (cond long (record { value = (exec_with written operand).value; faults = long_faults (written_name_faults written) })
    (exec_with written operand)) in
    (λ i. by (not_long (length text) fits i) (is i))
    ∙ (λ i. or_fault (told (with_faults (name_faultless name h i) o)) (record (exec_with [] o).value { name = name_written name h i }))
    ∙ λ i. or_fault (told (faultless i)) (record (means i) { name = name })

pub program_is : (name : Option (List ℕ)) (program : List ℕ) → is_name_or_none name ≡ true → is_name program ≡ true →
    answer (exec_card (name_text name) (program_operand program)) ≡ Ok (step_of name (Program program))
program_is name program h k =
    let short : length (spelled (of_characters program)) ≤ 8 = subst (λ (t : List ℕ). length t ≤ 8) (sym (text_is program)) (name_short program k) in
    exec_named name (program_operand program) (of_program program) (Program program) h (omega arith) (program_operand_is program k)
    (λ i. (cond (no_star program k i) (P LeftOut ∷ []) (as_cause (name_is program k i)) ++ []) ++ []) refl

abbrev of_call : List ℕ → Operand
of_call procedure = record { positional = Some procedure ∷ []; keywords = []; faults = [] }

name_positional : (text : List ℕ) → is_name text ≡ true → is_positional (of_characters text) ≡ true
name_positional text h =
    both (is_value (of_characters text)) (list_all (λ c. not (c == 61)) (spelled (of_characters text))) (plain_value text (name_plain text h))
    (ap (list_all (λ c. not (c == 61))) (text_is text) ∙ name_all (λ c. not (c == 61)) text refl refl h)

name_something : (text : List ℕ) → is_name text ≡ true → is_empty (spelled (of_characters text)) ≡ false
name_something [] h = absurd cc
name_something (c ∷ text) h = refl

call_operand_is : (procedure : List ℕ) → is_name procedure ≡ true → operand_of 1 (call_operand procedure) ≡ of_call procedure
call_operand_is procedure h =
    operand_is 1 (of_characters procedure ∷ []) [] (ap (λ (b : Bool). b && true) (name_positional procedure h)) refl (omega arith) (name_something procedure h)
    ∙ ap of_call (text_is procedure)

pub call_is : (name : Option (List ℕ)) (procedure : List ℕ) → is_name_or_none name ≡ true → is_name procedure ≡ true →
    answer (exec_card (name_text name) (call_operand procedure)) ≡ Ok (step_of name (Procedure procedure []))
call_is name procedure h k =
    let short : length (call_operand procedure) ≤ 8 = subst (λ (t : List ℕ). length t ≤ 8) (sym (text_is procedure)) (name_short procedure k) in
    exec_named name (call_operand procedure) (of_call procedure) (Procedure procedure []) h (omega arith) (call_operand_is procedure k)
    (λ i. as_cause (name_is procedure k i) ++ [] ++ []) refl

-- JOB
digit_plain : (c : ℕ) → is_digit c ≡ true → is_plain c ≡ true
digit_plain c h = grind (arith)

number_plain : (zeros n : ℕ) → n ≤ 13 → list_all is_plain (number_with_zeros zeros n) ≡ true
number_plain zeros n h =
    let s = more_zeros zeros n _ (spelled_number n (omega arith)) in
    each is_digit is_plain (number_with_zeros zeros n) digit_plain s.digits_all

job_class : (class : ℕ) → is_among (codes "ABCDEFGHIJKLMNO") class ≡ true → is_job_class class ≡ true
job_class class h = among_passes is_job_class (codes "ABCDEFGHIJKLMNO") class refl h

job_class_plain : (class : ℕ) → is_among (codes "ABCDEFGHIJKLMNO") class ≡ true → is_plain class ≡ true
job_class_plain class h = among_passes is_plain (codes "ABCDEFGHIJKLMNO") class refl h

some_name : (name : List ℕ) → is_name name ≡ true → (length name == 0) ≡ false
some_name [] h = absurd cc
some_name (c ∷ cs) h = not_zero (length cs)

before_something : (text behind : List ℕ) (c : ℕ) → is_empty (text ++ c ∷ behind) ≡ false
before_something [] behind c = refl
before_something (d ∷ text) behind c = refl

abbrev of_job : SpelledJob → List ℕ → Operand
of_job j number = record {
  positional = Some (spelled j.accounting) ∷ Some (spelled j.programmer) ∷ [];
  keywords = record { key = codes "CLASS"; value = Some (j.class ∷ []) }
      ∷ record { key = codes "PRTY"; value = Some number }
      ∷ record { key = codes "MSGCLASS"; value = Some (j.message_class ∷ []) }
      ∷ [];
  faults = [];
}

abbrev number_of : SpelledJob → List ℕ
number_of j = number_with_zeros j.zeros j.priority

job_operand_is : (j : SpelledJob) → IsJob j → operand_of 2 (job_operand j) ≡ of_job j (number_of j)
job_operand_is j h =
    let keywords : List Keyed =
    keyed (codes "CLASS") (j.class ∷ []) ∷ keyed (codes "PRTY") (number_of j) ∷ keyed (codes "MSGCLASS") (j.message_class ∷ []) ∷ [] in
    operand_is 2 (j.accounting ∷ j.programmer ∷ []) keywords (λ i. h.accounting i && (h.programmer i && true))
    (λ i. (job_class_plain j.class h.class i && true)
    && (plain_value (number_of j) (number_plain j.zeros j.priority h.priority) i &&
    ((class_plain j.message_class h.message_class i && true) && true)))
    (omega arith) (before_something (spelled j.accounting) _ 44)
    ∙ ap (of_job j) (text_is (number_of j))

priority_is : (j : SpelledJob) → IsJob j → number_within 0 13 (number_of j) ≡ Some j.priority
priority_is j h = let most : j.priority ≤ 13 = h.priority in within_is j.zeros 0 13 j.priority (omega arith) (omega arith) most

job_faultless : (j : SpelledJob) → IsJob j → (job_with j.name (of_job j (number_of j))).faults ≡ []
job_faultless j h = λ i.
    cond (some_name j.name h.name i) (P MissingName ∷ []) (as_cause (name_is j.name h.name i)) ++ []
    ++ (when (not (job_class j.class h.class i)) (P BadValue) ++ [])
    ++ (when (not (is_some (priority_is j h i))) (P BadValue) ++ [])
    ++ (when (not (class_good j.message_class h.message_class i)) (P BadValue) ++ []) ++ [] ++ [] ++ []

pub job_is : (j : SpelledJob) → IsJob j → answer (job_card j.name (job_operand j)) ≡ Ok (job_of j)
job_is j h =
    let text : List ℕ = job_operand j in
    let fits : length text ≤ 1024 = h.fits in
    let by : Bool → Operand → Result JobCard Cause =
    λ long operand. answer (cond long (record { value = (job_with j.name operand).value; faults = long_faults (written_name_faults j.name) })
    (job_with j.name operand)) in
    (λ i. by (not_long (length text) fits i) (job_operand_is j h i))
    ∙ λ i. or_fault (told (job_faultless j h i)) (record (job_of j) { priority = unwrap_or (priority_is j h i) 6 })
