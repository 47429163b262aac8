-- Names and operands of JOB, EXEC and DD statements.
use Rattle.std.proofs.Common.{◌≡◌, ◌≤◌, ℕ, Bool, true, false, cond, List, [], ◌∷◌, Option, Some, None, Ok, length, refl, ap, ◌∙◌, arith}
use Rattle.std.specs.Prelude.{not, ◌&&◌, ◌||◌, ◌==◌, suc, nat_le, nat_lt}
use Rattle.std.specs.List.{list_all}
use Rattle.std.proofs.lemmas.Bool.{and_parts}
use Rattle.jname_core.specs.Characters.{is_letter_or_digit}
use Rattle.jname_core.specs.declared.fault.NameFault.{NameFault}
use Rattle.jcl_plan.specs.declared.fault.Cause.{Cause}
use Rattle.operand_core.specs.Faults.{as_cause, or_fault, told, written_name, written_name_faults}
use Rattle.operand_core.specs.Qualified.{is_qualified}
use Rattle.value_core.specs.Reads.{Read, answer}
use Rattle.reader_laws.specs.Spelled.{first_characters, is_among, is_name, name_characters}
use Rattle.reader_laws.specs.SpelledOperands.{is_plain, is_value, of_characters, spelled}
use Rattle.reader_laws.specs.SpelledSessions.{class_characters}
use Rattle.reader_laws.specs.SpelledStatements.{is_name_or_none, name_text}
use Rattle.reader_laws.proofs.Names.{among_passes, name_all, name_is}

pub both : (a b : Bool) → a ≡ true → b ≡ true → (a && b) ≡ true
both a b h k = ap (λ (x : Bool). x && b) h ∙ k

pub text_is : (text : List ℕ) → spelled (of_characters text) ≡ text
text_is [] = refl
text_is (c ∷ text) = ap (λ (cs : List ℕ). c ∷ cs) (text_is text)

pub plain_value : (text : List ℕ) → list_all is_plain text ≡ true → is_value (of_characters text) ≡ true
plain_value [] h = refl
plain_value (c ∷ text) h = let halves =
    and_parts (is_plain c) (list_all is_plain text) h in both (is_plain c) (is_value (of_characters text)) halves.0 (plain_value text halves.1)

-- names
pub name_plain : (text : List ℕ) → is_name text ≡ true → list_all is_plain text ≡ true
name_plain text h = name_all is_plain text refl refl h

pub name_short : (text : List ℕ) → is_name text ≡ true → length text ≤ 8
name_short [] h = absurd cc
name_short (c ∷ cs) h =
    let first = and_parts (is_among first_characters c) (list_all (is_among name_characters) cs && nat_le (length cs) 7) h in
    short (length cs) (and_parts (list_all (is_among name_characters) cs) (nat_le (length cs) 7) first.1).1
  where
    short : (n : ℕ) → nat_le n 7 ≡ true → suc n ≤ 8
    short n e = grind (arith)

pub is_not : (b : Bool) → not b ≡ true → b ≡ false
is_not true h = absurd cc
is_not false h = refl

none_is : (text : List ℕ) → list_all (λ c. not (c == 46)) text ≡ true → is_qualified text ≡ false
none_is [] h = refl
none_is (c ∷ text) h =
    let halves = and_parts (not (c == 46)) (list_all (λ d. not (d == 46)) text) h in
    ap (λ (b : Bool). b || is_qualified text) (is_not (c == 46) halves.0) ∙ none_is text halves.1

no_period : (text : List ℕ) → is_name text ≡ true → is_qualified text ≡ false
no_period text h = none_is text (name_all (λ c. not (c == 46)) text refl refl h)

no_causes : (b : Bool) → (let none : List Cause = [] in cond b none none) ≡ []
no_causes true = refl
no_causes false = refl

pub name_faultless : (name : Option (List ℕ)) → is_name_or_none name ≡ true → written_name_faults (name_text name) ≡ []
name_faultless None h = refl
name_faultless (Some name) h =
    ap (λ (fault : Option NameFault). cond (length name == 0) [] (as_cause fault)) (name_is name h) ∙ no_causes (length name == 0)

pub name_written : (name : Option (List ℕ)) → is_name_or_none name ≡ true → written_name (name_text name) ≡ name
name_written None h = refl
name_written (Some []) h = absurd cc
name_written (Some (c ∷ cs)) h = refl

pub not_long : (n : ℕ) → n ≤ 1024 → nat_lt 1024 n ≡ false
not_long n h = grind (arith)

pub unqualified : (name : Option (List ℕ)) → is_name_or_none name ≡ true → is_qualified (name_text name) ≡ false
unqualified None h = refl
unqualified (Some name) h = no_period name h

pub class_plain : (class : ℕ) → is_among class_characters class ≡ true → is_plain class ≡ true
class_plain class h = among_passes is_plain class_characters class refl h

pub class_good : (class : ℕ) → is_among class_characters class ≡ true → is_letter_or_digit class ≡ true
class_good class h = among_passes is_letter_or_digit class_characters class refl h

-- a value without a fault is answered
pub answered : {A : Type 0} (r : Read A) (value : A) → r.faults ≡ [] → r.value ≡ value → answer r ≡ Ok value
answered r value faultless is = λ i. or_fault (told (faultless i)) (is i)
