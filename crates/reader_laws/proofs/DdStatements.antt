-- DD statements.
use Rattle.std.proofs.Common.{◌≡◌, ◌++◌, ℕ, Bool, true, false, cond, List, [], ◌∷◌, Option, Some, None, Result, Ok, length, refl, ap, ◌∙◌, arith}
use Rattle.std.specs.Prelude.{not, ◌&&◌, ◌||◌, ◌==◌, codes, nat_le}
use Rattle.jcl_plan.specs.declared.fault.Cause.{Cause}
use Rattle.jcl_plan.specs.declared.fault.Cause.TheVariants.{P}
use Rattle.jcl_plan.specs.declared.fault.StatementFault.TheVariants.{BadValue, ExcludeOneAnother}
use Rattle.operand_core.specs.Faults.{long_faults, name_faults, or_fault, told, when}
use Rattle.operand_core.specs.Keywords.{is_long}
use Rattle.operand_core.specs.Operands.{Operand, first_of, operand_of, places_of}
use Rattle.operand_core.specs.Qualified.{head_of}
use Rattle.operand_core.specs.Subparameters.{first_place, inside, subparameters_of}
use Rattle.operand_core.specs.Values.{class_of, is_output_class}
use Rattle.value_core.specs.Reads.{Read, answer, good}
use Rattle.jcl_cards.specs.declared.coded.Coded.TheVariants.{Value}
use Rattle.jcl_cards.specs.Keywords.{spelled as spelled_key, twice_faults}
use Rattle.jcl_dds.specs.declared.dd.DdCard.{DdCard}
use Rattle.jcl_dds.specs.declared.dd.Word.TheVariants.{Cards, Dummy}
use Rattle.jcl_dds.specs.DdCards.{behind_period, card_of, dd_card, dd_name_faults, dd_with, excludes, has_two_words, keyword_faults, positional_faults, sysout}
use Rattle.reader_laws.specs.Spelled.{is_among}
use Rattle.reader_laws.specs.SpelledSessions.{class_characters}
use Rattle.reader_laws.specs.SpelledStatements.{empty_dd, is_name_or_none, keyed, name_text, sysout_operand}
use Rattle.reader_laws.proofs.Names.{among_passes}
use Rattle.reader_laws.proofs.NamedStatements.{class_good, class_plain, is_not, name_faultless, name_written, not_long, unqualified}
use Rattle.reader_laws.proofs.Operands.{operand_is}

-- the faults of a DD, with those of its name
abbrev pub with_faults : List Cause → Operand → Option (List (List ℕ)) → List Cause
with_faults names o cards =
    names ++ o.faults ++ positional_faults (first_of o.positional) ++ keyword_faults o.keywords
    ++ twice_faults spelled_key o.keywords ++ when (has_two_words o || excludes (card_of [] o cards)) (P ExcludeOneAnother)

-- a DD with a name, from what its operand says
pub dd_named : (name : Option (List ℕ)) (text : List ℕ) (o : Operand) (cards : Option (List (List ℕ))) (card : DdCard) → is_name_or_none name ≡ true →
    is_long text ≡ false → operand_of 1 text ≡ o → with_faults [] o cards ≡ [] → card_of [] o cards ≡ card →
    answer (dd_card (name_text name) text cards) ≡ Ok (record card { qualifier = None; name = name })
dd_named name text o cards card h short is faultless means =
    let written : List ℕ = name_text name in
    let by : Bool → Operand → Result DdCard Cause =
    λ long operand. answer (cond long (record { value = card_of written operand cards; faults = long_faults (dd_name_faults written) })
    (dd_with written operand cards)) in
    let of : Bool → List Cause → Option (List ℕ) → Result DdCard Cause =
    λ qualified own named. or_fault (told (with_faults (cond qualified (name_faults (head_of written) ++ name_faults (behind_period written)) own) o cards))
    (record (card_of [] o cards) {
      qualifier = cond qualified (Some (head_of written)) None;
      name = cond qualified (Some (behind_period written)) named;
    }) in
    (λ i. by (short i) (is i))
    ∙ (λ i. of (unqualified name h i) (name_faultless name h i) (name_written name h i))
    ∙ λ i. or_fault (told (faultless i)) (record (means i) { qualifier = None; name = name })

pub dummy_is : (name : Option (List ℕ)) → is_name_or_none name ≡ true →
    answer (dd_card (name_text name) (codes "DUMMY") None) ≡ Ok (record (empty_dd name) { word = Some Dummy })
dummy_is name h = dd_named name (codes "DUMMY") (operand_of 1 (codes "DUMMY")) None (record (empty_dd None) { word = Some Dummy }) h refl refl refl refl

pub cards_are : (name : Option (List ℕ)) (cards : List (List ℕ)) → is_name_or_none name ≡ true →
    answer (dd_card (name_text name) (codes "*") (Some cards)) ≡ Ok (record (empty_dd name) { word = Some (Cards cards) })
cards_are name cards h =
    dd_named name (codes "*") (operand_of 1 (codes "*")) (Some cards) (record (empty_dd None) { word = Some (Cards cards) }) h refl refl refl refl

pub all_cards_are : (name : Option (List ℕ)) (cards : List (List ℕ)) → is_name_or_none name ≡ true →
    answer (dd_card (name_text name) (codes "DATA") (Some cards)) ≡ Ok (record (empty_dd name) { word = Some (Cards cards) })
all_cards_are name cards h =
    dd_named name (codes "DATA") (operand_of 1 (codes "DATA")) (Some cards) (record (empty_dd None) { word = Some (Cards cards) }) h refl refl refl refl

pub unnamed_is : (name : Option (List ℕ)) → is_name_or_none name ≡ true → answer (dd_card (name_text name) [] None) ≡ Ok (empty_dd name)
unnamed_is name h = dd_named name [] (operand_of 1 []) None (empty_dd None) h refl refl refl refl

-- SYSOUT
places_are : (class : ℕ) → is_among class_characters class ≡ true → subparameters_of (class ∷ []) ≡ (class ∷ []) ∷ []
places_are class h =
    ap (λ (b : Bool). cond (b && false) (places_of (inside (class ∷ []))) ((class ∷ []) ∷ []))
    (is_not (class == 40) (among_passes (λ c. not (c == 40)) class_characters class refl h))

sysout_read : (class : ℕ) → is_among class_characters class ≡ true → sysout (class ∷ []) ≡ good class
sysout_read class h =
    let by : List (List ℕ) → Read ℕ = λ places. record {
      value = class_of (Some (first_place places));
      faults = when (not (is_output_class (first_place places) && nat_le (length places) 3)) (P BadValue);
    } in
    ap by (places_are class h)
    ∙ ap (λ (b : Bool). let r : Read ℕ = record { value = class; faults = when (not (b && true)) (P BadValue) } in r) (class_good class h)

abbrev of_sysout : ℕ → Operand
of_sysout class = record { positional = []; keywords = record { key = codes "SYSOUT"; value = Some (class ∷ []) } ∷ []; faults = [] }

sysout_operand_is : (class : ℕ) → is_among class_characters class ≡ true → operand_of 1 (sysout_operand class) ≡ of_sysout class
sysout_operand_is class h =
    operand_is 1 [] (keyed (codes "SYSOUT") (class ∷ []) ∷ []) refl (ap (λ (b : Bool). (b && true) && true) (class_plain class h)) (omega arith) refl

pub sysout_is : (name : Option (List ℕ)) (class : ℕ) → is_name_or_none name ≡ true → is_among class_characters class ≡ true →
    answer (dd_card (name_text name) (sysout_operand class) None) ≡ Ok (record (empty_dd name) { sysout = Value class })
sysout_is name class h k =
    dd_named name (sysout_operand class) (of_sysout class) None (record (empty_dd None) { sysout = Value class }) h (not_long 8 (omega arith))
    (sysout_operand_is class k)
    (ap (λ (r : Read ℕ). r.faults ++ [] ++ [] ++ [] ++ [] ++ [] ++ [] ++ []) (sysout_read class k))
    (ap (λ (r : Read ℕ). let card : DdCard = record (empty_dd None) { sysout = Value r.value } in card) (sysout_read class k))
