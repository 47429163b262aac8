-- What is collected so far is that of the deck's first steps, and each step of a deck brings one at least.
use Rattle.std.proofs.Common.{◌≡◌, ◌∷◌, ◌++◌, ◌∙◌, ◌⊎◌, ◌<◌, ◌≤◌, ◌+◌, ◌==◌, inl, inr, ℕ, Bool, true, false, List, [], All, Option, None, Some, Result, Ok, Err, nat_lt, if◌then◌else◌, append_assoc, append-nil, ap, arith, is_none, is_some, le-ltb, length, length-append, lt-ltb, ltb-false, ltb-true, map, position, refl, slice_get, suc, subst, sym, unwrap_or}
use Rattle.std.specs.List.{list_any}
use Rattle.std.proofs.lemmas.List.{length-map}
use Rattle.std.proofs.lemmas.List.Elements.{All-nil}
use Rattle.card_core.specs.declared.statement.Statement.{Statement}
use Rattle.jcl_plan.specs.declared.fault.Cause.{Cause}
use Rattle.jcl_plan.specs.declared.fault.Cause.TheVariants.{P}
use Rattle.jcl_plan.specs.declared.fault.StatementFault.TheVariants.{NoStep, NoSuchProcedureStep}
use Rattle.list_values.specs.declared.condition.Condition.{Condition}
use Rattle.list_values.specs.Conditions.{no_condition}
use Rattle.operand_core.specs.Faults.{or_fault}
use Rattle.jcl_symbols.specs.declared.symbol.Symbol.{Symbol}
use Rattle.jcl_cards.specs.declared.exec.ExecCard.{ExecCard}
use Rattle.jcl_cards.specs.declared.exec.Runs.{Runs}
use Rattle.jcl_cards.specs.declared.exec.Runs.TheVariants.{Program, Procedure}
use Rattle.jcl_cards.specs.declared.exec.StepCondition.{StepCondition}
use Rattle.jcl_dds.specs.declared.dd.DdCard.{DdCard}
use Rattle.jcl_dds.specs.Merging.{by_itself}
use Rattle.jcl_deck.specs.declared.deck.DeckStep.{DeckStep}
use Rattle.jcl_deck.specs.declared.deck.Procedure as in_stream
use Rattle.jcl_deck.specs.Decks.{operation_of}
use Rattle.jcl_procs.specs.declared.expansion.Expansion.{Expansion}
use Rattle.jcl_procs.specs.declared.expansion.Expansion.TheVariants.{Steps, TooMany}
use Rattle.jcl_procs.specs.declared.known.Known.{Known}
use Rattle.jcl_procs.specs.declared.overriding.Place as overriding
use Rattle.jcl_procs.specs.declared.step.FlatStep.{FlatStep}
use Rattle.jcl_procs.specs.Bodies.{behind}
use Rattle.jcl_procs.specs.Calls.{Call, Place, behind_by, steps_behind, steps_from, steps_of, steps_with}
use Rattle.jcl_procs.specs.Counting.{IsKnown, IsLeft, KeepsFirst, counted, is_over, up_to}
use Rattle.jcl_procs.specs.Expansions.{Body, and_then, body_named, flat_from, joined, plain_step, steps_by}
use Rattle.jcl_procs.specs.Overrides.{conditions_overridden, dds_at, dds_overridden, inserts, is_of_name, is_step, names_steps, overrides_by_position, overrides_from, overrides_member, overrides_named, overrides_next, overrides_one, overrides_there, place_behind, puts_merged, step_at, with_condition, with_step_condition, with_step_conditions, with_this}
use Rattle.jcl_procs.specs.Overrides.{steps_behind as steps_onward}
use Rattle.jcl_procs.proofs.Reached.{length_put}
use Rattle.proc_library.specs.declared.library.LibraryProcedure.{LibraryProcedure}

abbrev overridden : ExecCard → List DdCard → List FlatStep → Result (List FlatStep) Cause
overridden exec dds steps = and_then (conditions_overridden steps exec) (λ changed. dds_overridden changed dds)

-- the steps up to a number of them
by_number : Bool → List FlatStep → Expansion
by_number b steps = if b then TooMany else Steps steps

is_many : (most : ℕ) (steps : List FlatStep) → most < length steps → up_to most steps ≡ TooMany
unfolding by_number
is_many most steps more = ap (λ b. by_number b steps) (lt-ltb most (length steps) more)

is_few : (most : ℕ) (steps : List FlatStep) → length steps ≤ most → up_to most steps ≡ Steps steps
unfolding by_number
is_few most steps few = ap (λ b. by_number b steps) (le-ltb most (length steps) few)

pub many_by : (most : ℕ) (steps : List FlatStep) (b : Bool) → nat_lt most (length steps) ≡ b → up_to most steps ≡ TooMany → most < length steps
unfolding by_number
many_by most steps true is so = ltb-true most (length steps) is
many_by most steps false is so = absurd (let never : Steps steps ≡ TooMany = sym (ap (λ b. by_number b steps) is) ∙ so in cc)

pub few_by : (most : ℕ) (steps kept : List FlatStep) (b : Bool) → nat_lt most (length steps) ≡ b → up_to most steps ≡ Steps kept →
    (steps ≡ kept) × (length steps ≤ most)
unfolding by_number
few_by most steps kept true is so = absurd (let never : TooMany ≡ Steps kept = sym (ap (λ b. by_number b steps) is) ∙ so in cc)
few_by most steps kept false is so =
    (let same : Steps steps ≡ Steps kept = sym (ap (λ b. by_number b steps) is) ∙ so in cc, ltb-false most (length steps) is)

stays_many : (most : ℕ) (steps more : List FlatStep) → up_to most steps ≡ TooMany → up_to most (steps ++ more) ≡ TooMany
stays_many most steps more is =
    is_many most (steps ++ more) (omega (arith, length-append steps more, many_by most steps (nat_lt most (length steps)) refl is))

pub with_many : (most : ℕ) (expansion : Expansion) (steps more : List FlatStep) → expansion ≡ TooMany → expansion ≡ up_to most steps →
    TooMany ≡ up_to most (steps ++ more)
with_many most expansion steps more many is = sym (stays_many most steps more (sym is ∙ many))

-- what is collected of a deck's steps, and what it is refused for
pub counted_ok : (most : ℕ) (flat : Result (List FlatStep) Cause) (expansion : Expansion) → counted most flat ≡ Ok expansion →
    (steps : List FlatStep) × (flat ≡ Ok steps) × (expansion ≡ up_to most steps)
counted_ok most (Ok steps) expansion is = (steps, refl, let same : expansion ≡ up_to most steps = cc in same)
counted_ok most (Err fault) expansion is = absurd cc

pub counted_err : (most : ℕ) (flat : Result (List FlatStep) Cause) (fault : Cause) → counted most flat ≡ Err fault → flat ≡ Err fault
counted_err most (Ok steps) fault is = absurd cc
counted_err most (Err own) fault is = let same : own ≡ fault = cc in ap (λ (f : Cause). let r : Result (List FlatStep) Cause = Err f in r) same

abbrev plain_of : ExecCard → List DdCard → List ℕ → FlatStep
plain_of exec dds name = record {
  name = exec.name;
  procedure_step = None;
  call = None;
  program = name;
  condition = unwrap_or exec.condition no_condition;
  dds = map by_itself dds;
}

-- a step of a deck brings one step at least
some_by : (place : Place) (steps : List FlatStep) → steps_with place ≡ Ok steps → 1 ≤ length steps
some_by place steps is = by place.steps is
  where
    ended : Bool → List FlatStep → Result (List FlatStep) Cause
    ended none own = if none then Err (P NoStep) else Ok own

    is_same : (own : List FlatStep) → (let r : Result (List FlatStep) Cause = Ok own in r) ≡ Ok steps → length own ≡ length steps
    is_same own h = let same : own ≡ steps = cc in ap length same

    by : (own : List FlatStep) → ended (length own == 0) own ≡ Ok steps → 1 ≤ length steps
    by [] h = absurd cc
    by (x ∷ own) h =
        let some : (length (x ∷ own) == 0) ≡ false = grind arith in
        let size = is_same (x ∷ own) (sym (ap (λ b. ended b (x ∷ own)) some) ∙ h) in omega (arith, size)

pub some_from : (call : Call) (statements : List Statement) (place : Place) (steps : List FlatStep) → steps_from call place statements ≡ Ok steps → 1 ≤ length steps
some_from call [] place steps is = some_by place steps is
some_from call (s ∷ statements) place steps is =
    by (λ next h. some_from call statements next steps h) (behind_by (operation_of s.operation) call place s) is
  where
    by : ((next : Place) → steps_from call next statements ≡ Ok steps → 1 ≤ length steps) → (r : Result Place Cause) →
        steps_behind r (λ next. steps_from call next statements) ≡ Ok steps → 1 ≤ length steps
    by more (Ok next) h = more next h
    by more (Err fault) h = absurd cc

-- overriding conditions and DDs makes no step and takes none away
with_one : (steps : List FlatStep) (c : StepCondition) → length (with_step_condition steps c) ≡ length steps
with_one [] c = refl
with_one (step ∷ steps) c = by (is_step c.step step) (with_one steps c)
  where
    by : (b : Bool) → length (with_step_condition steps c) ≡ length steps →
        length (if b then record step { condition = c.condition } ∷ steps else step ∷ with_step_condition steps c) ≡ length (step ∷ steps)
    by true h = refl
    by false h = ap (λ n. suc n) h

with_several : (conditions : List StepCondition) (steps : List FlatStep) → length (with_step_conditions steps conditions) ≡ length steps
with_several [] steps = refl
with_several (c ∷ conditions) steps = with_several conditions (with_step_condition steps c) ∙ with_one steps c

with_all : (c : Option Condition) (steps : List FlatStep) → length (with_condition c steps) ≡ length steps
with_all None steps = refl
with_all (Some c) steps = length-map steps (with_this c)

KeepsSteps : overriding.Place → Result overriding.Place Cause → Type 0
KeepsSteps place r = (next : overriding.Place) → r ≡ Ok next → length next.steps ≡ length place.steps

keeps_ok : (place next : overriding.Place) → length next.steps ≡ length place.steps → KeepsSteps place (Ok next)
unfolding KeepsSteps
keeps_ok place next same behind is = let it : next ≡ behind = cc in ap (λ (p : overriding.Place). length p.steps) (sym it) ∙ same

keeps_fault : (fault : Option Cause) (place next : overriding.Place) → length next.steps ≡ length place.steps → KeepsSteps place (or_fault fault next)
unfolding KeepsSteps
keeps_fault None place next same = keeps_ok place next same
keeps_fault (Some fault) place next same = λ behind is. absurd cc

merged_keeps : (place : overriding.Place) (at n : ℕ) (there dd : DdCard) → KeepsSteps place (puts_merged place at n there dd)
merged_keeps place at n there dd = keeps_fault _ place _ (length_put place.steps at _)

there_keeps : (place : overriding.Place) (at : ℕ) (dd : DdCard) (n : ℕ) (o : Option DdCard) → KeepsSteps place (overrides_there place at dd n o)
there_keeps place at dd n None = keeps_ok place _ (length_put place.steps at _)
there_keeps place at dd n (Some there) = merged_keeps place at n there dd

position_keeps : (place : overriding.Place) (at : ℕ) (dd : DdCard) (o : Option ℕ) → KeepsSteps place (overrides_by_position place at dd o)
position_keeps place at dd None = keeps_ok place _ (length_put place.steps at _)
position_keeps place at dd (Some n) = there_keeps place at dd n (slice_get (dds_at place.steps at) n)

next_keeps : (place : overriding.Place) (dd : DdCard) (o : Option DdCard) → KeepsSteps place (overrides_next place dd o)
next_keeps place dd None = keeps_ok place _ (length_put place.steps place.at _)
next_keeps place dd (Some there) = by (is_none there.name)
  where
    by : (b : Bool) → KeepsSteps place (if b then puts_merged place place.at place.member there dd else Ok (inserts place dd))
    by true = merged_keeps place place.at place.member there dd
    by false = keeps_ok place _ (length_put place.steps place.at _)

behind_keeps : (place : overriding.Place) (dd : DdCard) (r : Result ℕ Cause) → KeepsSteps place (place_behind r (λ at. overrides_named place at dd))
unfolding KeepsSteps
behind_keeps place dd (Ok at) = position_keeps place at dd (position (is_of_name dd.name) (dds_at place.steps at))
behind_keeps place dd (Err fault) = λ next is. absurd cc

one_keeps : (place : overriding.Place) (dd : DdCard) → KeepsSteps place (overrides_one place dd)
one_keeps place dd = by (is_none dd.name)
  where
    by : (b : Bool) → KeepsSteps place (if b then overrides_member place dd else place_behind (step_at place.steps place.at dd.qualifier) (λ at. overrides_named place at dd))
    by true = next_keeps place dd (slice_get (dds_at place.steps place.at) place.member)
    by false = behind_keeps place dd (step_at place.steps place.at dd.qualifier)

pub from_keeps : (dds : List DdCard) (place : overriding.Place) (steps : List FlatStep) → overrides_from place dds ≡ Ok steps → length steps ≡ length place.steps
unfolding KeepsSteps
from_keeps [] place steps is = let same : place.steps ≡ steps = cc in ap length (sym same)
from_keeps (dd ∷ dds) place steps is = by (λ next h. from_keeps dds next steps h) (overrides_one place dd) refl is
  where
    by : ((next : overriding.Place) → overrides_from next dds ≡ Ok steps → length steps ≡ length next.steps) → (r : Result overriding.Place Cause) →
        overrides_one place dd ≡ r → steps_onward r (λ next. overrides_from next dds) ≡ Ok steps → length steps ≡ length place.steps
    by more (Ok next) so h = more next h ∙ one_keeps place dd next so
    by more (Err fault) so h = absurd cc

pub overridden_keeps : (exec : ExecCard) (dds : List DdCard) (steps found : List FlatStep) → overridden exec dds steps ≡ Ok found → length found ≡ length steps
overridden_keeps exec dds steps found is = by (names_steps steps exec.named_steps) is
  where
    by : (b : Bool) → and_then (let r : Result (List FlatStep) Cause = if b then Ok (with_step_conditions (with_condition exec.condition steps) exec.step_conditions)
        else Err (P NoSuchProcedureStep) in r) (λ changed. dds_overridden changed dds) ≡ Ok found → length found ≡ length steps
    by true h =
        from_keeps dds (record {
          steps = with_step_conditions (with_condition exec.condition steps) exec.step_conditions;
          at = 0;
          member = 0;
        }) found h ∙ with_several exec.step_conditions (with_condition exec.condition steps) ∙ with_all exec.condition steps
    by false h = absurd cc

some_overridden : (exec : ExecCard) (dds : List DdCard) (steps found : List FlatStep) → overridden exec dds steps ≡ Ok found → 1 ≤ length steps → 1 ≤ length found
some_overridden exec dds steps found is some = let same = overridden_keeps exec dds steps found is in omega (arith, same, some)

some_called : (exec : ExecCard) (dds : List DdCard) (call : Call) (statements : List Statement) (found : List FlatStep) (r : Result (List FlatStep) Cause) →
    steps_of call statements ≡ r → and_then r (overridden exec dds) ≡ Ok found → 1 ≤ length found
some_called exec dds call statements found (Ok steps) so h =
    some_overridden exec dds steps found h (some_from call statements (record { job_library = false; steps = [] }) steps so)
some_called exec dds call statements found (Err fault) so h = absurd cc

some_brought : (exec : ExecCard) (dds : List DdCard) (name : Option (List ℕ)) (place : ℕ) (symbols : List Symbol) (body : Result Body Cause) (found : List FlatStep) →
    and_then body (λ b. and_then (steps_of (record { name = name; place = place; symbols = symbols ++ b.symbols }) b.statements) (overridden exec dds)) ≡ Ok found →
    1 ≤ length found
some_brought exec dds name place symbols (Err fault) found is = absurd cc
some_brought exec dds name place symbols (Ok b) found is =
    some_called exec dds (record { name = name; place = place; symbols = symbols ++ b.symbols }) b.statements found _ refl is

module _ (library : List LibraryProcedure) (procedures : List in_stream.Procedure) where
  some_found : (exec : ExecCard) (dds : List DdCard) (place : ℕ) (runs : Runs) (found : List FlatStep) →
      steps_by runs library procedures place (record { exec = exec; dds = dds }) ≡ Ok found → 1 ≤ length found
  some_found exec dds place (Program name) found is = by (list_any (λ (dd : DdCard). is_some dd.qualifier) dds) is
    where
      by : (b : Bool) → (let r : Result (List FlatStep) Cause = if b then Err (P NoSuchProcedureStep) else Ok (plain_of exec dds name ∷ []) in r) ≡ Ok found →
          1 ≤ length found
      by true h = absurd cc
      by false h = let same : plain_of exec dds name ∷ [] ≡ found = cc in (let size = ap length same in omega (arith, size))
  some_found exec dds place (Procedure name symbols) found is =
      some_brought exec dds exec.name place symbols (body_named library procedures name) found is

  -- what is kept of them, or with those that are left they are too many
  abbrev pub Keeps : ℕ → Expansion → List FlatStep → List DeckStep → Type 0
  Keeps most expansion whole rest = (expansion ≡ up_to most whole) ⊎ ((expansion ≡ TooMany) × (most < length whole + length rest))

  -- what is known when some steps of a deck were looked at: the steps that they have
  pub record Holds (most : ℕ) (all : List DeckStep) (place : ℕ) (rest : List DeckStep) (expansion : Expansion) (noted : List Known) : Type 0 where
    pub whole : List FlatStep
    pub so : flat_from library procedures 1 all ≡ behind whole (flat_from library procedures (place + 1) rest)
    pub kept : Keeps most expansion whole rest
    pub known : All (IsKnown library procedures) noted

  behind_none : (r : Result (List FlatStep) Cause) → r ≡ behind [] r
  behind_none (Ok steps) = refl
  behind_none (Err fault) = refl

  first_kept : (most : ℕ) (all : List DeckStep) (expansion : Expansion) → KeepsFirst most all expansion → Keeps most expansion [] all
  first_kept most all expansion (inl many) = inr (many.0, (let over = many.1 in omega (arith, over)))
  first_kept most all expansion (inr none) = inl (none ∙ sym (is_few most [] (omega arith)))

  pub begins : (most : ℕ) (all : List DeckStep) (expansion : Expansion) (noted : List Known) → KeepsFirst most all expansion → noted ≡ [] →
      Holds most all 0 all expansion noted
  begins most all expansion noted first empty = record {
    whole = [];
    so = behind_none (flat_from library procedures 1 all);
    kept = first_kept most all expansion first;
    known = subst (All (IsKnown library procedures)) (sym empty) (All-nil (IsKnown library procedures));
  }

  behind_both : (whole more : List FlatStep) (r : Result (List FlatStep) Cause) → behind whole (joined (Ok more) (λ _. r)) ≡ behind (whole ++ more) r
  behind_both whole more (Ok steps) = ap (λ (l : List FlatStep). let r : Result (List FlatStep) Cause = Ok l in r) (sym (append_assoc whole more steps))
  behind_both whole more (Err fault) = refl

  module _ (most : ℕ) (all : List DeckStep) (place : ℕ) (step : DeckStep) (rest : List DeckStep) (expansion : Expansion) (noted : List Known)
      (it : Holds most all place (step ∷ rest) expansion noted) where
    abbrev next : Result (List FlatStep) Cause
    next = flat_from library procedures (place + 1 + 1) rest

    abbrev its : Result (List FlatStep) Cause
    its = steps_by step.exec.runs library procedures (place + 1) step

    so_behind : (more : List FlatStep) → its ≡ Ok more → flat_from library procedures 1 all ≡ behind (it.whole ++ more) next
    so_behind more is = it.so ∙ ap (λ (r : Result (List FlatStep) Cause). behind it.whole (joined r (λ _. next))) is ∙ behind_both it.whole more next

    further : (more : List FlatStep) → 1 ≤ length more → most < length it.whole + length (step ∷ rest) → most < length (it.whole ++ more) + length rest
    further more some over = omega (arith, length-append it.whole more, some, over)

    kept_taken : (found : List FlatStep) (now : Expansion) → 1 ≤ length found →
        ((so_far : List FlatStep) → expansion ≡ up_to most so_far → now ≡ up_to most (so_far ++ found)) → (expansion ≡ TooMany → now ≡ TooMany) →
        Keeps most expansion it.whole (step ∷ rest) → Keeps most now (it.whole ++ found) rest
    kept_taken found now some few many (inl kept) = inl (few it.whole kept)
    kept_taken found now some few many (inr over) = inr (many over.0, further found some over.1)

    pub takes : (found : List FlatStep) (now : Expansion) → its ≡ Ok found →
        ((so_far : List FlatStep) → expansion ≡ up_to most so_far → now ≡ up_to most (so_far ++ found)) → (expansion ≡ TooMany → now ≡ TooMany) →
        Holds most all (place + 1) rest now noted
    takes found now is few many = record {
      whole = it.whole ++ found;
      so = so_behind found is;
      kept = kept_taken found now (some_found step.exec step.dds (place + 1) step.exec.runs found is) few many it.kept;
      known = it.known;
    }

    kept_passed : (more : List FlatStep) → 1 ≤ length more → expansion ≡ TooMany → Keeps most expansion it.whole (step ∷ rest) →
        Keeps most expansion (it.whole ++ more) rest
    kept_passed more some many (inl kept) = inl (many ∙ with_many most expansion it.whole more many kept)
    kept_passed more some many (inr over) = inr (over.0, further more some over.1)

    pub goes_by : (more : List FlatStep) (still : List Known) → its ≡ Ok more → expansion ≡ TooMany → All (IsKnown library procedures) still →
        Holds most all (place + 1) rest expansion still
    goes_by more still is many known = record {
      whole = it.whole ++ more;
      so = so_behind more is;
      kept = kept_passed more (some_found step.exec step.dds (place + 1) step.exec.runs more is) many it.kept;
      known = known;
    }

    pub refused : (fault : Cause) → its ≡ Err fault → counted most (flat_from library procedures 1 all) ≡ Err fault
    refused fault is =
        ap (counted most) (it.so ∙ ap (λ (r : Result (List FlatStep) Cause). behind it.whole (joined r (λ _. next))) is)

  -- the same where they are counted alone
  pub record Counts (most : ℕ) (all : List DeckStep) (place : ℕ) (rest : List DeckStep) (left : Option ℕ) (noted : List Known) : Type 0 where
    pub whole : List FlatStep
    pub so : flat_from library procedures 1 all ≡ behind whole (flat_from library procedures (place + 1) rest)
    pub counted : IsLeft most (length whole) left
    pub known : All (IsKnown library procedures) noted

  pub count_begins : (most : ℕ) (all : List DeckStep) (noted : List Known) → noted ≡ [] → Counts most all 0 all (Some most) noted
  count_begins most all noted empty = record {
    whole = [];
    so = behind_none (flat_from library procedures 1 all);
    counted = omega arith;
    known = subst (All (IsKnown library procedures)) (sym empty) (All-nil (IsKnown library procedures));
  }

  module _ (most : ℕ) (all : List DeckStep) (place : ℕ) (step : DeckStep) (rest : List DeckStep) (left : Option ℕ) (noted : List Known)
      (it : Counts most all place (step ∷ rest) left noted) where
    abbrev after : Result (List FlatStep) Cause
    after = flat_from library procedures (place + 1 + 1) rest

    abbrev own : Result (List FlatStep) Cause
    own = steps_by step.exec.runs library procedures (place + 1) step

    pub counts_on : (more : List FlatStep) (count : ℕ) (now : Option ℕ) (still : List Known) → own ≡ Ok more → length more ≡ count →
        ((most so_far : ℕ) → IsLeft most so_far left → IsLeft most (so_far + count) now) → All (IsKnown library procedures) still →
        Counts most all (place + 1) rest now still
    counts_on more count now still is long goes known = record {
      whole = it.whole ++ more;
      so = it.so ∙ ap (λ (r : Result (List FlatStep) Cause). behind it.whole (joined r (λ _. after))) is ∙ behind_both it.whole more after;
      counted = subst (λ n. IsLeft most n now) (ap (λ n. length it.whole + n) (sym long) ∙ sym (length-append it.whole more)) (goes most (length it.whole) it.counted);
      known = known;
    }

    pub count_refused : (fault : Cause) → own ≡ Err fault → is_over most (flat_from library procedures 1 all) ≡ Err fault
    count_refused fault is =
        ap (is_over most) (it.so ∙ ap (λ (r : Result (List FlatStep) Cause). behind it.whole (joined r (λ _. after))) is)

  left_is : (most : ℕ) (whole : List FlatStep) (left : Option ℕ) → IsLeft most (length whole) left → nat_lt most (length whole) ≡ is_none left
  left_is most whole None over = lt-ltb most (length whole) over
  left_is most whole (Some n) same = le-ltb most (length whole) (omega (arith, same))

  pub count_ends : (most : ℕ) (all : List DeckStep) (place : ℕ) (rest : List DeckStep) (left : Option ℕ) (noted : List Known) →
      Counts most all place rest left noted → rest ≡ [] → is_over most (flat_from library procedures 1 all) ≡ Ok (is_none left)
  count_ends most all place rest left noted it none =
      ap (is_over most) (it.so ∙ ap (λ l. behind it.whole (flat_from library procedures (place + 1) l)) none)
      ∙ ap (λ (l : List FlatStep). let r : Result Bool Cause = Ok (nat_lt most (length l)) in r) (append-nil it.whole)
      ∙ ap (λ (b : Bool). let r : Result Bool Cause = Ok b in r) (left_is most it.whole left it.counted)

  kept_last : (most : ℕ) (expansion : Expansion) (whole : List FlatStep) (rest : List DeckStep) → Keeps most expansion whole rest → rest ≡ [] →
      up_to most whole ≡ expansion
  kept_last most expansion whole rest (inl kept) none = sym kept
  kept_last most expansion whole rest (inr over) none =
      let size = ap length none in
      let more = over.1 in
      is_many most whole (omega (arith, more, size)) ∙ sym over.0

  pub ends : (most : ℕ) (all : List DeckStep) (place : ℕ) (rest : List DeckStep) (expansion : Expansion) (noted : List Known) →
      Holds most all place rest expansion noted → rest ≡ [] → counted most (flat_from library procedures 1 all) ≡ Ok expansion
  ends most all place rest expansion noted it none =
      ap (counted most) (it.so ∙ ap (λ l. behind it.whole (flat_from library procedures (place + 1) l)) none)
      ∙ ap (λ (l : List FlatStep). let r : Result Expansion Cause = Ok (up_to most l) in r) (append-nil it.whole)
      ∙ ap (λ (e : Expansion). let r : Result Expansion Cause = Ok e in r) (kept_last most expansion it.whole rest it.kept none)
