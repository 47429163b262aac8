-- A deck of statements whose data are cards.
use Rattle.std.proofs.Common.{◌≡◌, ◌≤◌, Bool, true, false, cond, not, ◌||◌, ◌==◌, nat_le, List, [], ◌∷◌, ◌++◌, length, map, Option, Some, None, is_none, Result, Ok, Err, refl, sym, ap, subst, arith}
use Rattle.std.specs.Prelude.{All}
use Rattle.std.proofs.lemmas.List.Elements.{All-head, All-nil, All-push, All-tail}
use Rattle.card_core.specs.declared.statement.Statement.{Statement}
use Rattle.jcl_plan.specs.declared.fault.Cause.{Cause}
use Rattle.jcl_plan.specs.declared.fault.Cause.TheVariants.{P}
use Rattle.jcl_plan.specs.declared.fault.StatementFault.TheVariants.{MissingPend, NoStep, NotOneJob, TooManyProcedures}
use Rattle.operand_core.specs.Faults.{or_fault, told, when}
use Rattle.operand_core.specs.Keywords.{is_long}
use Rattle.operand_core.proofs.Faultless.{told_none_behind, told_none_in_front}
use Rattle.value_core.specs.Reads.{Read}
use Rattle.jcl_cards.specs.declared.job.JobCard.{JobCard}
use Rattle.jcl_cards.specs.ExecCards.{exec_card}
use Rattle.jcl_cards.specs.JobCards.{job_card}
use Rattle.jcl_cards.specs.ProcedureCards.{procedure_card}
use Rattle.jcl_dds.specs.declared.dd.DdCard.{DdCard}
use Rattle.jcl_dds.specs.DdCards.{dd_card}
use Rattle.jcl_deck.specs.declared.deck.Deck.{Deck}
use Rattle.jcl_deck.specs.declared.deck.DeckStep.{DeckStep}
use Rattle.jcl_deck.specs.declared.deck.Procedure.{Procedure}
use Rattle.jcl_deck.specs.declared.operation.Operation.{Operation}
use Rattle.jcl_deck.specs.declared.operation.Operation.TheVariants.{IsDd, IsExec, IsJob, IsOther, IsPend, IsProc}
use Rattle.jcl_deck.specs.Decks.{Place, behind, dd_place_faults, deck_behind, deck_from, ended_with, has_no_name, keeps, most_procedures, not_first, onto_last, onto_open, operation_of, outside, procedure_with, start, taken, takes_dd, takes_exec, takes_job, takes_proc, within}
use Rattle.statement_laws.specs.Ranges.{IsSoundDd, IsSoundJob}
use Rattle.statement_laws.proofs.Dds.{dd_cards_are_sound}
use Rattle.statement_laws.proofs.Execs.{exec_cards_are_sound}
use Rattle.statement_laws.proofs.Jobs.{job_cards_are_sound}
use Rattle.deck_laws.specs.Sound.{HoldsCards, IsSoundDeck, IsSoundDeckStep, KeepsCards}
use Rattle.deck_laws.proofs.Lasts.{HasFront, all_at_last, all_with_dd, at_last, begins_behind, has_place}
use Rattle.deck_laws.proofs.Taken.{dd_not_long, from_or, name_there, own_told}

-- the deck so far
abbrev IsSoundJobIn : Option JobCard → Type 0
IsSoundJobIn None = Unit {0}
IsSoundJobIn (Some job) = IsSoundJob job

record IsSoundPlace (place : Place) : Type 0 where
  job : IsSoundJobIn place.job
  procedures : All KeepsCards place.procedures
  steps : All IsSoundDeckStep place.steps

-- what is taken of a statement
record IsTaken {A : Type 0} (s : Statement) (r : Read A) (faults : List Cause) (next : A → Place) (place : Place) : Type 0 where
  own : told r.faults ≡ None
  others : is_long s.operand ≡ false → told faults ≡ None
  is : place ≡ next r.value

taken_is : {A : Type 0} (s : Statement) (r : Read A) (faults : List Cause) (next : A → Place) (place : Place) → taken s r faults next ≡ Ok place →
    IsTaken s r faults next place
taken_is s r faults next place h =
    let found = from_or (told (cond (is_long s.operand) r.faults (r.faults ++ faults))) (next r.value) place h in
    let none = own_told (is_long s.operand) r.faults faults found.0 in
    record { own = none.0; others = none.1; is = found.1 }

job_taken : (place next : Place) (s : Statement) → IsSoundPlace place → takes_job place s ≡ Ok next → IsSoundPlace next
job_taken place next s sound is =
    let t = taken_is s (job_card s.name s.operand) (when (not (is_none place.job)) (P NotOneJob)) (λ card. record place { job = Some card }) next is in
    subst IsSoundPlace (sym t.is)
    (record { job = job_cards_are_sound s.name s.operand t.own; procedures = sound.procedures; steps = sound.steps })

exec_taken : (place next : Place) (s : Statement) → IsSoundPlace place → takes_exec place s ≡ Ok next → IsSoundPlace next
exec_taken place next s sound is =
    let t = taken_is s (exec_card s.name s.operand) (not_first place)
    (λ card. record place { steps = place.steps ++ record { exec = card; dds = [] } ∷ [] }) next is in
    let step : DeckStep = record { exec = (exec_card s.name s.operand).value; dds = [] } in
    subst IsSoundPlace (sym t.is)
    (record {
      job = sound.job;
      procedures = sound.procedures;
      steps = All-push IsSoundDeckStep place.steps step sound.steps
          (record { exec = exec_cards_are_sound s.name s.operand t.own; begins_named = tt; dds = All-nil IsSoundDd });
    })

proc_taken : (place next : Place) (s : Statement) → IsSoundPlace place → takes_proc place s ≡ Ok next → IsSoundPlace next
proc_taken place next s sound is =
    let t = taken_is s (procedure_card true s.name s.operand)
    (not_first place ++ when (nat_le most_procedures (length place.procedures)) (P TooManyProcedures))
    (λ card. record place { procedures = place.procedures ++ procedure_with card ∷ []; is_open = true }) next is in
    let none : KeepsCards (procedure_with (procedure_card true s.name s.operand).value) = All-nil HoldsCards in
    subst IsSoundPlace (sym t.is)
    (record {
      job = sound.job;
      procedures = All-push KeepsCards place.procedures (procedure_with (procedure_card true s.name s.operand).value) sound.procedures none;
      steps = sound.steps;
    })

-- a DD of the last step
abbrev with_dd : DdCard → DeckStep → DeckStep
with_dd dd step = record step { dds = step.dds ++ dd ∷ [] }

onto_last_is : (dd : DdCard) (steps : List DeckStep) → at_last (with_dd dd) steps ≡ onto_last dd steps
onto_last_is dd [] = refl
onto_last_is dd (step ∷ []) = refl
onto_last_is dd (step ∷ next ∷ steps) = ap (λ left. step ∷ left) (onto_last_is dd (next ∷ steps))

step_with_dd : (s : Statement) (step : DeckStep) → IsSoundDd (dd_card s.name s.operand s.cards).value → IsSoundDeckStep step →
    HasFront (has_no_name s) (not (length step.dds == 0)) → IsSoundDeckStep (with_dd (dd_card s.name s.operand s.cards).value step)
step_with_dd s step good sound front =
    let dd = (dd_card s.name s.operand s.cards).value in
    record {
      exec = sound.exec;
      begins_named = begins_behind (has_no_name s) step.dds dd front sound.begins_named (name_there s.name s.operand s.cards);
      dds = All-push IsSoundDd step.dds dd sound.dds good;
    }

dd_taken : (place next : Place) (s : Statement) → HoldsCards s → IsSoundPlace place → takes_dd place s ≡ Ok next → IsSoundPlace next
dd_taken place next s cards sound is =
    let dds : DeckStep → List DdCard = λ step. step.dds in
    let read = dd_card s.name s.operand s.cards in
    let place_faults = dd_place_faults place.job_library (map dds place.steps) s in
    let t = taken_is s read (not_first place ++ place_faults)
    (λ dd. record place { job_library = place.job_library || length place.steps == 0; steps = onto_last dd place.steps }) next is in
    let good = dd_cards_are_sound s.name s.operand s.cards cards t.own in
    let none = told_none_behind (not_first place) place_faults (t.others (dd_not_long s.name s.operand s.cards t.own)) in
    subst IsSoundPlace (sym t.is)
    (record {
      job = sound.job;
      procedures = sound.procedures;
      steps = subst (All IsSoundDeckStep) (onto_last_is read.value place.steps)
          (all_with_dd IsSoundDeckStep dds (with_dd read.value) (has_no_name s) (λ step. step_with_dd s step good) place.steps sound.steps
          (has_place place.job_library (map dds place.steps) s none));
    })

other_refused : (place next : Place) (s : Statement) (fault : Option Cause) → IsSoundPlace place → or_fault fault place ≡ Ok next → IsSoundPlace next
other_refused place next s fault sound is = subst IsSoundPlace (sym (from_or fault place next is).1) sound

outside_sound : (operation : Operation) (place next : Place) (s : Statement) → HoldsCards s → IsSoundPlace place → outside operation place s ≡ Ok next →
    IsSoundPlace next
outside_sound IsJob place next s cards sound is = job_taken place next s sound is
outside_sound IsExec place next s cards sound is = exec_taken place next s sound is
outside_sound IsDd place next s cards sound is = dd_taken place next s cards sound is
outside_sound IsProc place next s cards sound is = proc_taken place next s sound is
outside_sound IsPend place next s cards sound is = other_refused place next s _ sound is
outside_sound IsOther place next s cards sound is = other_refused place next s _ sound is

-- within a procedure
abbrev with_statement : Statement → Procedure → Procedure
with_statement s p = record p { statements = p.statements ++ s ∷ [] }

onto_open_is : (s : Statement) (procedures : List Procedure) → at_last (with_statement s) procedures ≡ onto_open s procedures
onto_open_is s [] = refl
onto_open_is s (p ∷ []) = refl
onto_open_is s (p ∷ q ∷ procedures) = ap (λ left. p ∷ left) (onto_open_is s (q ∷ procedures))

kept : (place next : Place) (s : Statement) → HoldsCards s → IsSoundPlace place → (let r : Result Place Cause = Ok (keeps place s) in r) ≡ Ok next →
    IsSoundPlace next
kept place next s cards sound is =
    let same : keeps place s ≡ next = cc in
    subst IsSoundPlace same
    (record {
      job = sound.job;
      procedures = subst (All KeepsCards) (onto_open_is s place.procedures)
          (all_at_last KeepsCards (with_statement s) (λ p all. All-push HoldsCards p.statements s all cards) place.procedures sound.procedures);
      steps = sound.steps;
    })

closed : (place next : Place) → IsSoundPlace place → (let r : Result Place Cause = Ok (record place { is_open = false }) in r) ≡ Ok next → IsSoundPlace next
closed place next sound is =
    let same : record place { is_open = false } ≡ next = cc in
    subst IsSoundPlace same (record { job = sound.job; procedures = sound.procedures; steps = sound.steps })

within_sound : (operation : Operation) (place next : Place) (s : Statement) → HoldsCards s → IsSoundPlace place → within operation place s ≡ Ok next →
    IsSoundPlace next
within_sound IsExec place next s cards sound is = kept place next s cards sound is
within_sound IsDd place next s cards sound is = kept place next s cards sound is
within_sound IsPend place next s cards sound is = closed place next sound is
within_sound IsJob place next s cards sound is = absurd (cc)
within_sound IsProc place next s cards sound is = absurd (cc)
within_sound IsOther place next s cards sound is = absurd (cc)

either_sound : (is_open : Bool) (place next : Place) (s : Statement) → HoldsCards s → IsSoundPlace place →
    cond is_open (within (operation_of s.operation) place s) (outside (operation_of s.operation) place s) ≡ Ok next → IsSoundPlace next
either_sound true place next s cards sound is = within_sound (operation_of s.operation) place next s cards sound is
either_sound false place next s cards sound is = outside_sound (operation_of s.operation) place next s cards sound is

-- the whole deck
one_or_more : {A : Type 0} (xs : List A) (fault : Cause) → told (when (length xs == 0) fault) ≡ None → 1 ≤ length xs
one_or_more [] fault none = absurd (let no : Some fault ≡ None = none in cc)
one_or_more (x ∷ xs) fault none = omega (arith)

ended : (job : Option JobCard) (place : Place) (deck : Deck) → IsSoundJobIn job → IsSoundPlace place → ended_with job place ≡ Ok deck → IsSoundDeck deck
ended None place deck good sound is = absurd (cc)
ended (Some job) place deck good sound is =
    let no_step = when (length place.steps == 0) (P NoStep) in
    let unended = when place.is_open (P MissingPend) in
    let whole : Deck = record { job = job; procedures = place.procedures; steps = place.steps } in
    let found = from_or (told (no_step ++ unended)) whole deck is in
    subst IsSoundDeck (sym found.1)
    (record {
      job = good;
      procedures = sound.procedures;
      some_step = one_or_more place.steps (P NoStep) (told_none_in_front no_step unended found.0);
      steps = sound.steps;
    })

deck_next : (moved : Result Place Cause) (next : Place → Result Deck Cause) (deck : Deck) → ((place : Place) → moved ≡ Ok place → next place ≡ Ok deck →
    IsSoundDeck deck) → deck_behind moved next ≡ Ok deck → IsSoundDeck deck
deck_next (Err fault) next deck sound is = absurd (cc)
deck_next (Ok place) next deck sound is = sound place refl is

from_place : (place : Place) (statements : List Statement) (deck : Deck) → All HoldsCards statements → IsSoundPlace place →
    deck_from place statements ≡ Ok deck → IsSoundDeck deck
from_place place [] deck all sound is = ended place.job place deck sound.job sound is
from_place place (s ∷ statements) deck all sound is =
    deck_next (behind place s) (λ next. deck_from next statements) deck
    (λ next moved more. from_place next statements deck (All-tail HoldsCards s statements all)
    (either_sound place.is_open place next s (All-head HoldsCards s statements all) sound moved) more) is

pub decks_are_sound : (statements : List Statement) (deck : Deck) → All HoldsCards statements → deck_from start statements ≡ Ok deck → IsSoundDeck deck
decks_are_sound statements deck all is =
    from_place start statements deck all (record { job = tt; procedures = All-nil KeepsCards; steps = All-nil IsSoundDeckStep }) is
