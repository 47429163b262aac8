-- The first statements of a procedure that are read at a call stand in short for them all.
use Rattle.std.proofs.Common.{◌≡◌, ◌∷◌, ◌++◌, ◌∙◌, ◌⊎◌, inl, inr, ℕ, ◌+◌, ◌-◌, ◌≤◌, ◌==◌, Bool, true, false, List, [], Option, None, Some, Result, Ok, Err, append_assoc, ap, arith, drop, length, length-append, refl, subst, sym, take}
use Rattle.std.specs.Prelude.{if◌then◌else◌}
use Rattle.std.proofs.Math.Seq.{take-add}
use Rattle.card_core.specs.declared.statement.Statement.{Statement}
use Rattle.jcl_cards.specs.declared.exec.ExecCard.{ExecCard}
use Rattle.jcl_cards.specs.ExecCards.{exec_card}
use Rattle.jcl_dds.specs.declared.dd.DdCard.{DdCard}
use Rattle.jcl_dds.specs.DdCards.{dd_card, dd_name_faults}
use Rattle.jcl_deck.specs.declared.operation.Operation.{Operation}
use Rattle.jcl_deck.specs.declared.operation.Operation.TheVariants.{IsDd, IsExec, IsJob, IsOther, IsPend, IsProc}
use Rattle.jcl_deck.specs.Decks.{operation_of}
use Rattle.jcl_plan.specs.declared.fault.Cause.{Cause}
use Rattle.jcl_plan.specs.declared.fault.Cause.TheVariants.{P}
use Rattle.jcl_plan.specs.declared.fault.StatementFault.TheVariants.{MissingPend, NoStep, NotOneJob, ProcedureCallsProcedure, UnknownOperation}
use Rattle.jcl_procs.specs.declared.step.FlatStep.{FlatStep}
use Rattle.jcl_procs.specs.Calls.{Call, Place, behind_by, calls, dd_faults, read_with, refuses, step_of, steps_behind, steps_from, steps_of, steps_with}
use Rattle.jcl_symbols.specs.Substitutions.{substituted}
use Rattle.operand_core.specs.Faults.{earlier, or_fault, told, when, written_name_faults}
use Rattle.operand_core.proofs.Told.{told_append}
use Rattle.value_core.specs.Reads.{Read}
use Rattle.deck_places.specs.Called.{IsRefusedTo}
use Rattle.deck_places.specs.Short.{StandFor, is_exec_by, short_from, short_of, with_next}
use Rattle.jcl_procs.proofs.Alike.{AreAlike, Follow, alike_steps, behind_dd, follow_by, follow_from, has_none, has_none_behind, placed, some_step, turned, with_dd, with_step}

abbrev begin : Place
begin = record { job_library = false; steps = [] }

-- a statement that is taken has no fault
no_fault : {A : Type 0} (fault : Option Cause) (x y : A) → or_fault fault x ≡ Ok y → fault ≡ None
no_fault None x y e = refl
no_fault (Some fault) x y e = absurd cc

is_next : {A : Type 0} (fault : Option Cause) (x y : A) → or_fault fault x ≡ Ok y → x ≡ y
is_next None x y e = cc
is_next (Some fault) x y e = absurd cc

some_earlier : (first : Option Cause) (fault : Cause) → earlier first (Some fault) ≡ None → ⊥
some_earlier None fault e = absurd cc
some_earlier (Some first) fault e = absurd cc

never_taken : (place next : Place) (s : Statement) (fault : Cause) → refuses place s fault ≡ Ok next → ⊥
never_taken place next s fault e =
    some_earlier (told (written_name_faults s.name)) fault
    (sym (told_append (written_name_faults s.name) (fault ∷ [])) ∙ no_fault (told (written_name_faults s.name ++ fault ∷ [])) place next e)

-- a statement that has no fault at one place has none at one like it
same_next : (x y : Result Place Cause) (next : Place) → Follow x y → x ≡ Ok next → (other : Place) × (y ≡ Ok other) × AreAlike next other
same_next (Ok a) (Ok b) next alike e =
    let same : a ≡ next = cc in
    (b, refl, subst (λ (p : Place). AreAlike p b) same alike)
same_next (Err f) y next alike e = absurd cc
same_next (Ok a) (Err g) next never e = absurd never

two_of : (short : List Statement) (s : Statement) → length short ≡ 1 → length (short ++ s ∷ []) ≡ 2
two_of short s one = omega (arith, one, length-append short (s ∷ []))

module _ (call : Call) where
  -- what stands in short for the statements behind which this is the place
  record InShort (place : Place) (short : List Statement) : Type 0 where
    other : Place
    some : has_none place ≡ false
    reads : (rest : List Statement) → steps_of call (short ++ rest) ≡ steps_from call other rest
    alike : AreAlike place other
    filled : (length short ≡ 1) ⊎ ((length short ≡ 2) × ((s : Statement) → placed other s ≡ []))

  data Shortened (place : Place) (short : List Statement) : Type 0 where
    Before : has_none place ≡ true → short ≡ [] → Shortened place short
    Within : InShort place short → Shortened place short

  turn : (place next : Place) (s : Statement) (rest : List Statement) → behind_by (operation_of s.operation) call place s ≡ Ok next →
      steps_from call place (s ∷ rest) ≡ steps_from call next rest
  turn place next s rest e = rw e refl

  -- an EXEC statement
  abbrev exec_of : Statement → Read ExecCard
  exec_of s = read_with (substituted call.symbols false s.operand) (written_name_faults s.name) (exec_card s.name)
      (λ card. when (calls card) (P ProcedureCallsProcedure))

  same_exec : (place next : Place) (s : Statement) → behind_by IsExec call place s ≡ Ok next →
      (other : Place) × (behind_by IsExec call begin s ≡ Ok other) × AreAlike next other × (has_none next ≡ false)
  same_exec place next s e =
      let fault = told (exec_of s).faults in
      let step = step_of call (exec_of s).value in
      let is : with_step place step ≡ next = is_next fault (with_step place step) next e in (
        with_step begin step,
        ap (λ f. or_fault f (with_step begin step)) (no_fault fault (with_step place step) next e),
        subst (λ (p : Place). AreAlike p (with_step begin step)) is (alike_steps place begin step step refl refl),
        subst (λ (p : Place). has_none p ≡ false) is (some_step place.steps step),
      )

  exec_turn : (place next : Place) (s : Statement) → operation_of s.operation ≡ IsExec → behind_by IsExec call place s ≡ Ok next →
      Shortened next (s ∷ [])
  exec_turn place next s o e =
      let at = same_exec place next s e in
      Within (record {
        other = at.0;
        some = at.3;
        reads = λ rest. turn begin at.0 s rest (ap (λ x. behind_by x call begin s) o ∙ at.1);
        alike = at.2;
        filled = inl refl;
      })

  -- a DD statement
  abbrev dd_of : Place → Statement → Read DdCard
  dd_of place s = read_with (substituted call.symbols true s.operand) (dd_name_faults s.name) (λ operand. dd_card s.name operand s.cards) (dd_faults place s)

  dd_next : (place next : Place) (s : Statement) → behind_by IsDd call place s ≡ Ok next →
      (has_none next ≡ has_none place) × (has_none place ≡ false → (t : Statement) → placed next t ≡ [])
  dd_next place next s e =
      let read = dd_of place s in
      let is : with_dd place read.value ≡ next = is_next (told read.faults) (with_dd place read.value) next e in (
        subst (λ (p : Place). has_none p ≡ has_none place) is (has_none_behind place read.value),
        λ some t. subst (λ (p : Place). placed p t ≡ []) is (behind_dd place read.value t some),
      )

  one_more : (place next : Place) (short : List Statement) (s : Statement) → operation_of s.operation ≡ IsDd → behind_by IsDd call place s ≡ Ok next →
      InShort place short → length short ≡ 1 → InShort next (short ++ s ∷ [])
  one_more place next short s o e it one =
      let at = same_next _ _ next (follow_by call.name call.name call.symbols call.place call.place IsDd place it.other s it.alike) e in
      let own = dd_next it.other at.0 s at.1 in
      record {
        other = at.0;
        some = (dd_next place next s e).0 ∙ it.some;
        reads = λ rest. ap (steps_of call) (append_assoc short (s ∷ []) rest) ∙ it.reads (s ∷ rest)
            ∙ turn it.other at.0 s rest (ap (λ x. behind_by x call it.other s) o ∙ at.1);
        alike = at.2;
        filled = inr (two_of short s one, own.1 (sym it.alike.none ∙ it.some));
      }

  no_more : (place next : Place) (short : List Statement) (s : Statement) → behind_by IsDd call place s ≡ Ok next → (it : InShort place short) →
      length short ≡ 2 → ((t : Statement) → placed it.other t ≡ []) → InShort next short
  no_more place next short s e it two free =
      let own = dd_next place next s e in
      record {
        other = it.other;
        some = own.0 ∙ it.some;
        reads = it.reads;
        alike = record { none = own.0 ∙ it.alike.none; faults = λ t. own.1 it.some t ∙ sym (free t) };
        filled = inr (two, free);
      }

  abbrev with_dd_next : ℕ → List Statement → Statement → List Statement
  with_dd_next n short s = if n == 1 then short ++ s ∷ [] else short

  filled_turn : (place next : Place) (short : List Statement) (s : Statement) → operation_of s.operation ≡ IsDd → behind_by IsDd call place s ≡ Ok next →
      (it : InShort place short) → (length short ≡ 1) ⊎ ((length short ≡ 2) × ((t : Statement) → placed it.other t ≡ [])) →
      Shortened next (with_dd_next (length short) short s)
  filled_turn place next short s o e it (inl one) =
      subst (λ n. Shortened next (with_dd_next n short s)) (sym one) (Within (one_more place next short s o e it one))
  filled_turn place next short s o e it (inr (two, free)) =
      subst (λ n. Shortened next (with_dd_next n short s)) (sym two) (Within (no_more place next short s e it two free))

  dd_turn : (place next : Place) (short : List Statement) (s : Statement) → operation_of s.operation ≡ IsDd → behind_by IsDd call place s ≡ Ok next →
      Shortened place short → Shortened next (with_dd_next (length short) short s)
  dd_turn place next short s o e (Before none empty) =
      Before ((dd_next place next s e).0 ∙ none) (ap (λ l. with_dd_next (length l) l s) empty)
  dd_turn place next short s o e (Within it) = filled_turn place next short s o e it it.filled

  -- any statement
  any_turn : (operation : Operation) (place next : Place) (short : List Statement) (s : Statement) → operation_of s.operation ≡ operation →
      behind_by operation call place s ≡ Ok next → Shortened place short →
      Shortened next (if is_exec_by operation then s ∷ [] else with_dd_next (length short) short s)
  any_turn IsExec place next short s o e it = exec_turn place next s o e
  any_turn IsDd place next short s o e it = dd_turn place next short s o e it
  any_turn IsProc place next short s o e it = absurd (never_taken place next s (P MissingPend) e)
  any_turn IsJob place next short s o e it = absurd (never_taken place next s (P NotOneJob) e)
  any_turn IsPend place next short s o e it = absurd (never_taken place next s (P UnknownOperation) e)
  any_turn IsOther place next short s o e it = absurd (never_taken place next s (P UnknownOperation) e)

  -- and all of them
  record Ended (place : Place) (short : List Statement) (statements : List Statement) (flat : List FlatStep) : Type 0 where
    last : Place
    shortened : Shortened last (short_from short statements)
    so : steps_with last ≡ Ok flat
    reads : (rest : List Statement) → steps_from call place (statements ++ rest) ≡ steps_from call last rest

  ended_turn : (moved : Result Place Cause) (place : Place) (short : List Statement) (s : Statement) (statements : List Statement) (flat : List FlatStep) →
      behind_by (operation_of s.operation) call place s ≡ moved → Shortened place short →
      steps_behind moved (λ next. steps_from call next statements) ≡ Ok flat →
      ((next : Place) → Shortened next (with_next short s) → steps_from call next statements ≡ Ok flat → Ended next (with_next short s) statements flat) →
      Ended place short (s ∷ statements) flat
  ended_turn (Err f) place short s statements flat is it e more = absurd cc
  ended_turn (Ok next) place short s statements flat is it e more =
      let last = more next (any_turn (operation_of s.operation) place next short s refl is it) e in
      record {
        last = last.last;
        shortened = last.shortened;
        so = last.so;
        reads = λ rest. turn place next s (statements ++ rest) is ∙ last.reads rest;
      }

  ended : (statements : List Statement) (place : Place) (short : List Statement) (flat : List FlatStep) → Shortened place short →
      steps_from call place statements ≡ Ok flat → Ended place short statements flat
  ended [] place short flat it e = record { last = place; shortened = it; so = e; reads = λ rest. refl }
  ended (s ∷ statements) place short flat it e =
      ended_turn (behind_by (operation_of s.operation) call place s) place short s statements flat refl it e
      (λ next there h. ended statements next (with_next short s) flat there h)

  stand_by : (short statements : List Statement) (flat : List FlatStep) (last : Place) → steps_with last ≡ Ok flat →
      ((rest : List Statement) → steps_of call (statements ++ rest) ≡ steps_from call last rest) → Shortened last short → StandFor call short statements
  stand_by short statements flat last so reads (Before none empty) =
      absurd (let h : (let r : Result (List FlatStep) Cause = if true then Err (P NoStep) else Ok last.steps in r) ≡ Ok flat
      = subst (λ (b : Bool). (let r : Result (List FlatStep) Cause = if b then Err (P NoStep) else Ok last.steps in r) ≡ Ok flat) none so in cc)
  stand_by short statements flat last so reads (Within it) = λ rest cause. (
    (λ h. reads rest ∙ follow_from call.name call.name call.symbols call.place call.place rest cause it.other last (turned last it.other it.alike)
        (sym (it.reads rest) ∙ h)),
    (λ h. it.reads rest ∙ follow_from call.name call.name call.symbols call.place call.place rest cause last it.other it.alike (sym (reads rest) ∙ h)),
  )

  pub short_stands : (statements : List Statement) (flat : List FlatStep) → steps_of call statements ≡ Ok flat → StandFor call (short_of statements) statements
  short_stands statements flat e =
      let last = ended statements begin [] flat (Before refl refl) e in
      stand_by (short_of statements) statements flat last.last last.so last.reads last.shortened

  pub none_stands : StandFor call [] []
  none_stands = λ rest cause. ((λ h. h), (λ h. h))

  pub stand_alone : (statements : List Statement) → StandFor call statements statements
  stand_alone statements = λ rest cause. ((λ h. h), (λ h. h))

  -- with more statements behind them
  module _ (statements short : List Statement) (low middle : ℕ) (order : low ≤ middle) (stand : StandFor call short (take low statements)) where
    abbrev more : List Statement
    more = short ++ take (middle - low) (drop low statements)

    all_taken : take low statements ++ take (middle - low) (drop low statements) ≡ take middle statements
    all_taken = sym (take-add low (middle - low) statements) ∙ ap (λ n. take n statements) (let n : low + (middle - low) ≡ middle = omega (arith, order) in n)

    pub more_refused : (cause : Cause) → steps_of call more ≡ Err cause → IsRefusedTo call statements cause middle
    more_refused cause h = ap (steps_of call) (sym all_taken) ∙ (stand (take (middle - low) (drop low statements)) cause).0 h

    pub refused_more : (cause : Cause) → IsRefusedTo call statements cause middle → steps_of call more ≡ Err cause
    refused_more cause h = (stand (take (middle - low) (drop low statements)) cause).1 (ap (steps_of call) all_taken ∙ h)

    pub more_stand : (next : List Statement) → StandFor call next more → StandFor call next (take middle statements)
    more_stand next there = λ rest cause.
        let between = take (middle - low) (drop low statements) in
        let own : more ++ rest ≡ short ++ (between ++ rest) = append_assoc short between rest in
        let all : take low statements ++ (between ++ rest) ≡ take middle statements ++ rest =
        sym (append_assoc (take low statements) between rest) ∙ ap (λ l. l ++ rest) all_taken in (
          (λ h. ap (steps_of call) (sym all) ∙ (stand (between ++ rest) cause).0 (ap (steps_of call) (sym own) ∙ (there rest cause).0 h)),
          (λ h. (there rest cause).1 (ap (steps_of call) own ∙ (stand (between ++ rest) cause).1 (ap (steps_of call) all ∙ h))),
        )
