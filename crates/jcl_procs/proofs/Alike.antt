-- What a call is refused for behind some statements of a procedure depends on little of them: on whether there is a step so far, and which DDs are refused by
-- their place. It does not depend on the name of the call, nor on its place among others.
use Rattle.std.proofs.Common.{◌≡◌, ◌∷◌, ◌++◌, ◌∙◌, ℕ, ◌||◌, ◌&&◌, ◌==◌, Bool, true, false, not, List, [], Option, None, Some, Result, Ok, Err, ap, arith, length, map, refl, subst, suc, sym}
use Rattle.std.specs.Prelude.{is_some, if◌then◌else◌}
use Rattle.card_core.specs.declared.statement.Statement.{Statement}
use Rattle.jcl_dds.specs.declared.dd.DdCard.{DdCard}
use Rattle.jcl_dds.specs.DdCards.{dd_card, dd_name_faults, has_data}
use Rattle.jcl_dds.specs.Merging.{by_itself}
use Rattle.jcl_deck.specs.declared.operation.Operation.{Operation}
use Rattle.jcl_deck.specs.declared.operation.Operation.TheVariants.{IsDd, IsExec, IsJob, IsOther, IsPend, IsProc}
use Rattle.jcl_deck.specs.Decks.{dd_place_faults, has_no_name, last_has_dd, operation_of}
use Rattle.jcl_plan.specs.declared.fault.Cause.{Cause}
use Rattle.jcl_plan.specs.declared.fault.Cause.TheVariants.{P}
use Rattle.jcl_plan.specs.declared.fault.StatementFault.TheVariants.{CardsInProcedure, NoStep, NoSuchProcedureStep, NothingToContinue}
use Rattle.jcl_procs.specs.declared.step.FlatStep.{FlatStep}
use Rattle.jcl_procs.specs.Calls.{Call, Place, behind_by, onto_last, read_with, steps_behind, steps_from, steps_of, takes_dd}
use Rattle.jcl_symbols.specs.declared.symbol.Symbol.{Symbol}
use Rattle.jcl_symbols.specs.Substitutions.{substituted}
use Rattle.operand_core.specs.Faults.{or_fault, told, when}
use Rattle.value_core.specs.Reads.{Read}

abbrev pub dds_of : List FlatStep → List (List DdCard)
dds_of steps = map (λ (step : FlatStep). step.dds) steps

-- for what a DD statement is refused by its place
abbrev pub placed : Place → Statement → List Cause
placed place s = dd_place_faults place.job_library (dds_of place.steps) s

abbrev pub has_none : Place → Bool
has_none place = length place.steps == 0

pub record AreAlike (a b : Place) : Type 0 where
  pub none : has_none a ≡ has_none b
  pub faults : (s : Statement) → placed a s ≡ placed b s

pub turned : (a b : Place) → AreAlike a b → AreAlike b a
turned a b alike = record { none = sym alike.none; faults = λ s. sym (alike.faults s) }

abbrev pub Follow : Result Place Cause → Result Place Cause → Type 0
Follow (Ok a) (Ok b) = AreAlike a b
Follow (Err f) (Err g) = f ≡ g
Follow (Ok a) (Err g) = ⊥
Follow (Err f) (Ok b) = ⊥

follow_fault : (fault : Option Cause) (a b : Place) → AreAlike a b → Follow (or_fault fault a) (or_fault fault b)
follow_fault None a b alike = alike
follow_fault (Some fault) a b alike = refl

-- behind an EXEC statement: a DD without a name has nothing to continue
abbrev pub with_step : Place → FlatStep → Place
with_step place step = record place { steps = place.steps ++ step ∷ [] }

pub some_step : (steps : List FlatStep) (step : FlatStep) → (length (steps ++ step ∷ []) == 0) ≡ false
some_step [] step = refl
some_step (x ∷ steps) step = grind arith

last_none : (steps : List FlatStep) (step : FlatStep) → step.dds ≡ [] → last_has_dd (dds_of (steps ++ step ∷ [])) ≡ false
last_none [] step empty = ap (λ (l : List DdCard). not (length l == 0)) empty
last_none (x ∷ []) step empty = last_none [] step empty
last_none (x ∷ y ∷ steps) step empty = last_none (y ∷ steps) step empty

some_dds : (steps : List FlatStep) (step : FlatStep) → (length (dds_of (steps ++ step ∷ [])) == 0) ≡ false
some_dds [] step = refl
some_dds (x ∷ steps) step = grind arith

pub behind_step : (place : Place) (step : FlatStep) (s : Statement) → step.dds ≡ [] →
    placed (with_step place step) s ≡ when (has_no_name s && true) (P NothingToContinue)
behind_step place step s empty = rw (some_dds place.steps step, last_none place.steps step empty) refl

pub alike_steps : (a b : Place) (one other : FlatStep) → one.dds ≡ [] → other.dds ≡ [] → AreAlike (with_step a one) (with_step b other)
alike_steps a b one other empty too = record {
  none = some_step a.steps one ∙ sym (some_step b.steps other);
  faults = λ s. behind_step a one s empty ∙ sym (behind_step b other s too);
}

-- behind a DD: before the first step it is a JOBLIB, or continues one; in a step the next is never refused by its place
abbrev pub with_dd : Place → DdCard → Place
with_dd place dd = record place { job_library = place.job_library || length place.steps == 0; steps = onto_last dd place.steps }

or_true : (b : Bool) → (b || true) ≡ true
or_true true = refl
or_true false = refl

and_false : (b : Bool) → (b && false) ≡ false
and_false true = refl
and_false false = refl

some_behind : (dds : List DdCard) (dd : DdCard) → not (length (dds ++ dd ∷ []) == 0) ≡ true
some_behind [] dd = refl
some_behind (x ∷ dds) dd = grind arith

last_dd : (dd : DdCard) (step : FlatStep) (steps : List FlatStep) → last_has_dd (dds_of (onto_last dd (step ∷ steps))) ≡ true
last_dd dd step [] = some_behind step.dds (by_itself dd)
last_dd dd step (next ∷ []) = last_dd dd next []
last_dd dd step (next ∷ more ∷ steps) = last_dd dd next (more ∷ steps)

as_many : (dd : DdCard) (steps : List FlatStep) → (length (onto_last dd steps) == 0) ≡ (length steps == 0)
as_many dd [] = refl
as_many dd (step ∷ []) = refl
as_many dd (step ∷ next ∷ steps) = grind arith

as_many_dds : (dd : DdCard) (step : FlatStep) (steps : List FlatStep) → (length (dds_of (onto_last dd (step ∷ steps))) == 0) ≡ false
as_many_dds dd step [] = refl
as_many_dds dd step (next ∷ steps) = grind arith

pub as_many_behind : (dd : DdCard) (steps : List FlatStep) → length (onto_last dd steps) ≡ length steps
as_many_behind dd [] = refl
as_many_behind dd (step ∷ []) = refl
as_many_behind dd (step ∷ next ∷ steps) = ap (λ n. suc n) (as_many_behind dd (next ∷ steps))

pub has_none_behind : (place : Place) (dd : DdCard) → has_none (with_dd place dd) ≡ has_none place
has_none_behind place dd = as_many dd place.steps

abbrev by_none : Bool → Statement → List Cause
by_none true s = dd_place_faults true [] s
by_none false s = []

has_some : (step : FlatStep) (steps : List FlatStep) → (length (step ∷ steps) == 0) ≡ false
has_some step steps = grind arith

placed_by : (library : Bool) (steps : List FlatStep) (dd : DdCard) (s : Statement) →
    dd_place_faults (library || length steps == 0) (dds_of (onto_last dd steps)) s ≡ by_none (length steps == 0) s
placed_by library [] dd s = ap (λ (b : Bool). dd_place_faults b [] s) (or_true library)
placed_by library (step ∷ steps) dd s = rw (has_some step steps, as_many_dds dd step steps, last_dd dd step steps, and_false (has_no_name s)) refl

pub behind_dd : (place : Place) (dd : DdCard) (s : Statement) → has_none place ≡ false → placed (with_dd place dd) s ≡ []
behind_dd place dd s some = placed_by place.job_library place.steps dd s ∙ ap (λ b. by_none b s) some

pub alike_dds : (a b : Place) (one other : DdCard) → AreAlike a b → AreAlike (with_dd a one) (with_dd b other)
alike_dds a b one other alike = record {
  none = has_none_behind a one ∙ alike.none ∙ sym (has_none_behind b other);
  faults = λ s. placed_by a.job_library a.steps one s ∙ ap (λ n. by_none n s) alike.none ∙ sym (placed_by b.job_library b.steps other s);
}

-- where the last step has a DD, one more changes nothing
some_last : (steps : List FlatStep) → last_has_dd (dds_of steps) ≡ true → (length steps == 0) ≡ false
some_last [] h = absurd cc
some_last (x ∷ steps) h = has_some x steps

pub placed_last : (library : Bool) (steps : List FlatStep) (s : Statement) → last_has_dd (dds_of steps) ≡ true → dd_place_faults library (dds_of steps) s ≡ []
placed_last library [] s h = absurd cc
placed_last library (step ∷ steps) s h =
    let some : (length (dds_of (step ∷ steps)) == 0) ≡ false = grind arith in rw (some, h, and_false (has_no_name s)) refl

pub alike_settled : (a b : Place) (dd : DdCard) → AreAlike a b → last_has_dd (dds_of b.steps) ≡ true → AreAlike (with_dd a dd) b
alike_settled a b dd alike h = record {
  none = has_none_behind a dd ∙ alike.none;
  faults = λ s. behind_dd a dd s (alike.none ∙ some_last b.steps h) ∙ sym (placed_last b.job_library b.steps s h);
}

-- calls that differ in their names and places alone
module _ (name named : Option (List ℕ)) (symbols : List Symbol) (i j : ℕ) where
  abbrev one : Call
  one = record { name = name; place = i; symbols = symbols }

  abbrev other : Call
  other = record { name = named; place = j; symbols = symbols }

  follow_dd : (a b : Place) (s : Statement) → AreAlike a b → Follow (takes_dd one a s) (takes_dd other b s)
  follow_dd a b s alike =
      let faults : List Cause → DdCard → List Cause = λ by_place dd. when (has_data dd) (P CardsInProcedure)
      ++ by_place ++ when (is_some dd.qualifier) (P NoSuchProcedureStep) in
      let read : (DdCard → List Cause) → Read DdCard = λ by_place.
      read_with (substituted symbols true s.operand) (dd_name_faults s.name) (λ operand. dd_card s.name operand s.cards) by_place in
      let first : Read DdCard = read (faults (placed a s)) in
      let second : Read DdCard = read (faults (placed b s)) in
      let same : first ≡ second = (λ k. read (faults (alike.faults s k))) in
      subst (λ (r : Read DdCard). Follow (or_fault (told first.faults) (with_dd a first.value)) (or_fault (told r.faults) (with_dd b r.value))) same
      (follow_fault (told first.faults) (with_dd a first.value) (with_dd b first.value) (alike_dds a b first.value first.value alike))

  pub follow_by : (operation : Operation) (a b : Place) (s : Statement) → AreAlike a b → Follow (behind_by operation one a s) (behind_by operation other b s)
  follow_by IsExec a b s alike = follow_fault _ _ _ (alike_steps a b _ _ refl refl)
  follow_by IsDd a b s alike = follow_dd a b s alike
  follow_by IsProc a b s alike = follow_fault _ a b alike
  follow_by IsJob a b s alike = follow_fault _ a b alike
  follow_by IsPend a b s alike = follow_fault _ a b alike
  follow_by IsOther a b s alike = follow_fault _ a b alike

  -- what is refused behind one is refused behind the other
  ends_by : (none : Bool) (a b : List FlatStep) (cause : Cause) →
      (let r : Result (List FlatStep) Cause = if none then Err (P NoStep) else Ok a in r) ≡ Err cause →
      (let r : Result (List FlatStep) Cause = if none then Err (P NoStep) else Ok b in r) ≡ Err cause
  ends_by true a b cause e = e
  ends_by false a b cause e = absurd cc

  follow_turn : (x y : Result Place Cause) (statements : List Statement) (cause : Cause) → Follow x y →
      ((a b : Place) → AreAlike a b → steps_from one a statements ≡ Err cause → steps_from other b statements ≡ Err cause) →
      steps_behind x (λ next. steps_from one next statements) ≡ Err cause → steps_behind y (λ next. steps_from other next statements) ≡ Err cause
  follow_turn (Ok a) (Ok b) statements cause alike more e = more a b alike e
  follow_turn (Err f) (Err g) statements cause same more e = ap (λ (c : Cause). let r : Result (List FlatStep) Cause = Err c in r) (sym same) ∙ e
  follow_turn (Ok a) (Err g) statements cause never more e = absurd never
  follow_turn (Err f) (Ok b) statements cause never more e = absurd never

  pub follow_from : (statements : List Statement) (cause : Cause) (a b : Place) → AreAlike a b → steps_from one a statements ≡ Err cause →
      steps_from other b statements ≡ Err cause
  follow_from [] cause a b alike e =
      ap (λ (n : Bool). let r : Result (List FlatStep) Cause = if n then Err (P NoStep) else Ok b.steps in r) (sym alike.none)
      ∙ ends_by (length a.steps == 0) a.steps b.steps cause e
  follow_from (s ∷ statements) cause a b alike e =
      follow_turn (behind_by (operation_of s.operation) one a s) (behind_by (operation_of s.operation) other b s) statements cause
      (follow_by (operation_of s.operation) a b s alike) (λ x y near h. follow_from statements cause x y near h) e

  pub refused_elsewhere : (statements : List Statement) (cause : Cause) → steps_of one statements ≡ Err cause → steps_of other statements ≡ Err cause
  refused_elsewhere statements cause e =
      follow_from statements cause (record { job_library = false; steps = [] }) (record { job_library = false; steps = [] })
      (record { none = refl; faults = λ s. refl }) e
