-- A call of a procedure that was read at another call: for what it is refused.
use Rattle.std.proofs.Common.{◌≡◌, ◌∷◌, ◌++◌, ◌∙◌, ◌≤◌, ◌==◌, ℕ, Bool, false, true, List, [], Option, None, Some, Result, Ok, Err, ap, arith, length, refl, subst, sym}
use Rattle.card_core.specs.declared.statement.Statement.{Statement}
use Rattle.jcl_cards.specs.declared.exec.ExecCard.{ExecCard}
use Rattle.jcl_dds.specs.declared.dd.DdCard.{DdCard}
use Rattle.jcl_deck.specs.declared.deck.Procedure as in_stream
use Rattle.jcl_plan.specs.declared.fault.Cause.{Cause}
use Rattle.jcl_procs.specs.declared.bodies.Body as code
use Rattle.jcl_procs.specs.declared.step.FlatStep.{FlatStep}
use Rattle.jcl_procs.specs.Bodies.{denoted}
use Rattle.jcl_procs.specs.Calls.{Call, steps_of}
use Rattle.jcl_procs.specs.Counting.{Brings, Tells, WasBrought, WereRead, brought}
use Rattle.jcl_procs.specs.Expansions.{Body, and_then, body_named, called}
use Rattle.jcl_procs.specs.Overrides.{conditions_overridden, dds_overridden, with_condition, with_step_conditions}
use Rattle.jcl_procs.specs.StepDds.{fault_of}
use Rattle.jcl_procs.proofs.Counting.{from_keeps, overridden_keeps, some_from}
use Rattle.jcl_procs.proofs.Same.{Same, same_changed, same_length, same_overridden, same_steps}
use Rattle.jcl_symbols.specs.declared.symbol.Symbol.{Symbol}
use Rattle.proc_library.specs.declared.library.LibraryProcedure.{LibraryProcedure}
use Rattle.value_core.specs.declared.refusal.ReadError.{ReadError}
use Rattle.value_core.specs.declared.refusal.ReadError.TheVariants.{Memory, Refused}

-- what is told of steps is told of others that are refused for the same
none_some : {f : Cause} (o : Option Cause) → o ≡ None → o ≡ Some f → ⊥
none_some None is so = cc
none_some (Some f) is so = cc

taken_as : (r : Result (List FlatStep) Cause) → fault_of r ≡ None → (found : List FlatStep) × (r ≡ Ok found)
taken_as (Ok found) is = (found, refl)
taken_as (Err fault) is = absurd cc

refused_as : (r : Result (List FlatStep) Cause) (fault : Cause) → fault_of r ≡ Some fault → r ≡ Err fault
refused_as (Ok found) fault is = absurd cc
refused_as (Err own) fault is = let same : own ≡ fault = cc in ap (λ (f : Cause). let r : Result (List FlatStep) Cause = Err f in r) same

abbrev pub AsLong : Result (List FlatStep) Cause → Result (List FlatStep) Cause → Type 0
AsLong r q = (found more : List FlatStep) → r ≡ Ok found → q ≡ Ok more → length more ≡ length found

pub tells_as : (told : Result ℕ ReadError) (r q : Result (List FlatStep) Cause) → fault_of r ≡ fault_of q → AsLong r q → Tells told r → Tells told q
tells_as (Ok count) r q same long tells =
    let more = taken_as q (sym same ∙ ap fault_of tells.1) in (more.0, more.1, long tells.0 more.0 tells.1 more.1 ∙ tells.2)
tells_as (Err (Refused fault)) r q same long tells = refused_as q fault (sym same ∙ ap fault_of tells)
tells_as (Err Memory) r q same long tells = tt

-- overriding DDs makes no step and takes none away
pub overridden_tells : (steps : List FlatStep) (dds : List DdCard) → None ≡ fault_of (dds_overridden steps dds) → Tells (Ok (length steps)) (dds_overridden steps dds)
overridden_tells steps dds is =
    let found = taken_as (dds_overridden steps dds) (sym is) in
    (found.0, found.1, from_keeps dds (record { steps = steps; at = 0; member = 0 }) found.0 found.1)

pub none_long : (dds : List DdCard) → true ≡ (length dds == 0) → dds ≡ []
none_long [] is = refl
none_long (dd ∷ dds) is =
    let some : (length (dd ∷ dds) == 0) ≡ false = grind arith in absurd (let never : true ≡ false = is ∙ some in cc)

module _ (library : List LibraryProcedure) (procedures : List in_stream.Procedure) where
  -- what a procedure brings is a step at least
  pub some_steps : (name : List ℕ) (symbols : List Symbol) (steps : List FlatStep) → Brings library procedures name symbols steps → 1 ≤ length steps
  some_steps name symbols steps it = by (body_named library procedures name) it.so
    where
      by : (body : Result Body Cause) → and_then body (λ b. steps_of (record { name = it.called; place = it.place; symbols = symbols ++ b.symbols }) b.statements)
          ≡ Ok steps → 1 ≤ length steps
      by (Ok b) h =
          some_from (record { name = it.called; place = it.place; symbols = symbols ++ b.symbols }) b.statements (record { job_library = false; steps = [] }) steps h
      by (Err fault) h = absurd cc

  module _ (exec : ExecCard) (place : ℕ) (name : List ℕ) (symbols : List Symbol) where
    abbrev call_with : Body → Call
    call_with b = record { name = exec.name; place = place; symbols = symbols ++ b.symbols }

    abbrev onward : List DdCard → List FlatStep → Result (List FlatStep) Cause
    onward dds steps = and_then (conditions_overridden steps exec) (λ changed. dds_overridden changed dds)

    changed : List FlatStep → List FlatStep
    changed steps = with_step_conditions (with_condition exec.condition steps) exec.step_conditions

    plain_onward : (dds : List DdCard) (steps : List FlatStep) → exec.named_steps ≡ [] → onward dds steps ≡ dds_overridden (changed steps) dds
    unfolding changed
    plain_onward dds steps none = rw none refl

    -- with the same symbols: by what the procedure brought
    by_steps : (dds : List DdCard) (steps more : List FlatStep) → exec.named_steps ≡ [] → length dds ≤ 1 → Same steps more →
        fault_of (dds_overridden steps dds) ≡ fault_of (onward dds more)
    unfolding changed
    by_steps dds steps more none few same =
        same_overridden steps more dds few same
        ∙ sym (same_overridden (changed more) more dds few (same_changed exec.condition exec.step_conditions more))
        ∙ sym (ap fault_of (plain_onward dds more none))

    by_body : (dds : List DdCard) (steps : List FlatStep) (was : Option (List ℕ)) (at : ℕ) (body : Result Body Cause) → exec.named_steps ≡ [] → length dds ≤ 1 →
        and_then body (λ b. steps_of (record { name = was; place = at; symbols = symbols ++ b.symbols }) b.statements) ≡ Ok steps →
        fault_of (dds_overridden steps dds) ≡ fault_of (and_then body (λ b. and_then (steps_of (call_with b) b.statements) (onward dds)))
    by_body dds steps was at (Err fault) none few is = absurd cc
    by_body dds steps was at (Ok b) none few is =
        let more = same_steps was exec.name (symbols ++ b.symbols) at place b.statements steps is in
        by_steps dds steps more.0 none few more.2 ∙ sym (ap (λ (r : Result (List FlatStep) Cause). fault_of (and_then r (onward dds))) more.1)

    pub by_known : (dds : List DdCard) (steps : List FlatStep) → exec.named_steps ≡ [] → length dds ≤ 1 → Brings library procedures name symbols steps →
        fault_of (dds_overridden steps dds) ≡ fault_of (called library procedures place exec dds name symbols)
    by_known dds steps none few it = by_body dds steps it.called it.place (body_named library procedures name) none few it.so

    long_body : (dds : List DdCard) (steps more : List FlatStep) (was : Option (List ℕ)) (at : ℕ) (body : Result Body Cause) →
        and_then body (λ b. steps_of (record { name = was; place = at; symbols = symbols ++ b.symbols }) b.statements) ≡ Ok steps →
        and_then body (λ b. and_then (steps_of (call_with b) b.statements) (onward dds)) ≡ Ok more → length more ≡ length steps
    long_body dds steps more was at (Err fault) is so = absurd cc
    long_body dds steps more was at (Ok b) is so =
        let own = same_steps was exec.name (symbols ++ b.symbols) at place b.statements steps is in
        overridden_keeps exec dds own.0 more (sym (ap (λ (r : Result (List FlatStep) Cause). and_then r (onward dds)) own.1) ∙ so)
        ∙ sym (same_length steps own.0 own.2)

    pub long_known : (dds : List DdCard) (steps : List FlatStep) → Brings library procedures name symbols steps →
        AsLong (dds_overridden steps dds) (called library procedures place exec dds name symbols)
    long_known dds steps it found more is so =
        long_body dds steps more it.called it.place (body_named library procedures name) it.so so
        ∙ sym (from_keeps dds (record { steps = steps; at = 0; member = 0 }) found is)

    pub long_brought : (dds : List DdCard) → AsLong (brought library procedures exec.name place name symbols) (called library procedures place exec dds name symbols)
    long_brought dds found more is so = long_body dds found more exec.name place (body_named library procedures name) is so

    -- what is refused before its steps are overridden
    refused_body : (dds : List DdCard) (body : Result Body Cause) (fault : Cause) → and_then body (λ b. steps_of (call_with b) b.statements) ≡ Err fault →
        and_then body (λ b. and_then (steps_of (call_with b) b.statements) (onward dds)) ≡ Err fault
    refused_body dds (Err own) fault is = let same : own ≡ fault = cc in ap (λ (f : Cause). let r : Result (List FlatStep) Cause = Err f in r) same
    refused_body dds (Ok b) fault is = ap (λ (r : Result (List FlatStep) Cause). and_then r (onward dds)) is

    pub refused_first : (dds : List DdCard) (fault : Cause) → brought library procedures exec.name place name symbols ≡ Err fault →
        called library procedures place exec dds name symbols ≡ Err fault
    refused_first dds fault is = refused_body dds (body_named library procedures name) fault is

    -- where nothing is overridden
    plain_body : (dds : List DdCard) (body : Result Body Cause) → exec.named_steps ≡ [] → dds ≡ [] →
        fault_of (and_then body (λ b. steps_of (call_with b) b.statements))
        ≡ fault_of (and_then body (λ b. and_then (steps_of (call_with b) b.statements) (onward dds)))
    unfolding changed
    plain_body dds (Err fault) none empty = refl
    plain_body dds (Ok b) none empty = by (steps_of (call_with b) b.statements)
      where
        by : (r : Result (List FlatStep) Cause) → fault_of r ≡ fault_of (and_then r (onward dds))
        by (Err fault) = refl
        by (Ok steps) = sym (ap fault_of (plain_onward dds steps none ∙ ap (dds_overridden (changed steps)) empty))

    pub by_brought : (dds : List DdCard) → exec.named_steps ≡ [] → dds ≡ [] →
        fault_of (brought library procedures exec.name place name symbols) ≡ fault_of (called library procedures place exec dds name symbols)
    by_brought dds none empty = plain_body dds (body_named library procedures name) none empty

  -- the statements of a procedure that was read at some call
  pub were_read : (name : List ℕ) (b : Body) → body_named library procedures name ≡ Ok b → WasBrought library procedures name → WereRead b.statements
  were_read name b is was =
      let it = was.2 in (
        record { name = it.called; place = it.place; symbols = was.0 ++ b.symbols },
        was.1,
        sym (ap (λ (r : Result Body Cause). and_then r
            (λ b. steps_of (record { name = it.called; place = it.place; symbols = was.0 ++ b.symbols }) b.statements)) is) ∙ it.so,
      )
