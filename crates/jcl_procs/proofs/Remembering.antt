-- A DD statement without a symbol that stands behind another one of its step brings the same DD at each call.
use Rattle.std.proofs.Common.{◌≡◌, ◌∷◌, ◌++◌, ◌∙◌, ℕ, zero, suc, ◌+◌, ◌-◌, ◌<◌, ◌≤◌, Bool, true, false, List, [], Option, None, Some, IfSome, Result, Ok, Err, ap, arith, drop, length, length-append, map, refl, slice_get, slice_index_or, subst, sym}
use Rattle.std.specs.Prelude.{is_some}
use Rattle.std.specs.Bool.{OnTrue}
use Rattle.card_core.specs.declared.statement.Statement.{Statement}
use Rattle.jcl_dds.specs.declared.dd.DdCard.{DdCard}
use Rattle.jcl_dds.specs.DdCards.{dd_card, dd_name_faults, has_data}
use Rattle.jcl_dds.specs.Merging.{by_itself}
use Rattle.jcl_deck.specs.declared.operation.Operation.{Operation}
use Rattle.jcl_deck.specs.Decks.{last_has_dd, operation_of}
use Rattle.jcl_plan.specs.declared.fault.Cause.{Cause}
use Rattle.jcl_plan.specs.declared.fault.Cause.TheVariants.{P}
use Rattle.jcl_plan.specs.declared.fault.StatementFault.TheVariants.{CardsInProcedure, NoSuchProcedureStep}
use Rattle.jcl_procs.specs.declared.step.FlatStep.{FlatStep}
use Rattle.jcl_procs.specs.Calling.{behind, with_dd}
use Rattle.jcl_procs.specs.Calls.{Call, Place, behind_by, onto_last, read_with, steps_from, steps_of, takes_dd}
use Rattle.jcl_procs.specs.Counting.{IsSettled, has_symbol}
use Rattle.jcl_procs.specs.Remembering.{AreDdsOf, BringsDd, dd_at, kept_dd, last_dd, last_of}
use Rattle.jcl_procs.proofs.Alike.{dds_of, placed, placed_last}
use Rattle.jcl_procs.proofs.Called.{from_one, some_length, steps_step, value_is}
use Rattle.jcl_procs.proofs.Unused.{unused}
use Rattle.jcl_symbols.specs.declared.symbol.Symbol.{Symbol}
use Rattle.jcl_symbols.specs.Substitutions.{substituted}
use Rattle.operand_core.specs.Faults.{or_fault, told, when}
use Rattle.value_core.specs.Reads.{Read}

-- the last DD
last_of_at : (dds : List DdCard) (i : ℕ) → length dds ≡ suc i → slice_get dds i ≡ last_of dds
last_of_at [] i h = absurd (omega (arith, h))
last_of_at (x ∷ []) zero h = refl
last_of_at (x ∷ []) (suc i) h = absurd (omega (arith, h))
last_of_at (x ∷ y ∷ dds) zero h = absurd (omega (arith, h))
last_of_at (x ∷ y ∷ dds) (suc i) h = last_of_at (y ∷ dds) i (omega (arith, h))

pub last_of_is : (dds : List DdCard) → slice_get dds (length dds - 1) ≡ last_of dds
last_of_is [] = refl
last_of_is (x ∷ dds) = last_of_at (x ∷ dds) (length (x ∷ dds) - 1) (omega arith)

last_dd_at : (steps : List FlatStep) (i : ℕ) (step : FlatStep) → length steps ≡ suc i → slice_get steps i ≡ Some step → last_dd steps ≡ last_of step.dds
last_dd_at [] i step h is = absurd (omega (arith, h))
last_dd_at (x ∷ []) zero step h is = let same : x ≡ step = cc in ap (λ (s : FlatStep). last_of s.dds) same
last_dd_at (x ∷ []) (suc i) step h is = absurd (omega (arith, h))
last_dd_at (x ∷ y ∷ steps) zero step h is = absurd (omega (arith, h))
last_dd_at (x ∷ y ∷ steps) (suc i) step h is = last_dd_at (y ∷ steps) i step (omega (arith, h)) is

pub last_dd_is : (steps : List FlatStep) (step : FlatStep) → slice_get steps (length steps - 1) ≡ Some step → last_dd steps ≡ last_of step.dds
last_dd_is steps step is = last_dd_at steps (length steps - 1) step (some_length steps step is) is

-- the DD that was added is the last
last_added : (dds : List DdCard) (dd : DdCard) → last_of (dds ++ dd ∷ []) ≡ Some dd
last_added [] dd = refl
last_added (x ∷ []) dd = refl
last_added (x ∷ y ∷ dds) dd = last_added (y ∷ dds) dd

last_behind : (card : DdCard) (steps : List FlatStep) → last_has_dd (dds_of steps) ≡ true → last_dd (onto_last card steps) ≡ Some (by_itself card)
last_behind card [] some = absurd cc
last_behind card (step ∷ []) some = last_added step.dds (by_itself card)
last_behind card (step ∷ next ∷ []) some = last_behind card (next ∷ []) some
last_behind card (step ∷ next ∷ more ∷ steps) some = last_behind card (next ∷ more ∷ steps) some

none_told : (f : Option Cause) (a next : Place) → or_fault f a ≡ Ok next → f ≡ None
none_told None a next is = refl
none_told (Some f) a next is = absurd cc

module _ (s : Statement) where
  abbrev faults_by : List Cause → DdCard → List Cause
  faults_by by_place dd = when (has_data dd) (P CardsInProcedure) ++ by_place ++ when (is_some dd.qualifier) (P NoSuchProcedureStep)

  abbrev reads : Read (List ℕ) → List Cause → Read DdCard
  reads operand by_place = read_with operand (dd_name_faults s.name) (λ text. dd_card s.name text s.cards) (faults_by by_place)

  abbrev brings : Read DdCard → Place → Result Place Cause
  brings r place = or_fault (told r.faults) (with_dd place r.value)

  takes_as : (symbols : List Symbol) (call : Call) (place : Place) → has_symbol s.operand ≡ false → last_has_dd (dds_of place.steps) ≡ true →
      takes_dd call place s ≡ brings (reads (substituted symbols true s.operand) []) place
  takes_as symbols call place plain some =
      ap (λ operand. brings (reads operand (placed place s)) place) (unused call.symbols symbols true s.operand plain)
      ∙ ap (λ by_place. brings (reads (substituted symbols true s.operand) by_place) place) (placed_last place.job_library place.steps s some)

  brings_dd : (first : Call) (place next : Place) → IsSettled place s → behind first place s ≡ Ok next → IfSome (last_dd next.steps) (BringsDd s)
  brings_dd first place next settled is =
      let r : Read DdCard = reads (substituted first.symbols true s.operand) [] in
      let taken : brings r place ≡ Ok next = sym (takes_as first.symbols first place settled.plain settled.behind)
      ∙ sym (ap (λ (o : Operation). behind_by o first place s) settled.dd) ∙ is in
      let none : told r.faults ≡ None = none_told (told r.faults) (with_dd place r.value) next taken in
      let same : next ≡ with_dd place r.value = value_is (told r.faults) (with_dd place r.value) next taken in
      let last : last_dd next.steps ≡ Some (by_itself r.value) = ap (λ (p : Place). last_dd p.steps) same ∙ last_behind r.value place.steps settled.behind in
      let it : BringsDd s (by_itself r.value) = record {
        card = r.value;
        own = refl;
        same = λ call at some. ap (λ (o : Operation). behind_by o call at s) settled.dd
            ∙ takes_as first.symbols call at settled.plain some ∙ ap (λ (f : Option Cause). or_fault f (with_dd at r.value)) none;
      } in
      subst (λ (dd : Option DdCard). IfSome dd (BringsDd s)) (sym last) it

  -- what is remembered behind a statement that was taken
  pub remembers : (settles : Bool) (first : Call) (place next : Place) → OnTrue settles (IsSettled place s) → behind first place s ≡ Ok next →
      IfSome (kept_dd settles next.steps) (BringsDd s)
  remembers true first place next settled is = brings_dd first place next settled is
  remembers false first place next settled is = tt

-- the DDs of statements, one by one
pub dd_there : (dds : List (Option DdCard)) (n : ℕ) (dd : Option DdCard) → n < length dds → dd ≡ slice_index_or dds n dd → dd ≡ dd_at dds n
dd_there [] n dd lt is = absurd (omega (arith, lt))
dd_there (o ∷ dds) zero dd lt is = is
dd_there (o ∷ dds) (suc n) dd lt is = dd_there dds n dd (omega (arith, lt)) is

pub none_there : (dds : List (Option DdCard)) (n : ℕ) → length dds ≤ n → None ≡ dd_at dds n
none_there [] n le = refl
none_there (o ∷ dds) zero le = absurd (omega (arith, le))
none_there (o ∷ dds) (suc n) le = none_there dds n (omega (arith, le))

pub dd_of : (dds : List (Option DdCard)) (statements : List Statement) (n : ℕ) (s : Statement) → AreDdsOf dds statements → n < length statements →
    s ≡ slice_index_or statements n s → IfSome (dd_at dds n) (BringsDd s)
dd_of [] statements n s same lt is = tt
dd_of (dd ∷ dds) [] n s same lt is = absurd (omega (arith, lt))
dd_of (dd ∷ dds) (x ∷ statements) zero s same lt is = subst (λ (t : Statement). IfSome dd (BringsDd t)) (sym is) same.0
dd_of (dd ∷ dds) (x ∷ statements) (suc n) s same lt is = dd_of dds statements n s same.1 (omega (arith, lt)) is

more_dds : (dds : List (Option DdCard)) (statements : List Statement) (s : Statement) (dd : Option DdCard) → AreDdsOf dds statements →
    length dds < length statements → s ≡ slice_index_or statements (length dds) s → IfSome dd (BringsDd s) → AreDdsOf (dds ++ dd ∷ []) statements
more_dds [] [] s dd same lt is brings = absurd (omega (arith, lt))
more_dds [] (x ∷ statements) s dd same lt is brings = (subst (λ (t : Statement). IfSome dd (BringsDd t)) is brings, tt)
more_dds (o ∷ dds) [] s dd same lt is brings = absurd (omega (arith, lt))
more_dds (o ∷ dds) (x ∷ statements) s dd same lt is brings = (same.0, more_dds dds statements s dd same.1 (omega (arith, lt)) is brings)

-- as far as the statements were taken
pub record Remembers (call : Call) (statements : List Statement) (place : Place) (at : ℕ) (dds : List (Option DdCard)) : Type 0 where
  pub so : steps_of call statements ≡ steps_from call place (drop at statements)
  pub same : AreDdsOf dds statements
  pub long : length dds ≡ at

pub remembers_on : (call : Call) (statements : List Statement) (place next : Place) (at : ℕ) (dds more : List (Option DdCard)) (s : Statement) (settles : Bool) →
    Remembers call statements place at dds → at < length statements → s ≡ slice_index_or statements at s → OnTrue settles (IsSettled place s) →
    behind call place s ≡ Ok next → more ≡ dds ++ kept_dd settles next.steps ∷ [] → Remembers call statements next (at + 1) more
remembers_on call statements place next at dds more s settles it lt is settled taken added =
    let long = it.long in
    let here : s ≡ slice_index_or statements (length dds) s = is ∙ ap (λ n. slice_index_or statements n s) (sym long) in
    let longer = ap length added in
    let same : AreDdsOf (dds ++ kept_dd settles next.steps ∷ []) statements = more_dds dds statements s (kept_dd settles next.steps) it.same
    (omega (arith, long, lt)) here (remembers s settles call place next settled taken) in
    record {
      so = steps_step call place s (drop (at + 1) statements) it.so (from_one statements at s lt is) taken;
      same = subst (λ l. AreDdsOf l statements) (sym added) same;
      long = omega (arith, longer, length-append dds (kept_dd settles next.steps ∷ []), long);
    }
