-- The steps that the calls of a deck give.
use Rattle.std.proofs.Common.{◌≡◌, ℕ, ◌+◌, ◌≤◌, Bool, true, false, cond, List, [], ◌∷◌, ◌++◌, length, map, None, is_some, unwrap_or, Result, Ok, Err, refl, sym, subst, ◌∙◌, length-append, arith}
use Rattle.std.specs.Prelude.{All}
use Rattle.std.specs.List.{list_any}
use Rattle.std.proofs.lemmas.List.Elements.{All-append, All-cons, All-head, All-map, All-nil, All-tail, All-weaker}
use Rattle.jcl_plan.specs.declared.fault.Cause.{Cause}
use Rattle.jcl_plan.specs.declared.fault.Cause.TheVariants.{P}
use Rattle.jcl_plan.specs.declared.fault.StatementFault.TheVariants.{NoSuchProcedureStep}
use Rattle.list_values.specs.Conditions.{no_condition}
use Rattle.jcl_symbols.specs.declared.symbol.Symbol.{Symbol}
use Rattle.jcl_cards.specs.declared.exec.ExecCard.{ExecCard}
use Rattle.jcl_cards.specs.declared.exec.Runs.{Runs}
use Rattle.jcl_cards.specs.declared.exec.Runs.TheVariants as runs
use Rattle.jcl_dds.specs.declared.dd.DdCard.{DdCard}
use Rattle.jcl_dds.specs.Merging.{by_itself}
use Rattle.jcl_deck.specs.declared.deck.Deck.{Deck}
use Rattle.jcl_deck.specs.declared.deck.DeckStep.{DeckStep}
use Rattle.jcl_deck.specs.declared.deck.Procedure.{Procedure}
use Rattle.jcl_procs.specs.declared.step.FlatStep.{FlatStep}
use Rattle.jcl_procs.specs.Calls.{Call, steps_of}
use Rattle.jcl_procs.specs.Expansions.{Body, and_then, body_named, called, flat_from, flat_of, joined, plain_step, steps_by}
use Rattle.jcl_procs.specs.Overrides.{conditions_overridden, dds_overridden}
use Rattle.proc_library.specs.declared.library.LibraryProcedure.{LibraryProcedure}
use Rattle.statement_laws.specs.Ranges.{IsSoundDd, IsSoundRuns}
use Rattle.statement_laws.proofs.Merging.{by_itself_is_sound}
use Rattle.deck_laws.specs.Sound.{BeginsWithName, IsSoundDeck, IsSoundDeckStep, IsSoundStep, KeepsCards}
use Rattle.deck_laws.proofs.Bodies.{body_finds}
use Rattle.deck_laws.proofs.Calls.{AreBrought, codes_of, steps_are}
use Rattle.deck_laws.proofs.Conditions.{conditions_are}
use Rattle.deck_laws.proofs.Given.{and_ok}
use Rattle.deck_laws.proofs.Overrides.{dds_are}

-- a step of the deck itself
begins_settled : (dds : List DdCard) → BeginsWithName dds → BeginsWithName (map by_itself dds)
begins_settled [] named = tt
begins_settled (dd ∷ dds) named = named

all_settled : (dds : List DdCard) → All IsSoundDd dds → All IsSoundDd (map by_itself dds)
all_settled dds all = All-map IsSoundDd by_itself dds (All-weaker IsSoundDd (λ dd. IsSoundDd (by_itself dd)) by_itself_is_sound dds all)

abbrev plain : ExecCard → List DdCard → List ℕ → FlatStep
plain exec dds program = record {
  name = exec.name;
  procedure_step = None;
  call = None;
  program = program;
  condition = unwrap_or exec.condition no_condition;
  dds = map by_itself dds;
}

unless_qualified : (qualified : Bool) (brought steps : List FlatStep) → AreBrought brought →
    (let r : Result (List FlatStep) Cause = cond qualified (Err (P NoSuchProcedureStep)) (Ok brought) in r) ≡ Ok steps → AreBrought steps
unless_qualified true brought steps are is = absurd (cc)
unless_qualified false brought steps are is = subst AreBrought (let same : brought ≡ steps = cc in same) are

plain_is : (step : DeckStep) (program : List ℕ) (steps : List FlatStep) → IsSoundDeckStep step → IsSoundRuns (runs.Program program) →
    plain_step step.exec step.dds program ≡ Ok steps → AreBrought steps
plain_is step program steps sound named is =
    let whole : IsSoundStep (plain step.exec step.dds program) = record {
      name = sound.exec.name;
      procedure_step = tt;
      program = named;
      codes = codes_of step.exec.condition sound.exec.condition;
      begins_named = begins_settled step.dds sound.begins_named;
      dds = all_settled step.dds sound.dds;
    } in
    unless_qualified (list_any (λ dd. is_some dd.qualifier) step.dds) (plain step.exec step.dds program ∷ []) steps
    (omega (arith), All-cons IsSoundStep (plain step.exec step.dds program) [] whole (All-nil IsSoundStep)) is

-- and one that calls a procedure
called_is : (library : List LibraryProcedure) (procedures : List Procedure) (place : ℕ) (step : DeckStep) (name : List ℕ) (symbols : List Symbol)
    (steps : List FlatStep) → All KeepsCards procedures → IsSoundDeckStep step →
    called library procedures place step.exec step.dds name symbols ≡ Ok steps → AreBrought steps
called_is library procedures place step name symbols steps keeps sound is =
    let call : Body → Call = λ body. record { name = step.exec.name; place = place; symbols = symbols ++ body.symbols } in
    let put : List FlatStep → Result (List FlatStep) Cause = λ changed. dds_overridden changed step.dds in
    let change : List FlatStep → Result (List FlatStep) Cause = λ brought. and_then (conditions_overridden brought step.exec) put in
    let found = and_ok (body_named library procedures name) (λ body. and_then (steps_of (call body) body.statements) change) steps is in
    let body : Body = found.0 in
    let brought = and_ok (steps_of (call body) body.statements) change steps found.2 in
    let changed = and_ok (conditions_overridden brought.0 step.exec) put steps brought.2 in
    let first = steps_are (call body) body.statements brought.0 sound.exec.name (body_finds library procedures name keeps body found.1) brought.1 in
    dds_are changed.0 step.dds steps (conditions_are brought.0 step.exec changed.0 sound.exec first changed.1) sound.begins_named sound.dds changed.2

step_is : (ran : Runs) (library : List LibraryProcedure) (procedures : List Procedure) (place : ℕ) (step : DeckStep) (steps : List FlatStep) →
    All KeepsCards procedures → IsSoundDeckStep step → IsSoundRuns ran → steps_by ran library procedures place step ≡ Ok steps → AreBrought steps
step_is (runs.Program name) library procedures place step steps keeps sound named is = plain_is step name steps sound named is
step_is (runs.Procedure name symbols) library procedures place step steps keeps sound named is =
    called_is library procedures place step name symbols steps keeps sound is

-- step by step
record AreJoined (steps : List FlatStep) (r : Result (List FlatStep) Cause) (all : List FlatStep) : Type 0 where
  more : List FlatStep
  are_more : r ≡ Ok more
  is : all ≡ steps ++ more

joined_are : (steps : List FlatStep) (next : Unit {0} → Result (List FlatStep) Cause) (r : Result (List FlatStep) Cause) (all : List FlatStep) → next tt ≡ r →
    joined (Ok steps) next ≡ Ok all → AreJoined steps (next tt) all
joined_are steps next (Err fault) all is h =
    let e : joined (Ok steps) next ≡ Err fault = rw (is) refl in
    absurd (let no : (let r : Result (List FlatStep) Cause = Err fault in r) ≡ Ok all = sym e ∙ h in cc)
joined_are steps next (Ok more) all is h =
    let e : joined (Ok steps) next ≡ Ok (steps ++ more) = rw (is) refl in
    let same : (let r : Result (List FlatStep) Cause = Ok (steps ++ more) in r) ≡ Ok all = sym e ∙ h in
    record { more = more; are_more = is; is = let whole : all ≡ steps ++ more = cc in whole }

-- of one deck step or more one step or more
abbrev AreFlat : List DeckStep → List FlatStep → Type 0
AreFlat steps flat = (length steps ≤ length flat) × All IsSoundStep flat

abbrev Flattens : List DeckStep → Result (List FlatStep) Cause → Type 0
Flattens steps r = (flat : List FlatStep) → r ≡ Ok flat → AreFlat steps flat

one_flattens : (step : DeckStep) (steps : List DeckStep) (first : Result (List FlatStep) Cause) (next : Unit {0} → Result (List FlatStep) Cause) →
    ((brought : List FlatStep) → first ≡ Ok brought → AreBrought brought) → Flattens steps (next tt) → Flattens (step ∷ steps) (joined first next)
one_flattens step steps (Err fault) next brings flattens flat is = absurd (cc)
one_flattens step steps (Ok brought) next brings flattens flat is =
    let j = joined_are brought next (next tt) flat refl is in
    let front = brings brought refl in
    let behind = flattens j.more j.are_more in
    subst (AreFlat (step ∷ steps)) (sym j.is)
    (omega (arith, front.0, behind.0, length-append brought j.more), All-append IsSoundStep brought j.more front.1 behind.1)

all_flatten : (library : List LibraryProcedure) (procedures : List Procedure) (place : ℕ) (steps : List DeckStep) → All KeepsCards procedures →
    All IsSoundDeckStep steps → Flattens steps (flat_from library procedures place steps)
all_flatten library procedures place [] keeps sound =
    λ flat is. subst (AreFlat []) (let same : [] ≡ flat = cc in same) (omega (arith), All-nil IsSoundStep)
all_flatten library procedures place (step ∷ steps) keeps sound =
    let here = All-head IsSoundDeckStep step steps sound in
    one_flattens step steps (steps_by step.exec.runs library procedures place step) (λ _. flat_from library procedures (place + 1) steps)
    (λ brought is. step_is step.exec.runs library procedures place step brought keeps here here.exec.runs is)
    (all_flatten library procedures (place + 1) steps keeps (All-tail IsSoundDeckStep step steps sound))

pub steps_are_sound : (library : List LibraryProcedure) (deck : Deck) (steps : List FlatStep) → IsSoundDeck deck → flat_of library deck ≡ Ok steps →
    (1 ≤ length steps) × All IsSoundStep steps
steps_are_sound library deck steps sound is =
    let flat = all_flatten library deck.procedures 1 deck.steps sound.procedures sound.steps steps is in
    (omega (arith, sound.some_step, flat.0), flat.1)
