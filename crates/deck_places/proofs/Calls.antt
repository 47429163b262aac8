-- The call for which a statement is found is refused.
use Rattle.std.proofs.Common.{◌≡◌, ◌∙◌, ℕ, ◌+◌, ◌++◌, List, Option, None, Some, Result, Ok, Err, ap, arith, length, refl, slice_get, subst, sym}
use Rattle.std.proofs.lemmas.List.{take_all}
use Rattle.card_core.specs.declared.statement.Statement.{Statement}
use Rattle.card_core.specs.declared.fault.CardFault.{CardFault}
use Rattle.card_core.specs.Deck.{statements_of}
use Rattle.jcl_cards.specs.declared.exec.ExecCard.{ExecCard}
use Rattle.jcl_cards.specs.declared.exec.Runs.{Runs}
use Rattle.jcl_cards.specs.declared.exec.Runs.TheVariants.{Procedure, Program}
use Rattle.jcl_cards.specs.ExecCards.{exec_card}
use Rattle.jcl_dds.specs.declared.dd.DdCard.{DdCard}
use Rattle.jcl_deck.specs.declared.deck.Deck.{Deck}
use Rattle.jcl_deck.specs.declared.deck.Procedure as in_stream
use Rattle.jcl_deck.specs.declared.operation.Operation.TheVariants.{IsExec}
use Rattle.jcl_deck.specs.Decks.{deck_of, operation_of}
use Rattle.jcl_job.specs.Jobs.{statements_in}
use Rattle.jcl_plan.specs.declared.fault.Cause.{Cause}
use Rattle.jcl_procs.specs.declared.step.FlatStep.{FlatStep}
use Rattle.jcl_procs.specs.Calls.{steps_of}
use Rattle.jcl_procs.specs.Expansions.{Body, and_then, body_named, body_of, called, in_deck, steps_by}
use Rattle.jcl_procs.specs.Overrides.{conditions_overridden, dds_overridden}
use Rattle.jcl_symbols.specs.declared.symbol.Symbol.{Symbol}
use Rattle.proc_library.specs.declared.library.LibraryProcedure.{LibraryProcedure}
use Rattle.proc_library.specs.Libraries.{in_library}
use Rattle.value_core.specs.Reads.{answer}
use Rattle.deck_places.specs.Called.{Found, IsCalled, IsCalledFor, IsCalledPlace, call_with, called_by, called_in, calling_by, calling_of, found_behind, found_by, found_of, found_on, if_ok, if_some, proc_of, behind_proc}
use Rattle.deck_places.specs.declared.called.CalledPlace.{CalledPlace}
use Rattle.deck_places.specs.declared.called.Calling.{Calling}
use Rattle.jcl_procs.proofs.Alike.{refused_elsewhere}
use Rattle.deck_places.proofs.Located.{from_ok, from_some}
use Rattle.deck_places.proofs.Refused.{stays_refused}

-- statements are those of cards
as_cards : (lines : List (List ℕ)) (own : List Statement) (r : Result (List Statement) CardFault) → statements_of lines ≡ r →
    (statements_in lines ≡ Ok own → statements_of lines ≡ Ok own)
as_cards lines own (Ok all) e =
    rw e (λ h. let same : all ≡ own = cc in ap (λ (l : List Statement). let r : Result (List Statement) CardFault = Ok l in r) same)
as_cards lines own (Err fault) e = rw e (λ h. absurd cc)

named_in : (library : List LibraryProcedure) (procedures : List in_stream.Procedure) (name : List ℕ) (p : LibraryProcedure) (own : List Statement) →
    in_deck procedures name ≡ None → in_library library name ≡ Some p → statements_of p.lines ≡ Ok own → body_named library procedures name ≡ body_of own
named_in library procedures name p own none there cards = rw (none, there, cards) refl

-- the body that is found is the one that the call reads
module _ (library : List LibraryProcedure) (lines : List (List ℕ)) (statements : List Statement) (procedures : List in_stream.Procedure) (name : List ℕ)
    (found : Found) where
  of_deck : (p : in_stream.Procedure) → in_deck procedures name ≡ Some p → found_by library lines statements name (Some p) ≡ Some found →
      body_named library procedures name ≡ Ok found.body
  of_deck p there e =
      let at = from_some (proc_of name statements) (λ n. let o : Option Found = Some (found_behind lines p n) in o) found e in
      let is : found_behind lines p at.0 ≡ found = let h = at.2 in cc in
      let so : body_named library procedures name ≡ Ok (found_behind lines p at.0).body = rw there refl in
      so ∙ ap (λ (f : Found). let r : Result Body Cause = Ok f.body in r) is

  of_session : in_deck procedures name ≡ None → found_by library lines statements name None ≡ Some found →
      body_named library procedures name ≡ Ok found.body
  of_session none e =
      let p = from_some (in_library library name) (λ (p : LibraryProcedure). if_ok (statements_in p.lines) (found_on p.lines)) found e in
      let own = from_ok (statements_in p.0.lines) (found_on p.0.lines) found p.2 in
      let make : Body → Found = λ body. record { body = body; proc = None; lines = p.0.lines; first = behind_proc own.0 } in
      let body = from_ok (body_of own.0) (λ body. let o : Option Found = Some (make body) in o) found own.2 in
      let is : make body.0 ≡ found = let h = body.2 in cc in
      let cards = as_cards p.0.lines own.0 (statements_of p.0.lines) refl own.1 in
      let named = named_in library procedures name p.0 own.0 none p.1 cards in
      named ∙ body.1 ∙ ap (λ (f : Found). let r : Result Body Cause = Ok f.body in r) is

  named_by : (p : Option in_stream.Procedure) → in_deck procedures name ≡ p → found_by library lines statements name p ≡ Some found →
      body_named library procedures name ≡ Ok found.body
  named_by (Some p) there e = of_deck p there e
  named_by None none e = of_session none e

-- a call of which a statement is found
module _ (library : List LibraryProcedure) (lines : List (List ℕ)) (statements : List Statement) (deck : Deck) (card : ExecCard) (cause : Cause)
    (place : CalledPlace) (number : ℕ) (dds : List DdCard) where
  abbrev its_calling : List ℕ → List Symbol → Calling
  its_calling name symbols = record { procedure = name; name = card.name; symbols = symbols }

  refused_by : (name : List ℕ) (symbols : List Symbol) (found : Found) → body_named library deck.procedures name ≡ Ok found.body →
      IsCalledPlace (record { calling = its_calling name symbols; found = found }) cause place →
      called library deck.procedures number card dds name symbols ≡ Err cause
  refused_by name symbols found named it =
      let body = found.body in
      let call = call_with (its_calling name symbols) body in
      let n = place.statement in
      let there = it.refused.there in
      let all = stays_refused call body.statements cause (n + 1) (length body.statements) (it.refused.first 0 (omega arith)) (omega arith) it.refused.refused in
      let whole : steps_of call body.statements ≡ Err cause =
      ap (steps_of call) (sym (take_all (length body.statements) body.statements (omega arith))) ∙ all in
      let elsewhere = refused_elsewhere card.name card.name (symbols ++ body.symbols) 1 number body.statements cause whole in
      rw named (ap (λ (r : Result (List FlatStep) Cause). and_then r (λ steps.
      and_then (conditions_overridden steps card) (λ changed. dds_overridden changed dds))) elsewhere)

  by_found : (name : List ℕ) (symbols : List Symbol) (found : Option Found) → found_of library lines statements deck name ≡ found →
      IsCalledFor (called_in (its_calling name symbols) found) cause (Some place) → called library deck.procedures number card dds name symbols ≡ Err cause
  by_found name symbols None is h = absurd cc
  by_found name symbols (Some found) is h =
      refused_by name symbols found
      (named_by library lines statements deck.procedures name found (in_deck deck.procedures name) refl is) h

  by_runs : (runs : Runs) →
      IsCalledFor (if_some (calling_by card.name runs) (λ calling. called_in calling (found_of library lines statements deck calling.procedure))) cause (Some place) →
      steps_by runs library deck.procedures number (record { exec = card; dds = dds }) ≡ Err cause
  by_runs (Program name) h = absurd cc
  by_runs (Procedure name symbols) h = by_found name symbols (found_of library lines statements deck name) refl h

pub call_refused : (library : List LibraryProcedure) (lines : List (List ℕ)) (statements : List Statement) (deck : Deck) (s : Statement) (card : ExecCard) (k : ℕ)
    (cause : Cause) (place : CalledPlace) → statements_in lines ≡ Ok statements → deck_of statements ≡ Ok deck → slice_get statements k ≡ Some s →
    operation_of s.operation ≡ IsExec → answer (exec_card s.name s.operand) ≡ Ok card → IsCalled library lines k cause (Some place) →
    (number : ℕ) (dds : List DdCard) → steps_by card.runs library deck.procedures number (record { exec = card; dds = dds }) ≡ Err cause
call_refused library lines statements deck s card k cause place read own there exec is h number dds =
    let calls : calling_of s ≡ calling_by card.name card.runs = rw (exec, is) refl in
    let so : called_by library lines k
    ≡ if_some (calling_by card.name card.runs) (λ calling. called_in calling (found_of library lines statements deck calling.procedure)) =
    rw (read, own, there, calls) refl in
    by_runs library lines statements deck card cause place number dds card.runs (subst (λ o. IsCalledFor o cause (Some place)) so h)
