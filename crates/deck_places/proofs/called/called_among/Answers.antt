use Rattle.std.proofs.Common.{◌≡◌, ◌∙◌, None, Ok, Some, ap, length, ltb-true, refl, slice_get, subst, sym}
use Rattle.std.proofs.lemmas.Option.{slice_get_read}
use Rattle.std.specs.Prelude.{IfOk}
use Rattle.jcl_deck.specs.Decks.{deck_of}
use Rattle.jcl_procs.specs.Expansions.{in_deck}
use Rattle.deck_places.specs.Called.{IsCalledFor, calling_of}
use Rattle.deck_places.proofs.Finding.{among_so, is_ok}
use Rattle.deck_places.proofs.Standing.{stands_among}
use Rattle.deck_places.proofs.called.called_among.Goals as goal

pub called_in_deck-requires-clause-stands : goal.called_in_deck-requires-clause-stands
called_in_deck-requires-clause-stands c =
    let deck = c.in-Some.deck in
    let name = c.in-Some-2.calling.procedure in
    let read : deck_of c.args.statements.now ≡ Ok deck = is_ok (deck_of c.args.statements.now) deck (sym c.in-Some.is ∙ c.in_ok-deck.ensures) in
    let found : in_deck deck.procedures name ≡ Some c.in-Some-in_deck.procedure.now = ap (λ l. in_deck l name) (sym c.as_slice.ensures)
    ∙ sym c.in-Some-in_deck.ensures in
    stands_among c.args.statements.now deck name c.in-Some-in_deck.procedure.now read found

pub returns-in-Some-in_deck : goal.returns-in-Some-in_deck
returns-in-Some-in_deck c =
    let statements = c.args.statements.now in
    let deck = c.in-Some.deck in
    let s = c.in-Some-get.statement.now in
    let calling = c.in-Some-2.calling in
    let p = c.in-Some-in_deck.procedure.now in
    let one = c.in-Some-get.ensures.lookup in
    let there : slice_get statements c.args.k ≡ Some s
    = slice_get_read statements (length statements) c.args.k s refl (ltb-true c.args.k (length statements) (sym one.0)) one.1 in
    let read : deck_of statements ≡ Ok deck = is_ok (deck_of statements) deck (sym c.in-Some.is ∙ c.in_ok-deck.ensures) in
    let calls : calling_of s ≡ Some calling = sym c.in_ok-calling.ensures ∙ c.in-Some-2.is in
    let found : in_deck deck.procedures calling.procedure ≡ Some p = ap (λ l. in_deck l calling.procedure) (sym c.as_slice.ensures)
    ∙ sym c.in-Some-in_deck.ensures in
    subst (λ called. IfOk c.called_in_deck.result (IsCalledFor called c.args.cause))
    (sym (among_so c.args.library.now c.args.lines.now statements c.args.k deck s calling (Some p) read there calls found)) c.called_in_deck.ensures

pub returns : goal.returns
returns c =
    let statements = c.args.statements.now in
    let deck = c.in-Some.deck in
    let s = c.in-Some-get.statement.now in
    let calling = c.in-Some-2.calling in
    let one = c.in-Some-get.ensures.lookup in
    let there : slice_get statements c.args.k ≡ Some s
    = slice_get_read statements (length statements) c.args.k s refl (ltb-true c.args.k (length statements) (sym one.0)) one.1 in
    let read : deck_of statements ≡ Ok deck = is_ok (deck_of statements) deck (sym c.in-Some.is ∙ c.in_ok-deck.ensures) in
    let calls : calling_of s ≡ Some calling = sym c.in_ok-calling.ensures ∙ c.in-Some-2.is in
    let found : in_deck deck.procedures calling.procedure ≡ None = ap (λ l. in_deck l calling.procedure) (sym c.as_slice.ensures) ∙ sym c.in-None.ensures in
    subst (λ called. IfOk c.called_in_session.result (IsCalledFor called c.args.cause))
    (sym (among_so c.args.library.now c.args.lines.now statements c.args.k deck s calling None read there calls found)) c.called_in_session.ensures
