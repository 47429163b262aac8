-- The statement of a called procedure begins on one of the lines on which the procedure stands.
use Rattle.std.proofs.Common.{◌≡◌, ◌∷◌, ◌∙◌, ◌⊎◌, inl, inr, ◌<◌, ℕ, zero, suc, ◌+◌, Bool, false, List, [], Option, None, Some, Result, Ok, Err, ap, arith, get_or, length, map, refl, slice_get, subst, sym}
use Rattle.std.proofs.lemmas.List.{length-map}
use Rattle.std.proofs.lemmas.Option.{slice_get-get_or, slice_get_within}
use Rattle.card_core.specs.declared.statement.Statement.{Statement}
use Rattle.card_core.specs.Cards.{filled}
use Rattle.card_core.specs.Deck.{Card}
use Rattle.jcl_deck.specs.declared.deck.Procedure.{Procedure}
use Rattle.jcl_deck.specs.Decks.{deck_of}
use Rattle.jcl_job.specs.Jobs.{statements_in}
use Rattle.jcl_plan.specs.declared.fault.Cause.{Cause}
use Rattle.jcl_procs.specs.Expansions.{Body, body_of, in_deck}
use Rattle.proc_library.specs.declared.library.LibraryProcedure.{LibraryProcedure}
use Rattle.proc_library.specs.Libraries.{in_library}
use Rattle.deck_places.specs.Called.{Called, Found, IsCalled, IsCalledFor, IsCalledPlace, behind_proc, called_among, called_by, calling_of, found_behind, found_by, found_of, found_on, if_ok, if_some, lines_by, lines_in, lines_of, proc_of}
use Rattle.deck_places.specs.Cards.{Walk, bad_line, step_of, walk_by, walk_from, walk_in, walk_of}
use Rattle.deck_places.specs.declared.called.CalledPlace.{CalledPlace}
use Rattle.deck_places.specs.declared.walk.Step.{Step}
use Rattle.deck_places.specs.declared.walk.Step.TheVariants.{Begins, Over, Passed, Refused}

-- a statement begins on a card
begun_turn : (step : Step) (called : Bool) (at more : ℕ) (next : Bool → ℕ → Walk) →
    ((c : Bool) (used k n : ℕ) → slice_get (next c used).begun k ≡ Some n → n < at + 1 + more) →
    (k n : ℕ) → slice_get (walk_by at step called next).begun k ≡ Some n → n < at + suc more
begun_turn Over called at more next below k n e = absurd cc
begun_turn Passed called at more next below k n e = let h : n < at + 1 + more = below called 0 k n e in omega arith
begun_turn (Begins c used) called at more next below zero n e = let h : at ≡ n = cc in omega arith
begun_turn (Begins c used) called at more next below (suc k) n e = let h : n < at + 1 + more = below c used k n e in omega arith
begun_turn (Refused count) called at more next below zero n e = let h : at ≡ n = cc in omega arith
begun_turn (Refused count) called at more next below (suc k) n e = absurd cc

begun_within : (called : Bool) (at used : ℕ) (cards : List Card) (k n : ℕ) → slice_get (walk_from called at used cards).begun k ≡ Some n → n < at + length cards
begun_within called at used [] k n e = absurd cc
begun_within called at (suc used) (card ∷ cards) k n e =
    let h : n < at + 1 + length cards = begun_within called (at + 1) used cards k n e in omega arith
begun_within called at zero (card ∷ cards) k n e =
    begun_turn (step_of called card cards) called at (length cards) (λ c used. walk_from c (at + 1) used cards)
    (λ c used i m h. begun_within c (at + 1) used cards i m h) k n e

on_lines : (lines : List (List ℕ)) (k n : ℕ) → slice_get (walk_of lines).begun k ≡ Some n → n < length lines
on_lines lines k n e = by (bad_line lines) e
  where
    by : (bad : Option ℕ) → slice_get (walk_in bad lines).begun k ≡ Some n → n < length lines
    by (Some m) e = absurd cc
    by None e =
        let h : n < 0 + length (map filled lines) = begun_within false 0 0 (map filled lines) k n e in
        let same : length (map filled lines) ≡ length lines = length-map lines filled in omega arith

-- what leads to a value
pub from_ok : {A B : Type 0} (r : Result A Cause) (next : A → Option B) (b : B) → if_ok r next ≡ Some b → (a : A) × (r ≡ Ok a) × (next a ≡ Some b)
from_ok (Ok a) next b e = (a, refl, e)
from_ok (Err cause) next b e = absurd cc

pub from_some : {A B : Type 0} (o : Option A) (next : A → Option B) (b : B) → if_some o next ≡ Some b → (a : A) × (o ≡ Some a) × (next a ≡ Some b)
from_some (Some a) next b e = (a, refl, e)
from_some None next b e = absurd cc

-- a procedure that is found in the deck, or in the session
record IsOfDeck (lines : List (List ℕ)) (found : Found) : Type 0 where
  proc : ℕ
  so : found.proc ≡ Some proc
  first : found.first ≡ proc + 1
  stands : found.lines ≡ lines

record IsOfSession (library : List LibraryProcedure) (name : List ℕ) (found : Found) : Type 0 where
  so : found.proc ≡ None
  stands : found.lines ≡ lines_in (in_library library name)

module _ (library : List LibraryProcedure) (lines : List (List ℕ)) (statements : List Statement) (name : List ℕ) (found : Found) where
  of_deck : (p : Procedure) → if_some (proc_of name statements) (λ n. Some (found_behind lines p n)) ≡ Some found → IsOfDeck lines found
  of_deck p e =
      let at = from_some (proc_of name statements) (λ n. let o : Option Found = Some (found_behind lines p n) in o) found e in
      let is : found_behind lines p at.0 ≡ found = let h = at.2 in cc in
      record {
        proc = at.0;
        so = ap (λ (f : Found). f.proc) (sym is);
        first = ap (λ (f : Found). f.first) (sym is);
        stands = ap (λ (f : Found). f.lines) (sym is);
      }

  on_its_lines : (p : LibraryProcedure) (own : List Statement) → found_on p.lines own ≡ Some found → (found.proc ≡ None) × (found.lines ≡ p.lines)
  on_its_lines p own e =
      let make : Body → Found = λ body. record { body = body; proc = None; lines = p.lines; first = behind_proc own } in
      let at = from_ok (body_of own) (λ body. let o : Option Found = Some (make body) in o) found e in
      let is : make at.0 ≡ found = let h = at.2 in cc in
      (ap (λ (f : Found). f.proc) (sym is), ap (λ (f : Found). f.lines) (sym is))

  of_session : found_by library lines statements name None ≡ Some found → IsOfSession library name found
  of_session e =
      let p = from_some (in_library library name) (λ (p : LibraryProcedure). if_ok (statements_in p.lines) (found_on p.lines)) found e in
      let own = from_ok (statements_in p.0.lines) (found_on p.0.lines) found p.2 in
      let it = on_its_lines p.0 own.0 own.2 in
      record { so = it.0; stands = it.1 ∙ ap lines_in (sym p.1) }

  located : (p : Option Procedure) → found_by library lines statements name p ≡ Some found → IsOfDeck lines found ⊎ IsOfSession library name found
  located (Some p) e = inl (of_deck p e)
  located None e = inr (of_session e)

-- the procedure that a call finds
module _ (library : List LibraryProcedure) (lines : List (List ℕ)) (k : ℕ) (called : Called) where
  by_found : (calling : Called) → calling ≡ called → (statements : List Statement) (p : Option Procedure) →
      found_by library lines statements calling.calling.procedure p ≡ Some calling.found →
      IsOfDeck lines called.found ⊎ IsOfSession library called.calling.procedure called.found
  by_found calling is statements p e =
      subst (λ (c : Called). IsOfDeck lines c.found ⊎ IsOfSession library c.calling.procedure c.found) is
      (located library lines statements calling.calling.procedure calling.found p e)

  its_procedure : called_by library lines k ≡ Some called → IsOfDeck lines called.found ⊎ IsOfSession library called.calling.procedure called.found
  its_procedure e =
      let statements = from_ok (statements_in lines) (λ statements. called_among library lines statements k) called e in
      let all = statements.0 in
      let deck = from_ok (deck_of all) _ called statements.2 in
      let s = from_some (slice_get all k) _ called deck.2 in
      let calling = from_some (calling_of s.0) _ called s.2 in
      let found = from_some (found_of library lines all deck.0 calling.0.procedure) _ called calling.2 in
      let is : record { calling = calling.0; found = found.0 } ≡ called = let h = found.2 in cc in
      by_found (record { calling = calling.0; found = found.0 }) is all (in_deck deck.0.procedures calling.0.procedure) found.1

-- its lines are those of its place
there : (lines : List (List ℕ)) (n : ℕ) → n < length lines → (line : List ℕ) × (slice_get lines n ≡ Some line)
there lines n within = (get_or lines n [], slice_get-get_or lines n [] within)

module _ (library : List LibraryProcedure) (lines : List (List ℕ)) (cause : Cause) (place : CalledPlace) (called : Called)
    (is : IsCalledPlace called cause place) where
  in_deck_lines : IsOfDeck lines called.found → lines_of library lines place ≡ called.found.lines
  in_deck_lines it =
      let begun = (walk_of called.found.lines).begun in
      let last = slice_get_within begun (called.found.first + place.statement) place.card is.card in
      let first = it.first in
      let within : it.proc < length begun = omega arith in
      let head : place.head ≡ Some (get_or begun it.proc 0) = is.head ∙ ap (λ o. if_some o (λ n. slice_get begun n)) it.so
      ∙ slice_get-get_or begun it.proc 0 within in
      ap (λ o. lines_by o lines (lines_in (in_library library place.procedure))) head ∙ sym it.stands

  in_session_lines : IsOfSession library called.calling.procedure called.found → lines_of library lines place ≡ called.found.lines
  in_session_lines it =
      let head : place.head ≡ None = is.head ∙ ap (λ o. if_some o (λ n. slice_get (walk_of called.found.lines).begun n)) it.so in
      ap (λ o. lines_by o lines (lines_in (in_library library place.procedure))) head
      ∙ ap (λ name. lines_in (in_library library name)) is.procedure ∙ sym it.stands

  its_lines : IsOfDeck lines called.found ⊎ IsOfSession library called.calling.procedure called.found → lines_of library lines place ≡ called.found.lines
  its_lines (inl it) = in_deck_lines it
  its_lines (inr it) = in_session_lines it

  on_its_line : IsOfDeck lines called.found ⊎ IsOfSession library called.calling.procedure called.found →
      (line : List ℕ) × (slice_get (lines_of library lines place) place.card ≡ Some line)
  on_its_line it =
      subst (λ l. (line : List ℕ) × (slice_get l place.card ≡ Some line)) (sym (its_lines it))
      (there called.found.lines place.card (on_lines called.found.lines (called.found.first + place.statement) place.card is.card))

pub on_a_line : (library : List LibraryProcedure) (lines : List (List ℕ)) (k : ℕ) (cause : Cause) (place : CalledPlace) →
    IsCalled library lines k cause (Some place) → (line : List ℕ) × (slice_get (lines_of library lines place) place.card ≡ Some line)
on_a_line library lines k cause place h = by (called_by library lines k) refl h
  where
    by : (o : Option Called) → called_by library lines k ≡ o → IsCalledFor o cause (Some place) →
        (line : List ℕ) × (slice_get (lines_of library lines place) place.card ≡ Some line)
    by None e h = absurd cc
    by (Some called) e h = on_its_line library lines cause place called h (its_procedure library lines k called e)
