-- A deck is judged as its statements are.
use Rattle.std.proofs.Common.{◌≡◌, List, ℕ, Err, Ok, Result, refl}
use Rattle.std.specs.Prelude.{IfOk, Some}
use Rattle.std.proofs.lemmas.Result.{IfOk-weaker}
use Rattle.card_core.specs.declared.fault.CardFault.{CardFault}
use Rattle.card_core.specs.declared.statement.Statement.{Statement}
use Rattle.card_core.specs.Deck.{statements_of}
use Rattle.card_core.specs.RefusalNumbers.{number_of}
use Rattle.jcl_plan.specs.declared.fault.Cause.TheVariants.{C}
use Rattle.proc_library.specs.declared.library.LibraryProcedure.{LibraryProcedure}
use Rattle.deck_places.specs.Cards.{walk_of}
use Rattle.deck_places.specs.Judging.{AreJudged}
use Rattle.deck_places.specs.Places.{IsJudged}
use Rattle.deck_places.specs.declared.judge.At.TheVariants as place
use Rattle.deck_places.specs.declared.judge.Judged.{Judged}
use Rattle.deck_places.specs.declared.judge.Judged.TheVariants.{Refused, Taken}

module _ (units : List (List ℕ)) (library : List LibraryProcedure) (lines : List (List ℕ)) (statements : List Statement) (read : statements_of lines ≡ Ok statements) where
  judged_so : (judged : Judged) → AreJudged units library statements judged → IsJudged units library lines judged
  judged_so (Taken plan origins) h = (rw read h.0, rw (read, h.1.so, h.1.flat, h.1.from) refl)
  judged_so (Refused cause at) h = rw read h

  pub all_so : {E : Type 0} (r : Result Judged E) → IfOk r (AreJudged units library statements) → IfOk r (IsJudged units library lines)
  all_so r h = IfOk-weaker r (AreJudged units library statements) (IsJudged units library lines) judged_so h

pub card_so : (units : List (List ℕ)) (library : List LibraryProcedure) (lines : List (List ℕ)) (fault : CardFault) (number n : ℕ) →
    statements_of lines ≡ Err fault → number ≡ number_of fault → (walk_of lines).refused ≡ Some n →
    IsJudged units library lines (Refused (C number) (place.Card n))
card_so units library lines fault number n read is at = rw (read, is) (refl, (n, refl, at))
