-- What is found of a statement is added to what is found of those before it.
use Rattle.std.proofs.Common.{◌≡◌, ◌∷◌, ◌+◌, ◌||◌, ℕ, Bool, true, false, List, Option, ap, ◌∙◌, drop, get_or, length, ◌<◌, subst, sym, refl, arith}
use Rattle.std.proofs.lemmas.List.{at_drop_more}
use Rattle.mvt_check.specs.declared.answers.answer.Answer.{Answer}
use Rattle.proc_library.specs.declared.library.LibraryProcedure.{LibraryProcedure}
use Rattle.session_text.specs.declared.statement.Statement.{Statement}
use Rattle.mvt_check.specs.Checking.{AddsAll, AddsSaid, is_refused, is_risk, one, refused_decks, risks_in, some_refused, AddsStatements, deck_for, decks_left}
use Rattle.mvt_check.specs.declared.answers.answer.Answers.{Answers}
use Rattle.mvt_check.specs.declared.answers.answer.DeckRead.{DeckRead}

module _ (units : List (List ℕ)) (library : List LibraryProcedure) (statements : List Statement) (n : ℕ) (s : Statement)
    (cut : drop n statements ≡ s ∷ drop (n + 1) statements) where
  pub adds_on : (answers : Answers) (decks left : List DeckRead) (deck : Option DeckRead) (above : ℕ) (old now new : List ℕ) →
      deck ≡ deck_for decks n → left ≡ decks_left decks n → AddsSaid units library answers deck above s.line s.says now new →
      ((last : List ℕ) → AddsAll units library answers decks above n (drop n statements) now last → AddsStatements units library answers above statements old last) →
      (last : List ℕ) → AddsAll units library answers left above (n + 1) (drop (n + 1) statements) new last →
      AddsStatements units library answers above statements old last
  adds_on answers decks left deck above old now new its behind said before last h =
      before last (subst (λ l. AddsAll units library answers decks above n l now last) (sym cut) (
        new,
        subst (λ d. AddsSaid units library answers d above s.line s.says now new) its said,
        subst (λ d. AddsAll units library answers d above (n + 1) (drop (n + 1) statements) new last) behind h,
      ))

  either : (a b c : Bool) → (a || (b || c)) ≡ (a || b || c)
  either true b c = refl
  either false b c = refl

  some_of : (one : Statement) (more : List Statement) →
      some_refused units library (one ∷ more) ≡ (is_refused units library one.says || some_refused units library more)
  some_of one more = refl

  pub refused_on : (refused own both : Bool) → some_refused units library statements ≡ (refused || some_refused units library (drop n statements)) →
      own ≡ is_refused units library s.says → both ≡ (refused || own) →
      some_refused units library statements ≡ (both || some_refused units library (drop (n + 1) statements))
  refused_on refused own both before is joined =
      before ∙ ap (λ l. refused || some_refused units library l) cut
      ∙ ap (λ b. refused || b) (some_of s (drop (n + 1) statements))
      ∙ either refused (is_refused units library s.says) (some_refused units library (drop (n + 1) statements))
      ∙ ap (λ b. (refused || b) || some_refused units library (drop (n + 1) statements)) (sym is)
      ∙ ap (λ b. b || some_refused units library (drop (n + 1) statements)) (sym joined)

  pub counted_on : (count : ℕ) (own : Bool) (number : ℕ) → refused_decks units library statements ≡ count + refused_decks units library (drop n statements) →
      own ≡ is_refused units library s.says → number ≡ one own →
      refused_decks units library statements ≡ count + number + refused_decks units library (drop (n + 1) statements)
  counted_on count own number before is counted =
      let here : refused_decks units library (drop n statements) ≡ one (is_refused units library s.says) + refused_decks units library (drop (n + 1) statements) =
      ap (refused_decks units library) cut in
      let same : number ≡ one (is_refused units library s.says) = counted ∙ ap one is in
      omega (arith, before, here, same)

pub risks_on : (answers : List (Option Answer)) (n : ℕ) (a : Option Answer) → drop n answers ≡ a ∷ drop (n + 1) answers →
    (count : ℕ) (is : Bool) (number : ℕ) → risks_in answers ≡ count + risks_in (drop n answers) → is ≡ is_risk a → number ≡ one is →
    risks_in answers ≡ count + number + risks_in (drop (n + 1) answers)
risks_on answers n a cut count is number before its counted =
    let here : risks_in (drop n answers) ≡ one (is_risk a) + risks_in (drop (n + 1) answers) = ap risks_in cut in
    let same : number ≡ one (is_risk a) = counted ∙ ap one its in
    omega (arith, before, here, same)

pub answer_at : (answers : List (Option Answer)) (n : ℕ) (a : Option Answer) → n < length answers → a ≡ get_or answers n a →
    drop n answers ≡ a ∷ drop (n + 1) answers
answer_at answers n a within is = at_drop_more (λ xs. xs) answers n a within ∙ ap (λ x. x ∷ drop (n + 1) answers) (sym is)
