-- A deck that is not cut.
use Rattle.std.proofs.Common.{◌≡◌, ◌∷◌, ◌∙◌, ◌<◌, ◌-◌, ◌||◌, ℕ, Bool, List, [], length, nat_lt, refl, ap, true, arith}
use Rattle.card_core.specs.declared.statement.Statement.{Statement}
use Rattle.proc_library.specs.declared.library.LibraryProcedure.{LibraryProcedure}
use Rattle.deck_places.specs.Cuts.{cut_from, inside_behind, keeps, refuses}
use Rattle.deck_places.specs.declared.part.Part.{Part}

pub uncut : (inside : Bool) (statements : List Statement) → cut_from inside (length statements) statements ≡ statements
uncut inside [] = refl
uncut inside (s ∷ statements) =
    let first : nat_lt 0 (length (s ∷ statements)) ≡ true = grind arith in
    let left : length (s ∷ statements) - 1 ≡ length statements = omega arith in
    (λ i. keeps (first i || inside || inside_behind s inside) s (cut_from (inside_behind s inside) (left i) statements))
    ∙ ap (λ l. s ∷ l) (uncut (inside_behind s inside) statements)

-- no statements are no deck, and so refused by no later part
pub some_statement : (part : Part) (units : List (List ℕ)) (library : List LibraryProcedure) (statements : List Statement) →
    refuses part units library statements ≡ true → 0 < length statements
some_statement part units library [] h = absurd cc
some_statement part units library (s ∷ statements) h = omega arith
