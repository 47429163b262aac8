use Rattle.std.proofs.Common.{◌≡◌, ℕ, List, [], ◌∷◌, ◌++◌, codes, decimal, lit<, sym, ap, ◌∙◌}
use Rattle.std.proofs.lemmas.Fmt.{decimal_digit}
use Rattle.session_core.proofs.listing.Listing.add_past_limit.Goals as goal

pub returns-clause-ok : goal.returns-clause-ok
returns-clause-ok c =
    let before = c.args.self.now.text.kept in
    let kept : c.push.new.self.kept ≡ before = c.push.ensures.kept ∙ c.discard.ensures.kept in
    let begun : c.push.new.self.begun ≡ codes "-- REFUSED A5\n" =
    c.in_ok-push.ensures.ok ∙ ap (λ (b : List ℕ). b ++ codes "-- REFUSED A5\n") c.discard.ensures.begun in
    let five : decimal 5 ≡ 53 ∷ [] = decimal_digit 5 (lit< tt) in
    c.keep.ensures.kept
    ∙ ap (λ (k : List ℕ). k ++ c.push.new.self.begun) kept
    ∙ ap (λ (b : List ℕ). before ++ b) begun
    ∙ ap (λ (d : List ℕ). before ++ (codes "-- REFUSED A" ++ ((d ++ 10 ∷ []) ++ []))) (sym five)
