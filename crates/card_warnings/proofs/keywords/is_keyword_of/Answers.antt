use Rattle.std.proofs.Common.{◌≡◌, ◌∙◌, Bool, List, [], ◌∷◌, map, ap, refl, sym}
use Rattle.std.specs.Prelude.{◌||◌, ◌&&◌}
use Rattle.std.specs.List.{list_any}
use Rattle.std.specs.Str.{bytes_eq}
use Rattle.card_warnings.specs.Keywords.{keywords_of}
use Rattle.card_warnings.proofs.keywords.is_keyword_of.Goals as goal

any_of_map : {X Y : Type 0} (f : X → Y) (p : Y → Bool) (xs : List X) → list_any (λ x. p (f x)) xs ≡ list_any p (map f xs)
any_of_map f p [] = refl
any_of_map f p (x ∷ xs) = ap (λ (b : Bool). p (f x) || b) (any_of_map f p xs)

pub returns-then-has_keywords : goal.returns-then-has_keywords
returns-then-has_keywords c =
    let word = c.args.word.now in
    let operation = c.args.operation.now in
    c.is_among.ensures ∙ any_of_map (λ w. w.now) (λ k. bytes_eq k word) c.keywords_of.result.now
    ∙ ap (list_any (λ k. bytes_eq k word)) c.keywords_of.ensures
    ∙ ap (λ (b : Bool). b && list_any (λ k. bytes_eq k word) (keywords_of operation)) (sym (sym c.has_keywords.ensures ∙ c.if-has_keywords.true))
