-- a keyword that stands twice, by its spelling
use Rattle.std.proofs.Common.{◌≡◌, ℕ, ◌+◌, ◌<◌, Bool, List, [], ◌∷◌, length, drop, get_or, map, ◌||◌, refl, sym, ap, ◌∙◌}
use Rattle.std.specs.Str.{bytes_eq}
use Rattle.std.proofs.lemmas.List.{drop_more}
use Rattle.operand_core.specs.Keywords.{has_key}
use Rattle.operand_core.specs.Operands.{Keyword}
use Rattle.jcl_cards.specs.declared.rules.Spelling.{Spelling}
use Rattle.jcl_cards.specs.Keywords.{stands_twice}
use Rattle.jcl_cards.specs.Reading.{has_spelled, spelled_by}

has_spelled_is : (spelling : Spelling) (key : List ℕ) (keywords : List Keyword) →
    has_spelled spelling key keywords ≡ has_key key (map (λ other. record { key = spelled_by spelling other.key; value = other.value }) keywords)
has_spelled_is spelling key [] = refl
has_spelled_is spelling key (k ∷ keywords) = ap (λ found. bytes_eq (spelled_by spelling k.key) key || found) (has_spelled_is spelling key keywords)

-- the first stands once more, or one of the others does
twice_more : (spelling : Spelling) (k : Keyword) (keywords : List Keyword) →
    stands_twice (spelled_by spelling) (k ∷ keywords) ≡ (has_spelled spelling (spelled_by spelling k.key) keywords || stands_twice (spelled_by spelling)
    keywords)
twice_more spelling k keywords =
    ap (λ found. found || stands_twice (spelled_by spelling) keywords) (sym (has_spelled_is spelling (spelled_by spelling k.key) keywords))

pub twice_here : (spelling : Spelling) (keywords behind : List Keyword) (at : ℕ) (k : Keyword) (key wanted : List ℕ) (found : Bool) → at < length keywords →
    k ≡ get_or keywords at k → behind ≡ drop (at + 1) keywords → key ≡ k.key → wanted ≡ spelled_by spelling key → found ≡ has_spelled spelling wanted behind →
    stands_twice (spelled_by spelling) (drop at keywords) ≡ (found || stands_twice (spelled_by spelling) (drop (at + 1) keywords))
twice_here spelling keywords behind at k key wanted found lt k_is behind_is key_is wanted_is found_is =
    let here = wanted_is ∙ ap (spelled_by spelling) key_is in
    ap (stands_twice (spelled_by spelling)) (drop_more keywords at k lt ∙ ap (λ first. first ∷ drop (at + 1) keywords) (sym k_is))
    ∙ twice_more spelling k (drop (at + 1) keywords)
    ∙ ap (λ one. one || stands_twice (spelled_by spelling) (drop (at + 1) keywords))
    (ap (λ w. has_spelled spelling w (drop (at + 1) keywords)) (sym here) ∙ ap (has_spelled spelling wanted) (sym behind_is) ∙ sym found_is)
