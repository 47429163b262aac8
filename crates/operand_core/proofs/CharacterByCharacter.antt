-- the parts of an operand, character by character
use Rattle.std.proofs.Common.{◌≡◌, ℕ, ◌+◌, ◌<◌, Bool, true, false, cond, List, [], ◌∷◌, ◌++◌, length, take, drop, get_or, Option, Some, None, refl, ap, ◌∙◌}
use Rattle.std.specs.List.{onto_first}
use Rattle.std.proofs.lemmas.List.{at_drop_more, append-nil}
use Rattle.card_core.specs.Fields.{quoted_after}
use Rattle.operand_core.specs.Operands.{parts_from, places_of, ends_part, depth_after}

-- parts whose first stands behind what was read before
abbrev pub behind_front : List ℕ → List (List ℕ) → List (List ℕ)
behind_front before [] = before ∷ []
behind_front before (part ∷ parts) = (before ++ part) ∷ parts

behind_front-onto : (c : ℕ) (parts : List (List ℕ)) → behind_front [] (onto_first c parts) ≡ onto_first c parts
behind_front-onto c [] = refl
behind_front-onto c (part ∷ parts) = refl

behind_front-either : (ends : Bool) (c : ℕ) (others parts : List (List ℕ)) → behind_front [] (cond ends ([] ∷ others) (onto_first c parts)) ≡ cond ends ([] ∷ others) (onto_first c parts)
behind_front-either true c others parts = refl
behind_front-either false c others parts = behind_front-onto c parts

-- nothing was read before the first character
pub behind_front-start : (quoted : Bool) (depth : ℕ) (text : List ℕ) → behind_front [] (parts_from quoted depth text) ≡ parts_from quoted depth text
behind_front-start quoted depth [] = refl
behind_front-start quoted depth (c ∷ cs) =
    behind_front-either (ends_part quoted depth c) c (parts_from false 0 cs) (parts_from (quoted_after quoted c) (depth_after quoted depth c) cs)

-- the comma that ends the first part
pub behind_front-ends : (quoted : Bool) (depth at : ℕ) (text : List ℕ) → at < length text → ends_part quoted depth (get_or text at 0) ≡ true →
    behind_front (take at text) (parts_from quoted depth (drop at text)) ≡ take at text ∷ places_of (drop (at + 1) text)
behind_front-ends quoted depth at text lt ends =
    at_drop_more (λ rest. behind_front (take at text) (parts_from quoted depth rest)) text at 0 lt
    ∙ ap (λ b. behind_front (take at text) (cond b ([] ∷ places_of (drop (at + 1) text)) (onto_first (get_or text at 0) (parts_from (quoted_after quoted (get_or text at 0)) (depth_after quoted depth (get_or text at 0)) (drop (at + 1) text))))) ends
    ∙ ap (λ part. part ∷ places_of (drop (at + 1) text)) (append-nil (take at text))

-- a text behind what was read before
abbrev pub text_behind : List ℕ → Option (List ℕ) → Option (List ℕ)
text_behind before None = None
text_behind before (Some text) = Some (before ++ text)
