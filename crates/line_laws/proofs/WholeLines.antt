-- The whole lines of a text that lines make up, one after another.
use Rattle.std.proofs.Common.{◌≡◌, ◌⊎◌, inl, inr, ◌++◌, ℕ, suc, cond, List, [], ◌∷◌, map, take, append-nil, append_assoc, refl, sym, ap, ◌∙◌, subst}
use Rattle.std.specs.Prelude.{◌≢◌}
use Rattle.std.specs.List.{flat_map}
use Rattle.std.proofs.lemmas.Bool.{ne_eqb}
use Rattle.std.proofs.lemmas.List.Elements.{All-cons, All-head, All-nil, All-tail}
use Rattle.jcl_plan.specs.declared.entry.Entry.{Entry}
use Rattle.jcl_plan.specs.Lines.{entry_text, text_of}
use Rattle.line_laws.specs.Lines.{lines_from, whole_lines}
use Rattle.line_laws.specs.LineLaws.{LinesAreTexts, WholeTextIsLines}
use Rattle.line_laws.specs.Printable.{IsPrintableEntry}
use Rattle.line_laws.proofs.Cuts.{IsWithout, two_cuts}
use Rattle.line_laws.proofs.Printables.{no_feed}

-- a byte that is no line feed
goes_on : (begun : List ℕ) (c : ℕ) (text : List ℕ) → c ≢ 10 → lines_from begun (c ∷ text) ≡ lines_from (begun ++ c ∷ []) text
goes_on begun c text h = ap (λ b. cond b (begun ∷ lines_from [] text) (lines_from (begun ++ c ∷ []) text)) (ne_eqb c 10 h)

-- a line that is ended
ended : (begun text rest : List ℕ) → IsWithout 10 text → lines_from begun (text ++ 10 ∷ rest) ≡ (begun ++ text) ∷ whole_lines rest
ended begun [] rest h = ap (λ l. l ∷ whole_lines rest) (sym (append-nil begun))
ended begun (c ∷ text) rest h =
    goes_on begun c (text ++ 10 ∷ rest) (All-head (λ d. d ≢ 10) c text h)
    ∙ ended (begun ++ c ∷ []) text rest (All-tail (λ d. d ≢ 10) c text h)
    ∙ ap (λ l. l ∷ whole_lines rest) (append_assoc begun (c ∷ []) text)

-- and one that is not
begun_only : (begun text : List ℕ) → IsWithout 10 text → lines_from begun text ≡ []
begun_only begun [] h = refl
begun_only begun (c ∷ text) h =
    goes_on begun c text (All-head (λ d. d ≢ 10) c text h) ∙ begun_only (begun ++ c ∷ []) text (All-tail (λ d. d ≢ 10) c text h)

-- a front of a text without such a byte
pub front_without : (c : ℕ) (x v : List ℕ) → IsWithout c (x ++ v) → IsWithout c x
front_without c [] v h = All-nil (λ d. d ≢ c)
front_without c (a ∷ x) v h =
    All-cons (λ d. d ≢ c) a x (All-head (λ d. d ≢ c) a (x ++ v) h) (front_without c x v (All-tail (λ d. d ≢ c) a (x ++ v) h))

-- the first of a listing's lines, before the others
pub first_then : (e : Entry) (es : List Entry) → flat_map text_of (e ∷ es) ≡ entry_text e ++ 10 ∷ flat_map text_of es
first_then e es = append_assoc (entry_text e) (10 ∷ []) (flat_map text_of es)

pub whole_text_is_lines : WholeTextIsLines
whole_text_is_lines [] all = refl
whole_text_is_lines (e ∷ es) all =
    ap whole_lines (first_then e es)
    ∙ ended [] (entry_text e) (flat_map text_of es) (no_feed e (All-head IsPrintableEntry e es all))
    ∙ ap (λ ls. entry_text e ∷ ls) (whole_text_is_lines es (All-tail IsPrintableEntry e es all))

pub lines_are_texts : LinesAreTexts
lines_are_texts [] [] behind all e = (0, refl)
lines_are_texts [] (c ∷ written) behind all e = absurd cc
lines_are_texts (e ∷ es) written behind all so =
    by (λ v rest. lines_are_texts es v behind (All-tail IsPrintableEntry e es all) rest)
    (two_cuts (entry_text e) 10 (flat_map text_of es) written behind (sym (first_then e es) ∙ so))
  where
    bare : IsWithout 10 (entry_text e)
    bare = no_feed e (All-head IsPrintableEntry e es all)

    more : (v : List ℕ) → written ≡ entry_text e ++ 10 ∷ v → (count : ℕ) × (whole_lines v ≡ map entry_text (take count es)) →
        (count : ℕ) × (whole_lines written ≡ map entry_text (take count (e ∷ es)))
    more v w n =
        (suc n.0, ap whole_lines w ∙ ended [] (entry_text e) v bare ∙ ap (λ ls. entry_text e ∷ ls) n.1)

    by : ((v : List ℕ) → flat_map text_of es ≡ v ++ behind → (count : ℕ) × (whole_lines v ≡ map entry_text (take count es))) →
        ((v : List ℕ) × (entry_text e ≡ written ++ v)) ⊎ ((v : List ℕ) × (written ≡ entry_text e ++ 10 ∷ v) × (flat_map text_of es ≡ v ++ behind)) →
        (count : ℕ) × (whole_lines written ≡ map entry_text (take count (e ∷ es)))
    by fewer (inl s) = (0, begun_only [] written (front_without 10 written s.0 (subst (IsWithout 10) s.1 bare)))
    by fewer (inr s) = more s.0 s.1 (fewer s.0 s.2)
