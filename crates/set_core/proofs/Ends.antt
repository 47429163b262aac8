-- Texts one after another, by where they end.
use Rattle.std.proofs.Common.{◌≡◌, ℕ, zero, suc, ◌+◌, ◌-◌, ◌≤◌, ◌<◌, List, [], ◌∷◌, ◌++◌, length, get_or, take, drop, Some, None, refl, ap, ◌∙◌, sym, subst, arith}
use Rattle.std.specs.List.{slice_get}
use Rattle.std.proofs.lemmas.List.{drop-append-le, take-append-le, length-drop}
use Rattle.std.proofs.Math.Seq.{take-length, drop-append_seam}
use Rattle.set_core.specs.Texts.{AreEnds, filled, records_from, start_of}

pub rising : (start last : ℕ) (ends : List ℕ) → AreEnds start last ends → start ≤ last
rising start last [] h = omega (arith, h)
rising start last (end ∷ ends) h = omega (arith, h.0, rising end last ends h.2)

-- one text more
pub one_more_end : (start last more : ℕ) (ends : List ℕ) → more ≤ 80 → AreEnds start last ends → AreEnds start (last + more) (ends ++ (last + more) ∷ [])
one_more_end start last more [] few h = (omega (arith, h), omega (arith, h, few), refl)
one_more_end start last more (end ∷ ends) few h = (h.0, h.1, one_more_end end last more ends few h.2)

whole : (t : List ℕ) (n : ℕ) → n ≡ length t → take n t ≡ t
whole t n e = rw e (take-length t)

last_text : (start : ℕ) (text t : List ℕ) → start ≡ length text → take (length text + length t - start) (drop start (text ++ t)) ≡ t
last_text start text t h =
    subst (λ (k : ℕ). take (length text + length t - k) (drop k (text ++ t)) ≡ t) (sym h)
    (ap (take (length text + length t - length text)) (drop-append_seam text t) ∙ whole t (length text + length t - length text) (omega arith))

pub one_more_record : (start : ℕ) (text t ends : List ℕ) → AreEnds start (length text) ends →
    records_from start (text ++ t) (ends ++ (length text + length t) ∷ []) ≡ records_from start text ends ++ filled t ∷ []
one_more_record start text t [] h =
    ap (λ (u : List ℕ). filled u ∷ []) (last_text start text t h)
one_more_record start text t (end ∷ ends) h =
    let within : end ≤ length text = rising end (length text) ends h.2 in
    let same : take (end - start) (drop start (text ++ t)) ≡ take (end - start) (drop start text)
    = rw (drop-append-le start text t (omega (arith, h.0, within))) (take-append-le (end - start) (drop start text) t (omega (arith, length-drop start text, within, h.0))) in
    ap (λ (u : List ℕ). filled u ∷ records_from end (text ++ t) (ends ++ (length text + length t) ∷ [])) same
    ∙ ap (λ (rs : List (List ℕ)). filled (take (end - start) (drop start text)) ∷ rs) (one_more_record end text t ends h.2)

pub as_many : (start : ℕ) (text ends : List ℕ) → length (records_from start text ends) ≡ length ends
as_many start text [] = refl
as_many start text (end ∷ ends) = ap suc (as_many end text ends)

-- where a text begins and ends
pub begins : (start place : ℕ) (ends : List ℕ) → suc place < length ends → start_of start ends (suc place) ≡ get_or ends place 0
begins start place [] h = absurd (omega (arith, h))
begins start zero (end ∷ ends) h = refl
begins start (suc place) (end ∷ ends) h = begins end place ends (omega (arith, h))

pub begins_above : (place : ℕ) (ends : List ℕ) → (place ≡ 0 → ⊥) → place < length ends → start_of 0 ends place ≡ get_or ends (place - 1) 0
begins_above zero ends h within = absurd (h refl)
begins_above (suc place) ends h within =
    let one : suc place - 1 ≡ place = omega arith in
    begins 0 place ends within ∙ ap (λ (k : ℕ). get_or ends k 0) (sym one)

pub lies : (start last place : ℕ) (ends : List ℕ) → AreEnds start last ends → place < length ends →
    (start_of start ends place ≤ get_or ends place 0) × (get_or ends place 0 ≤ start_of start ends place + 80) × (get_or ends place 0 ≤ last)
lies start last place [] h within = absurd (omega (arith, within))
lies start last zero (end ∷ ends) h within = (h.0, h.1, rising end last ends h.2)
lies start last (suc place) (end ∷ ends) h within = lies end last place ends h.2 (omega (arith, within))

pub record_at : (start place : ℕ) (text ends : List ℕ) → place < length ends →
    slice_get (records_from start text ends) place
    ≡ Some (filled (take (get_or ends place 0 - start_of start ends place) (drop (start_of start ends place) text)))
record_at start place text [] within = absurd (omega (arith, within))
record_at start zero text (end ∷ ends) within = refl
record_at start (suc place) text (end ∷ ends) within = record_at end place text ends (omega (arith, within))

pub no_record_at : (start place : ℕ) (text ends : List ℕ) → length ends ≤ place → slice_get (records_from start text ends) place ≡ None
no_record_at start place text [] within = refl
no_record_at start zero text (end ∷ ends) within = absurd (omega (arith, within))
no_record_at start (suc place) text (end ∷ ends) within = no_record_at end place text ends (omega (arith, within))
