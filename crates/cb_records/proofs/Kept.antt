-- What a write leaves as it was.
use Rattle.std.proofs.Common.{◌≡◌, ℕ, suc, ◌+◌, ◌-◌, ◌<◌, true, false, ◌||◌, ◌==◌, List, [], ◌∷◌}
use Rattle.std.proofs.Common.{length, drop, get_or, min, arith, refl, sym, ◌∙◌, ap, inl, inr, subst, length-drop}
use Rattle.std.specs.List.{list_any}
use Rattle.std.proofs.lemmas.Bool.{and_from, and_left, and_parts, and_right, cases_Bool, le-ltb, lt-leb, or_left}
use Rattle.std.proofs.lemmas.Grind.{same_number_lists}
use Rattle.std.proofs.lemmas.List.{get_or-drop, get_or-take, length-take}
use Rattle.cb_meaning.specs.declared.layout.Field.{Field}
use Rattle.cb_meaning.specs.Fields.{is_in, is_zero_but, part, zero_from}
use Rattle.cb_records.specs.Laws.{AreApart, IsCovered}
use Rattle.cb_records.specs.Writes.{ChangesOnly}

outside : (f g : Field) (k : ℕ) → k < g.width → AreApart f g → is_in f (g.at + k) ≡ false
outside f g k h apart =
    elim apart [
      | inl before ↦ and_right _ _ (le-ltb (g.at + k) (f.at + f.width) (omega arith))
      | inr behind ↦ and_left _ _ (lt-leb f.at (g.at + k) (omega arith))
    ]

length-part : (r : List ℕ) (at width : ℕ) → length (part r at width) ≡ min width (length r - at)
length-part r at width = length-take width (drop at r) ∙ ap (λ n. min width n) (length-drop at r)

byte_of_part : (r : List ℕ) (at width k : ℕ) → k < width → get_or (part r at width) k 0 ≡ get_or r (at + k) 0
byte_of_part r at width k h = get_or-take width (drop at r) k 0 h ∙ get_or-drop at r k 0

-- another field has the bytes that it had
pub part_stays : (f g : Field) (old new : List ℕ) → ChangesOnly f old new → AreApart f g → part new g.at g.width ≡ part old g.at g.width
part_stays f g old new change apart =
    let sizes : length (part new g.at g.width) ≡ length (part old g.at g.width) =
    length-part new g.at g.width ∙ ap (λ n. min g.width (n - g.at)) change.size ∙ sym (length-part old g.at g.width) in
    same_number_lists (part new g.at g.width) (part old g.at g.width) sizes (λ k h.
    let inside : k < g.width = (let size = length-part new g.at g.width in omega arith) in
    byte_of_part new g.at g.width k inside ∙ change.others (g.at + k) (outside f g k inside apart) ∙ sym (byte_of_part old g.at g.width k inside))

-- bytes that are zero outside of some fields stay so
zeros_stay : (f : Field) (named : List Field) (k : ℕ) (xs ys : List ℕ) → length ys ≡ length xs →
    ((m j : ℕ) → m ≡ k + j → is_in f m ≡ false → get_or ys j 0 ≡ get_or xs j 0) → IsCovered f named → zero_from named k xs ≡ true → zero_from named k ys ≡ true
zeros_stay f named k [] [] e others covered h = refl
zeros_stay f named k [] (y ∷ ys) e others covered h = absurd (omega arith)
zeros_stay f named k (x ∷ xs) [] e others covered h = absurd (omega arith)
zeros_stay f named k (x ∷ xs) (y ∷ ys) e others covered h =
    let parts = and_parts (list_any (λ g. is_in g k) named || x == 0) (zero_from named (k + 1) xs) h in
    let front : (list_any (λ g. is_in g k) named || y == 0) ≡ true =
    elim (cases_Bool (is_in f k)) [
      | inl within ↦ or_left _ _ (covered k within)
      | inr without ↦ (let P : ℕ → Type 0 = λ b. (list_any (λ g. is_in g k) named || b == 0) ≡ true in subst P (sym (others k 0 (omega arith) without)) parts.0)
    ] in
    and_from _ _ front (zeros_stay f named (k + 1) xs ys (omega arith) (λ m j at without. others m (suc j) (omega arith) without) covered parts.1)

pub unused_stay_zero : (f : Field) (named : List Field) (old new : List ℕ) → ChangesOnly f old new → IsCovered f named → is_zero_but named old ≡ true →
    is_zero_but named new ≡ true
unused_stay_zero f named old new change covered h =
    zeros_stay f named 0 old new change.size (λ m j at without. let P : ℕ →
    Type 0 = λ n. get_or new n 0 ≡ get_or old n 0 in subst P (omega arith) (change.others m without)) covered h
