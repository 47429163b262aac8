-- The places that have a set, and the others.
use Rattle.std.proofs.Common.{get_or-set_other, length-set, ◌≡◌, ◌≢◌, ℕ, zero, suc, ◌<◌, ◌≤◌, ◌⊎◌, inl, inr, Bool, true, false, cond, List, [], ◌∷◌, ◌++◌, Some, All, length, get_or, take, drop, refl, sym, ap, ◌∙◌, subst, arith}
use Rattle.std.specs.Prelude.{slice_get, slice_set}
use Rattle.std.specs.List.{remove}
use Rattle.std.specs.Prelude.{◌==◌, ◌&&◌}
use Rattle.std.proofs.lemmas.Grind.{get_or-set_at}
use Rattle.std.proofs.lemmas.List.{length_push}
use Rattle.std.proofs.lemmas.Bool.{cases_eq, cases_Bool, cases_lt, eq-eqb}
use Rattle.std.proofs.lemmas.List.Elements.{All-cons, All-nil}
use Rattle.spool_core.specs.declared.spool.Place.{Place}
use Rattle.spool_core.specs.Places.{AreStarts, NoneBefore, filled_places, is_of}

-- the places that have a set, before and behind one of them
pub record Parts (places : List Place) (index : ℕ) (place : Place) : Type 0 where
  pub front : List Place
  pub behind : List Place
  pub whole : filled_places places ≡ front ++ place ∷ behind
  pub without : (q : Place) → q.filled ≡ false → filled_places (slice_set places index q) ≡ front ++ behind
  pub none : (class : ℕ) → NoneBefore class index places → All (λ (p : Place). p.class ≢ class) front

not_of : (class : ℕ) (p : Place) → p.filled ≡ true → is_of class p ≡ false → p.class ≢ class
not_of class p f e = λ same.
    let here : is_of class p ≡ true = (λ i. f i && eq-eqb p.class class same i) in
    let both : false ≡ true = sym e ∙ here in
    absurd (cc)

filled_first : (p : Place) (places : List Place) (b : Bool) → p.filled ≡ b → filled_places (p ∷ places) ≡ cond b (p ∷ filled_places places) (filled_places places)
filled_first p places b e = ap (λ b. cond b (p ∷ filled_places places) (filled_places places)) e

behind_filled : (p : Place) (places : List Place) (index : ℕ) (place : Place) → p.filled ≡ true → Parts places index place → Parts (p ∷ places) (suc index) place
behind_filled p places index place f r = record {
  front = p ∷ r.front;
  behind = r.behind;
  whole = filled_first p places true f ∙ ap (λ l. p ∷ l) r.whole;
  without = λ q e. filled_first p (slice_set places index q) true f ∙ ap (λ l. p ∷ l) (r.without q e);
  none = λ class n. All-cons (λ (x : Place). x.class ≢ class) p r.front (not_of class p f (n 0 p (omega arith) (omega arith))) (r.none class (λ k d h i. n (suc k) d (omega (arith, h)) (omega (arith, i))));
}

behind_empty : (p : Place) (places : List Place) (index : ℕ) (place : Place) → p.filled ≡ false → Parts places index place → Parts (p ∷ places) (suc index) place
behind_empty p places index place f r = record {
  front = r.front;
  behind = r.behind;
  whole = filled_first p places false f ∙ r.whole;
  without = λ q e. filled_first p (slice_set places index q) false f ∙ r.without q e;
  none = λ class n. r.none class (λ k d h i. n (suc k) d (omega (arith, h)) (omega (arith, i)));
}

behind_one : (p : Place) (places : List Place) (index : ℕ) (place : Place) → Parts places index place → Parts (p ∷ places) (suc index) place
behind_one p places index place r = by (cases_Bool p.filled)
  where
    by : (p.filled ≡ true) ⊎ (p.filled ≡ false) → Parts (p ∷ places) (suc index) place
    by (inl f) = behind_filled p places index place f r
    by (inr f) = behind_empty p places index place f r

pub parts : (places : List Place) (index : ℕ) (place : Place) → slice_get places index ≡ Some place → place.filled ≡ true → Parts places index place
parts [] index place at f = absurd (cc)
parts (p ∷ places) zero place at f =
    let same : p ≡ place = cc in
    let filled = ap (λ (x : Place). x.filled) same ∙ f in
    record {
      front = [];
      behind = filled_places places;
      whole = filled_first p places true filled ∙ ap (λ x. x ∷ filled_places places) same;
      without = λ q e. filled_first q places false e;
      none = λ class n. All-nil (λ (x : Place). x.class ≢ class);
    }
parts (p ∷ places) (suc index) place at f = behind_one p places index place (parts places index place at f)

at_front : (front behind : List Place) (place : Place) → slice_get (front ++ place ∷ behind) (length front) ≡ Some place
at_front [] behind place = refl
at_front (p ∷ front) behind place = at_front front behind place

take_front : (front behind : List Place) → take (length front) (front ++ behind) ≡ front
take_front [] behind = refl
take_front (p ∷ front) behind = ap (λ l. p ∷ l) (take_front front behind)

drop_front : (front behind : List Place) (place : Place) → drop (suc (length front)) (front ++ place ∷ behind) ≡ behind
drop_front [] behind place = refl
drop_front (p ∷ front) behind place = drop_front front behind place

module _ {places : List Place} {index : ℕ} {place : Place} (r : Parts places index place) where
  pub stands_at : slice_get (filled_places places) (length r.front) ≡ Some place
  stands_at = ap (λ l. slice_get l (length r.front)) r.whole ∙ at_front r.front r.behind place

  pub none_in_front : (class : ℕ) → NoneBefore class index places → All (λ (p : Place). p.class ≢ class) (take (length r.front) (filled_places places))
  none_in_front class n = subst (All (λ (p : Place). p.class ≢ class)) (sym (ap (take (length r.front)) r.whole ∙ take_front r.front (place ∷ r.behind))) (r.none class n)

  pub removed : (q : Place) → q.filled ≡ false → remove (filled_places places) (length r.front) ≡ filled_places (slice_set places index q)
  removed q e =
      (λ i. take (length r.front) (r.whole i) ++ drop (suc (length r.front)) (r.whole i))
      ∙ (λ i. take_front r.front (place ∷ r.behind) i ++ drop_front r.front r.behind place i) ∙ sym (r.without q e)

-- no set is left of the class
pub none_filled : (class : ℕ) (places : List Place) → NoneBefore class (length places) places → All (λ (p : Place). p.class ≢ class) (filled_places places)
none_filled class [] n = All-nil (λ (p : Place). p.class ≢ class)
none_filled class (p ∷ places) n = by (cases_Bool p.filled) (none_filled class places (λ k d h i. n (suc k) d (omega (arith, h)) (omega (arith, i))))
  where
    by : (p.filled ≡ true) ⊎ (p.filled ≡ false) → All (λ (x : Place). x.class ≢ class) (filled_places places) → All (λ (x : Place). x.class ≢ class) (filled_places (p ∷ places))
    by (inl f) rest = subst (All (λ (x : Place). x.class ≢ class)) (sym (filled_first p places true f))
        (All-cons (λ (x : Place). x.class ≢ class) p (filled_places places) (not_of class p f (n 0 p (omega arith) (omega arith))) rest)
    by (inr f) rest = subst (All (λ (x : Place). x.class ≢ class)) (sym (filled_first p places false f)) rest

get_left : {X : Type 0} (xs ys : List X) (k : ℕ) (d : X) → k < length xs → get_or (xs ++ ys) k d ≡ get_or xs k d
get_left [] ys k d h = absurd (omega (arith, h))
get_left (x ∷ xs) ys zero d h = refl
get_left (x ∷ xs) ys (suc k) d h = get_left xs ys k d (omega (arith, h))

-- where the queues begin, once a place is added, emptied, or looked at
pub starts_pushed : (starts : List ℕ) (places : List Place) (p : Place) → AreStarts starts places → AreStarts starts (places ++ p ∷ [])
starts_pushed starts places p s class d within =
    let was = s class d within in (
      (let more = length_push places p in omega (arith, was.0, more)),
      λ k q h i. let inside : k < length places = omega (arith, h, was.0) in ap (is_of class) (get_left places (p ∷ []) k q inside) ∙ was.1 k q h inside,
    )

pub none_emptied : (class from index : ℕ) (places : List Place) (q : Place) → q.filled ≡ false → NoneBefore class from places → NoneBefore class from (slice_set places index q)
none_emptied class from index places q e n k d h i =
    let same = length-set places index q in
    let inside : k < length places = omega (arith, i, same) in
    by k d h inside (cases_eq k index)
  where
    by : (k : ℕ) (d : Place) → k < from → k < length places → (k ≡ index) ⊎ (k ≡ index → ⊥) → is_of class (get_or (slice_set places index q) k d) ≡ false
    by k d h i (inl here) = ap (is_of class) (get_or-set_at places index k q d here (omega (arith, here, i))) ∙ ap (λ b. b && (q.class == class)) e
    by k d h i (inr other) = ap (is_of class) (get_or-set_other places index k q d other) ∙ n k d h i

pub starts_emptied : (starts : List ℕ) (places : List Place) (index : ℕ) (q : Place) → q.filled ≡ false → AreStarts starts places → AreStarts starts (slice_set places index q)
starts_emptied starts places index q e s class d within =
    let was = s class d within in ((let same = length-set places index q in omega (arith, was.0, same)), none_emptied class (get_or starts class d) index places q e was.1)

pub starts_moved : (starts : List ℕ) (places : List Place) (class from : ℕ) → AreStarts starts places → from ≤ length places → NoneBefore class from places → AreStarts (slice_set starts class from) places
starts_moved starts places class from s few none other d within =
    let same = length-set starts class from in
    let inside : other < length starts = omega (arith, within, same) in
    by other d inside (cases_eq other class)
  where
    by : (other d : ℕ) → other < length starts → (other ≡ class) ⊎ (other ≡ class → ⊥) →
        (get_or (slice_set starts class from) other d ≤ length places) × NoneBefore other (get_or (slice_set starts class from) other d) places
    by other d i (inl here) =
        let is = get_or-set_at starts class other from d here (omega (arith, here, i)) in
        subst (λ (n : ℕ). (n ≤ length places) × NoneBefore other n places) (sym is) (few, subst (λ (c : ℕ). NoneBefore c from places) (sym here) none)
    by other d i (inr apart) =
        let is = get_or-set_other starts class other from d apart in
        subst (λ (n : ℕ). (n ≤ length places) × NoneBefore other n places) (sym is) (s other d i)

get_or_last : (xs : List ℕ) (d : ℕ) → get_or (xs ++ 0 ∷ []) (length xs) d ≡ 0
get_or_last [] d = refl
get_or_last (x ∷ xs) d = get_or_last xs d

-- a start more, of nothing
pub starts_made : (starts : List ℕ) (places : List Place) → AreStarts starts places → AreStarts (starts ++ 0 ∷ []) places
starts_made starts places s class d within = by (cases_lt class (length starts))
  where
    by : (class < length starts) ⊎ (length starts ≤ class) → (get_or (starts ++ 0 ∷ []) class d ≤ length places) × NoneBefore class (get_or (starts ++ 0 ∷ []) class d) places
    by (inl old) = subst (λ (n : ℕ). (n ≤ length places) × NoneBefore class n places) (sym (get_left starts (0 ∷ []) class d old)) (s class d old)
    by (inr new) =
        let long = length_push starts 0 in
        let here : class ≡ length starts = omega (arith, new, within, long) in
        subst (λ (n : ℕ). (n ≤ length places) × NoneBefore class n places) (sym (ap (λ (n : ℕ). get_or (starts ++ 0 ∷ []) n d) here ∙ get_or_last starts d)) (omega arith, λ k q h i. absurd (omega (arith, h)))
