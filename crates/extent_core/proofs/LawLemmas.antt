-- What free extents are, and what is found among extents.
use Rattle.std.proofs.Common.{◌≡◌, ◌≢◌, ℕ, suc, zero, ◌+◌, ◌<◌, ◌≤◌, Bool, true, false, ◌||◌, cond, List, [], ◌∷◌, length, get_or, take, Option, Some, None, refl, ap, sym, ◌∙◌, arith, ⊎_elim, nat_le}
use Rattle.std.specs.List.{Contains, list_any}
use Rattle.std.proofs.lemmas.Bool.{cases_Bool, cases_eq, cases_lt, eq-eqb, false≢true, leb-false, leb-true, ne_eqb, or_right}
use Rattle.std.proofs.lemmas.List.{get_or_default, get_or_past, same_lists}
use Rattle.std.proofs.lemmas.List.Elements.{All-cons}
use Rattle.std.proofs.lemmas.Option.{slice_get-get_or}
use Rattle.extent_core.specs.declared.extent.Extent.{Extent}
use Rattle.extent_core.specs.ExtentLaws.{AnswersFirst, AnswersLargest, FirstIsFirst, FreeExtentsAreApart, FreeTracksAreListed, IsFirstWith, LargestIsLargest, TakenFrontIsTaken}
use Rattle.extent_core.specs.Extents.{AreApart, extent, first_of, free_extents, free_from, is_in, larger, largest_of, lengthened, marked}
use Rattle.extent_core.proofs.Marking.{get_or-marked, is_in_as, is_in_before, is_in_behind, is_in_within, length-marked_from, within_is_in}

pub apart_from : (at from end : ℕ) (es : List Extent) → from ≤ at → AreApart at end es → AreApart from end es
apart_from at from end [] l h = tt
apart_from at from end (e ∷ es) l h = (omega (arith, h.0), h.1, h.2, h.3)

apart-lengthened : (at end : ℕ) (es : List Extent) → at + 1 ≤ end → AreApart (at + 1) end es → AreApart at end (lengthened at es)
apart-lengthened at end [] l h = (omega arith, omega arith, l, tt)
apart-lengthened at end (e ∷ es) l h =
    ⊎_elim
    (λ (q : e.start ≡ at + 1). simp (eq-eqb e.start (at + 1) q) (omega arith, omega arith, omega (arith, h.2), apart_from (e.start + e.tracks + 1) (at + (e.tracks + 1) + 1) end es (omega arith) h.3))
    (λ (q : e.start ≢ at + 1). simp (ne_eqb e.start (at + 1) q) (omega arith, omega arith, l, (omega (arith, h.0), h.1, h.2, h.3)))
    (cases_eq e.start (at + 1))

apart-free_from : (at end : ℕ) (tracks : List Bool) → end ≡ at + length tracks → AreApart at end (free_from at tracks)
apart-free_from at end [] q = tt
apart-free_from at end (true ∷ ts) q = apart-lengthened at end (free_from (at + 1) ts) (omega arith) (apart-free_from (at + 1) end ts (omega arith))
apart-free_from at end (false ∷ ts) q = apart_from (at + 1) at end (free_from (at + 1) ts) (omega arith) (apart-free_from (at + 1) end ts (omega arith))

pub free_extents_are_apart : FreeExtentsAreApart
free_extents_are_apart tracks = apart-free_from 0 (length tracks) tracks (omega arith)

pub any_of : (k : ℕ) (es : List Extent) (e : Extent) → Contains es e → is_in k e ≡ true → list_any (λ f. is_in k f) es ≡ true
any_of k [] e (i, l, q) h = absurd (omega arith)
any_of k (f ∷ fs) e (zero, l, q) h = let g : is_in k f ≡ true = rw q h in simp g
any_of k (f ∷ fs) e (suc i, l, q) h = or_right (is_in k f) (list_any (λ x. is_in k x) fs) (any_of k fs e (i, omega arith, q) h)

pub any_before : (k from end : ℕ) (es : List Extent) → k < from → AreApart from end es → list_any (λ f. is_in k f) es ≡ false
any_before k from end [] l h = refl
any_before k from end (e ∷ es) l h =
    let first : is_in k e ≡ false = is_in_before k e (omega (arith, h.0)) in
    simp first (any_before k (e.start + e.tracks + 1) end es (omega (arith, h.0)) h.3)

any-lengthened_at : (at : ℕ) (es : List Extent) → list_any (λ f. is_in at f) (lengthened at es) ≡ true
any-lengthened_at at [] = let g : is_in at (extent at 1) ≡ true = is_in_within at (extent at 1) (omega arith) (omega arith) in simp g
any-lengthened_at at (e ∷ es) =
    ⊎_elim
    (λ (q : e.start ≡ at + 1).
    let g : is_in at (extent at (e.tracks + 1)) ≡ true = is_in_within at (extent at (e.tracks + 1)) (omega arith) (omega arith) in
    ap (λ b. list_any (λ f. is_in at f) (cond b (extent at (e.tracks + 1) ∷ es) (extent at 1 ∷ e ∷ es))) (eq-eqb e.start (at + 1) q)
    ∙ ap (λ b. b || list_any (λ f. is_in at f) es) g)
    (λ (q : e.start ≢ at + 1).
    let g : is_in at (extent at 1) ≡ true = is_in_within at (extent at 1) (omega arith) (omega arith) in
    ap (λ b. list_any (λ f. is_in at f) (cond b (extent at (e.tracks + 1) ∷ es) (extent at 1 ∷ e ∷ es))) (ne_eqb e.start (at + 1) q)
    ∙ ap (λ b. b || list_any (λ f. is_in at f) (e ∷ es)) g)
    (cases_eq e.start (at + 1))

not_in_one : (k at : ℕ) → k ≢ at → is_in k (extent at 1) ≡ false
not_in_one k at n = ⊎_elim (λ (l : k < at). is_in_before k (extent at 1) l) (λ (l : at ≤ k). is_in_behind k (extent at 1) (omega arith)) (cases_lt k at)

any-lengthened_other : (k at : ℕ) (es : List Extent) → k ≢ at → list_any (λ f. is_in k f) (lengthened at es) ≡ list_any (λ f. is_in k f) es
any-lengthened_other k at [] n = ap (λ b. b || false) (not_in_one k at n)
any-lengthened_other k at (e ∷ es) n =
    ⊎_elim
    (λ (q : e.start ≡ at + 1).
    ap (λ b. list_any (λ f. is_in k f) (cond b (extent at (e.tracks + 1) ∷ es) (extent at 1 ∷ e ∷ es))) (eq-eqb e.start (at + 1) q)
    ∙ ap (λ b. b || list_any (λ f. is_in k f) es) (is_in_as k (extent at (e.tracks + 1)) e (λ p. (omega (arith, p.0), omega (arith, p.1))) (λ p. (omega (arith, p.0), omega (arith, p.1)))))
    (λ (q : e.start ≢ at + 1).
    ap (λ b. list_any (λ f. is_in k f) (cond b (extent at (e.tracks + 1) ∷ es) (extent at 1 ∷ e ∷ es))) (ne_eqb e.start (at + 1) q)
    ∙ ap (λ b. b || list_any (λ f. is_in k f) (e ∷ es)) (not_in_one k at n))
    (cases_eq e.start (at + 1))

any-free_from : (k at : ℕ) (tracks : List Bool) (i : ℕ) → k ≡ at + i → list_any (λ f. is_in k f) (free_from at tracks) ≡ get_or tracks i false
any-free_from k at [] i q = refl
any-free_from k at (true ∷ ts) zero q = let r : at ≡ k = omega arith in rw r (any-lengthened_at k (free_from (k + 1) ts))
any-free_from k at (true ∷ ts) (suc i) q = any-lengthened_other k at (free_from (at + 1) ts) (λ p. omega arith) ∙ any-free_from k (at + 1) ts i (omega arith)
any-free_from k at (false ∷ ts) zero q = any_before k (at + 1) (at + 1 + length ts) (free_from (at + 1) ts) (omega arith) (apart-free_from (at + 1) (at + 1 + length ts) ts refl)
any-free_from k at (false ∷ ts) (suc i) q = any-free_from k (at + 1) ts i (omega arith)

pub free_tracks_are_listed : FreeTracksAreListed
free_tracks_are_listed tracks track = any-free_from track 0 tracks track (omega arith)

-- one more in front
first_with_more : (n : ℕ) (f e : Extent) (es : List Extent) → f.tracks < n → IsFirstWith n es e → IsFirstWith n (f ∷ es) e
first_with_more n f e es l (k, w, q, m, a) = (suc k, omega arith, q, m, All-cons (λ (x : Extent). x.tracks < n) f (take k es) l a)

first_more : (n : ℕ) (f : Extent) (es : List Extent) (o : Option Extent) → f.tracks < n → AnswersFirst n es o → AnswersFirst n (f ∷ es) o
first_more n f es None l h = All-cons (λ (x : Extent). x.tracks < n) f es l h
first_more n f es (Some e) l h = first_with_more n f e es l h

pub first_is_first : FirstIsFirst
first_is_first n [] = λ k d l. absurd (omega arith)
first_is_first n (f ∷ fs) =
    ⊎_elim
    (λ (b : nat_le n f.tracks ≡ true). simp b (0, omega arith, refl, leb-true n f.tracks b, λ k d l. absurd (omega arith)))
    (λ (b : nat_le n f.tracks ≡ false). simp b (first_more n f fs (first_of n fs) (leb-false n f.tracks b) (first_is_first n fs)))
    (cases_Bool (nat_le n f.tracks))

largest_behind : (f e : Extent) (es : List Extent) → f.tracks < e.tracks → AnswersLargest es (Some e) → AnswersLargest (f ∷ es) (Some e)
largest_behind f e es l ((k, w, q, a), b) = (
  (suc k, omega arith, q, All-cons (λ (x : Extent). x.tracks < e.tracks) f (take k es) l a),
  All-cons (λ (x : Extent). x.tracks ≤ e.tracks) f es (omega arith) b,
)

largest_more : (f : Extent) (es : List Extent) (o : Option Extent) → AnswersLargest es o → AnswersLargest (f ∷ es) (Some (larger f o))
largest_more f es None h = (
  (0, omega arith, refl, λ k d l. absurd (omega arith)),
  All-cons (λ (x : Extent). x.tracks ≤ f.tracks) f es (omega arith) (λ k d l. absurd (omega (arith, ap length h))),
)
largest_more f es (Some e) h =
    ⊎_elim
    (λ (b : nat_le e.tracks f.tracks ≡ true).
    let l : e.tracks ≤ f.tracks = leb-true e.tracks f.tracks b in
    simp b (
      (0, omega arith, refl, λ k d m. absurd (omega arith)),
      All-cons (λ (x : Extent). x.tracks ≤ f.tracks) f es (omega arith) (λ k d m. omega (arith, h.1 k d m)),
    ))
    (λ (b : nat_le e.tracks f.tracks ≡ false).
    let l : f.tracks < e.tracks = leb-false e.tracks f.tracks b in
    simp b (largest_behind f e es l h))
    (cases_Bool (nat_le e.tracks f.tracks))

pub largest_is_largest : LargestIsLargest
largest_is_largest [] = refl
largest_is_largest (f ∷ fs) = largest_more f fs (largest_of fs) (largest_is_largest fs)

-- the tracks of a free extent are free
listed_is_free : (tracks : List Bool) (e : Extent) (k : ℕ) → Contains (free_extents tracks) e → e.start ≤ k → k < e.start + e.tracks → get_or tracks k false ≡ true
listed_is_free tracks e k h low high = sym (free_tracks_are_listed tracks k) ∙ any_of k (free_extents tracks) e h (is_in_within k e low high)

free_within : (tracks : List Bool) (k : ℕ) → get_or tracks k false ≡ true → k < length tracks
free_within tracks k h = ⊎_elim (λ (l : k < length tracks). l) (λ (l : length tracks ≤ k). absurd (false≢true (sym (get_or_past tracks k false l) ∙ h))) (cases_lt k (length tracks))

pub taken_front_is_taken : TakenFrontIsTaken
taken_front_is_taken tracks e n h l =
    let front = extent e.start n in
    let gone = marked false front tracks in (
      λ k i.
          let w = within_is_in k front i in
          let within : k < length tracks = free_within tracks k (listed_is_free tracks e k h (omega (arith, w.0)) (omega (arith, w.1))) in
          slice_get-get_or gone k false (omega (arith, length-marked_from 0 false front tracks))
          ∙ ap Some (get_or-marked false front tracks k false within ∙ ap (λ b. cond b false (get_or tracks k false)) i),
      same_lists (marked true front gone) tracks (length-marked_from 0 true front gone ∙ length-marked_from 0 false front tracks)
          (λ k d m.
          let within : k < length tracks = omega (arith, length-marked_from 0 true front gone, length-marked_from 0 false front tracks) in
          get_or-marked true front gone k d (omega (arith, length-marked_from 0 false front tracks))
          ∙ ap (λ b. cond (is_in k front) true b) (get_or-marked false front tracks k d within)
          ∙ ⊎_elim
          (λ (i : is_in k front ≡ true).
          let w = within_is_in k front i in
          simp i (sym (get_or_default tracks k d false within ∙ listed_is_free tracks e k h (omega (arith, w.0)) (omega (arith, w.1)))))
          (λ (o : is_in k front ≡ false). simp o)
          (cases_Bool (is_in k front))),
    )
