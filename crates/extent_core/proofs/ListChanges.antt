-- The list of free extents after the front of one is taken, and after tracks are freed.
use Rattle.std.proofs.Common.{◌≡◌, ◌≢◌, ℕ, suc, zero, ◌+◌, ◌-◌, ◌<◌, ◌≤◌, Bool, true, false, ◌||◌, cond, List, [], ◌∷◌, length, get_or, refl, ap, sym, ◌∙◌, subst, arith, ⊎_elim}
use Rattle.std.specs.List.{Contains, list_any}
use Rattle.std.proofs.lemmas.Bool.{cases_Bool, cases_eq, cases_lt, eq-eqb, false≢true, le-leb, le-ltb, lt-leb, lt-ltb, ne_eqb}
use Rattle.std.proofs.lemmas.List.{get_or_past}
use Rattle.std.proofs.lemmas.Option.{get_or_from_slice_get, slice_get_within}
use Rattle.extent_core.specs.declared.extent.Extent.{Extent}
use Rattle.extent_core.specs.ExtentLaws.{FreedIsJoined, TakenFrontLeavesTheRest}
use Rattle.extent_core.specs.Extents.{AreApart, extent, free_extents, front_taken, is_in, joined, marked}
use Rattle.extent_core.proofs.LawLemmas.{any_before, apart_from, free_extents_are_apart, free_tracks_are_listed}
use Rattle.extent_core.proofs.Marking.{get_or-marked, is_in_as, is_in_before, is_in_behind, is_in_within, length-marked_from, within_is_in}

-- a track lies in one of these
abbrev any_in : ℕ → List Extent → Bool
any_in k es = list_any (λ f. is_in k f) es

same_extent : (x y : Extent) → x.start ≡ y.start → x.tracks ≡ y.tracks → x ≡ y
same_extent x y p q = ap (λ s. extent s x.tracks) p ∙ ap (λ n. extent y.start n) q

any_first : (e : Extent) (es : List Extent) → 0 < e.tracks → any_in e.start (e ∷ es) ≡ true
any_first e es l = ap (λ b. b || any_in e.start es) (is_in_within e.start e (omega arith) (omega arith))

any_behind : (k : ℕ) (e : Extent) (es : List Extent) → e.start + e.tracks ≤ k → any_in k (e ∷ es) ≡ any_in k es
any_behind k e es l = ap (λ b. b || any_in k es) (is_in_behind k e l)

-- an extent cannot begin further in front, nor have fewer tracks
not_in_front : (end : ℕ) (x y : Extent) (xs ys : List Extent) → 0 < x.tracks → AreApart y.start end (y ∷ ys) → any_in x.start (x ∷ xs) ≡ any_in x.start (y ∷ ys) → x.start < y.start → ⊥
not_in_front end x y xs ys p h same l = false≢true (sym (any_before x.start y.start end (y ∷ ys) l h) ∙ sym same ∙ any_first x xs p)

not_shorter : (end : ℕ) (x y : Extent) (xs ys : List Extent) → AreApart (x.start + x.tracks + 1) end xs → any_in (x.start + x.tracks) (x ∷ xs) ≡ any_in (x.start + x.tracks) (y ∷ ys) → x.start ≡ y.start → x.tracks < y.tracks → ⊥
not_shorter end x y xs ys h same q l =
    let k = x.start + x.tracks in
    false≢true
    (sym (any_behind k x xs (omega arith) ∙ any_before k (x.start + x.tracks + 1) end xs (omega arith) h)
    ∙ same ∙ ap (λ b. b || any_in k ys) (is_in_within k y (omega arith) (omega arith)))

-- extents that do not touch are told by the tracks that lie in them
pub same_by_tracks : (from at end : ℕ) (xs ys : List Extent) → AreApart from end xs → AreApart at end ys → ((k : ℕ) → any_in k xs ≡ any_in k ys) → xs ≡ ys
same_by_tracks from at end [] [] hx hy same = refl
same_by_tracks from at end [] (y ∷ ys) hx hy same = absurd (false≢true (same y.start ∙ any_first y ys hy.1))
same_by_tracks from at end (x ∷ xs) [] hx hy same = absurd (false≢true (sym (same x.start) ∙ any_first x xs hx.1))
same_by_tracks from at end (x ∷ xs) (y ∷ ys) hx hy same =
    let start : x.start ≡ y.start =
    ⊎_elim
    (λ (l : x.start < y.start). absurd (not_in_front end x y xs ys hx.1 (omega arith, hy.1, hy.2, hy.3) (same x.start) l))
    (λ (l : y.start ≤ x.start).
    ⊎_elim
    (λ (m : y.start < x.start). absurd (not_in_front end y x ys xs hy.1 (omega arith, hx.1, hx.2, hx.3) (sym (same y.start)) m))
    (λ (m : x.start ≤ y.start). omega arith)
    (cases_lt y.start x.start))
    (cases_lt x.start y.start)
    in
    let tracks : x.tracks ≡ y.tracks =
    ⊎_elim
    (λ (l : x.tracks < y.tracks). absurd (not_shorter end x y xs ys hx.3 (same (x.start + x.tracks)) start l))
    (λ (l : y.tracks ≤ x.tracks).
    ⊎_elim
    (λ (m : y.tracks < x.tracks). absurd (not_shorter end y x ys xs hy.3 (sym (same (y.start + y.tracks))) (sym start) m))
    (λ (m : x.tracks ≤ y.tracks). omega arith)
    (cases_lt y.tracks x.tracks))
    (cases_lt x.tracks y.tracks)
    in
    let behind : (k : ℕ) → any_in k xs ≡ any_in k ys = λ k.
    ⊎_elim
    (λ (l : k < x.start + x.tracks + 1). any_before k (x.start + x.tracks + 1) end xs l hx.3 ∙ sym (any_before k (y.start + y.tracks + 1) end ys (omega arith) hy.3))
    (λ (l : x.start + x.tracks + 1 ≤ k). sym (any_behind k x xs (omega arith)) ∙ same k ∙ any_behind k y ys (omega arith))
    (cases_lt k (x.start + x.tracks + 1))
    in
    ap (λ e. e ∷ xs) (same_extent x y start tracks) ∙ ap (λ es. y ∷ es) (same_by_tracks (x.start + x.tracks + 1) (y.start + y.tracks + 1) end xs ys hx.3 hy.3 behind)

-- the front of an extent is taken
apart-front_taken : (from end : ℕ) (e : Extent) (n : ℕ) (es : List Extent) → AreApart from end es → AreApart from end (front_taken e n es)
apart-front_taken from end e n [] h = tt
apart-front_taken from end e n (f ∷ fs) h =
    ⊎_elim
    (λ (q : f.start ≡ e.start).
    simp (eq-eqb f.start e.start q)
    (⊎_elim
    (λ (l : n < f.tracks).
    simp (lt-leb f.tracks n l)
    (omega (arith, h.0), omega arith, omega (arith, h.2), apart_from (f.start + f.tracks + 1) (f.start + n + (f.tracks - n) + 1) end fs (omega arith) h.3))
    (λ (l : f.tracks ≤ n). simp (le-leb f.tracks n l) (apart_from (f.start + f.tracks + 1) from end fs (omega (arith, h.0)) h.3))
    (cases_lt n f.tracks)))
    (λ (q : f.start ≢ e.start). simp (ne_eqb f.start e.start q) (h.0, h.1, h.2, apart-front_taken (f.start + f.tracks + 1) end e n fs h.3))
    (cases_eq f.start e.start)

none_in : (k s n : ℕ) → n ≡ 0 → is_in k (extent s n) ≡ false
none_in k s n q = ⊎_elim (λ (l : k < s). is_in_before k (extent s n) l) (λ (l : s ≤ k). is_in_behind k (extent s n) (omega arith)) (cases_lt k s)

any-front_taken_head : (k n : ℕ) (e : Extent) (fs : List Extent) → any_in k (front_taken e n (e ∷ fs)) ≡ is_in k (extent (e.start + n) (e.tracks - n)) || any_in k fs
any-front_taken_head k n e fs =
    simp (eq-eqb e.start e.start refl)
    (⊎_elim
    (λ (l : n < e.tracks). simp (lt-leb e.tracks n l))
    (λ (l : e.tracks ≤ n). simp (le-leb e.tracks n l) (ap (λ b. b || any_in k fs) (sym (none_in k (e.start + n) (e.tracks - n) (omega arith)))))
    (cases_lt n e.tracks))

-- what is left of the first extent
any_rest : (k n end : ℕ) (e : Extent) (fs : List Extent) → n ≤ e.tracks → AreApart (e.start + e.tracks + 1) end fs
    → is_in k (extent (e.start + n) (e.tracks - n)) || any_in k fs ≡ cond (is_in k (extent e.start n)) false (any_in k (e ∷ fs))
any_rest k n end e fs l h =
    ⊎_elim
    (λ (i : is_in k (extent e.start n) ≡ true).
    let w = within_is_in k (extent e.start n) i in
    let out : is_in k (extent (e.start + n) (e.tracks - n)) ≡ false = is_in_before k (extent (e.start + n) (e.tracks - n)) (omega (arith, w.1)) in
    ap (λ b. b || any_in k fs) out ∙ any_before k (e.start + e.tracks + 1) end fs (omega (arith, w.1)) h ∙ sym (ap (λ b. cond b false (any_in k (e ∷ fs))) i))
    (λ (o : is_in k (extent e.start n) ≡ false).
    let not_front : e.start ≤ k → e.start + n ≤ k = λ a.
    ⊎_elim (λ (m : k < e.start + n). absurd (false≢true (sym o ∙ is_in_within k (extent e.start n) a m))) (λ (m : e.start + n ≤ k). m) (cases_lt k (e.start + n))
    in
    let same : is_in k (extent (e.start + n) (e.tracks - n)) ≡ is_in k e =
    is_in_as k (extent (e.start + n) (e.tracks - n)) e (λ p. (omega (arith, p.0), omega (arith, p.1))) (λ p. (not_front p.0, omega (arith, p.1)))
    in
    ap (λ b. b || any_in k fs) same ∙ sym (ap (λ b. cond b false (any_in k (e ∷ fs))) o))
    (cases_Bool (is_in k (extent e.start n)))

contained_behind : (from end : ℕ) (es : List Extent) (e : Extent) → AreApart from end es → Contains es e → from ≤ e.start
contained_behind from end [] e h (i, l, q) = absurd (omega arith)
contained_behind from end (f ∷ fs) e h (zero, l, q) = rw (← q) h.0
contained_behind from end (f ∷ fs) e h (suc i, l, q) = omega (arith, h.0, contained_behind (f.start + f.tracks + 1) end fs e h.3 (i, omega arith, q))

or_cond : (a b c : Bool) → (b ≡ true → a ≡ false) → a || cond b false c ≡ cond b false (a || c)
or_cond a true c h = ap (λ x. x || false) (h refl)
or_cond a false c h = refl

any-front_taken : (k from end n : ℕ) (e : Extent) (es : List Extent) → n ≤ e.tracks → AreApart from end es → Contains es e → any_in k (front_taken e n es) ≡ cond (is_in k (extent e.start n)) false (any_in k es)
any-front_taken k from end n e [] l h (i, m, q) = absurd (omega arith)
any-front_taken k from end n e (f ∷ fs) l h (zero, m, q) =
    let same : e ≡ f = sym q in
    subst (λ x. any_in k (front_taken e n (x ∷ fs)) ≡ cond (is_in k (extent e.start n)) false (any_in k (x ∷ fs))) same
    (any-front_taken_head k n e fs ∙ any_rest k n end e fs l (subst (λ (x : Extent). AreApart (x.start + x.tracks + 1) end fs) q h.3))
any-front_taken k from end n e (f ∷ fs) l h (suc i, m, q) =
    let there : Contains fs e = (i, omega arith, q) in
    let behind : f.start + f.tracks + 1 ≤ e.start = contained_behind (f.start + f.tracks + 1) end fs e h.3 there in
    ap (any_in k) (let other : front_taken e n (f ∷ fs) ≡ f ∷ front_taken e n fs = simp (ne_eqb f.start e.start (λ t. omega arith)) in other)
    ∙ ap (λ b. is_in k f || b) (any-front_taken k (f.start + f.tracks + 1) end n e fs l h.3 there)
    ∙ or_cond (is_in k f) (is_in k (extent e.start n)) (any_in k fs) (λ i'. is_in_behind k f (omega (arith, (within_is_in k (extent e.start n) i').0)))

cond_false : (b : Bool) → cond b false false ≡ false
cond_false true = refl
cond_false false = refl

-- which tracks are free once an extent is marked, past the end too
any-marked : (k : ℕ) (free : Bool) (e : Extent) (tracks : List Bool) → (length tracks ≤ k → cond (is_in k e) free false ≡ false) → any_in k (free_extents (marked free e tracks)) ≡ cond (is_in k e) free (any_in k (free_extents tracks))
any-marked k free e tracks past =
    free_tracks_are_listed (marked free e tracks) k
    ∙ ⊎_elim
    (λ (l : k < length tracks). get_or-marked free e tracks k false l)
    (λ (l : length tracks ≤ k).
    get_or_past (marked free e tracks) k false (omega (arith, length-marked_from 0 free e tracks))
    ∙ sym (ap (λ b. cond (is_in k e) free b) (get_or_past tracks k false l) ∙ past l))
    (cases_lt k (length tracks))
    ∙ ap (λ b. cond (is_in k e) free b) (sym (free_tracks_are_listed tracks k))

apart-marked : (free : Bool) (e : Extent) (tracks : List Bool) → AreApart 0 (length tracks) (free_extents (marked free e tracks))
apart-marked free e tracks = subst (λ n. AreApart 0 n (free_extents (marked free e tracks))) (length-marked_from 0 free e tracks) (free_extents_are_apart (marked free e tracks))

pub taken_front_leaves_the_rest : TakenFrontLeavesTheRest
taken_front_leaves_the_rest tracks e n h l =
    let front = extent e.start n in
    let apart = free_extents_are_apart tracks in
    same_by_tracks 0 0 (length tracks) (free_extents (marked false front tracks)) (front_taken e n (free_extents tracks))
    (apart-marked false front tracks)
    (apart-front_taken 0 (length tracks) e n (free_extents tracks) apart)
    (λ k. any-marked k false front tracks (λ p. cond_false (is_in k front)) ∙ sym (any-front_taken k 0 (length tracks) n e (free_extents tracks) l apart h))

or_false : (a : Bool) → a || false ≡ a
or_false true = refl
or_false false = refl

-- an extent that touches another, and both as one
in_both : (k s a b : ℕ) (e f : Extent) → e.start ≡ s → e.tracks ≡ a → f.start ≡ s + a → f.tracks ≡ b → is_in k (extent s (a + b)) ≡ is_in k e || is_in k f
in_both k s a b e f p q r t =
    ⊎_elim
    (λ (l : k < s + a).
    let out : is_in k f ≡ false = is_in_before k f (omega arith) in
    is_in_as k (extent s (a + b)) e (λ w. (omega (arith, w.0), omega arith)) (λ w. (omega (arith, w.0), omega arith))
    ∙ sym (ap (λ x. is_in k e || x) out ∙ or_false (is_in k e)))
    (λ (l : s + a ≤ k).
    let out : is_in k e ≡ false = is_in_behind k e (omega arith) in
    is_in_as k (extent s (a + b)) f (λ w. (omega arith, omega (arith, w.1))) (λ w. (omega arith, omega (arith, w.1)))
    ∙ sym (ap (λ x. x || is_in k f) out))
    (cases_lt k (s + a))

or_swap : (a b c : Bool) → a || (b || c) ≡ b || (a || c)
or_swap true true c = refl
or_swap true false c = refl
or_swap false true c = refl
or_swap false false c = refl

or_whole : (a b c : Bool) → (a || b) || c ≡ a || (b || c)
or_whole true b c = refl
or_whole false b c = refl

any-joined : (k : ℕ) (e : Extent) (es : List Extent) → any_in k (joined e es) ≡ is_in k e || any_in k es
any-joined k e [] = refl
any-joined k e (f ∷ fs) =
    ⊎_elim
    (λ (l : e.start + e.tracks < f.start). simp (lt-ltb (e.start + e.tracks) f.start l))
    (λ (l : f.start ≤ e.start + e.tracks).
    simp (le-ltb (e.start + e.tracks) f.start l)
    (⊎_elim
    (λ (q : e.start + e.tracks ≡ f.start).
    simp (eq-eqb (e.start + e.tracks) f.start q)
    (ap (λ b. b || any_in k fs) (in_both k e.start e.tracks f.tracks e f refl refl (sym q) refl) ∙ or_whole (is_in k e) (is_in k f) (any_in k fs)))
    (λ (q : e.start + e.tracks ≢ f.start).
    simp (ne_eqb (e.start + e.tracks) f.start q)
    (⊎_elim
    (λ (r : f.start + f.tracks ≡ e.start).
    simp (eq-eqb (f.start + f.tracks) e.start r)
    (any-joined k (extent f.start (f.tracks + e.tracks)) fs
    ∙ ap (λ b. b || any_in k fs) (in_both k f.start f.tracks e.tracks f e refl refl (sym r) refl)
    ∙ or_whole (is_in k f) (is_in k e) (any_in k fs)
    ∙ or_swap (is_in k f) (is_in k e) (any_in k fs)))
    (λ (r : f.start + f.tracks ≢ e.start).
    simp (ne_eqb (f.start + f.tracks) e.start r)
    (ap (λ b. is_in k f || b) (any-joined k e fs) ∙ or_swap (is_in k f) (is_in k e) (any_in k fs)))
    (cases_eq (f.start + f.tracks) e.start)))
    (cases_eq (e.start + e.tracks) f.start)))
    (cases_lt (e.start + e.tracks) f.start)

-- no track of an extent lies in one of these
abbrev LiesInNone : Extent → List Extent → Type 0
LiesInNone e es = (k : ℕ) → e.start ≤ k → k < e.start + e.tracks → any_in k es ≡ false

or_none : (a b : Bool) → a || b ≡ false → (a ≡ false) × (b ≡ false)
or_none true b h = absurd (false≢true (sym h))
or_none false b h = (refl, h)

apart-joined : (from end : ℕ) (e : Extent) (es : List Extent) → AreApart from end es → from ≤ e.start → 0 < e.tracks → e.start + e.tracks ≤ end → LiesInNone e es → AreApart from end (joined e es)
apart-joined from end e [] h low some high none = (low, some, high, tt)
apart-joined from end e (f ∷ fs) h low some high none =
    ⊎_elim
    (λ (l : e.start + e.tracks < f.start). simp (lt-ltb (e.start + e.tracks) f.start l) (low, some, high, (omega arith, h.1, h.2, h.3)))
    (λ (l : f.start ≤ e.start + e.tracks).
    simp (le-ltb (e.start + e.tracks) f.start l)
    (⊎_elim
    (λ (q : e.start + e.tracks ≡ f.start).
    simp (eq-eqb (e.start + e.tracks) f.start q)
    (low, omega arith, omega (arith, h.2), apart_from (f.start + f.tracks + 1) (e.start + (e.tracks + f.tracks) + 1) end fs (omega arith) h.3))
    (λ (q : e.start + e.tracks ≢ f.start).
    let behind : f.start + f.tracks ≤ e.start =
    ⊎_elim
    (λ (m : e.start < f.start + f.tracks).
    ⊎_elim
    (λ (i : e.start < f.start). absurd (false≢true (sym (or_none (is_in f.start f) (any_in f.start fs) (none f.start (omega arith) (omega arith))).0 ∙ is_in_within f.start f (omega arith) (omega (arith, h.1)))))
    (λ (i : f.start ≤ e.start). absurd (false≢true (sym (or_none (is_in e.start f) (any_in e.start fs) (none e.start (omega arith) (omega arith))).0 ∙ is_in_within e.start f i m)))
    (cases_lt e.start f.start))
    (λ (m : f.start + f.tracks ≤ e.start). m)
    (cases_lt e.start (f.start + f.tracks))
    in
    let others : LiesInNone e fs = λ k a b. (or_none (is_in k f) (any_in k fs) (none k a b)).1 in
    simp (ne_eqb (e.start + e.tracks) f.start q)
    (⊎_elim
    (λ (r : f.start + f.tracks ≡ e.start).
    simp (eq-eqb (f.start + f.tracks) e.start r)
    (apart-joined from end (extent f.start (f.tracks + e.tracks)) fs (apart_from (f.start + f.tracks + 1) from end fs (omega (arith, h.0)) h.3) h.0 (omega arith) (omega arith)
    (λ k a b.
    ⊎_elim
    (λ (m : k < f.start + f.tracks + 1). any_before k (f.start + f.tracks + 1) end fs m h.3)
    (λ (m : f.start + f.tracks + 1 ≤ k). others k (omega arith) (omega arith))
    (cases_lt k (f.start + f.tracks + 1)))))
    (λ (r : f.start + f.tracks ≢ e.start).
    simp (ne_eqb (f.start + f.tracks) e.start r)
    (h.0, h.1, h.2, apart-joined (f.start + f.tracks + 1) end e fs h.3 (omega arith) some high others))
    (cases_eq (f.start + f.tracks) e.start)))
    (cases_eq (e.start + e.tracks) f.start)))
    (cases_lt (e.start + e.tracks) f.start)

cond_or : (b c : Bool) → cond b true c ≡ b || c
cond_or true c = refl
cond_or false c = refl

pub freed_is_joined : FreedIsJoined
freed_is_joined tracks e taken some =
    let apart = free_extents_are_apart tracks in
    let out : (k : ℕ) → e.start ≤ k → k < e.start + e.tracks → get_or tracks k false ≡ false = λ k a b. get_or_from_slice_get tracks k false false (taken k (is_in_within k e a b)) in
    let within : (k : ℕ) → e.start ≤ k → k < e.start + e.tracks → k < length tracks = λ k a b. slice_get_within tracks k false (taken k (is_in_within k e a b)) in
    same_by_tracks 0 0 (length tracks) (free_extents (marked true e tracks)) (joined e (free_extents tracks))
    (apart-marked true e tracks)
    (apart-joined 0 (length tracks) e (free_extents tracks) apart (omega arith) some (omega (arith, within (e.start + e.tracks - 1) (omega arith) (omega arith)))
    (λ k a b. free_tracks_are_listed tracks k ∙ out k a b))
    (λ k.
    any-marked k true e tracks
    (λ p.
    let o : is_in k e ≡ false =
    ⊎_elim
    (λ (i : is_in k e ≡ true). let w = within_is_in k e i in absurd (omega (arith, within k w.0 w.1)))
    (λ (o : is_in k e ≡ false). o)
    (cases_Bool (is_in k e))
    in
    simp o)
    ∙ cond_or (is_in k e) (any_in k (free_extents tracks))
    ∙ sym (any-joined k e (free_extents tracks)))
