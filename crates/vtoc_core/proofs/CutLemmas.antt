-- A set's extents parted behind so many tracks, one extent after another.
use Rattle.std.proofs.Common.{true, ◌≡◌, ◌≢◌, ℕ, suc, zero, ◌+◌, ◌-◌, ◌<◌, ◌≤◌, min, cond, List, [], ◌∷◌, ◌++◌, length, get_or, refl, ap, sym, ◌∙◌, arith, ⊎_elim, inl, inr, nat_eq, nat_le, append_assoc}
use Rattle.std.proofs.lemmas.Bool.{cases_eq, cases_lt, cond_both, eq-eqb, ne_eqb, le-leb, lt-leb}
use Rattle.extent_core.specs.declared.extent.Extent.{Extent}
use Rattle.extent_core.specs.Extents.{extent, is_in}
use Rattle.extent_core.proofs.Marking.{is_in_before, is_in_behind, is_in_within}
use Rattle.vtoc_core.specs.Extents.{kept_front, past_front, tracks_in}
use Rattle.vtoc_core.specs.Volumes.{empty_among, times_in, tracks_past}
use Rattle.vtoc_core.proofs.FreeLemmas.{empty-cons, empty-cons_not, times_in-cons}
use Rattle.vtoc_core.proofs.PlanLemmas.{tracks_in-cons}

kept_none : (n : ℕ) (es : List Extent) → n ≡ 0 → kept_front n es ≡ []
kept_none n [] h = refl
kept_none n (e ∷ es) h = simp (eq-eqb n 0 h)

past_none : (n : ℕ) (es : List Extent) → n ≡ 0 → past_front n es ≡ es
past_none n [] h = refl
past_none n (e ∷ es) h = simp (eq-eqb n 0 h)

front_whole : (es : List Extent) (e : Extent) (n : ℕ) → n ≢ 0 → e.tracks ≤ n → kept_front n (e ∷ es) ≡ e ∷ kept_front (n - e.tracks) es
front_whole es e n h l = simp (ne_eqb n 0 h, le-leb e.tracks n l)

back_whole : (es : List Extent) (e : Extent) (n : ℕ) → n ≢ 0 → e.tracks ≤ n → past_front n (e ∷ es) ≡ past_front (n - e.tracks) es
back_whole es e n h l = simp (ne_eqb n 0 h, le-leb e.tracks n l)

front_part : (es : List Extent) (e : Extent) (n : ℕ) → n ≢ 0 → n < e.tracks → kept_front n (e ∷ es) ≡ extent e.start n ∷ []
front_part es e n h l = simp (ne_eqb n 0 h, lt-leb e.tracks n l)

back_part : (es : List Extent) (e : Extent) (n : ℕ) → n ≢ 0 → n < e.tracks → past_front n (e ∷ es) ≡ extent (e.start + n) (e.tracks - n) ∷ es
back_part es e n h l = simp (ne_eqb n 0 h, lt-leb e.tracks n l)

-- nothing more stays
pub keeps_none : (k total es fs : List Extent) (n : ℕ) → n ≡ 0 → k ++ kept_front n es ≡ total → k ++ kept_front n fs ≡ total
keeps_none k total es fs n h q = ap (λ ys. k ++ ys) (kept_none n fs h ∙ sym (kept_none n es h)) ∙ q

pub passes_none : (p total fs : List Extent) (e : Extent) (n : ℕ) → n ≡ 0 → p ++ past_front n (e ∷ fs) ≡ total → (p ++ e ∷ []) ++ past_front n fs ≡ total
passes_none p total fs e n h q = append_assoc p (e ∷ []) (past_front n fs) ∙ ap (λ ys. p ++ (e ∷ ys)) (past_none n fs h) ∙ sym (ap (λ ys. p ++ ys) (past_none n (e ∷ fs) h)) ∙ q

-- an extent stays whole
pub keeps_whole : (k total fs : List Extent) (e : Extent) (n : ℕ) → n ≢ 0 → e.tracks ≤ n → k ++ kept_front n (e ∷ fs) ≡ total → (k ++ e ∷ []) ++ kept_front (n - e.tracks) fs ≡ total
keeps_whole k total fs e n h l q =
    append_assoc k (e ∷ []) (kept_front (n - e.tracks) fs)
    ∙ sym (ap (λ ys. k ++ ys) (front_whole fs e n h l)) ∙ q

pub passes_whole : (p total fs : List Extent) (e : Extent) (n : ℕ) → n ≢ 0 → e.tracks ≤ n → p ++ past_front n (e ∷ fs) ≡ total → p ++ past_front (n - e.tracks) fs ≡ total
passes_whole p total fs e n h l q =
    sym (ap (λ ys. p ++ ys) (back_whole fs e n h l)) ∙ q

-- an extent is parted
pub keeps_part : (k total fs : List Extent) (e : Extent) (n m : ℕ) → n ≢ 0 → n < e.tracks → m ≡ 0 → k ++ kept_front n (e ∷ fs) ≡ total → (k ++ extent e.start n ∷ []) ++ kept_front m fs ≡ total
keeps_part k total fs e n m h l z q =
    append_assoc k (extent e.start n ∷ []) (kept_front m fs)
    ∙ ap (λ ys. k ++ (extent e.start n ∷ ys)) (kept_none m fs z)
    ∙ sym (ap (λ ys. k ++ ys) (front_part fs e n h l)) ∙ q

pub passes_part : (p total fs : List Extent) (e : Extent) (n m : ℕ) → n ≢ 0 → n < e.tracks → m ≡ 0 → p ++ past_front n (e ∷ fs) ≡ total → (p ++ extent (e.start + n) (e.tracks - n) ∷ []) ++ past_front m fs ≡ total
passes_part p total fs e n m h l z q =
    append_assoc p (extent (e.start + n) (e.tracks - n) ∷ []) (past_front m fs)
    ∙ ap (λ ys. p ++ (extent (e.start + n) (e.tracks - n) ∷ ys)) (past_none m fs z)
    ∙ sym (ap (λ ys. p ++ ys) (back_part fs e n h l)) ∙ q

-- a track of one of the extents is a track of them
pub track_of_one : (es : List Extent) (i k : ℕ) (d : Extent) → i < length es → is_in k (get_or es i d) ≡ true → 0 < times_in k es
track_of_one [] i k d l h = absurd (omega arith)
track_of_one (e ∷ es) zero k d l h = let t : times_in k (e ∷ es) ≡ 1 + times_in k es = times_in-cons k e es ∙ simp h in omega arith
track_of_one (e ∷ es) (suc i) k d l h = let t : 0 < times_in k es = track_of_one es i k d (omega arith) h in omega (arith, times_in-cons k e es)

-- both parts have the tracks of the extents
parts_split : (k n : ℕ) (e : Extent) → n < e.tracks → cond (is_in k e) 1 0 ≡ cond (is_in k (extent e.start n)) 1 0 + cond (is_in k (extent (e.start + n) (e.tracks - n))) 1 0
parts_split k n e l =
    ⊎_elim
    (λ (b : k < e.start). simp (is_in_before k e b, is_in_before k (extent e.start n) b, is_in_before k (extent (e.start + n) (e.tracks - n)) (omega arith)))
    (λ (b : e.start ≤ k).
    ⊎_elim
    (λ (m : k < e.start + n). simp (is_in_within k e b (omega arith), is_in_within k (extent e.start n) b m, is_in_before k (extent (e.start + n) (e.tracks - n)) m))
    (λ (m : e.start + n ≤ k).
    ⊎_elim
    (λ (r : k < e.start + e.tracks). simp (is_in_within k e b r, is_in_behind k (extent e.start n) m, is_in_within k (extent (e.start + n) (e.tracks - n)) m (omega arith)))
    (λ (r : e.start + e.tracks ≤ k). simp (is_in_behind k e r, is_in_behind k (extent e.start n) m, is_in_behind k (extent (e.start + n) (e.tracks - n)) (omega arith)))
    (cases_lt k (e.start + e.tracks)))
    (cases_lt k (e.start + n)))
    (cases_lt k e.start)

pub times_in_parts : (k n : ℕ) (es : List Extent) → times_in k es ≡ times_in k (kept_front n es) + times_in k (past_front n es)
times_in_parts k n [] = refl
times_in_parts k n (e ∷ es) =
    ⊎_elim
    (λ (z : n ≡ 0). rw (kept_none n (e ∷ es) z, past_none n (e ∷ es) z) (omega arith))
    (λ (z : n ≢ 0).
    ⊎_elim
    (λ (l : e.tracks ≤ n). rw (front_whole es e n z l, back_whole es e n z l)
    (let i : times_in k es ≡ times_in k (kept_front (n - e.tracks) es) + times_in k (past_front (n - e.tracks) es) = times_in_parts k (n - e.tracks) es in
    omega (arith, times_in-cons k e es, times_in-cons k e (kept_front (n - e.tracks) es))))
    (λ (l : n < e.tracks). rw (front_part es e n z l, back_part es e n z l)
    (omega (arith, times_in-cons k e es, times_in-cons k (extent e.start n) [], times_in-cons k (extent (e.start + n) (e.tracks - n)) es, parts_split k n e l)))
    (⊎_elim (λ (l : n < e.tracks). inr l) (λ (l : e.tracks ≤ n). inl l) (cases_lt n e.tracks)))
    (cases_eq n 0)

-- and so many extents without a track
pub empty_in_parts : (n : ℕ) (es : List Extent) → empty_among es ≡ empty_among (kept_front n es) + empty_among (past_front n es)
empty_in_parts n [] = refl
empty_in_parts n (e ∷ es) =
    ⊎_elim
    (λ (z : n ≡ 0). rw (kept_none n (e ∷ es) z, past_none n (e ∷ es) z) (omega arith))
    (λ (z : n ≢ 0).
    ⊎_elim
    (λ (l : e.tracks ≤ n). rw (front_whole es e n z l, back_whole es e n z l)
    (let i : empty_among es ≡ empty_among (kept_front (n - e.tracks) es) + empty_among (past_front (n - e.tracks) es) = empty_in_parts (n - e.tracks) es in
    omega (arith, empty-cons e es, empty-cons e (kept_front (n - e.tracks) es))))
    (λ (l : n < e.tracks). rw (front_part es e n z l, back_part es e n z l)
    (omega (
      arith,
      empty-cons_not e es (omega arith),
      empty-cons_not (extent e.start n) [] (omega arith),
      empty-cons_not (extent (e.start + n) (e.tracks - n)) es (omega arith),
    )))
    (⊎_elim (λ (l : n < e.tracks). inr l) (λ (l : e.tracks ≤ n). inl l) (cases_lt n e.tracks)))
    (cases_eq n 0)

pub kept_few : (n : ℕ) (es : List Extent) → length (kept_front n es) ≤ length es
kept_few n [] = omega arith
kept_few n (e ∷ es) =
    cond_both (nat_eq n 0) [] (cond (nat_le e.tracks n) (e ∷ kept_front (n - e.tracks) es) (extent e.start n ∷ [])) (λ fs. length fs ≤ suc (length es))
    (λ z. omega arith)
    (λ z. cond_both (nat_le e.tracks n) (e ∷ kept_front (n - e.tracks) es) (extent e.start n ∷ []) (λ fs. length fs ≤ suc (length es))
    (λ l. let i = kept_few (n - e.tracks) es in omega arith) (λ l. omega arith))

-- how many tracks are past so many
pub tracks_in_parts : (n : ℕ) (es : List Extent) → tracks_in (past_front n es) + min n (tracks_in es) ≡ tracks_in es
tracks_in_parts n [] = omega arith
tracks_in_parts n (e ∷ es) =
    let t : tracks_in (e ∷ es) ≡ e.tracks + tracks_in es = tracks_in-cons e es in
    ⊎_elim
    (λ (z : n ≡ 0). rw (past_none n (e ∷ es) z) (omega arith))
    (λ (z : n ≢ 0).
    ⊎_elim
    (λ (l : e.tracks ≤ n). rw (back_whole es e n z l)
    (let i : tracks_in (past_front (n - e.tracks) es) + min (n - e.tracks) (tracks_in es) ≡ tracks_in es = tracks_in_parts (n - e.tracks) es in omega arith))
    (λ (l : n < e.tracks). rw (back_part es e n z l)
    (let u : tracks_in (extent (e.start + n) (e.tracks - n) ∷ es) ≡ e.tracks - n + tracks_in es = tracks_in-cons (extent (e.start + n) (e.tracks - n)) es in
    omega arith))
    (⊎_elim (λ (l : n < e.tracks). inr l) (λ (l : e.tracks ≤ n). inl l) (cases_lt n e.tracks)))
    (cases_eq n 0)

pub tracks_in_past : (n : ℕ) (es : List Extent) → tracks_in (past_front n es) ≡ tracks_past n es
tracks_in_past n es = omega (arith, tracks_in_parts n es)
