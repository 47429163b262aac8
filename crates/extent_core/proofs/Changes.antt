-- The numbers of tracks of free extents after tracks are freed, and after the front of an extent is taken.
use Rattle.std.proofs.Common.{◌≡◌, ◌≢◌, ℕ, ◌+◌, ◌-◌, ◌<◌, ◌≤◌, ◌⊎◌, inl, inr, List, length, get_or, refl, sym, ◌∙◌, arith, ⊎_elim}
use Rattle.std.proofs.lemmas.Bool.{cases_eq, cases_lt}
use Rattle.extent_core.specs.Sizes.{AreKept}
use Rattle.extent_core.proofs.Covering.{Reaches}

-- z tracks from s on become free, of which none is free: a free tracks end in front of them, and b free tracks begin behind them
pub record IsFreeing (count : ℕ) (sizes ends new_sizes new_ends : List ℕ) (s z a b : ℕ) : Type 0 where
  pub kept : AreKept count sizes ends
  pub inside : s + z ≤ count
  pub some : 0 < z
  pub none : (k : ℕ) → s ≤ k → k < s + z → get_or sizes k 0 ≡ 0
  pub short : (k : ℕ) → k < s → k + get_or sizes k 0 ≤ s
  pub front : a ≡ get_or ends s 0
  pub behind : b ≡ get_or sizes (s + z) 0
  pub size_first : get_or new_sizes (s - a) 0 ≡ a + z + b
  pub size_behind : get_or new_sizes (s + z) 0 ≡ 0
  pub size_other : (k : ℕ) → k ≢ s - a → k ≢ s + z → get_or new_sizes k 0 ≡ get_or sizes k 0
  pub end_front : get_or new_ends s 0 ≡ 0
  pub end_last : get_or new_ends (s + z + b) 0 ≡ a + z + b
  pub end_other : (k : ℕ) → k ≢ s → k ≢ s + z + b → get_or new_ends k 0 ≡ get_or ends k 0
  pub room : count < length new_sizes
  pub end_room : count < length new_ends

-- the extent in front
pub in_front : (count : ℕ) (sizes ends : List ℕ) (s a : ℕ) → AreKept count sizes ends → a ≡ get_or ends s 0 → (a ≤ s) × (0 < a → get_or sizes (s - a) 0 ≡ a)
in_front count sizes ends s a kept e =
    ⊎_elim
    (λ (z : 0 < a). let h = kept.begun s (omega arith) in (omega (arith, h.0), λ _. rw e h.1))
    (λ (z : a ≤ 0). (omega arith, λ (l : 0 < a). absurd (omega arith)))
    (cases_lt 0 a)

-- an extent is the one that was freed, or another one that is as it was
abbrev IsFirst : List ℕ → ℕ → ℕ → ℕ → ℕ → ℕ → Type 0
IsFirst new_sizes s z a b k = (k ≡ s - a) × (get_or new_sizes k 0 ≡ a + z + b)

abbrev IsOther : List ℕ → List ℕ → ℕ → ℕ → ℕ → ℕ → Type 0
IsOther sizes new_sizes s z a k = (k ≢ s - a) × (k ≢ s + z) × (get_or new_sizes k 0 ≡ get_or sizes k 0)

freed_cases : (count : ℕ) (sizes ends new_sizes new_ends : List ℕ) (s z a b : ℕ) → IsFreeing count sizes ends new_sizes new_ends s z a b → (k : ℕ) → 0 < get_or new_sizes k 0 → IsFirst new_sizes s z a b k ⊎ IsOther sizes new_sizes s z a k
freed_cases count sizes ends new_sizes new_ends s z a b f k h =
    ⊎_elim
    (λ (q : k ≡ s - a). inl (q, rw q f.size_first))
    (λ (q : k ≢ s - a).
    ⊎_elim
    (λ (r : k ≡ s + z). absurd (let v : get_or new_sizes k 0 ≡ 0 = rw r f.size_behind in omega arith))
    (λ (r : k ≢ s + z). inr (q, r, f.size_other k q r))
    (cases_eq k (s + z)))
    (cases_eq k (s - a))

-- the extent behind
pub behind_within : (count : ℕ) (sizes ends : List ℕ) (s z b : ℕ) → AreKept count sizes ends → s + z ≤ count → b ≡ get_or sizes (s + z) 0 → s + z + b ≤ count
behind_within count sizes ends s z b kept l e =
    ⊎_elim (λ (h : 0 < b). omega (arith, kept.within (s + z) (omega arith))) (λ (h : b ≤ 0). omega arith) (cases_lt 0 b)

-- what stands behind the freed tracks stands behind the extent that begins with the next track
behind_apart : (count : ℕ) (sizes ends : List ℕ) (s z b k : ℕ) → AreKept count sizes ends → b ≡ get_or sizes (s + z) 0 → s + z < k → 0 < get_or sizes k 0 → s + z + b < k
behind_apart count sizes ends s z b k kept e l h =
    ⊎_elim (λ (p : 0 < b). omega (arith, kept.apart (s + z) k l (omega arith) h)) (λ (p : b ≤ 0). omega arith) (cases_lt 0 b)

freed_within : (count : ℕ) (sizes ends new_sizes new_ends : List ℕ) (s z a b : ℕ) → IsFreeing count sizes ends new_sizes new_ends s z a b → (k : ℕ) → 0 < get_or new_sizes k 0 → k + get_or new_sizes k 0 ≤ count
freed_within count sizes ends new_sizes new_ends s z a b f k h =
    let p = in_front count sizes ends s a f.kept f.front in
    let low : a ≤ s = p.0 in
    let high : s + z + b ≤ count = behind_within count sizes ends s z b f.kept f.inside f.behind in
    ⊎_elim
    (λ (q : IsFirst new_sizes s z a b k). omega (arith, q.0, q.1))
    (λ (q : IsOther sizes new_sizes s z a k). omega (arith, q.2, f.kept.within k (omega (arith, q.2))))
    (freed_cases count sizes ends new_sizes new_ends s z a b f k h)

freed_apart : (count : ℕ) (sizes ends new_sizes new_ends : List ℕ) (s z a b : ℕ) → IsFreeing count sizes ends new_sizes new_ends s z a b → (j k : ℕ) → j < k → 0 < get_or new_sizes j 0 → 0 < get_or new_sizes k 0 → j + get_or new_sizes j 0 < k
freed_apart count sizes ends new_sizes new_ends s z a b f j k l hj hk =
    let p = in_front count sizes ends s a f.kept f.front in
    let low : a ≤ s = p.0 in
    ⊎_elim
    (λ (q : IsFirst new_sizes s z a b j).
    ⊎_elim
    (λ (r : IsFirst new_sizes s z a b k). absurd (omega (arith, q.0, r.0)))
    (λ (r : IsOther sizes new_sizes s z a k).
    let old : 0 < get_or sizes k 0 = omega (arith, r.2) in
    let past : s < k =
    ⊎_elim
    (λ (g : 0 < a). omega (arith, p.1 g, f.kept.apart (s - a) k (omega (arith, q.0)) (omega (arith, p.1 g)) old))
    (λ (g : a ≤ 0). omega (arith, q.0))
    (cases_lt 0 a)
    in
    let behind : s + z ≤ k = ⊎_elim (λ (g : k < s + z). absurd (omega (arith, f.none k (omega arith) g))) (λ (g : s + z ≤ k). g) (cases_lt k (s + z)) in
    let next : s + z < k = ⊎_elim (λ (g : s + z < k). g) (λ (g : k ≤ s + z). absurd (r.1 (omega arith))) (cases_lt (s + z) k) in
    omega (arith, q.0, q.1, behind_apart count sizes ends s z b k f.kept f.behind next old))
    (freed_cases count sizes ends new_sizes new_ends s z a b f k hk))
    (λ (q : IsOther sizes new_sizes s z a j).
    let old : 0 < get_or sizes j 0 = omega (arith, q.2) in
    ⊎_elim
    (λ (r : IsFirst new_sizes s z a b k).
    ⊎_elim
    (λ (g : 0 < a). omega (arith, q.2, r.0, f.kept.apart j (s - a) (omega (arith, r.0)) old (omega (arith, p.1 g))))
    (λ (g : a ≤ 0).
    let short : j + get_or sizes j 0 ≤ s = f.short j (omega (arith, r.0)) in
    ⊎_elim
    (λ (t : j + get_or sizes j 0 ≡ s). absurd (let v : get_or ends s 0 ≡ get_or sizes j 0 = rw (← t) (f.kept.ended j old) in omega (arith, f.front)))
    (λ (t : j + get_or sizes j 0 ≢ s). omega (arith, q.2, r.0))
    (cases_eq (j + get_or sizes j 0) s))
    (cases_lt 0 a))
    (λ (r : IsOther sizes new_sizes s z a k). omega (arith, q.2, f.kept.apart j k l old (omega (arith, r.2))))
    (freed_cases count sizes ends new_sizes new_ends s z a b f k hk))
    (freed_cases count sizes ends new_sizes new_ends s z a b f j hj)

freed_ended : (count : ℕ) (sizes ends new_sizes new_ends : List ℕ) (s z a b : ℕ) → IsFreeing count sizes ends new_sizes new_ends s z a b → (k : ℕ) → 0 < get_or new_sizes k 0 → get_or new_ends (k + get_or new_sizes k 0) 0 ≡ get_or new_sizes k 0
freed_ended count sizes ends new_sizes new_ends s z a b f k h =
    let p = in_front count sizes ends s a f.kept f.front in
    let low : a ≤ s = p.0 in
    ⊎_elim
    (λ (q : IsFirst new_sizes s z a b k).
    let at : k + get_or new_sizes k 0 ≡ s + z + b = omega (arith, q.0, q.1) in
    rw at (f.end_last ∙ sym q.1))
    (λ (q : IsOther sizes new_sizes s z a k).
    let n = get_or sizes k 0 in
    let old : 0 < n = omega (arith, q.2) in
    let end : get_or ends (k + n) 0 ≡ n = f.kept.ended k old in
    let not_front : k + n ≢ s = λ t. q.0 (let v : get_or ends s 0 ≡ n = rw (← t) end in omega (arith, f.front)) in
    let not_last : k + n ≢ s + z + b = λ t.
    ⊎_elim
    (λ (g : k < s + z).
    ⊎_elim
    (λ (i : k < s). absurd (omega (arith, f.short k i, f.some)))
    (λ (i : s ≤ k). absurd (omega (arith, f.none k i g)))
    (cases_lt k s))
    (λ (g : s + z ≤ k). absurd (omega (arith, behind_apart count sizes ends s z b k f.kept f.behind (⊎_elim (λ (i : s + z < k). i) (λ (i : k ≤ s + z). absurd (q.1 (omega arith))) (cases_lt (s + z) k)) old)))
    (cases_lt k (s + z))
    in
    rw q.2 (f.end_other (k + n) not_front not_last ∙ end))
    (freed_cases count sizes ends new_sizes new_ends s z a b f k h)

freed_begun : (count : ℕ) (sizes ends new_sizes new_ends : List ℕ) (s z a b : ℕ) → IsFreeing count sizes ends new_sizes new_ends s z a b → (k : ℕ) → 0 < get_or new_ends k 0 → (get_or new_ends k 0 ≤ k) × (get_or new_sizes (k - get_or new_ends k 0) 0 ≡ get_or new_ends k 0)
freed_begun count sizes ends new_sizes new_ends s z a b f k h =
    let p = in_front count sizes ends s a f.kept f.front in
    let low : a ≤ s = p.0 in
    ⊎_elim
    (λ (q : k ≡ s + z + b).
    let v : get_or new_ends k 0 ≡ a + z + b = rw q f.end_last in
    let at : k - get_or new_ends k 0 ≡ s - a = omega arith in
    (omega arith, rw at (f.size_first ∙ sym v)))
    (λ (q : k ≢ s + z + b).
    ⊎_elim
    (λ (r : k ≡ s). absurd (let v : get_or new_ends k 0 ≡ 0 = rw r f.end_front in omega arith))
    (λ (r : k ≢ s).
    let v : get_or new_ends k 0 ≡ get_or ends k 0 = f.end_other k r q in
    let n = get_or ends k 0 in
    let old : 0 < n = omega arith in
    let begun = f.kept.begun k old in
    let within : n ≤ k = begun.0 in
    let size : get_or sizes (k - n) 0 ≡ n = begun.1 in
    let not_behind : k - n ≢ s + z = λ t. q (let b_is : get_or sizes (s + z) 0 ≡ n = rw (← t) size in omega (arith, f.behind)) in
    let not_first : k - n ≢ s - a = λ t.
    let first : get_or sizes (s - a) 0 ≡ n = rw (← t) size in
    ⊎_elim
    (λ (g : 0 < a). r (omega (arith, p.1 g)))
    (λ (g : a ≤ 0). let w : s - a ≡ s = omega arith in let there : get_or sizes s 0 ≡ n = rw w at first in omega (arith, f.none s (omega arith) (omega (arith, f.some))))
    (cases_lt 0 a)
    in
    (rw v within, rw v (f.size_other (k - n) not_first not_behind ∙ size)))
    (cases_eq k s))
    (cases_eq k (s + z + b))

pub freed_kept : (count : ℕ) (sizes ends new_sizes new_ends : List ℕ) (s z a b : ℕ) → IsFreeing count sizes ends new_sizes new_ends s z a b → AreKept count new_sizes new_ends
freed_kept count sizes ends new_sizes new_ends s z a b f = record {
  few = f.kept.few;
  room = f.room;
  end_room = f.end_room;
  within = freed_within count sizes ends new_sizes new_ends s z a b f;
  apart = freed_apart count sizes ends new_sizes new_ends s z a b f;
  ended = freed_ended count sizes ends new_sizes new_ends s z a b f;
  begun = freed_begun count sizes ends new_sizes new_ends s z a b f;
}

-- a track is free where it was free, or is one of those that were freed
pub freed_reached : (count : ℕ) (sizes ends new_sizes new_ends : List ℕ) (s z a b : ℕ) → IsFreeing count sizes ends new_sizes new_ends s z a b → (k : ℕ) → Reaches new_sizes k → ((s ≤ k) × (k < s + z)) ⊎ Reaches sizes k
freed_reached count sizes ends new_sizes new_ends s z a b f k (j, l, m) =
    let p = in_front count sizes ends s a f.kept f.front in
    ⊎_elim
    (λ (q : IsFirst new_sizes s z a b j).
    ⊎_elim
    (λ (g : k < s). inr (let i : 0 < a = omega (arith, q.0) in (s - a, omega (arith, q.0), omega (arith, p.1 i))))
    (λ (g : s ≤ k).
    ⊎_elim
    (λ (i : k < s + z). inl (g, i))
    (λ (i : s + z ≤ k). inr (s + z, i, omega (arith, q.0, q.1, p.0, f.behind)))
    (cases_lt k (s + z)))
    (cases_lt k s))
    (λ (q : IsOther sizes new_sizes s z a j). inr (j, l, omega (arith, q.2)))
    (freed_cases count sizes ends new_sizes new_ends s z a b f j (omega arith))

pub freed_reaches : (count : ℕ) (sizes ends new_sizes new_ends : List ℕ) (s z a b : ℕ) → IsFreeing count sizes ends new_sizes new_ends s z a b → (k : ℕ) → ((s ≤ k) × (k < s + z)) ⊎ Reaches sizes k → Reaches new_sizes k
freed_reaches count sizes ends new_sizes new_ends s z a b f k h =
    let p = in_front count sizes ends s a f.kept f.front in
    let low : a ≤ s = p.0 in
    ⊎_elim
    (λ (i : (s ≤ k) × (k < s + z)). (s - a, omega (arith, i.0), omega (arith, i.1, f.size_first)))
    (λ (r : Reaches sizes k).
    let j = r.0 in
    ⊎_elim
    (λ (q : j ≡ s - a).
    let here : get_or sizes j 0 ≡ get_or sizes (s - a) 0 = rw q refl in (
      s - a,
      omega (arith, r.1),
      ⊎_elim
          (λ (g : 0 < a). omega (arith, r.2, p.1 g, f.size_first))
          (λ (g : a ≤ 0). let w : s - a ≡ s = omega arith in let zero_there : get_or sizes (s - a) 0 ≡ 0 = rw w (f.none s (omega arith) (omega (arith, f.some))) in absurd (omega (arith, r.1, r.2)))
          (cases_lt 0 a),
    ))
    (λ (q : j ≢ s - a).
    ⊎_elim
    (λ (t : j ≡ s + z).
    let here : get_or sizes j 0 ≡ b = rw t (sym f.behind) in
    (s - a, omega (arith, r.1), omega (arith, r.2, f.size_first)))
    (λ (t : j ≢ s + z). (j, r.1, omega (arith, r.2, f.size_other j q t)))
    (cases_eq j (s + z)))
    (cases_eq j (s - a)))
    h

-- the n tracks in front of an extent that begins at s are taken, and so many tracks of it are left
pub record IsTaking (count : ℕ) (sizes ends new_sizes new_ends : List ℕ) (s n left : ℕ) : Type 0 where
  pub kept : AreKept count sizes ends
  pub size : get_or sizes s 0 ≡ n + left
  pub some : 0 < n + left
  pub size_taken : 0 < n → get_or new_sizes s 0 ≡ 0
  pub size_rest : get_or new_sizes (s + n) 0 ≡ left
  pub size_other : (k : ℕ) → k ≢ s → k ≢ s + n → get_or new_sizes k 0 ≡ get_or sizes k 0
  pub end_rest : get_or new_ends (s + n + left) 0 ≡ left
  pub end_other : (k : ℕ) → k ≢ s + n + left → get_or new_ends k 0 ≡ get_or ends k 0
  pub room : count < length new_sizes
  pub end_room : count < length new_ends

-- an extent is what is left, or another one that is as it was
abbrev IsRest : List ℕ → ℕ → ℕ → ℕ → ℕ → Type 0
IsRest new_sizes s n left k = (k ≡ s + n) × (get_or new_sizes k 0 ≡ left)

abbrev IsApart : List ℕ → List ℕ → ℕ → ℕ → ℕ → Type 0
IsApart sizes new_sizes s n k = (k ≢ s) × (k ≢ s + n) × (get_or new_sizes k 0 ≡ get_or sizes k 0)

taken_cases : (count : ℕ) (sizes ends new_sizes new_ends : List ℕ) (s n left : ℕ) → IsTaking count sizes ends new_sizes new_ends s n left → (k : ℕ) → 0 < get_or new_sizes k 0 → IsRest new_sizes s n left k ⊎ IsApart sizes new_sizes s n k
taken_cases count sizes ends new_sizes new_ends s n left f k h =
    ⊎_elim
    (λ (q : k ≡ s + n). inl (q, rw q f.size_rest))
    (λ (q : k ≢ s + n).
    ⊎_elim
    (λ (r : k ≡ s). absurd (let v : get_or new_sizes k 0 ≡ 0 = rw r (f.size_taken (omega arith)) in omega arith))
    (λ (r : k ≢ s). inr (r, q, f.size_other k r q))
    (cases_eq k s))
    (cases_eq k (s + n))

-- another extent lies in front of the one that is taken, or behind it
beside : (count : ℕ) (sizes ends new_sizes new_ends : List ℕ) (s n left : ℕ) → IsTaking count sizes ends new_sizes new_ends s n left → (k : ℕ) → k ≢ s → 0 < get_or sizes k 0 → (k + get_or sizes k 0 < s) ⊎ (s + n + left < k)
beside count sizes ends new_sizes new_ends s n left f k q h =
    ⊎_elim
    (λ (l : k < s). inl (f.kept.apart k s l h (omega (arith, f.size, f.some))))
    (λ (l : s ≤ k). inr (omega (arith, f.size, f.kept.apart s k (omega arith) (omega (arith, f.size, f.some)) h)))
    (cases_lt k s)

taken_within : (count : ℕ) (sizes ends new_sizes new_ends : List ℕ) (s n left : ℕ) → IsTaking count sizes ends new_sizes new_ends s n left → (k : ℕ) → 0 < get_or new_sizes k 0 → k + get_or new_sizes k 0 ≤ count
taken_within count sizes ends new_sizes new_ends s n left f k h =
    let whole : s + (n + left) ≤ count = rw (← f.size) (f.kept.within s (omega (arith, f.size, f.some))) in
    ⊎_elim
    (λ (q : IsRest new_sizes s n left k). omega (arith, q.0, q.1))
    (λ (q : IsApart sizes new_sizes s n k). omega (arith, q.2, f.kept.within k (omega (arith, q.2))))
    (taken_cases count sizes ends new_sizes new_ends s n left f k h)

taken_apart : (count : ℕ) (sizes ends new_sizes new_ends : List ℕ) (s n left : ℕ) → IsTaking count sizes ends new_sizes new_ends s n left → (j k : ℕ) → j < k → 0 < get_or new_sizes j 0 → 0 < get_or new_sizes k 0 → j + get_or new_sizes j 0 < k
taken_apart count sizes ends new_sizes new_ends s n left f j k l hj hk =
    ⊎_elim
    (λ (q : IsRest new_sizes s n left j).
    ⊎_elim
    (λ (r : IsRest new_sizes s n left k). absurd (omega (arith, q.0, r.0)))
    (λ (r : IsApart sizes new_sizes s n k).
    ⊎_elim
    (λ (g : k + get_or sizes k 0 < s). absurd (omega (arith, q.0)))
    (λ (g : s + n + left < k). omega (arith, q.0, q.1))
    (beside count sizes ends new_sizes new_ends s n left f k r.0 (omega (arith, r.2))))
    (taken_cases count sizes ends new_sizes new_ends s n left f k hk))
    (λ (q : IsApart sizes new_sizes s n j).
    let old : 0 < get_or sizes j 0 = omega (arith, q.2) in
    ⊎_elim
    (λ (r : IsRest new_sizes s n left k).
    ⊎_elim
    (λ (g : j + get_or sizes j 0 < s). omega (arith, q.2, r.0))
    (λ (g : s + n + left < j). absurd (omega (arith, r.0)))
    (beside count sizes ends new_sizes new_ends s n left f j q.0 old))
    (λ (r : IsApart sizes new_sizes s n k). omega (arith, q.2, f.kept.apart j k l old (omega (arith, r.2))))
    (taken_cases count sizes ends new_sizes new_ends s n left f k hk))
    (taken_cases count sizes ends new_sizes new_ends s n left f j hj)

taken_ended : (count : ℕ) (sizes ends new_sizes new_ends : List ℕ) (s n left : ℕ) → IsTaking count sizes ends new_sizes new_ends s n left → (k : ℕ) → 0 < get_or new_sizes k 0 → get_or new_ends (k + get_or new_sizes k 0) 0 ≡ get_or new_sizes k 0
taken_ended count sizes ends new_sizes new_ends s n left f k h =
    ⊎_elim
    (λ (q : IsRest new_sizes s n left k).
    let at : k + get_or new_sizes k 0 ≡ s + n + left = omega (arith, q.0, q.1) in
    rw at (f.end_rest ∙ sym q.1))
    (λ (q : IsApart sizes new_sizes s n k).
    let m = get_or sizes k 0 in
    let old : 0 < m = omega (arith, q.2) in
    let not_last : k + m ≢ s + n + left = λ t.
    ⊎_elim
    (λ (g : k + m < s). omega arith)
    (λ (g : s + n + left < k). omega arith)
    (beside count sizes ends new_sizes new_ends s n left f k q.0 old)
    in
    rw q.2 (f.end_other (k + m) not_last ∙ f.kept.ended k old))
    (taken_cases count sizes ends new_sizes new_ends s n left f k h)

taken_begun : (count : ℕ) (sizes ends new_sizes new_ends : List ℕ) (s n left : ℕ) → IsTaking count sizes ends new_sizes new_ends s n left → (k : ℕ) → 0 < get_or new_ends k 0 → (get_or new_ends k 0 ≤ k) × (get_or new_sizes (k - get_or new_ends k 0) 0 ≡ get_or new_ends k 0)
taken_begun count sizes ends new_sizes new_ends s n left f k h =
    ⊎_elim
    (λ (q : k ≡ s + n + left).
    let v : get_or new_ends k 0 ≡ left = rw q f.end_rest in
    let at : k - get_or new_ends k 0 ≡ s + n = omega arith in
    (omega arith, rw at (f.size_rest ∙ sym v)))
    (λ (q : k ≢ s + n + left).
    let v : get_or new_ends k 0 ≡ get_or ends k 0 = f.end_other k q in
    let m = get_or ends k 0 in
    let begun = f.kept.begun k (omega arith) in
    let within : m ≤ k = begun.0 in
    let size : get_or sizes (k - m) 0 ≡ m = begun.1 in
    let not_taken : k - m ≢ s = λ t. q (let same : get_or sizes s 0 ≡ m = rw (← t) size in omega (arith, f.size)) in
    let not_rest : k - m ≢ s + n = λ t.
    ⊎_elim
    (λ (g : k - m + get_or sizes (k - m) 0 < s). omega arith)
    (λ (g : s + n + left < k - m). omega arith)
    (beside count sizes ends new_sizes new_ends s n left f (k - m) not_taken (omega arith))
    in
    (rw v within, rw v (f.size_other (k - m) not_taken not_rest ∙ size)))
    (cases_eq k (s + n + left))

pub taken_kept : (count : ℕ) (sizes ends new_sizes new_ends : List ℕ) (s n left : ℕ) → IsTaking count sizes ends new_sizes new_ends s n left → AreKept count new_sizes new_ends
taken_kept count sizes ends new_sizes new_ends s n left f = record {
  few = f.kept.few;
  room = f.room;
  end_room = f.end_room;
  within = taken_within count sizes ends new_sizes new_ends s n left f;
  apart = taken_apart count sizes ends new_sizes new_ends s n left f;
  ended = taken_ended count sizes ends new_sizes new_ends s n left f;
  begun = taken_begun count sizes ends new_sizes new_ends s n left f;
}

-- a track is free where it was free and is none of those that were taken
pub taken_reached : (count : ℕ) (sizes ends new_sizes new_ends : List ℕ) (s n left : ℕ) → IsTaking count sizes ends new_sizes new_ends s n left → (k : ℕ) → Reaches new_sizes k → ((k < s) ⊎ (s + n ≤ k)) × Reaches sizes k
taken_reached count sizes ends new_sizes new_ends s n left f k (j, l, m) =
    ⊎_elim
    (λ (q : IsRest new_sizes s n left j). (inr (omega (arith, q.0)), (s, omega (arith, q.0), omega (arith, q.0, q.1, f.size))))
    (λ (q : IsApart sizes new_sizes s n j).
    let reach : k < j + get_or sizes j 0 = omega (arith, q.2) in
    ⊎_elim
    (λ (g : j + get_or sizes j 0 < s). (inl (omega arith), (j, l, reach)))
    (λ (g : s + n + left < j). (inr (omega arith), (j, l, reach)))
    (beside count sizes ends new_sizes new_ends s n left f j q.0 (omega arith)))
    (taken_cases count sizes ends new_sizes new_ends s n left f j (omega arith))

pub taken_reaches : (count : ℕ) (sizes ends new_sizes new_ends : List ℕ) (s n left : ℕ) → IsTaking count sizes ends new_sizes new_ends s n left → (k : ℕ) → (k < s) ⊎ (s + n ≤ k) → Reaches sizes k → Reaches new_sizes k
taken_reaches count sizes ends new_sizes new_ends s n left f k out (j, l, m) =
    ⊎_elim
    (λ (q : j ≡ s).
    let here : get_or sizes j 0 ≡ n + left = rw q f.size in
    ⊎_elim
    (λ (g : k < s). absurd (omega arith))
    (λ (g : s + n ≤ k). (s + n, g, omega (arith, f.size_rest)))
    out)
    (λ (q : j ≢ s).
    ⊎_elim
    (λ (r : j ≡ s + n).
    ⊎_elim
    (λ (g : j + get_or sizes j 0 < s). absurd (omega arith))
    (λ (g : s + n + left < j). absurd (omega arith))
    (beside count sizes ends new_sizes new_ends s n left f j q (omega arith)))
    (λ (r : j ≢ s + n). (j, l, omega (arith, f.size_other j q r)))
    (cases_eq j (s + n)))
    (cases_eq j s)
