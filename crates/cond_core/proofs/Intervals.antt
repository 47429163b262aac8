-- Classes between the codes at which the answer of some test changes.
use Rattle.std.proofs.Common.{◌≡◌, ℕ, zero, suc, ◌+◌, ◌-◌, ◌<◌, ◌≤◌, ◌⊎◌, true, false, List, [], ◌∷◌, ◌++◌}
use Rattle.std.proofs.Common.{length, take, get_or, slice_get, Some, All, Contains, arith, refl, sym, ◌∙◌, ap, inl, inr, leb, subst}
use Rattle.std.specs.List.{flat_map}
use Rattle.std.specs.List.Sorted.{IsPartitionedBy, IsPartitionPoint, IsStrictlyIncreasing}
use Rattle.std.proofs.lemmas.Bool.{cases_lt, le-leb, leb-false, leb-true}
use Rattle.std.proofs.lemmas.List.{append-nil, get_or_default, take_more}
use Rattle.std.proofs.lemmas.Grind.{flat_map-append}
use Rattle.std.proofs.lemmas.List.Elements.{All-cons, All-contains, All-nil}
use Rattle.std.proofs.lemmas.List.Elements.{Contains-append_cases, Contains-append_left, Contains-append_right, Contains-get_or}
use Rattle.std.proofs.lemmas.List.Kept.{AllPairs-from_increasing}
use Rattle.jcl_plan.specs.declared.plan.Test.{Test}
use Rattle.jcl_meaning.specs.History.{holds}
use Rattle.cond_core.specs.Breaks.{breaks_of, starts_of}
use Rattle.cond_core.specs.Classes.{Agree, AreClasses, IsInClass, IsInOneClass}
use Rattle.cond_core.proofs.Changes.{alike_before, apart_before}

-- the breaks of one test more
pub starts_more : (tests : List Test) (i : ℕ) (test : Test) (before behind : List ℕ) → i < length tests → test ≡ get_or tests i test →
    before ≡ starts_of (take i tests) → behind ≡ before ++ breaks_of test → behind ≡ starts_of (take (i + 1) tests)
starts_more tests i test before behind h e p q =
    let more : flat_map breaks_of (take (i + 1) tests) ≡ flat_map breaks_of (take i tests) ++ breaks_of test =
    ap (λ ys. flat_map breaks_of ys) (take_more tests i test h ∙ ap (λ y. take i tests ++ y ∷ []) (sym e))
    ∙ flat_map-append breaks_of (take i tests) (test ∷ [])
    ∙ ap (λ ys. flat_map breaks_of (take i tests) ++ ys) (append-nil (breaks_of test)) in
    q ∙ ap (λ ns. ns ++ breaks_of test) p ∙ ap (λ ys. 0 ∷ ys) (sym more)

-- what is in each list of breaks is in all of them
pub in_breaks : (tests : List Test) (k c : ℕ) (d : Test) → k < length tests → Contains (breaks_of (get_or tests k d)) c → Contains (flat_map breaks_of tests) c
in_breaks [] k c d h there = absurd (omega arith)
in_breaks (t ∷ tests) zero c d h there = Contains-append_left (breaks_of t) (flat_map breaks_of tests) c there
in_breaks (t ∷ tests) (suc k) c d h there = Contains-append_right (breaks_of t) (flat_map breaks_of tests) c (in_breaks tests k c d (omega arith) there)

pub from_breaks : (tests : List Test) (c : ℕ) → Contains (flat_map breaks_of tests) c → (k : ℕ) × (k < length tests) × ((d : Test) →
    Contains (breaks_of (get_or tests k d)) c)
from_breaks [] c h = absurd (omega (arith, h.1))
from_breaks (t ∷ tests) c h =
    elim (Contains-append_cases (breaks_of t) (flat_map breaks_of tests) c h) [
      | inl here ↦ (0, omega arith, λ d. here)
      | inr there ↦ (let at = from_breaks tests c there in (suc at.0, omega (arith, at.1), at.2))
    ]

in_starts : (tests : List Test) (c : ℕ) → Contains (flat_map breaks_of tests) c → Contains (starts_of tests) c
in_starts tests c h = Contains-append_right (0 ∷ []) (flat_map breaks_of tests) c h

from_starts : (tests : List Test) (c : ℕ) → 1 ≤ c → Contains (starts_of tests) c → Contains (flat_map breaks_of tests) c
from_starts tests c positive h =
    elim (Contains-append_cases (0 ∷ []) (flat_map breaks_of tests) c h) [
      | inl zero_alone ↦ absurd (not_zero zero_alone.0 zero_alone.1 zero_alone.2)
      | inr there ↦ there
    ]
  where
    not_zero : (k : ℕ) → k < 1 → get_or (0 ∷ []) k c ≡ c → ⊥
    not_zero zero p e = omega (arith, e)
    not_zero (suc k) p e = omega arith

-- codes that no start stands between agree
agree_next : (tests : List Test) (c : ℕ) → c < 4095 → ¬ (Contains (starts_of tests) (c + 1)) → Agree tests c (c + 1)
agree_next tests c h none = λ k d p. alike_before (get_or tests k d).operator (get_or tests k d).code c h (λ there. none (in_starts tests (c + 1)
    (in_breaks tests k (c + 1) d p there)))

pub agree_above : (tests : List Test) (low n : ℕ) → low + n ≤ 4095 → ((c : ℕ) → low < c → c ≤ low + n → ¬ (Contains (starts_of tests) c)) →
    Agree tests low (low + n)
agree_above tests low zero h none = let P : ℕ → Type 0 = λ m. Agree tests low m in subst P (omega arith) (λ k d p. refl)
agree_above tests low (suc n) h none = λ k d p.
    agree_above tests low n (omega arith) (λ c l m. none c l (omega arith)) k d p
    ∙ (let next : Agree tests (low + n) (low + n + 1) = agree_next tests (low + n) (omega arith) (none (low + n + 1) (omega arith) (omega arith)) in
    let P : ℕ → Type 0 = λ m. holds (get_or tests k d).operator (get_or tests k d).code (low + n) ≡ holds (get_or tests k d).operator (get_or tests k
    d).code m in
    subst P (omega arith) (next k d p))

-- a start but 0 is not like the code before it
pub start_is_apart : (tests : List Test) (c : ℕ) → Contains (starts_of tests) (c + 1) → Agree tests c (c + 1) → ⊥
start_is_apart tests c h agreed = at_break tests c (from_breaks tests (c + 1) (from_starts tests (c + 1) (omega arith) h)) agreed
  where
    at_break : (tests : List Test) (c : ℕ) → (k : ℕ) × (k < length tests) × ((d : Test) → Contains (breaks_of (get_or tests k d)) (c + 1)) →
        Agree tests c (c + 1) → ⊥
    at_break [] c at agreed = omega (arith, at.1)
    at_break (t ∷ rest) c at agreed = let x = get_or (t ∷ rest) at.0 t in apart_before x.operator x.code c (at.2 t) (agreed at.0 t at.1)

-- the greatest of some codes, and a first one, that is not above a code
record Greatest (found code : ℕ) (rs : List ℕ) : Type 0 where
  last : ℕ
  from_found : found ≤ last
  not_above : last ≤ code
  among : (last ≡ found) ⊎ Contains rs last
  greatest : All (λ q. q ≤ code → q ≤ last) rs

-- with one code more in front, which is above, or not, and then the greater of two
greatest_past : (found code q : ℕ) (rs : List ℕ) → code < q → Greatest found code rs → Greatest found code (q ∷ rs)
greatest_past found code q rs h g = record {
  last = g.last;
  from_found = g.from_found;
  not_above = g.not_above;
  among = elim g.among [ inl e ↦ inl e | inr there ↦ inr (Contains-append_right (q ∷ []) rs g.last there) ];
  greatest = All-cons (λ x. x ≤ code → x ≤ g.last) q rs (λ low. absurd (omega arith)) g.greatest;
}

greatest_kept : (found code q : ℕ) (rs : List ℕ) → q ≤ found → Greatest found code rs → Greatest found code (q ∷ rs)
greatest_kept found code q rs h g = record {
  last = g.last;
  from_found = g.from_found;
  not_above = g.not_above;
  among = elim g.among [ inl e ↦ inl e | inr there ↦ inr (Contains-append_right (q ∷ []) rs g.last there) ];
  greatest = All-cons (λ x. x ≤ code → x ≤ g.last) q rs (λ low. let from = g.from_found in omega arith) g.greatest;
}

greatest_taken : (found code q : ℕ) (rs : List ℕ) → found ≤ q → Greatest q code rs → Greatest found code (q ∷ rs)
greatest_taken found code q rs h g = record {
  last = g.last;
  from_found = (let from = g.from_found in omega arith);
  not_above = g.not_above;
  among = inr (elim g.among [ inl e ↦ (0, omega arith, sym e) | inr there ↦ Contains-append_right (q ∷ []) rs g.last there ]);
  greatest = All-cons (λ x. x ≤ code → x ≤ g.last) q rs (λ low. g.from_found) g.greatest;
}

greatest_of : (found code : ℕ) (rs : List ℕ) → found ≤ code → Greatest found code rs
greatest_of found code [] h = record { last = found; from_found = omega arith; not_above = h; among = inl refl; greatest = All-nil (λ q. q ≤ code → q ≤ found) }
greatest_of found code (q ∷ rs) h =
    elim (cases_lt code q) [
      | inl above ↦ greatest_past found code q rs above (greatest_of found code rs h)
      | inr low ↦ elim (cases_lt found q) [
        | inl greater ↦ greatest_taken found code q rs (omega arith) (greatest_of q code rs low)
        | inr less ↦ greatest_kept found code q rs less (greatest_of found code rs h)
      ]
    ]

-- the list begins with 0, since it rises and 0 is in it
zero_first : (reps : List ℕ) → IsStrictlyIncreasing reps → Contains reps 0 → slice_get reps 0 ≡ Some 0
zero_first [] rise h = absurd (omega (arith, h.1))
zero_first (r ∷ rs) rise h = ap Some (is_zero h.0 h.1 h.2)
  where
    is_zero : (k : ℕ) → k < length (r ∷ rs) → get_or (r ∷ rs) k 0 ≡ 0 → r ≡ 0
    is_zero zero p e = e
    is_zero (suc k) p e = absurd (omega (arith, AllPairs-from_increasing (r ∷ rs) rise 0 (suc k) 0 (omega arith) p, e))

-- one class each
class_there : (reps : List ℕ) (code : ℕ) → code ≤ 4095 → Contains reps 0 → IsInOneClass reps code
class_there reps code h zero_in =
    let g = greatest_of 0 code reps (omega arith) in
    let in_it : IsInClass reps g.last code = record {
      is_code = h;
      begun = elim g.among [ inl e ↦ (let P : ℕ → Type 0 = λ n. Contains reps n in subst P (sym e) zero_in) | inr there ↦ there ];
      from_least = g.not_above;
      none_between = g.greatest;
    } in
    record { least = g.last; there = in_it; no_other = λ other of_other. same g.last other in_it of_other }
  where
    same : (a b : ℕ) → IsInClass reps a code → IsInClass reps b code → b ≡ a
    same a b of_a of_b =
        let up : b ≤ a = All-contains (λ r. r ≤ code → r ≤ a) reps b of_a.none_between of_b.begun of_b.from_least in
        let down : a ≤ b = All-contains (λ r. r ≤ code → r ≤ b) reps a of_b.none_between of_a.begun of_a.from_least in
        omega arith

-- a code agrees with the representative of its class
agree_with_least : (tests : List Test) (reps : List ℕ) → ((c : ℕ) → Contains (starts_of tests) c → Contains reps c) → (r c : ℕ) → IsInClass reps r c →
    Agree tests r c
agree_with_least tests reps keeps r c h =
    let P : ℕ → Type 0 = λ m. Agree tests r m in
    let low : r ≤ c = h.from_least in
    let most : c ≤ 4095 = h.is_code in
    let is : r + (c - r) ≡ c = omega arith in
    subst P is (agree_above tests r (c - r) (omega arith) (λ m above within there.
    let not_above : m ≤ r = All-contains (λ q. q ≤ c → q ≤ r) reps m h.none_between (keeps m there) (omega arith) in omega arith))

-- the starts of some tests, each once and in order, are the representatives of classes
pub classes_of_starts : (tests : List Test) (reps : List ℕ) → IsStrictlyIncreasing reps → ((c : ℕ) → Contains (starts_of tests) c → Contains reps c) →
    ((c : ℕ) → Contains reps c → Contains (starts_of tests) c) → All (λ r. r ≤ 4095) reps → AreClasses tests reps
classes_of_starts tests reps rise keeps adds_none codes =
    let zero_in : Contains reps 0 = keeps 0 (0, omega arith, refl) in
    record {
      begin_at_zero = zero_first reps rise zero_in;
      rise = rise;
      are_codes = codes;
      in_one_class = λ code h. class_there reps code h zero_in;
      agree = λ r c d of_c of_d k x p. sym (agree_with_least tests reps keeps r c of_c k x p) ∙ agree_with_least tests reps keeps r d of_d k x p;
      represent_themselves = λ k d p. record {
        is_code = codes k d p;
        begun = Contains-get_or reps k d p;
        from_least = omega arith;
        none_between =
            λ j e q low. low;
      };
      are_apart = λ k d p positive. is_apart (get_or reps k d) positive (adds_none (get_or reps k d) (Contains-get_or reps k d p));
    }
  where
    is_apart : (r : ℕ) → 1 ≤ r → Contains (starts_of tests) r → ¬ (Agree tests (r - 1) r)
    is_apart r positive there agreed =
        let is : r - 1 + 1 ≡ r = omega arith in
        let P : ℕ → Type 0 = λ m. Contains (starts_of tests) m in
        let Q : ℕ → Type 0 = λ m. Agree tests (r - 1) m in
        start_is_apart tests (r - 1) (subst P (sym is) there) (subst Q (sym is) agreed)

-- a search among numbers that rise
pub parted : (reps : List ℕ) (code : ℕ) → IsStrictlyIncreasing reps → IsPartitionedBy (λ r. leb r code) reps
parted reps code rise i j d h p low =
    elim (cases_lt i j) [
      | inl before ↦ (let below = AllPairs-from_increasing reps rise i j d before p in let most = leb-true (get_or reps j d) code low in
          le-leb (get_or reps i d) code (omega arith))
      | inr same ↦ (let is : i ≡ j = omega arith in let P : ℕ → Type 0 = λ m. leb (get_or reps m d) code ≡ true in subst P (sym is) low)
    ]

pub some_below : (reps : List ℕ) (code i : ℕ) → slice_get reps 0 ≡ Some 0 → IsPartitionPoint (λ r. leb r code ≡ true) (λ r. leb r code ≡ false) reps i → 1 ≤ i
some_below [] code i begins point = absurd cc
some_below (r ∷ rs) code zero begins point =
    let is : r ≡ 0 = cc in
    let above = leb-false r code (point.1 0 0 (omega arith) (omega arith)) in
    absurd (omega arith)
some_below (r ∷ rs) code (suc i) begins point = omega arith

pub found_class : (reps : List ℕ) (code i r : ℕ) → code ≤ 4095 → IsStrictlyIncreasing reps → 1 ≤ i → i ≤ length reps → r ≡ get_or reps (i - 1) r →
    IsPartitionPoint (λ q. leb q code ≡ true) (λ q. leb q code ≡ false) reps i → IsInClass reps r code
found_class reps code i r h rise some most e point = record {
  is_code = h;
  begun = (i - 1, omega arith, sym e);
  from_least = leb-true r code (let P : ℕ → Type 0 = λ n. leb n code ≡ true in subst P (sym e) (point.0 (i - 1) r (omega arith) (omega arith)));
  none_between = λ k d p low. elim (cases_lt k i) [
    | inl before ↦ not_later k d (omega arith)
    | inr behind ↦ (let above = leb-false (get_or reps k d) code (point.1 k d behind p) in absurd (omega arith))
  ];
}
  where
    not_later : (k d : ℕ) → k ≤ i - 1 → get_or reps k d ≤ r
    not_later k d p =
        let default : get_or reps (i - 1) d ≡ get_or reps (i - 1) r = get_or_default reps (i - 1) d r (omega arith) in
        elim (cases_lt k (i - 1)) [
          | inl before ↦ (let below = AllPairs-from_increasing reps rise k (i - 1) d before (omega arith) in omega (arith, e, default))
          | inr same ↦ (let is : k ≡ i - 1 = omega arith in let at = ap (λ m. get_or reps m d) is in omega (arith, at, e, default))
        ]
