-- The records of chains stand where it is noted, as chains change.
use Rattle.std.proofs.Common.{◌≡◌, ◌≢◌, ℕ, zero, suc, ◌+◌, ◌-◌, ◌<◌, ◌≤◌, ◌⊎◌, inl, inr, List, [], ◌∷◌, ◌++◌, All, Option, None, Some, get_or, length, replicate, arith, ◌∙◌, ap, sym, refl, subst, length-set, get_or-set_other, get_or-set_same}
use Rattle.std.specs.Prelude.{IfSome, slice_set}
use Rattle.std.proofs.lemmas.Bool.{cases_eq}
use Rattle.std.proofs.lemmas.List.{append-nil, append_assoc, length-append, length_push, replicate_more}
use Rattle.std.proofs.lemmas.List.Elements.{All-cons, All-head, All-nil, All-tail}
use Rattle.chain_store.specs.declared.spots.Spot.{Spot}
use Rattle.chain_store.specs.Chains.{chain, last_of, walk}
use Rattle.chain_store.specs.Spots.{AreNoted, IsAmong, Stand, spot_of}

pub if_weaker : (P Q : Spot → Type 0) (o : Option Spot) → ((s : Spot) → P s → Q s) → IfSome o P → IfSome o Q
if_weaker P Q None step p = p
if_weaker P Q (Some s) step p = step s p

-- numbers among some
pub among_all : (P : ℕ → Type 0) (n : ℕ) (ns : List ℕ) → All P ns → IsAmong n ns → P n
among_all P n [] all bad = absurd bad
among_all P n (m ∷ ms) all (inl is) = subst P (sym is) (All-head P m ms all)
among_all P n (m ∷ ms) all (inr rest) = among_all P n ms (All-tail P m ms all) rest

pub all_among : (P : ℕ → Type 0) (ns : List ℕ) → ((n : ℕ) → IsAmong n ns → P n) → All P ns
all_among P [] each = All-nil P
all_among P (m ∷ ms) each = All-cons P m ms (each m (inl refl)) (all_among P ms (λ n a. each n (inr a)))

pub among_left : (n : ℕ) (xs ys : List ℕ) → IsAmong n xs → IsAmong n (xs ++ ys)
among_left n [] ys bad = absurd bad
among_left n (x ∷ xs) ys (inl is) = inl is
among_left n (x ∷ xs) ys (inr rest) = inr (among_left n xs ys rest)

pub among_right : (n : ℕ) (xs ys : List ℕ) → IsAmong n ys → IsAmong n (xs ++ ys)
among_right n [] ys a = a
among_right n (x ∷ xs) ys a = inr (among_right n xs ys a)

among_without : (n gone : ℕ) (xs ys : List ℕ) → n ≢ gone → IsAmong n (xs ++ gone ∷ ys) → IsAmong n (xs ++ ys)
among_without n gone [] ys other (inl is) = absurd (other is)
among_without n gone [] ys other (inr rest) = rest
among_without n gone (x ∷ xs) ys other (inl is) = inl is
among_without n gone (x ∷ xs) ys other (inr rest) = inr (among_without n gone xs ys other rest)

-- the record behind which the next one stands
abbrev pub last_from : ℕ → List ℕ → ℕ
last_from before [] = before
last_from before (n ∷ ns) = last_from n ns

last_more : (n : ℕ) (ns : List ℕ) → last_from n ns ≡ last_of (n ∷ ns)
last_more n [] = refl
last_more n (m ∷ ms) = last_more m ms

pub last_from_none : (ns : List ℕ) → last_from 0 ns ≡ last_of ns
last_from_none [] = refl
last_from_none (n ∷ ns) = last_more n ns

-- one spot is another
pub spot_other : (spots : List (Option Spot)) (n : ℕ) (x : Option Spot) (m : ℕ) → 1 ≤ n → m ≢ n → spot_of (slice_set spots (n - 1) x) m ≡ spot_of spots m
spot_other spots n x zero one other = refl
spot_other spots n x (suc k) one other = get_or-set_other spots (n - 1) k x None (λ is. other (omega (arith, is, one)))

pub spot_same : (spots : List (Option Spot)) (n : ℕ) (x : Option Spot) → 1 ≤ n → n ≤ length spots → spot_of (slice_set spots (n - 1) x) n ≡ x
spot_same spots n x one here =
    let number : suc (n - 1) ≡ n = omega (arith, one) in
    ap (spot_of (slice_set spots (n - 1) x)) (sym number) ∙ get_or-set_same spots (n - 1) x None (omega (arith, one, here))

none_behind : (more i : ℕ) → get_or (replicate {A = Option Spot} more None) i None ≡ None
none_behind zero i = refl
none_behind (suc more) zero = refl
none_behind (suc more) (suc i) = none_behind more i

more_read : (spots : List (Option Spot)) (more i : ℕ) → get_or (spots ++ replicate more None) i None ≡ get_or spots i None
more_read [] more i = none_behind more i
more_read (s ∷ spots) more zero = refl
more_read (s ∷ spots) more (suc i) = more_read spots more i

spot_more : (spots : List (Option Spot)) (more n : ℕ) → spot_of (spots ++ replicate more None) n ≡ spot_of spots n
spot_more spots more zero = refl
spot_more spots more (suc i) = more_read spots more i

pub spots_more : (spots new : List (Option Spot)) (more : ℕ) → new ≡ spots ++ replicate more None → length spots ≤ length new
spots_more spots new more is = let size = ap length is ∙ length-append spots (replicate more None) in omega (arith, size)

pub one_more_spot : (old now new : List (Option Spot)) → length old ≤ length now → now ≡ old ++ replicate (length now - length old) None → new ≡ now ++ None ∷ [] →
    (length old ≤ length new) × (new ≡ old ++ replicate (length new - length old) None)
one_more_spot old now new longer were is =
    let size = ap length is ∙ length_push now None in
    let more : length now - length old + 1 ≡ length new - length old = omega (arith, size, longer) in (
      omega (arith, size, longer),
      is ∙ ap (λ ss. ss ++ None ∷ []) were ∙ append_assoc old (replicate (length now - length old) None) (None ∷ []) ∙ ap (λ ss. old ++ ss) (replicate_more (length now - length old) None)
          ∙ ap (λ k. old ++ replicate k None) more,
    )

-- some records stand where they stood
pub stand_still : (spots new : List (Option Spot)) (place before : ℕ) (ns : List ℕ) → All (λ m. spot_of new m ≡ spot_of spots m) ns → Stand spots place before ns → Stand new place before ns
stand_still spots new place before [] all s = tt
stand_still spots new place before (n ∷ ns) all s = (
  All-head (λ m. spot_of new m ≡ spot_of spots m) n ns all ∙ s.0,
  stand_still spots new place n ns (All-tail (λ m. spot_of new m ≡ spot_of spots m) n ns all) s.1,
)

stand_left : (spots : List (Option Spot)) (place before : ℕ) (xs ys : List ℕ) → Stand spots place before (xs ++ ys) → Stand spots place before xs
stand_left spots place before [] ys s = tt
stand_left spots place before (x ∷ xs) ys s = (s.0, stand_left spots place x xs ys s.1)

stand_right : (spots : List (Option Spot)) (place before : ℕ) (xs ys : List ℕ) → Stand spots place before (xs ++ ys) → Stand spots place (last_from before xs) ys
stand_right spots place before [] ys s = s
stand_right spots place before (x ∷ xs) ys s = stand_right spots place x xs ys s.1

stand_both : (spots : List (Option Spot)) (place before : ℕ) (xs ys : List ℕ) → Stand spots place before xs → Stand spots place (last_from before xs) ys → Stand spots place before (xs ++ ys)
stand_both spots place before [] ys a b = b
stand_both spots place before (x ∷ xs) ys a b = (a.0, stand_both spots place x xs ys a.1 b)

-- the place of a record that stands
abbrev IsAt : ℕ → Option Spot → Type 0
IsAt place None = ⊥
IsAt place (Some s) = s.place ≡ place

at_place : (spots : List (Option Spot)) (place before : ℕ) (ns : List ℕ) (n : ℕ) → Stand spots place before ns → IsAmong n ns → IsAt place (spot_of spots n)
at_place spots place before [] n s bad = absurd bad
at_place spots place before (m ∷ ms) n s (inl is) = subst (IsAt place) (sym (ap (spot_of spots) is ∙ s.0)) refl
at_place spots place before (m ∷ ms) n s (inr rest) = at_place spots place m ms n s.1 rest

one_place : (o : Option Spot) (p q : ℕ) → IsAt p o → IsAt q o → p ≡ q
one_place None p q a b = absurd a
one_place (Some s) p q a b = sym a ∙ b

-- so many links behind the first
pub stand_walk : (spots : List (Option Spot)) (link : ℕ → ℕ) (place before first count k : ℕ) → k < count → Stand spots place before (chain link first count) →
    spot_of spots (walk link first k) ≡ Some (record { place = place; before = last_from before (chain link first k) })
stand_walk spots link place before first zero k within s = absurd (omega (arith, within))
stand_walk spots link place before first (suc count) zero within s = s.0
stand_walk spots link place before first (suc count) (suc k) within s = stand_walk spots link place first (link first) count k (omega (arith, within)) s.1

pub record IsReached (link : ℕ → ℕ) (first count n : ℕ) : Type 0 where
  pub links : ℕ
  pub within : links < count
  pub is : walk link first links ≡ n

pub reached : (link : ℕ → ℕ) (first count n : ℕ) → IsAmong n (chain link first count) → IsReached link first count n
reached link first zero n bad = absurd bad
reached link first (suc count) n (inl is) = record { links = 0; within = omega arith; is = sym is }
reached link first (suc count) n (inr rest) = let r = reached link (link first) count n rest in record { links = suc r.links; within = (let w = r.within in omega (arith, w)); is = r.is }

pub among_walk : (link : ℕ → ℕ) (first count k : ℕ) → k < count → IsAmong (walk link first k) (chain link first count)
among_walk link first zero k within = absurd (omega (arith, within))
among_walk link first (suc count) zero within = inl refl
among_walk link first (suc count) (suc k) within = inr (among_walk link (link first) count k (omega (arith, within)))

module _ (spots : List (Option Spot)) (records : ℕ → List ℕ) (h : AreNoted spots records) where
  -- a record of one chain is in no other
  pub apart_chains : (n p q : ℕ) → IsAmong n (records p) → q ≢ p → All (λ m. m ≢ n) (records q)
  apart_chains n p q here other =
      all_among (λ m. m ≢ n) (records q)
      (λ m there is. other (one_place (spot_of spots n) q p (at_place spots q 0 (records q) n (h.each q) (subst (λ k. IsAmong k (records q)) is there))
      (at_place spots p 0 (records p) n (h.each p) here)))

  -- the chains are as they were
  pub noted_still : (now : ℕ → List ℕ) → ((place : ℕ) → now place ≡ records place) → AreNoted spots now
  noted_still now same = record {
    each = λ place. subst (Stand spots place 0) (sym (same place)) (h.each place);
    only = λ n. if_weaker (λ s. IsAmong n (records s.place)) (λ s. IsAmong n (now s.place)) (spot_of spots n) (λ s a. subst (IsAmong n) (sym (same s.place)) a) (h.only n);
  }

  -- there is memory for more spots
  pub noted_more : (new : List (Option Spot)) (more : ℕ) → new ≡ spots ++ replicate more None → AreNoted new records
  noted_more new more is = record {
    each = λ place. stand_still spots new place 0 (records place) (all_among (λ m. spot_of new m ≡ spot_of spots m) (records place) (λ m _. read m)) (h.each place);
    only = λ n. subst (λ o. IfSome o (λ s. IsAmong n (records s.place))) (sym (read n)) (h.only n);
  }
    where
      read : (m : ℕ) → spot_of new m ≡ spot_of spots m
      read m = ap (λ ss. spot_of ss m) is ∙ spot_more spots more m

  -- a record is the last of a chain
  module _ (now : ℕ → List ℕ) (n place : ℕ) (longer : now place ≡ records place ++ n ∷ []) (others : (p : ℕ) → p ≢ place → now p ≡ records p)
      (alone : (p : ℕ) → All (λ m. m ≢ n) (records p)) (one : 1 ≤ n) (there : n ≤ length spots) where
    abbrev x : Option Spot
    x = Some (record { place = place; before = last_of (records place) })

    abbrev new : List (Option Spot)
    new = slice_set spots (n - 1) x

    still : (p : ℕ) → Stand new p 0 (records p)
    still p =
        stand_still spots new p 0 (records p)
        (all_among (λ m. spot_of new m ≡ spot_of spots m) (records p) (λ m a. spot_other spots n x m one (among_all (λ k. k ≢ n) m (records p) (alone p) a))) (h.each p)

    it : spot_of new n ≡ Some (record { place = place; before = last_from 0 (records place) })
    it = spot_same spots n x one there ∙ ap (λ b. Some (record { place = place; before = b })) (sym (last_from_none (records place)))

    pub noted_entered : AreNoted new now
    noted_entered = record {
      each = λ p.
          elim (cases_eq p place) [
            | inl is ↦
                subst (λ k. Stand new k 0 (now k)) (sym is)
                (subst (Stand new place 0) (sym longer) (stand_both new place 0 (records place) (n ∷ []) (still place) (it, tt)))
            | inr other ↦ subst (Stand new p 0) (sym (others p other)) (still p)
          ];
      only = λ m.
          elim (cases_eq m n) [
            | inl is ↦
                subst (λ k. IfSome (spot_of new k) (λ s. IsAmong k (now s.place))) (sym is)
                (subst (λ o. IfSome o (λ s. IsAmong n (now s.place))) (sym (spot_same spots n x one there))
                (subst (IsAmong n) (sym longer) (among_right n (records place) (n ∷ []) (inl refl))))
            | inr other ↦
                subst (λ o. IfSome o (λ s. IsAmong m (now s.place))) (sym (spot_other spots n x m one other))
                (if_weaker (λ s. IsAmong m (records s.place)) (λ s. IsAmong m (now s.place)) (spot_of spots m) (λ s a. grown m s.place a) (h.only m))
          ];
    }
      where
        grown : (m p : ℕ) → IsAmong m (records p) → IsAmong m (now p)
        grown m p a =
            elim (cases_eq p place) [
              | inl is ↦ subst (λ k. IsAmong m (now k)) (sym is) (subst (IsAmong m) (sym longer) (among_left m (records place) (n ∷ []) (subst (λ k. IsAmong m (records k)) is a)))
              | inr other ↦ subst (IsAmong m) (sym (others p other)) a
            ]

  -- a record leaves its chain: those that stand still are told apart
  module _ (now : ℕ → List ℕ) (n place : ℕ) (front rest : List ℕ) (had : records place ≡ front ++ n ∷ rest) (left : now place ≡ front ++ rest)
      (others : (p : ℕ) → p ≢ place → now p ≡ records p) where
    among_gone : IsAmong n (records place)
    among_gone = subst (IsAmong n) (sym had) (among_right n front (n ∷ rest) (inl refl))

    its_spot : spot_of spots n ≡ Some (record { place = place; before = last_from 0 front })
    its_spot = (stand_right spots place 0 front (n ∷ rest) (subst (Stand spots place 0) had (h.each place))).0

    module _ (new : List (Option Spot)) (P : ℕ → Type 0) (still : (m : ℕ) → P m → spot_of new m ≡ spot_of spots m) (front_still : All P front)
        (behind : Stand new place (last_from 0 front) rest) (others_still : (p : ℕ) → p ≢ place → All P (records p))
        (sorted : (m : ℕ) → (P m × (m ≢ n)) ⊎ IfSome (spot_of new m) (λ s. IsAmong m (now s.place))) where
      keeps : (ns : List ℕ) → All P ns → All (λ m. spot_of new m ≡ spot_of spots m) ns
      keeps ns all = all_among (λ m. spot_of new m ≡ spot_of spots m) ns (λ m a. still m (among_all P m ns all a))

      fewer : (m p : ℕ) → m ≢ n → IsAmong m (records p) → IsAmong m (now p)
      fewer m p apart a =
          elim (cases_eq p place) [
            | inl is ↦
                subst (λ k. IsAmong m (now k)) (sym is)
                (subst (IsAmong m) (sym left) (among_without m n front rest apart (subst (IsAmong m) had (subst (λ k. IsAmong m (records k)) is a))))
            | inr other ↦ subst (IsAmong m) (sym (others p other)) a
          ]

      noted_by : AreNoted new now
      noted_by = record {
        each = λ p.
            elim (cases_eq p place) [
              | inl is ↦
                  subst (λ k. Stand new k 0 (now k)) (sym is)
                  (subst (Stand new place 0) (sym left)
                  (stand_both new place 0 front rest
                  (stand_still spots new place 0 front (keeps front front_still) (stand_left spots place 0 front (n ∷ rest) (subst (Stand spots place 0) had (h.each place)))) behind))
              | inr other ↦ subst (Stand new p 0) (sym (others p other)) (stand_still spots new p 0 (records p) (keeps (records p) (others_still p other)) (h.each p))
            ];
        only = λ m.
            elim (sorted m) [
              | inl e ↦
                  subst (λ o. IfSome o (λ s. IsAmong m (now s.place))) (sym (still m e.0))
                  (if_weaker (λ s. IsAmong m (records s.place)) (λ s. IsAmong m (now s.place)) (spot_of spots m) (λ s a. fewer m s.place e.1 a) (h.only m))
              | inr e ↦ e
            ];
      }

-- no chain has a record
pub noted_first : (spots : List (Option Spot)) (records : ℕ → List ℕ) → spots ≡ [] → ((place : ℕ) → records place ≡ []) → AreNoted spots records
noted_first spots records no_spot none = record {
  each = λ place. subst (Stand spots place 0) (sym (none place)) tt;
  only = λ n. subst (λ ss. IfSome (spot_of ss n) (λ s. IsAmong n (records s.place))) (sym no_spot) (nowhere n);
}
  where
    nowhere : (n : ℕ) → IfSome (spot_of [] n) (λ s. IsAmong n (records s.place))
    nowhere zero = tt
    nowhere (suc i) = tt

-- numbers that differ
abbrev pub Differ : List ℕ → Type 0
Differ [] = Unit {0}
Differ (n ∷ ns) = All (λ m. m ≢ n) ns × Differ ns

pub record IsApart (n : ℕ) (front rest : List ℕ) : Type 0 where
  pub ahead : All (λ m. m ≢ n) front
  pub behind : All (λ m. m ≢ n) rest
  pub left : Differ (front ++ rest)

pub apart_one : (n : ℕ) (front rest : List ℕ) → Differ (front ++ n ∷ rest) → IsApart n front rest
apart_one n [] rest d = record { ahead = All-nil (λ m. m ≢ n); behind = d.0; left = d.1 }
apart_one n (x ∷ front) rest d =
    let r = apart_one n front rest d.1 in
    record {
      ahead = All-cons (λ m. m ≢ n) x front (λ is. among_all (λ m. m ≢ x) n (front ++ n ∷ rest) d.0 (among_right n front (n ∷ rest) (inl refl)) (sym is)) r.ahead;
      behind = r.behind;
      left = (all_among (λ m. m ≢ x) (front ++ rest) (λ m a. among_all (λ k. k ≢ x) m (front ++ n ∷ rest) d.0 (among_with m front rest a)), r.left);
    }
  where
    among_with : (m : ℕ) (xs ys : List ℕ) → IsAmong m (xs ++ ys) → IsAmong m (xs ++ n ∷ ys)
    among_with m [] ys a = inr a
    among_with m (y ∷ xs) ys (inl is) = inl is
    among_with m (y ∷ xs) ys (inr a) = inr (among_with m xs ys a)

module _ (spots : List (Option Spot)) (records : ℕ → List ℕ) (h : AreNoted spots records) (now : ℕ → List ℕ) (n place : ℕ) (front : List ℕ) (others : (p : ℕ) → p ≢ place → now p ≡ records p)
    (differ : Differ (records place)) (one : 1 ≤ n) (there : n ≤ length spots) where
  -- the last of its chain leaves
  module _ (had : records place ≡ front ++ n ∷ []) (left : now place ≡ front) where
    pub noted_last : AreNoted (slice_set spots (n - 1) None) now
    noted_last =
        noted_by spots records h now n place front [] had (left ∙ sym (append-nil front)) others (slice_set spots (n - 1) None) (λ m. m ≢ n)
        (λ m other. spot_other spots n None m one other) apart.ahead tt
        (λ p other. apart_chains spots records h n place p (among_gone spots records h now n place front [] had (left ∙ sym (append-nil front)) others) other)
        (λ m. elim (cases_eq m n) [
          | inl is ↦ inr (subst (λ o. IfSome o (λ s. IsAmong m (now s.place))) (sym (ap (spot_of (slice_set spots (n - 1) None)) is ∙ spot_same spots n None one there)) tt)
          | inr other ↦ inl (other, other)
        ])
      where
        apart : IsApart n front []
        apart = apart_one n front [] (subst Differ had differ)

  -- one behind which another stands
  module _ (next : ℕ) (rest : List ℕ) (had : records place ≡ front ++ n ∷ next ∷ rest) (left : now place ≡ front ++ next ∷ rest) (next_one : 1 ≤ next) (next_there : next ≤ length spots) where
    gone : IsApart n front (next ∷ rest)
    gone = apart_one n front (next ∷ rest) (subst Differ had differ)

    moved : IsApart next front rest
    moved = apart_one next front rest gone.left

    abbrev mid : List (Option Spot)
    mid = slice_set spots (n - 1) None

    abbrev passed : List (Option Spot)
    passed = slice_set mid (next - 1) (spot_of spots n)

    abbrev Stays : ℕ → Type 0
    Stays m = (m ≢ n) × (m ≢ next)

    mid_size : next ≤ length mid
    mid_size = let s = length-set spots (n - 1) None in omega (arith, next_there, s)

    stays : (m : ℕ) → Stays m → spot_of passed m ≡ spot_of spots m
    stays m other = spot_other mid next (spot_of spots n) m next_one other.1 ∙ spot_other spots n None m one other.0

    next_other : next ≢ n
    next_other = All-head (λ m. m ≢ n) next rest gone.behind

    of_gone : spot_of passed n ≡ None
    of_gone = spot_other mid next (spot_of spots n) n next_one (λ is. next_other (sym is)) ∙ spot_same spots n None one there

    of_next : spot_of passed next ≡ Some (record { place = place; before = last_from 0 front })
    of_next = spot_same mid next (spot_of spots n) next_one mid_size ∙ its_spot spots records h now n place front (next ∷ rest) had left others

    pair : (ns : List ℕ) → All (λ m. m ≢ n) ns → All (λ m. m ≢ next) ns → All Stays ns
    pair ns a b = all_among Stays ns (λ m at. (among_all (λ k. k ≢ n) m ns a at, among_all (λ k. k ≢ next) m ns b at))

    pub noted_middle : AreNoted passed now
    noted_middle =
        noted_by spots records h now n place front (next ∷ rest) had left others passed Stays stays (pair front gone.ahead moved.ahead)
        (of_next, behind)
        (λ p other. pair (records p)
        (apart_chains spots records h n place p (among_gone spots records h now n place front (next ∷ rest) had left others) other)
        (apart_chains spots records h next place p (subst (IsAmong next) (sym had) (among_right next front (n ∷ next ∷ rest) (inr (inl refl)))) other))
        sort
      where
        behind : Stand passed place next rest
        behind =
            stand_still spots passed place next rest
            (all_among (λ m. spot_of passed m ≡ spot_of spots m) rest
            (λ m a. stays m (among_all (λ k. k ≢ n) m rest (All-tail (λ k. k ≢ n) next rest gone.behind) a, among_all (λ k. k ≢ next) m rest moved.behind a)))
            (stand_right spots place 0 front (n ∷ next ∷ rest) (subst (Stand spots place 0) had (h.each place))).1.1

        sort : (m : ℕ) → (Stays m × (m ≢ n)) ⊎ IfSome (spot_of passed m) (λ s. IsAmong m (now s.place))
        sort m =
            elim (cases_eq m n) [
              | inl is ↦ inr (subst (λ o. IfSome o (λ s. IsAmong m (now s.place))) (sym (ap (spot_of passed) is ∙ of_gone)) tt)
              | inr other ↦
                  elim (cases_eq m next) [
                    | inl is ↦
                        inr (subst (λ o. IfSome o (λ s. IsAmong m (now s.place))) (sym (ap (spot_of passed) is ∙ of_next))
                        (subst (λ k. IsAmong k (now place)) (sym is) (subst (IsAmong next) (sym left) (among_right next front (next ∷ rest) (inl refl)))))
                    | inr apart ↦ inl ((other, apart), other)
                  ]
            ]
