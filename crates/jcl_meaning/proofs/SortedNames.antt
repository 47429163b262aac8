-- Names in byte order: they stay so, and what a search among them finds.
use Rattle.std.proofs.Common.{◌≡◌, ℕ, zero, suc, ◌+◌, ◌<◌, ◌≤◌, ◌||◌, List, [], ◌∷◌, ◌++◌, length, take, drop, get_or, set, ◌⊎◌, inl, inr, Ordering, Less, Equal, Greater, Result, Ok, Err, IfOk, IfErr, ap, ◌∙◌, sym, refl, subst, arith}
use Rattle.std.specs.Prelude.{All}
use Rattle.std.specs.List.{insert}
use Rattle.std.specs.List.Sorted.{IsBinarySearchResult, IsSearchInRange}
use Rattle.std.specs.Cmp.Lexicographic.{slice_cmp}
use Rattle.std.specs.Ordering.{nat_cmp, ordering_index, ordering_reverse}
use Rattle.std.proofs.lemmas.Bool.{cases_lt}
use Rattle.std.proofs.lemmas.Cmp.{nat_list_cmp_total}
use Rattle.std.proofs.lemmas.List.{get_or_default}
use Rattle.std.proofs.lemmas.List.Elements.{All-cons, All-head, All-nil, All-tail, All-weaker}
use Rattle.jcl_meaning.specs.declared.names.HeldName.{HeldName}
use Rattle.jcl_meaning.specs.Names.{AreSorted, IsBefore, asked_again, entered_at, held, with_name, with_names}
use Rattle.jcl_meaning.proofs.HeldNames.{name_before, name_behind, name_last, name_there}

abbrev AreBehind : List ℕ → List HeldName → Type 0
AreBehind name names = All (λ h. IsBefore name h.name) names

-- a name that is entered stands behind what all stand behind
behind_with : (name : List ℕ) (names : List HeldName) (h : HeldName) → IsBefore name h.name → AreBehind name names → AreBehind name (with_name names h)
behind_with name [] h here all = All-cons (λ x. IsBefore name x.name) h [] here all
behind_with name (there ∷ rest) h here all =
    by (slice_cmp nat_cmp h.name there.name) (behind_with name rest h here (All-tail (λ x. IsBefore name x.name) there rest all))
  where
    by : (o : Ordering) → AreBehind name (with_name rest h) → AreBehind name (entered_at o h there rest (with_name rest h))
    by Less more = All-cons (λ x. IsBefore name x.name) h (there ∷ rest) here all
    by Equal more =
        All-cons (λ x. IsBefore name x.name) (held there.name (there.exclusive || h.exclusive)) rest (All-head (λ x. IsBefore name x.name) there rest all)
        (All-tail (λ x. IsBefore name x.name) there rest all)
    by Greater more = All-cons (λ x. IsBefore name x.name) there (with_name rest h) (All-head (λ x. IsBefore name x.name) there rest all) more

turned : (a b : List ℕ) → slice_cmp nat_cmp a b ≡ Greater → IsBefore b a
turned a b e = nat_list_cmp_total.antisymm b a ∙ ap ordering_reverse e

pub sorted_with : (names : List HeldName) (h : HeldName) → AreSorted names → AreSorted (with_name names h)
sorted_with [] h s = (All-nil (λ x. IsBefore h.name x.name), tt)
sorted_with (there ∷ rest) h s = by (slice_cmp nat_cmp h.name there.name) refl (sorted_with rest h s.1)
  where
    by : (o : Ordering) → slice_cmp nat_cmp h.name there.name ≡ o → AreSorted (with_name rest h) → AreSorted (entered_at o h there rest (with_name rest h))
    by Less e more = (
      All-cons (λ x. IsBefore h.name x.name) there rest e
          (All-weaker (λ x. IsBefore there.name x.name) (λ x. IsBefore h.name x.name) (λ x b. nat_list_cmp_total.trans h.name there.name x.name e b) rest s.0),
      s,
    )
    by Equal e more = s
    by Greater e more = (behind_with there.name rest h (turned h.name there.name e) s.0, more)

pub sorted_all : (names hs : List HeldName) → AreSorted names → AreSorted (with_names names hs)
sorted_all names [] s = s
sorted_all names (h ∷ hs) s = sorted_all (with_name names h) hs (sorted_with names h s)

-- an earlier name stands before a later one
in_order : (xs : List HeldName) (i j : ℕ) (d : HeldName) → AreSorted xs → i < j → j < length xs → IsBefore (get_or xs i d).name (get_or xs j d).name
in_order [] i j d s l h = absurd (omega arith)
in_order (x ∷ xs) zero zero d s l h = absurd (omega arith)
in_order (x ∷ xs) zero (suc j) d s l h = s.0 j d (omega arith)
in_order (x ∷ xs) (suc i) zero d s l h = absurd (omega arith)
in_order (x ∷ xs) (suc i) (suc j) d s l h = in_order xs i j d s.1 (omega arith) (omega arith)

-- all before a place stand before the name
abbrev ArePassed : List HeldName → HeldName → ℕ → Type 0
ArePassed xs h i = (j : ℕ) → j < i → slice_cmp nat_cmp h.name (get_or xs j h).name ≡ Greater

-- so it is entered among the others
passed : (xs : List HeldName) (h : HeldName) (i : ℕ) → i ≤ length xs → ArePassed xs h i → take i xs ++ with_name (drop i xs) h ≡ with_name xs h
passed xs h zero within all = refl
passed xs h (suc i) within all =
    let next : i + 1 ≡ suc i = omega arith in
    let there : get_or xs i h ≡ get_or xs i (get_or xs i h) = get_or_default xs i h (get_or xs i h) (omega (arith, within)) in
    subst (λ n. take n xs ++ with_name (drop n xs) h ≡ with_name xs h) next
    (name_behind xs i (get_or xs i h) h (omega (arith, within)) there (all i (omega arith)) (passed xs h i (omega (arith, within)) (λ j l. all j (omega (arith, l)))))

before_turned : (a b : List ℕ) → IsBefore a b → slice_cmp nat_cmp b a ≡ Greater
before_turned a b e = nat_list_cmp_total.antisymm b a ∙ ap ordering_reverse e

before_level : (a b c : List ℕ) → IsBefore a b → slice_cmp nat_cmp b c ≡ Equal → slice_cmp nat_cmp c a ≡ Greater
before_level a b c e level = sym (nat_list_cmp_total.congr b c a level) ∙ before_turned a b e

at_most_two : (o : Ordering) → ordering_index o ≤ 2
at_most_two Less = omega arith
at_most_two Equal = omega arith
at_most_two Greater = omega arith

-- how an earlier and a later name compare with a third
rises : (a b c : List ℕ) → IsBefore a b → ordering_index (slice_cmp nat_cmp a c) ≤ ordering_index (slice_cmp nat_cmp b c)
rises a b c before = by (slice_cmp nat_cmp b c) refl
  where
    by : (o : Ordering) → slice_cmp nat_cmp b c ≡ o → ordering_index (slice_cmp nat_cmp a c) ≤ ordering_index o
    by Less e = rw (nat_list_cmp_total.trans a b c before e) (omega arith)
    by Equal e = rw (nat_list_cmp_total.antisymm a c ∙ ap ordering_reverse (before_level a b c before e)) (omega arith)
    by Greater e = at_most_two (slice_cmp nat_cmp a c)

-- so it rises along names in byte order, as a binary search asks
rising : (xs : List HeldName) (h : HeldName) → AreSorted xs → (i j : ℕ) (d : HeldName) → i ≤ j → j < length xs →
    ordering_index (slice_cmp nat_cmp (get_or xs i d).name h.name) ≤ ordering_index (slice_cmp nat_cmp (get_or xs j d).name h.name)
rising [] h s i j d le in_range = absurd (omega (arith, in_range))
rising (x ∷ xs) h s zero zero d le in_range = omega arith
rising (x ∷ xs) h s zero (suc j) d le in_range = rises x.name (get_or xs j d).name h.name (s.0 j d (omega (arith, in_range)))
rising (x ∷ xs) h s (suc i) zero d le in_range = absurd (omega (arith, le))
rising (x ∷ xs) h s (suc i) (suc j) d le in_range = rising xs h s.1 i j d (omega (arith, le)) (omega (arith, in_range))

module _ (xs : List HeldName) (h : HeldName) (sorted : AreSorted xs) where
  at_name : (i : ℕ) → i < length xs → slice_cmp nat_cmp (get_or xs i h).name h.name ≡ Equal → with_name xs h ≡ set xs i (asked_again xs i h)
  at_name i within level =
      name_there xs i (get_or xs i h) h within (get_or_default xs i h (get_or xs i h) within) (nat_list_cmp_total.antisymm h.name (get_or xs i h).name ∙ ap ordering_reverse level)
      (passed xs h i (omega (arith, within)) (λ j l. before_level (get_or xs j h).name (get_or xs i h).name h.name (in_order xs j i h sorted l within) level))

  at_gap : (i : ℕ) → i ≤ length xs → ArePassed xs h i → ((j : ℕ) → i ≤ j → j < length xs → slice_cmp nat_cmp h.name (get_or xs j h).name ≡ Less) →
      (i < length xs) ⊎ (length xs ≤ i) → with_name xs h ≡ insert xs i h
  at_gap i within before behind (inl l) = name_before xs i (get_or xs i h) h l (get_or_default xs i h (get_or xs i h) l) (behind i (omega arith) l) (passed xs h i within before)
  at_gap i within before behind (inr l) = name_last xs i i h (omega (arith, within, l)) (omega (arith, within, l)) (passed xs h i within before)

  turns : (name : List ℕ) (o : Ordering) → slice_cmp nat_cmp name h.name ≡ o → slice_cmp nat_cmp h.name name ≡ ordering_reverse o
  turns name o e = nat_list_cmp_total.antisymm h.name name ∙ ap ordering_reverse e

  -- a binary search ends at the name, or at the place where it is to be
  pub searched : (r : Result ℕ ℕ) → IsSearchInRange r (length xs) → IsBinarySearchResult (λ (x : HeldName). slice_cmp nat_cmp x.name h.name) xs r →
      IfOk r (λ i. (i < length xs) × (with_name xs h ≡ set xs i (asked_again xs i h))) × IfErr r (λ i. (i ≤ length xs) × (with_name xs h ≡ insert xs i h))
  searched (Ok i) within level = ((within, at_name i within (level h)), tt)
  searched (Err i) within parted =
      let parts = parted (rising xs h sorted) in (
        tt,
        (
          within,
          at_gap i within (λ j l. turns (get_or xs j h).name Less (parts.0 j h (omega arith) l))
              (λ j le l. turns (get_or xs j h).name Greater (parts.1 j h le l)) (cases_lt i (length xs)),
        ),
      )

-- what a name was entered in, or several, is in order where it was
pub kept_sorted : (old new : List HeldName) (h : HeldName) → AreSorted old → new ≡ with_name old h → AreSorted new
kept_sorted old new h s e = subst AreSorted (sym e) (sorted_with old h s)

pub kept_all : (old new hs : List HeldName) → AreSorted old → new ≡ with_names old hs → AreSorted new
kept_all old new hs s e = subst AreSorted (sym e) (sorted_all old hs s)
