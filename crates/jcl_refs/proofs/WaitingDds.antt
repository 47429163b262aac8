-- DDs that wait: one put before the others, the first, and one taken out by its name.
use Rattle.std.proofs.Common.{◌≡◌, ◌<◌, ℕ, suc, ◌+◌, Bool, true, false, cond, if◌then◌else◌, List, [], ◌∷◌, ◌++◌, drop, length, reverse, slice_index_or, slice_set, take, take_while, Option, Some, None, refl, sym, ap, ◌∙◌, subst, arith, MatchOption, append_assoc, length-append}
use Rattle.std.specs.Global.{Vec}
use Rattle.std.specs.List.{flat_map, prefix_len}
use Rattle.std.specs.Str.{bytes_eq}
use Rattle.std.proofs.lemmas.Grind.{flat_map-append}
use Rattle.std.proofs.lemmas.List.{drop_at, get_or_at, length-reverse, reverse-append, reverse-reverse, set_at}
use Rattle.std.proofs.lemmas.Slice.Eq.{bytes_eq-Decides}
use Rattle.jcl_dds.specs.declared.dd.DdCard.{DdCard}
use Rattle.jcl_refs.specs.declared.waiting.Named.{Named}
use Rattle.jcl_refs.specs.LaterDds.{Found, found_in, has_name, has_no_name, onto_found}
use Rattle.jcl_refs.specs.declared.places.Places.{Places}
use Rattle.jcl_refs.specs.declared.waiting.Waiting.{Waiting}
use Rattle.jcl_refs.specs.LaterDds.{as_dummy, dds_left, defined_by, left_by, next_of, wanted_by}
use Rattle.jcl_refs.specs.Waiting.{AreAligned, AreWaiting, Continues, Each, HasName, IsFirst, IsGroup, IsWaiting, Takes, ahead, cards_of, first_of, found_with, groups, is_of, own, places_at, places_in, waiting}

-- lists that end with one more
pub more_at_end : {A : Type 0} (xs : List A) (x : A) → reverse (xs ++ x ∷ []) ≡ x ∷ reverse xs
more_at_end xs x = reverse-append xs (x ∷ [])

own_alone : (b : Bool) (n : ℕ) → reverse (own b n) ≡ own b n
own_alone true n = refl
own_alone false n = refl

pub own_first : (places : List ℕ) (b : Bool) (n : ℕ) → reverse (places ++ own b n) ≡ own b n ++ reverse places
own_first places b n = reverse-append places (own b n) ∙ ap (λ ns. ns ++ reverse places) (own_alone b n)

pub both : {A : Type 0} (P : A → Type 0) (xs ys : List A) → Each P xs → Each P ys → Each P (xs ++ ys)
both P [] ys each others = others
both P (x ∷ xs) ys each others = (each.0, both P xs ys each.1 others)

-- one with a name
name_of_first : (x name : List ℕ) (dd : DdCard) → dd.name ≡ Some name → is_of x (Some dd) ≡ bytes_eq name x
name_of_first x name dd named = ap (λ (n : Option (List ℕ)). is_of x (Some (record dd { name = n }))) named

-- the first with a name is looked at, and no longer found
same_rest : (b : Bool) (n m : ℕ) (ns ms : List ℕ) → own b n ++ ns ≡ own b m ++ ms → ns ≡ ms
same_rest true n m ns ms is = cc
same_rest false n m ns ms is = is

pub first_named : (named : List Named) (places less : List ℕ → List ℕ) (g : Named) (dd : DdCard) (name : List ℕ) (place : ℕ) → g.first ≡ Some dd →
    dd.name ≡ Some name → ((x : List ℕ) → places x ≡ own (bytes_eq name x) place ++ less x) → AreWaiting [] (g ∷ named) places →
    AreWaiting (reverse g.continued.items) named less
first_named named places less g dd name place first is pops are = record {
  continue = are.each.0.continue;
  each = are.each.1;
  stand = λ x.
      same_rest (bytes_eq name x) place (length named) (less x) (places_in x named)
      (sym (pops x) ∙ are.stand x
      ∙ ap (λ (f : Option DdCard). own (is_of x f) (length named) ++ places_in x named) first
      ∙ ap (λ b. own b (length named) ++ places_in x named) (name_of_first x name dd is));
}

-- the first of a name among those with a name
pub record IsFirstOf (x : List ℕ) (named : List Named) (place : ℕ) (left : List ℕ) : Type 0 where
  pub above : List Named
  pub g : Named
  pub below : List Named
  pub is : named ≡ above ++ g ∷ below
  pub at : length below ≡ place
  pub here : is_of x g.first ≡ true
  pub none : Each (λ (other : Named). is_of x other.first ≡ false) above
  pub rest : places_in x below ≡ left

first_by : (b : Bool) (x : List ℕ) (g : Named) (named : List Named) (place : ℕ) (left : List ℕ) → is_of x g.first ≡ b →
    own b (length named) ++ places_in x named ≡ place ∷ left → (places_in x named ≡ place ∷ left → IsFirstOf x named place left) →
    IsFirstOf x (g ∷ named) place left
first_by true x g named place left is places later = record {
  above = [];
  g = g;
  below = named;
  is = refl;
  at = (let e : length named ≡ place = cc in e);
  here = is;
  none = tt;
  rest = (let e : places_in x named ≡ left = cc in e);
}
first_by false x g named place left is places later =
    let f = later places in
    record { above = g ∷ f.above; g = f.g; below = f.below; is = ap (λ gs. g ∷ gs) f.is; at = f.at; here = f.here; none = (is, f.none); rest = f.rest }

first_place : (x : List ℕ) (named : List Named) (place : ℕ) (left : List ℕ) → places_in x named ≡ place ∷ left → IsFirstOf x named place left
first_place x [] place left is = absurd (cc)
first_place x (g ∷ named) place left is = first_by (is_of x g.first) x g named place left refl is (first_place x named place left)

-- parts of a list
parts : {A : Type 0} (P : A → Type 0) (xs : List A) (y : A) (ys : List A) → Each P (xs ++ y ∷ ys) → Each P xs × P y × Each P ys
parts P [] y ys each = (tt, each.0, each.1)
parts P (x ∷ xs) y ys each = let p = parts P xs y ys each.1 in ((each.0, p.0), p.1, p.2)

-- the places of a name, once the first of a name is taken
skip_above : (x : List ℕ) (above below : List Named) → Each (λ (other : Named). is_of x other.first ≡ false) above →
    places_in x (above ++ below) ≡ places_in x below
skip_above x [] below none = refl
skip_above x (g ∷ above) below none =
    ap (λ b. own b (length (above ++ below)) ++ places_in x (above ++ below)) none.0 ∙ skip_above x above below none.1

same_length : (above : List Named) (g other : Named) (below : List Named) → length (above ++ g ∷ below) ≡ length (above ++ other ∷ below)
same_length above g other below = length-append above (g ∷ below) ∙ sym (length-append above (other ∷ below))

same_places : (x : List ℕ) (above : List Named) (g other : Named) (below : List Named) → is_of x g.first ≡ is_of x other.first →
    places_in x (above ++ g ∷ below) ≡ places_in x (above ++ other ∷ below)
same_places x [] g other below same = ap (λ b. own b (length below) ++ places_in x below) same
same_places x (a ∷ above) g other below same =
    ap (λ n. own (is_of x a.first) n ++ places_in x (above ++ g ∷ below)) (same_length above g other below)
    ∙ ap (λ ns. own (is_of x a.first) (length (above ++ other ∷ below)) ++ ns) (same_places x above g other below same)

other_by : (x y : List ℕ) (n : Option (List ℕ)) (dd : DdCard) → has_name x (record dd { name = n }) ≡ true → bytes_eq x y ≡ false →
    has_name y (record dd { name = n }) ≡ false
other_by x y None dd here apart = absurd (cc)
other_by x y (Some own_name) dd here apart =
    let same : own_name ≡ x = (bytes_eq-Decides own_name x).0 here in
    ap (λ (name : List ℕ). bytes_eq name y) same ∙ apart

other_name : (x y : List ℕ) (first : Option DdCard) → is_of x first ≡ true → bytes_eq x y ≡ false → is_of y first ≡ false
other_name x y None here apart = absurd (cc)
other_name x y (Some dd) here apart = other_by x y dd.name dd here apart

less_by : (b : Bool) (x y : List ℕ) (above : List Named) (g taken : Named) (below : List Named) (place : ℕ) (left less : List ℕ) → bytes_eq x y ≡ b →
    is_of x g.first ≡ true → taken.first ≡ None → Each (λ (other : Named). is_of x other.first ≡ false) above → length below ≡ place →
    own b place ++ less ≡ places_in y (above ++ g ∷ below) → less ≡ places_in y (above ++ taken ∷ below)
less_by true x y above g taken below place left less is here gone none at pops =
    let same : x ≡ y = (bytes_eq-Decides x y).0 is in
    let old : places_in x (above ++ g ∷ below) ≡ length below ∷ places_in x below =
    skip_above x above (g ∷ below) none ∙ ap (λ b. own b (length below) ++ places_in x below) here in
    let new : places_in x (above ++ taken ∷ below) ≡ places_in x below =
    skip_above x above (taken ∷ below) none ∙ ap (λ (f : Option DdCard). own (is_of x f) (length below) ++ places_in x below) gone in
    let left_here : place ∷ less ≡ length below ∷ places_in x below = pops ∙ ap (λ (z : List ℕ). places_in z (above ++ g ∷ below)) (sym same) ∙ old in
    let rest : less ≡ places_in x below = cc in
    rest ∙ sym new ∙ ap (λ (z : List ℕ). places_in z (above ++ taken ∷ below)) same
less_by false x y above g taken below place left less is here gone none at pops =
    pops ∙ same_places y above g taken below
    (other_name x y g.first here is ∙ sym (ap (is_of y) gone))

-- those before it have another name
abbrev IsOther : List ℕ → DdCard → Type 0
IsOther x dd = has_name x dd ≡ false

nameless_by : (x : List ℕ) (n : Option (List ℕ)) (dd : DdCard) → Continues (record dd { name = n }) → IsOther x (record dd { name = n })
nameless_by x None dd is = refl
nameless_by x (Some own_name) dd is = absurd (cc)

nameless : (x : List ℕ) (dds : List DdCard) → Each Continues dds → Each (IsOther x) dds
nameless x [] each = tt
nameless x (dd ∷ dds) each = (nameless_by x dd.name dd each.0, nameless x dds each.1)

other_first : (x : List ℕ) (first : Option DdCard) → is_of x first ≡ false → Each (IsOther x) (first_of first)
other_first x None is = tt
other_first x (Some dd) is = (is, tt)

others_above : (x : List ℕ) (above : List Named) → Each (λ (other : Named). is_of x other.first ≡ false) above → Each IsGroup above →
    Each (IsOther x) (flat_map cards_of above)
others_above x [] none each = tt
others_above x (g ∷ above) none each =
    both (IsOther x) (cards_of g) (flat_map cards_of above)
    (both (IsOther x) (first_of g.first) (reverse g.continued.items) (other_first x g.first none.0) (nameless x (reverse g.continued.items) each.0.continue))
    (others_above x above none.1 each.1)

none_found : (x : List ℕ) (dds : List DdCard) → Each (IsOther x) dds → found_in x dds ≡ None
none_found x [] each = refl
none_found x (dd ∷ dds) each =
    let here = found_with [] dd dds in
    ap (λ (b : Bool). let r : Option Found = if b then Some here else onto_found dd (found_in x dds) in r) each.0
    ∙ ap (onto_found dd) (none_found x dds each.1)

found_behind : (x : List ℕ) (others : List DdCard) (dd : DdCard) (tail : List DdCard) → Each (IsOther x) others → has_name x dd ≡ true →
    found_in x (others ++ dd ∷ tail) ≡ Some (found_with others dd tail)
found_behind x [] dd tail each is =
    ap (λ (b : Bool). let r : Option Found = if b then Some (found_with [] dd tail) else onto_found dd (found_in x tail) in r) is
found_behind x (other ∷ others) dd tail each is =
    ap (λ (b : Bool). let r : Option Found =
    if b then Some (found_with [] other (others ++ dd ∷ tail)) else onto_found other (found_in x (others ++ dd ∷ tail)) in r) each.0
    ∙ ap (onto_found other) (found_behind x others dd tail each.1 is)

-- those that continue it
begins_by : (first : Option DdCard) (run more : List DdCard) → IsFirst first run → take_while has_no_name more ≡ [] →
    take_while has_no_name ((first_of first ++ run) ++ more) ≡ []
begins_by None run more is none = ap (λ ds. take_while has_no_name (ds ++ more)) is ∙ none
begins_by (Some dd) run more is none =
    ap (λ (b : Bool). let r : List DdCard = take (cond b (1 + prefix_len has_no_name (run ++ more)) 0) (dd ∷ (run ++ more)) in r) is

begins_named : (below : List Named) → Each IsGroup below → take_while has_no_name (flat_map cards_of below) ≡ []
begins_named [] each = refl
begins_named (g ∷ below) each =
    begins_by g.first (reverse g.continued.items) (flat_map cards_of below) each.0.first (begins_named below each.1)

run_of : (run more : List DdCard) → Each Continues run → take_while has_no_name more ≡ [] → take_while has_no_name (run ++ more) ≡ run
run_of [] more each none = none
run_of (dd ∷ run) more each none =
    let n = prefix_len has_no_name (run ++ more) in
    let one : 1 + n ≡ suc n = omega (arith) in
    ap (λ (b : Bool). let r : List DdCard = take (cond b (1 + n) 0) (dd ∷ (run ++ more)) in r) each.0
    ∙ ap (λ m. let r : List DdCard = take m (dd ∷ (run ++ more)) in r) one
    ∙ ap (λ ds. dd ∷ ds) (run_of run more each.1 none)

-- the first of a name, from what is taken from its places
pub first_of_name : (next : List DdCard) (named : List Named) (places less : List ℕ → List ℕ) (x : List ℕ) (place : ℕ) → AreWaiting next named places →
    ((y : List ℕ) → places y ≡ own (bytes_eq x y) place ++ less y) → IsFirstOf x named place (less x)
first_of_name next named places less x place are pops =
    first_place x named place (less x)
    (sym (are.stand x) ∙ pops x ∙ ap (λ b. own b place ++ less x) ((bytes_eq-Decides x x).1 refl))

-- where it stands, the last first
pub stands_at : (items : List Named) (x : List ℕ) (place : ℕ) (left : List ℕ) (f : IsFirstOf x (reverse items) place left) →
    items ≡ reverse f.below ++ f.g ∷ reverse f.above
stands_at items x place left f =
    sym (reverse-reverse items) ∙ ap reverse f.is ∙ reverse-append f.above (f.g ∷ f.below)
    ∙ ap (λ gs. gs ++ reverse f.above) (reverse-append (f.g ∷ []) f.below)
    ∙ append_assoc (reverse f.below) (f.g ∷ []) (reverse f.above)

front_length : (below : List Named) (place : ℕ) → length below ≡ place → length (reverse below) ≡ place
front_length below place at = length-reverse below ∙ at

pub place_within : (items : List Named) (x : List ℕ) (place : ℕ) (left : List ℕ) (f : IsFirstOf x (reverse items) place left) → place < length items
place_within items x place left f =
    let all : length items ≡ length (reverse f.below) + suc (length (reverse f.above)) =
    ap length (stands_at items x place left f) ∙ length-append (reverse f.below) (f.g ∷ reverse f.above) in
    let front = front_length f.below place f.at in
    omega (arith, all, front)

pub group_at : (items : List Named) (x : List ℕ) (place : ℕ) (left : List ℕ) (f : IsFirstOf x (reverse items) place left) (d : Named) →
    slice_index_or items place d ≡ f.g
group_at items x place left f d =
    ap (λ gs. slice_index_or gs place d) (stands_at items x place left f)
    ∙ get_or_at (reverse f.below) f.g (reverse f.above) d place (front_length f.below place f.at)

pub taken_at : (items : List Named) (x : List ℕ) (place : ℕ) (left : List ℕ) (f : IsFirstOf x (reverse items) place left) (taken : Named) →
    reverse (slice_set items place taken) ≡ f.above ++ taken ∷ f.below
taken_at items x place left f taken =
    ap (λ gs. reverse (slice_set gs place taken)) (stands_at items x place left f)
    ∙ ap reverse (set_at (reverse f.below) f.g (reverse f.above) taken place (front_length f.below place f.at))
    ∙ reverse-append (reverse f.below) (taken ∷ reverse f.above)
    ∙ ap (λ gs. gs ++ reverse (reverse f.below)) (reverse-append (taken ∷ []) (reverse f.above))
    ∙ append_assoc (reverse (reverse f.above)) (taken ∷ []) (reverse (reverse f.below))
    ∙ ap (λ gs. gs ++ taken ∷ reverse (reverse f.below)) (reverse-reverse f.above)
    ∙ ap (λ gs. f.above ++ taken ∷ gs) (reverse-reverse f.below)

-- the others wait on, those that continue it first
pub wait_on : (next : List DdCard) (named : List Named) (places less : List ℕ → List ℕ) (x : List ℕ) (place : ℕ) (f : IsFirstOf x named place (less x))
    (taken : Named) → AreWaiting next named places → ((y : List ℕ) → places y ≡ own (bytes_eq x y) place ++ less y) → taken.first ≡ None →
    reverse taken.continued.items ≡ [] → AreWaiting (reverse f.g.continued.items ++ next) (f.above ++ taken ∷ f.below) less
wait_on next named places less x place f taken are pops gone alone =
    let p = parts IsGroup f.above f.g f.below (subst (Each IsGroup) f.is are.each) in
    let dead : IsGroup taken = record {
      named = subst (λ (first : Option DdCard). HasName taken.name first) (sym gone) tt;
      continue = subst (Each Continues) (sym alone) tt;
      first = subst (λ (first : Option DdCard). IsFirst first (reverse taken.continued.items)) (sym gone) alone;
    } in
    record {
      continue = both Continues (reverse f.g.continued.items) next p.1.continue are.continue;
      each = both IsGroup f.above (taken ∷ f.below) p.0 (dead, p.2);
      stand = λ y.
          less_by (bytes_eq x y) x y f.above f.g taken f.below place (less x) (less y) refl f.here gone f.none f.at
          (sym (pops y) ∙ are.stand y ∙ ap (places_in y) f.is);
    }

taken_length : (next above run below : List DdCard) (dd : DdCard) →
    suc (length ((run ++ next) ++ (above ++ below))) ≡ length (next ++ (above ++ dd ∷ (run ++ below)))
taken_length next above run below dd =
    let a = length-append (run ++ next) (above ++ below) in
    let b = length-append run next in
    let c = length-append above below in
    let d = length-append next (above ++ dd ∷ (run ++ below)) in
    let e = length-append above (dd ∷ (run ++ below)) in
    let f = length-append run below in
    omega (arith, a, b, c, d, e, f)

takes_by : (first : Option DdCard) (x : List ℕ) (next above run below : List DdCard) → is_of x first ≡ true → Each (IsOther x) next → Each (IsOther x) above →
    Each Continues run → take_while has_no_name below ≡ [] →
    Takes x (next ++ (above ++ ((first_of first ++ run) ++ below))) first ((run ++ next) ++ (above ++ below))
takes_by None x next above run below here others more runs begins = absurd (cc)
takes_by (Some dd) x next above run below here others more runs begins =
    let f = found_with (next ++ above) dd (run ++ below) in
    let is : found_in x (next ++ (above ++ dd ∷ (run ++ below))) ≡ Some f =
    ap (found_in x) (sym (append_assoc next above (dd ∷ (run ++ below))))
    ∙ found_behind x (next ++ above) dd (run ++ below) (both (IsOther x) next above others more) here in
    let continued : take_while has_no_name (run ++ below) ≡ run = run_of run below runs begins in
    let behind : drop (length (take_while has_no_name (run ++ below))) (run ++ below) ≡ below =
    ap (λ (ds : List DdCard). drop (length ds) (run ++ below)) continued ∙ drop_at run below (length run) refl in (
      f,
      is,
      refl,
      append_assoc run next (above ++ below)
          ∙ ap (λ ds. run ++ ds) (sym (append_assoc next above below))
          ∙ ap (λ ds. ds ++ ((next ++ above) ++ below)) (sym continued)
          ∙ ap (λ ds. take_while has_no_name (run ++ below) ++ ((next ++ above) ++ ds)) (sym behind),
      taken_length next above run below dd,
    )

pub takes_first : (next : List DdCard) (named : List Named) (places less : List ℕ → List ℕ) (x : List ℕ) (place : ℕ) (f : IsFirstOf x named place (less x))
    (taken : Named) (first : Option DdCard) → AreWaiting next named places → f.g.first ≡ first → taken.first ≡ None → reverse taken.continued.items ≡ [] →
    Takes x (next ++ flat_map cards_of named) first
    ((reverse f.g.continued.items ++ next) ++ flat_map cards_of (f.above ++ taken ∷ f.below))
takes_first next named places less x place f taken first are is gone alone =
    let run = reverse f.g.continued.items in
    let above = flat_map cards_of f.above in
    let below = flat_map cards_of f.below in
    let p = parts IsGroup f.above f.g f.below (subst (Each IsGroup) f.is are.each) in
    let old : next ++ flat_map cards_of named ≡ next ++ (above ++ ((first_of first ++ run) ++ below)) =
    ap (λ gs. next ++ flat_map cards_of gs) f.is
    ∙ ap (λ ds. next ++ ds) (flat_map-append cards_of f.above (f.g ∷ f.below))
    ∙ ap (λ (o : Option DdCard). next ++ (above ++ ((first_of o ++ run) ++ below))) is in
    let none : cards_of taken ≡ [] = ap (λ (o : Option DdCard). first_of o ++ reverse taken.continued.items) gone ∙ alone in
    let new : (run ++ next) ++ flat_map cards_of (f.above ++ taken ∷ f.below) ≡ (run ++ next) ++ (above ++ below) =
    ap (λ ds. (run ++ next) ++ ds) (flat_map-append cards_of f.above (taken ∷ f.below))
    ∙ ap (λ ds. (run ++ next) ++ (above ++ (ds ++ below))) none in
    subst (λ ds. Takes x ds first ((run ++ next) ++ flat_map cards_of (f.above ++ taken ∷ f.below))) (sym old)
    (subst (λ ds. Takes x (next ++ (above ++ ((first_of first ++ run) ++ below))) first ds) (sym new)
    (takes_by first x next above run below (sym (ap (is_of x) is) ∙ f.here) (nameless x next are.continue) (others_above x f.above f.none p.0)
    p.1.continue (begins_named f.below p.2)))

-- none is taken where none has a place
none_in : (x : List ℕ) (named : List Named) → places_in x named ≡ [] → Each (λ (other : Named). is_of x other.first ≡ false) named
none_in x [] none = tt
none_in x (g ∷ named) none = (no_own (is_of x g.first) (length named) (places_in x named) none, none_in x named (no_rest (is_of x g.first) (length named) (places_in x named) none))
  where
    no_own : (b : Bool) (n : ℕ) (ns : List ℕ) → own b n ++ ns ≡ [] → b ≡ false
    no_own true n ns is = absurd (cc)
    no_own false n ns is = refl

    no_rest : (b : Bool) (n : ℕ) (ns : List ℕ) → own b n ++ ns ≡ [] → ns ≡ []
    no_rest true n ns is = absurd (cc)
    no_rest false n ns is = is

pub takes_none : (next : List DdCard) (named : List Named) (places : List ℕ → List ℕ) (x : List ℕ) → AreWaiting next named places → places x ≡ [] →
    found_in x (next ++ flat_map cards_of named) ≡ None
takes_none next named places x are none =
    none_found x (next ++ flat_map cards_of named)
    (both (IsOther x) next (flat_map cards_of named) (nameless x next are.continue)
    (others_above x named (none_in x named (sym (are.stand x) ∙ none)) are.each))

-- the first of a name is taken out
pub taking : (w new : Waiting) (x : List ℕ) (place : ℕ) (group taken d : Named) → IsWaiting w → AreAligned new.places →
    ((y : List ℕ) → places_at w.places y ≡ places_at new.places y ++ own (bytes_eq x y) place) → group ≡ slice_index_or w.named.items place d →
    taken.first ≡ None → taken.continued.items ≡ [] → new.next.items ≡ w.next.items ++ group.continued.items →
    new.named.items ≡ slice_set w.named.items place taken → IsWaiting new × Takes x (waiting w) group.first (waiting new)
taking w new x place group taken d is aligned pops at gone alone moved put =
    let places : List ℕ → List ℕ = λ y. reverse (places_at w.places y) in
    let less : List ℕ → List ℕ = λ y. reverse (places_at new.places y) in
    let pops_first : (y : List ℕ) → places y ≡ own (bytes_eq x y) place ++ less y =
    λ y. ap reverse (pops y) ∙ own_first (places_at new.places y) (bytes_eq x y) place in
    let f : IsFirstOf x (groups w) place (less x) = first_of_name (ahead w) (groups w) places less x place is.are pops_first in
    let g_is : group ≡ f.g = at ∙ group_at w.named.items x place (less x) f d in
    let none : reverse taken.continued.items ≡ [] = ap reverse alone in
    let ahead_is : ahead new ≡ reverse f.g.continued.items ++ ahead w =
    ap reverse moved ∙ reverse-append w.next.items group.continued.items ∙ ap (λ (g : Named). reverse g.continued.items ++ ahead w) g_is in
    let groups_are : groups new ≡ f.above ++ taken ∷ f.below = ap reverse put ∙ taken_at w.named.items x place (less x) f taken in
    let on : AreWaiting (reverse f.g.continued.items ++ ahead w) (f.above ++ taken ∷ f.below) less =
    wait_on (ahead w) (groups w) places less x place f taken is.are pops_first gone none in
    let takes = takes_first (ahead w) (groups w) places less x place f taken group.first is.are (sym (ap (λ (g : Named). g.first) g_is)) gone none in (
      record {
        aligned = aligned;
        are = subst (λ ds. AreWaiting ds (groups new) less) (sym ahead_is)
            (subst (λ gs. AreWaiting (reverse f.g.continued.items ++ ahead w) gs less) (sym groups_are) on);
      },
      subst (λ ds. Takes x (waiting w) group.first (ds ++ flat_map cards_of (groups new))) (sym ahead_is)
          (subst (λ gs. Takes x (waiting w) group.first ((reverse f.g.continued.items ++ ahead w) ++ flat_map cards_of gs)) (sym groups_are) takes),
    )

pub place_in : (w : Waiting) (new : Places) (x : List ℕ) (place : ℕ) → IsWaiting w →
    ((y : List ℕ) → places_at w.places y ≡ places_at new y ++ own (bytes_eq x y) place) → place < length w.named.items
place_in w new x place is pops =
    let less : List ℕ → List ℕ = λ y. reverse (places_at new y) in
    place_within w.named.items x place (less x)
    (first_of_name (ahead w) (groups w) (λ y. reverse (places_at w.places y)) less x place is.are
    (λ y. ap reverse (pops y) ∙ own_first (places_at new y) (bytes_eq x y) place))

pub takes_nothing : (w : Waiting) (x : List ℕ) → IsWaiting w → places_at w.places x ≡ [] → found_in x (waiting w) ≡ None
takes_nothing w x is none = takes_none (ahead w) (groups w) (λ y. reverse (places_at w.places y)) x is.are (ap reverse none)

-- the DDs that are left
pub stays : (dd : DdCard) (others : List DdCard) → wanted_by dd.dd_name ≡ None → dds_left (dd ∷ others) ≡ dd ∷ dds_left others
stays dd others none =
    ap (λ (w : Option (List ℕ)). (next_of dd others w).stays ++ left_by (length others) (next_of dd others w).rest) none

pub becomes_dummy : (dd : DdCard) (others : List DdCard) (name : List ℕ) → wanted_by dd.dd_name ≡ Some name → found_in name others ≡ None →
    dds_left (dd ∷ others) ≡ as_dummy dd ∷ dds_left others
becomes_dummy dd others name looks none =
    ap (λ (w : Option (List ℕ)). (next_of dd others w).stays ++ left_by (length others) (next_of dd others w).rest) looks
    ∙ ap (λ (f : Option Found). let n = Rattle.jcl_refs.specs.LaterDds.next_by dd others f in n.stays ++ left_by (length others) n.rest) none

pub takes_definition : (dd : DdCard) (others : List DdCard) (name : List ℕ) (later : DdCard) (new : List DdCard) → wanted_by dd.dd_name ≡ Some name →
    Takes name others (Some later) new → dds_left (dd ∷ others) ≡ dds_left (defined_by dd later ∷ new)
takes_definition dd others name later new looks takes =
    let f = takes.0 in
    ap (λ (w : Option (List ℕ)). (next_of dd others w).stays ++ left_by (length others) (next_of dd others w).rest) looks
    ∙ ap (λ (o : Option Found). let n = Rattle.jcl_refs.specs.LaterDds.next_by dd others o in n.stays ++ left_by (length others) n.rest) takes.1
    ∙ ap (λ (d : DdCard). left_by (length others) (defined_by dd d ∷ (f.continued ++ (f.before ++ f.behind)))) takes.2
    ∙ ap (λ (ds : List DdCard). left_by (length others) (defined_by dd later ∷ ds)) (sym takes.3)
    ∙ ap (λ n. left_by n (defined_by dd later ∷ new)) (sym takes.4)

-- the first with a name comes next
next_by : (place : Option ℕ) (places less : List ℕ → List ℕ) (name : List ℕ) (n : ℕ) (later : List ℕ) → reverse (places name) ≡ n ∷ later →
    MatchOption place (places name ≡ []) (λ p. (x : List ℕ) → places x ≡ less x ++ own (bytes_eq name x) p) →
    (p : ℕ) × ((x : List ℕ) → places x ≡ less x ++ own (bytes_eq name x) p)
next_by None places less name n later is pops = absurd (let none : [] ≡ n ∷ later = sym (ap reverse pops) ∙ is in cc)
next_by (Some p) places less name n later is pops = (p, pops)

pub next_is : (w : Waiting) (named : Vec Named) (g : Named) (dd : DdCard) (name : List ℕ) (place : Option ℕ) (new : Places) → IsWaiting w →
    w.next.items ≡ [] → w.named.items ≡ named.items ++ g ∷ [] → g.first ≡ Some dd → g.name ≡ name → AreAligned new →
    MatchOption place (places_at w.places name ≡ []) (λ p. (x : List ℕ) → places_at w.places x ≡ places_at new x ++ own (bytes_eq name x) p) →
    IsWaiting (record { next = g.continued; named = named; places = new })
next_is w named g dd name place new is none last first own_name aligned pops =
    let places : List ℕ → List ℕ = λ x. reverse (places_at w.places x) in
    let less : List ℕ → List ℕ = λ x. reverse (places_at new x) in
    let groups_are : groups w ≡ g ∷ reverse named.items = ap reverse last ∙ more_at_end named.items g in
    let are : AreWaiting [] (g ∷ reverse named.items) places =
    subst (λ gs. AreWaiting [] gs places) groups_are (subst (λ ds. AreWaiting ds (groups w) places) (ap reverse none) is.are) in
    let named_so : dd.name ≡ Some name =
    subst (λ (o : Option DdCard). HasName g.name o) first are.each.0.named ∙ ap Some own_name in
    let here : is_of name g.first ≡ true =
    ap (is_of name) first ∙ name_of_first name name dd named_so ∙ (bytes_eq-Decides name name).1 refl in
    let stands : reverse (places_at w.places name) ≡ length (reverse named.items) ∷ places_in name (reverse named.items) =
    are.stand name ∙ ap (λ b. own b (length (reverse named.items)) ++ places_in name (reverse named.items)) here in
    let p = next_by place (places_at w.places) (places_at new) name (length (reverse named.items)) (places_in name (reverse named.items)) stands pops in
    record {
      aligned = aligned;
      are = first_named (reverse named.items) places less g dd name p.0 first named_so
          (λ x. ap reverse (p.1 x) ∙ own_first (places_at new x) (bytes_eq name x) p.0) are;
    }
