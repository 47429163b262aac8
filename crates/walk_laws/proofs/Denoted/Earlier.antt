-- What was read of the DDs so far says which of them are sets.
use Rattle.std.proofs.Common.{◌≡◌, ◌==◌, ◌+◌, ◌-◌, ◌≤◌, ◌<◌, ◌&&◌, ◌||◌, arith, ℕ, zero, suc, Bool, true, false, List, [], ◌∷◌, ◌++◌, length, get_or, Option, Some, None, refl, sym, ap, ◌∙◌, inl, inr, subst}
use Rattle.std.specs.Prelude.{nat_le, nat_lt, slice_get}
use Rattle.std.proofs.lemmas.Bool.{and_from, eq-eqb, le-leb, lt-ltb, or_left, or_right}
use Rattle.std.proofs.lemmas.List.{get_or_append_left, get_or_at}
use Rattle.jcl_plan.specs.declared.plan.DdKind.{DdKind}
use Rattle.jcl_plan.specs.declared.plan.DdKind.TheVariants.{Cards, Dummy, Set, Sysout}
use Rattle.jcl_plan.specs.declared.plan.DdPlan.{DdPlan}
use Rattle.jcl_plan.specs.declared.plan.StepPlan.{StepPlan}
use Rattle.cb_meaning.specs.Walks.{is_earlier_set, with_dds}
use Rattle.cb_meaning.specs.Writable.{IsEarlierSet, IsForSet, kind_at}

abbrev pub set_kind : DdKind → Bool
set_kind (Set p) = true
set_kind Dummy = false
set_kind (Sysout class) = false
set_kind (Cards cards) = false

-- which of the DDs are sets, of a step and of steps
abbrev pub sets_of : List DdPlan → List Bool
sets_of [] = []
sets_of (dd ∷ dds) = set_kind dd.kind ∷ sets_of dds

abbrev pub all_sets : List StepPlan → List (List Bool)
all_sets [] = []
all_sets (step ∷ steps) = sets_of step.dds ∷ all_sets steps

pub sets_more : (done : List DdPlan) (dd : DdPlan) → sets_of done ++ set_kind dd.kind ∷ [] ≡ sets_of (done ++ dd ∷ [])
sets_more [] dd = refl
sets_more (d ∷ done) dd = ap (λ bs. set_kind d.kind ∷ bs) (sets_more done dd)

pub all_more : (prior : List StepPlan) (step : StepPlan) → with_dds (all_sets prior) (sets_of step.dds) ≡ all_sets (prior ++ step ∷ [])
all_more [] step = refl
all_more (s ∷ prior) step = ap (λ bs. sets_of s.dds ∷ bs) (all_more prior step)

-- a DD for a set is one of a step
pub record Stands (steps : List StepPlan) (n m : ℕ) : Type 0 where
  pub step : StepPlan
  pub dd : DdPlan
  pub there : slice_get steps n ≡ Some step
  pub within : slice_get step.dds m ≡ Some dd
  pub for_set : set_kind dd.kind ≡ true

for_set_kind : (kind : DdKind) → IsForSet (Some kind) → set_kind kind ≡ true
for_set_kind (Set p) h = refl
for_set_kind Dummy h = absurd h
for_set_kind (Sysout class) h = absurd h
for_set_kind (Cards cards) h = absurd h

module _ (steps : List StepPlan) (n m : ℕ) (h : IsForSet (kind_at steps n m)) where
  with_dd : (step : StepPlan) → slice_get steps (n - 1) ≡ Some step → (o : Option DdPlan) → slice_get step.dds (m - 1) ≡ o → Stands steps (n - 1) (m - 1)
  with_dd step e None f = absurd (let no : IsForSet None = rw f at (rw e at h) in no)
  with_dd step e (Some dd) f = record {
    step = step;
    dd = dd;
    there = e;
    within = f;
    for_set = for_set_kind dd.kind (let is : IsForSet (Some dd.kind) = rw f at (rw e at h) in is);
  }

  with_step : (o : Option StepPlan) → slice_get steps (n - 1) ≡ o → Stands steps (n - 1) (m - 1)
  with_step None e = absurd (let no : IsForSet None = rw e at h in no)
  with_step (Some step) e = with_dd step e (slice_get step.dds (m - 1)) refl

  stands : Stands steps (n - 1) (m - 1)
  stands = with_step (slice_get steps (n - 1)) refl

-- it is found in what was read
get_left : {X : Type 0} (xs ys : List X) (n : ℕ) → n < length xs → slice_get (xs ++ ys) n ≡ slice_get xs n
get_left [] ys n h = absurd (omega (arith, h))
get_left (x ∷ xs) ys zero h = refl
get_left (x ∷ xs) ys (suc n) h = get_left xs ys n (omega (arith, h))

get_seam : {X : Type 0} (xs : List X) (y : X) (ys : List X) (n : ℕ) → length xs ≡ n → slice_get (xs ++ y ∷ ys) n ≡ Some y
get_seam [] y ys zero h = refl
get_seam [] y ys (suc n) h = absurd (omega (arith, h))
get_seam (x ∷ xs) y ys zero h = absurd (omega (arith, h))
get_seam (x ∷ xs) y ys (suc n) h = get_seam xs y ys n (omega (arith, h))

set_read : (dds : List DdPlan) (m : ℕ) (dd : DdPlan) → slice_get dds m ≡ Some dd → get_or (sets_of dds) m false ≡ set_kind dd.kind
set_read [] m dd e = absurd cc
set_read (d ∷ dds) zero dd e = let is : d ≡ dd = cc in ap (λ (x : DdPlan). set_kind x.kind) is
set_read (d ∷ dds) (suc m) dd e = set_read dds m dd e

sets_read : (steps : List StepPlan) (n : ℕ) (step : StepPlan) → slice_get steps n ≡ Some step → get_or (all_sets steps) n [] ≡ sets_of step.dds
sets_read [] n step e = absurd cc
sets_read (s ∷ steps) zero step e = let is : s ≡ step = cc in ap (λ (x : StepPlan). sets_of x.dds) is
sets_read (s ∷ steps) (suc n) step e = sets_read steps n step e

pub length_sets : (dds : List DdPlan) → length (sets_of dds) ≡ length dds
length_sets [] = refl
length_sets (dd ∷ dds) = ap suc (length_sets dds)

pub length_all : (steps : List StepPlan) → length (all_sets steps) ≡ length steps
length_all [] = refl
length_all (step ∷ steps) = ap suc (length_all steps)

module _ (prior : List StepPlan) (here : StepPlan) (later : List StepPlan) (done rest : List DdPlan) (split : here.dds ≡ done ++ rest) (n m : ℕ) where
  read_before : n < length prior → Stands (prior ++ here ∷ later) n m → get_or (get_or (with_dds (all_sets prior) (sets_of done)) n []) m false ≡ true
  read_before h s =
      let short : n < length (all_sets prior) = (let long = length_all prior in omega (arith, h, long)) in
      let there : slice_get prior n ≡ Some s.step = sym (get_left prior (here ∷ later) n h) ∙ s.there in
      ap (λ bs. get_or bs m false) (get_or_append_left (all_sets prior) (sets_of done ∷ []) [] n short ∙ sets_read prior n s.step there)
      ∙ (set_read s.step.dds m s.dd s.within ∙ s.for_set)

  read_here : n ≡ length prior → m < length done → Stands (prior ++ here ∷ later) n m →
      get_or (get_or (with_dds (all_sets prior) (sets_of done)) n []) m false ≡ true
  read_here h g s =
      let one : Some here ≡ Some s.step = sym (get_seam prior here later n (sym h)) ∙ s.there in
      let is : here ≡ s.step = cc in
      let within : slice_get here.dds m ≡ Some s.dd = subst (λ (x : StepPlan). slice_get x.dds m ≡ Some s.dd) (sym is) s.within in
      let there : slice_get done m ≡ Some s.dd = sym (get_left done rest m g) ∙ (ap (λ (ds : List DdPlan). slice_get ds m) (sym split) ∙ within) in
      ap (λ bs. get_or bs m false) (get_or_at (all_sets prior) (sets_of done) [] [] n (length_all prior ∙ sym h)) ∙ (set_read done m s.dd there ∙ s.for_set)

module _ (all prior : List StepPlan) (here : StepPlan) (later : List StepPlan) (done rest : List DdPlan) (whole : all ≡ prior ++ here ∷ later)
    (split : here.dds ≡ done ++ rest) (s d : ℕ) (h : IsEarlierSet all (length (all_sets prior) + 1) (length (sets_of done) + 1) s d) where
  it_stands : Stands (prior ++ here ∷ later) (s - 1) (d - 1)
  it_stands = stands (prior ++ here ∷ later) s d (subst (λ (steps : List StepPlan). IsForSet (kind_at steps s d)) whole h.for_set)

  pub earlier_is : is_earlier_set (with_dds (all_sets prior) (sets_of done)) (length (all_sets prior) + 1) (length (sets_of done) + 1) s d ≡ true
  earlier_is =
      let k : ℕ = length (all_sets prior) + 1 in
      let e : ℕ = length (sets_of done) + 1 in
      let one : 1 ≤ s = h.from_one.0 in
      let two : 1 ≤ d = h.from_one.1 in
      let steps_long = length_all prior in
      let dds_long = length_sets done in
      let ones : (nat_le 1 s && nat_le 1 d) ≡ true = and_from (nat_le 1 s) (nat_le 1 d) (le-leb 1 s one) (le-leb 1 d two) in
      elim h.before [
        | inl before ↦
            and_from (nat_le 1 s && nat_le 1 d && (nat_lt s k || (s == k && nat_lt d e))) _
            (and_from (nat_le 1 s && nat_le 1 d) (nat_lt s k || (s == k && nat_lt d e)) ones
            (or_left (nat_lt s k) (s == k && nat_lt d e) (lt-ltb s k before)))
            (read_before prior here later done rest split (s - 1) (d - 1) (omega (arith, before, one, steps_long)) it_stands)
        | inr both ↦
            (let same : s ≡ k = both.0 in let less : d < e = both.1 in
            and_from (nat_le 1 s && nat_le 1 d && (nat_lt s k || (s == k && nat_lt d e))) _
            (and_from (nat_le 1 s && nat_le 1 d) (nat_lt s k || (s == k && nat_lt d e)) ones
            (or_right (nat_lt s k) (s == k && nat_lt d e) (and_from (s == k) (nat_lt d e) (eq-eqb s k same) (lt-ltb d e less))))
            (read_here prior here later done rest split (s - 1) (d - 1) (omega (arith, same, one, steps_long)) (omega (arith, less, two, dds_long)) it_stands))
      ]
