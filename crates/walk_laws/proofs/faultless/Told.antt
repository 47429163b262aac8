-- No fault is told: what each test of a walk says then.
use Rattle.std.proofs.Common.{◌≡◌, ℕ, ◌+◌, ◌≤◌, ◌==◌, Bool, true, false, not, cond, ◌||◌, ◌&&◌, List, [], ◌∷◌, ◌++◌, Option, Some, None, refl, sym, ap, ◌∙◌, arith, inl, inr, eqb-true}
use Rattle.std.specs.Prelude.{Result, Ok, Err, nat_lt}
use Rattle.std.specs.List.{list_any}
use Rattle.std.proofs.lemmas.Bool.{cases_Bool, eqb-false, ltb-false, or_parts, both_ways}
use Rattle.cb_meaning.specs.declared.layout.Layout.{Layout}
use Rattle.cb_meaning.specs.Fields.{byte_at, field, number_at}
use Rattle.cb_meaning.specs.Spelled.{IsOwned, Records}
use Rattle.cb_meaning.specs.Walks.{and_then, arrival_fault, fault_told, is_free, kind_of, lower, lowest, owner_of, told_if, unless_fault}
use Rattle.walk_laws.specs.WalkLaws.{AreRecords}

lower_some : (n : ℕ) (o : Option ℕ) → lower n o ≡ None → ⊥
lower_some n None e = cc
lower_some n (Some m) e = cc

pub told_parts : (xs ys : List ℕ) → lowest (xs ++ ys) ≡ None → (lowest xs ≡ None) × (lowest ys ≡ None)
told_parts [] ys h = (refl, h)
told_parts (x ∷ xs) ys h = absurd (lower_some x (lowest (xs ++ ys)) h)

pub told_false : (n : ℕ) (b : Bool) → lowest (told_if n b) ≡ None → b ≡ false
told_false n true h = absurd (lower_some n None h)
told_false n false h = refl

pub told_three : (i j k : ℕ) (a b c : Bool) → lowest (told_if i a ++ told_if j b ++ told_if k c) ≡ None → (a ≡ false) × (b ≡ false) × (c ≡ false)
told_three i j k a b c h =
    let last = told_parts (told_if i a ++ told_if j b) (told_if k c) h in
    let first = told_parts (told_if i a) (told_if j b) last.0 in
    (told_false i a first.0, told_false j b first.1, told_false k c last.1)

pub told_four : (i j k n : ℕ) (a b c d : Bool) → lowest (told_if i a ++ told_if j b ++ told_if k c ++ told_if n d) ≡ None →
    (a ≡ false) × (b ≡ false) × (c ≡ false) × (d ≡ false)
told_four i j k n a b c d h =
    let last = told_parts (told_if i a ++ told_if j b ++ told_if k c) (told_if n d) h in
    let front = told_three i j k a b c last.0 in
    (front.0, front.1, front.2, told_false n d last.1)

pub true_of : (b : Bool) → not b ≡ false → b ≡ true
true_of true h = refl
true_of false h = absurd cc

pub second_false : (x y : Bool) → x ≡ true → (x && y) ≡ false → y ≡ false
second_false true y e h = h
second_false false y e h = absurd cc

pub unless_parts : {A : Type 0} (o : Option ℕ) (next : Unit {0} → Result A ℕ) (a : A) → unless_fault o next ≡ Ok a → (o ≡ None) × (next tt ≡ Ok a)
unless_parts None next a h = (refl, h)
unless_parts (Some fault) next a h = absurd cc

pub then_parts : {A B : Type 0} (r : Result A ℕ) (next : A → Result B ℕ) (b : B) → and_then r next ≡ Ok b → (a : A) × (r ≡ Ok a) × (next a ≡ Ok b)
then_parts (Ok a) next b h = (a, refl, h)
then_parts (Err fault) next b h = absurd cc

pub not_refused : {A : Type 0} (c : Bool) (fault : ℕ) (rest : Result A ℕ) (a : A) → cond c (Err fault) rest ≡ Ok a → (c ≡ false) × (rest ≡ Ok a)
not_refused true fault rest a h = absurd cc
not_refused false fault rest a h = (refl, h)

pub first_of : {A : Type 0} (c : Bool) (x y : Result A ℕ) (a : A) → c ≡ true → cond c x y ≡ Ok a → x ≡ Ok a
first_of true x y a e h = h
first_of false x y a e h = absurd cc

pub rest_of : {A : Type 0} (c : Bool) (x y : Result A ℕ) (a : A) → c ≡ false → cond c x y ≡ Ok a → y ≡ Ok a
rest_of true x y a e h = absurd cc
rest_of false x y a e h = h

abbrev fine : {A : Type 0} → A → Result A ℕ
fine x = Ok x

same_ok : {A : Type 0} (x a : A) → fine x ≡ fine a → x ≡ a
same_ok x a h = cc

pub counted : {A : Type 0} (c : Bool) (fault : ℕ) (x a : A) → cond c (Ok x) (Err fault) ≡ Ok a → (c ≡ true) × (x ≡ a)
counted true fault x a h = (refl, same_ok x a h)
counted false fault x a h = absurd cc

pub none_told : {A : Type 0} (r : Result A ℕ) → fault_told r ≡ None → (a : A) × (r ≡ Ok a)
none_told (Ok a) h = (a, refl)
none_told (Err fault) h = absurd cc

-- with one more there are no more than the most
pub one_more : (marks done more most : ℕ) → marks ≡ done → more ≡ done + 1 → ((marks ≡ most) → ⊥) → done ≤ most → more ≤ most
one_more marks done more most e h other low =
    elim (cases_Bool (done == most)) [
      | inl is ↦ absurd (other (e ∙ eqb-true done most is))
      | inr apart ↦ (let no = eqb-false done most apart in omega (arith, h, low, no))
    ]

-- arriving at a record
some_or : (c : Bool) (fault : ℕ) (rest : Option ℕ) → cond c (Some fault) rest ≡ None → (c ≡ false) × (rest ≡ None)
some_or true fault rest h = absurd cc
some_or false fault rest h = (refl, h)

pub record Arrives (l : Layout) (q : Records) (job kind : ℕ) (seen : List ℕ) (n : ℕ) : Type 0 where
  pub new : list_any (λ m. m == n) seen ≡ false
  pub in_use : is_free q n ≡ false
  pub owned : IsOwned l q job kind n

used_if : (free : Bool) (kind byte : ℕ) → (0 == kind) ≡ false → (cond free 0 byte == kind) ≡ true → free ≡ false
used_if true kind byte apart h = absurd (both_ways (0 == kind) apart h)
used_if false kind byte apart h = refl

pub arrives : (l : Layout) (q : Records) (job kind : ℕ) (seen : List ℕ) (n : ℕ) → (0 == kind) ≡ false → AreRecords q →
    arrival_fault l q job kind seen n ≡ None → Arrives l q job kind seen n
arrives l q job kind seen n apart all h =
    let known = some_or (nat_lt n 1 || nat_lt l.most_records n) 1 _ h in
    let bounds = or_parts (nat_lt n 1) (nat_lt l.most_records n) known.0 in
    let of_kind = some_or (not (kind_of q n == kind)) 2 _ known.1 in
    let of_job = some_or (not (owner_of q n == job)) 3 _ of_kind.1 in
    let new = some_or (list_any (λ m. m == n) seen) 4 None of_job.1 in
    let kinds : (kind_of q n == kind) ≡ true = true_of (kind_of q n == kind) of_kind.0 in
    let used : is_free q n ≡ false = used_if (is_free q n) kind (byte_at (q.at n) 0) apart kinds in
    let whole = all n used in
    record {
      new = new.0;
      in_use = used;
      owned = record {
        from_one = ltb-false n 1 bounds.0;
        within = ltb-false l.most_records n bounds.1;
        in_use = used;
        size = whole.size;
        of_kind = ap (λ b. cond b 0 (byte_at (q.at n) 0)) (sym used) ∙ eqb-true (kind_of q n) kind kinds;
        of_job = ap (λ b. cond b 0 (number_at (q.at n) (field 2 2))) (sym used)
            ∙ eqb-true (owner_of q n) job (true_of (owner_of q n == job) of_job.0);
      };
    }
