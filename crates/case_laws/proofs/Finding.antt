-- An element of a list of which something holds, and its place.
use Rattle.std.proofs.Common.{◌≡◌, ◌≢◌, ◌⊎◌, inl, inr, ℕ, zero, suc, List, [], ◌∷◌, Option, Some, None, All, refl, sym, subst}
use Rattle.std.specs.Prelude.{slice_get}
use Rattle.std.specs.List.{Contains}
use Rattle.std.proofs.lemmas.Bool.{cases_eq}
use Rattle.std.proofs.lemmas.List.Elements.{All-cons, All-nil}
use Rattle.world_meaning.specs.Cancels.{RunsNot}
use Rattle.world_meaning.specs.Worlds.{Initiator, Running, Waiting}
use Rattle.law_core.proofs.Elements.{contains_first, contains_later}

pub record Found {X : Type 0} (Yes : X → Type 0) (xs : List X) : Type 0 where
  pub place : ℕ
  pub it : X
  pub at : slice_get xs place ≡ Some it
  pub is : Yes it

module _ {X : Type 0} (No Yes : X → Type 0) (known : (x : X) → No x ⊎ Yes x) where
  by_first : (x : X) (xs : List X) → No x ⊎ Yes x → (All No xs) ⊎ Found Yes xs → (All No (x ∷ xs)) ⊎ Found Yes (x ∷ xs)
  by_first x xs (inr is) more = inr (record { place = 0; it = x; at = refl; is = is })
  by_first x xs (inl isnt) (inl none) = inl (All-cons No x xs isnt none)
  by_first x xs (inl isnt) (inr f) = inr (record { place = suc f.place; it = f.it; at = f.at; is = f.is })

  pub found_or_none : (xs : List X) → (All No xs) ⊎ Found Yes xs
  found_or_none [] = inl (All-nil No)
  found_or_none (x ∷ xs) = by_first x xs (known x) (found_or_none xs)

pub contains_at : {X : Type 0} (xs : List X) (n : ℕ) (x : X) → slice_get xs n ≡ Some x → Contains xs x
contains_at [] n x e = absurd cc
contains_at (y ∷ ys) zero x e = let same : y ≡ x = cc in subst (λ z. Contains (y ∷ ys) z) same (contains_first y ys)
contains_at (y ∷ ys) (suc n) x e = contains_later y x ys (contains_at ys n x e)

-- a number, or another one
is_or_not : (n m : ℕ) → (n ≡ m) ⊎ (n ≡ m → ⊥) → (n ≢ m) ⊎ (n ≡ m)
is_or_not n m (inl same) = inr same
is_or_not n m (inr apart) = inl apart

numbered : (number : ℕ) (x : Initiator) → (x.number ≢ number) ⊎ (x.number ≡ number)
numbered number x = is_or_not x.number number (cases_eq x.number number)

pub initiator_of : (initiators : List Initiator) (number : ℕ) → (All (λ x. x.number ≢ number) initiators) ⊎ Found (λ x. x.number ≡ number) initiators
initiator_of initiators number = found_or_none (λ x. x.number ≢ number) (λ x. x.number ≡ number) (numbered number) initiators

waits_or_not : (job : ℕ) (w : Waiting) → (w.job ≢ job) ⊎ (w.job ≡ job)
waits_or_not job w = is_or_not w.job job (cases_eq w.job job)

pub waiting_of : (waiting : List Waiting) (job : ℕ) → (All (λ w. w.job ≢ job) waiting) ⊎ Found (λ w. w.job ≡ job) waiting
waiting_of waiting job = found_or_none (λ w. w.job ≢ job) (λ w. w.job ≡ job) (waits_or_not job) waiting

-- the job of an initiator is this one
pub record Has (job : ℕ) (x : Initiator) : Type 0 where
  pub running : Running
  pub runs : x.running ≡ Some running
  pub of_job : running.job ≡ job

by_number : (job : ℕ) (x : Initiator) (r : Running) → x.running ≡ Some r → (r.job ≢ job) ⊎ (r.job ≡ job) → (RunsNot x.running job) ⊎ Has job x
by_number job x r e (inl isnt) = inl (subst (λ (o : Option Running). RunsNot o job) (sym e) isnt)
by_number job x r e (inr is) = inr (record { running = r; runs = e; of_job = is })

by_running : (job : ℕ) (x : Initiator) (o : Option Running) → x.running ≡ o → (RunsNot x.running job) ⊎ Has job x
by_running job x None e = inl (subst (λ (o : Option Running). RunsNot o job) (sym e) tt)
by_running job x (Some r) e = by_number job x r e (is_or_not r.job job (cases_eq r.job job))

pub running_of : (initiators : List Initiator) (job : ℕ) → (All (λ x. RunsNot x.running job) initiators) ⊎ Found (Has job) initiators
running_of initiators job = found_or_none (λ x. RunsNot x.running job) (Has job) (λ x. by_running job x x.running refl) initiators
