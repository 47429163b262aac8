-- Initiators and their jobs, as the machine's definitions have them.
use Rattle.std.proofs.Common.{◌≡◌, ◌⊎◌, inl, inr, ℕ, List, map, Option, Some, None, slice_get, refl, sym, ap, ◌∙◌}
use Rattle.std.specs.Prelude.{slice_set}
use Rattle.std.specs.Option.{option_map}
use Rattle.std.proofs.lemmas.Bool.{cases_eq}
use Rattle.std.proofs.lemmas.List.{map-set}
use Rattle.std.proofs.lemmas.Option.{slice_get-map}
use Rattle.cb_queue.specs.RecordQueues.{RecordQueue}
use Rattle.law_core.specs.Soundness.{RunsAt}
use Rattle.world_laws.proofs.Beside.{one_there, set_elsewhere, set_here}
use Rattle.world_meaning.specs.Worlds as world
use Rattle.world_meaning.specs.Worlds.{Config}
use Rattle.init_core.specs.Running.{shown_running}
use Rattle.init_core.specs.declared.running.Running.{Running}
use Rattle.sched_core.specs.Machines.{RunsIn, shown_initiator, world_in}
use Rattle.sched_core.specs.declared.state.Initiator.{Initiator}
use Rattle.sched_core.specs.declared.state.State.{State}

-- what a look-up behind a map found was there before it
pub unmapped : {A B : Type 0} (f : A → B) (o : Option A) (y : B) → option_map f o ≡ Some y → (x : A) × (o ≡ Some x) × (y ≡ f x)
unmapped f None y e = absurd cc
unmapped f (Some x) y e = (x, refl, cc)

-- what is shown of an initiator does not depend on the records of the queue
pub shown_alike : (c : Config) (a b : RecordQueue) → shown_initiator c a ≡ shown_initiator c b
shown_alike c a b = refl

pub shown_at : (c : Config) (queue : RecordQueue) (xs : List Initiator) (place : ℕ) (x : Initiator) → slice_get xs place ≡ Some x →
    slice_get (map (shown_initiator c queue) xs) place ≡ Some (shown_initiator c queue x)
shown_at c queue xs place x e = slice_get-map (shown_initiator c queue) xs place ∙ ap (option_map (shown_initiator c queue)) e

pub shown_back : (c : Config) (queue : RecordQueue) (xs : List Initiator) (place : ℕ) (y : world.Initiator) →
    slice_get (map (shown_initiator c queue) xs) place ≡ Some y →
    (x : Initiator) × (slice_get xs place ≡ Some x) × (y ≡ shown_initiator c queue x)
shown_back c queue xs place y e = unmapped (shown_initiator c queue) (slice_get xs place) y (sym (slice_get-map (shown_initiator c queue) xs place) ∙ e)

-- one initiator has changed, and the queue perhaps
pub shown_set : (c : Config) (before after : RecordQueue) (xs : List Initiator) (place : ℕ) (x : Initiator) →
    map (shown_initiator c after) (slice_set xs place x) ≡ slice_set (map (shown_initiator c before) xs) place (shown_initiator c after x)
shown_set c before after xs place x =
    map-set (shown_initiator c after) xs place x
    ∙ ap (λ (f : Initiator → world.Initiator). slice_set (map f xs) place (shown_initiator c after x)) (shown_alike c after before)

module _ {Q : Type 0} (queue_of : Q → RecordQueue) (c : Config) (s : State Q) (place : ℕ) where
  pub runs_at : (r : Running) → RunsIn s.initiators.items place r → RunsAt (world_in queue_of c s) place (shown_running c (queue_of s.parts.queue) r)
  runs_at r h = record {
    it = shown_initiator c (queue_of s.parts.queue) h.it;
    at = shown_at c (queue_of s.parts.queue) s.initiators.items place h.it h.at;
    running = ap (option_map (shown_running c (queue_of s.parts.queue))) h.running;
  }

  pub runs_back : (q : world.Running) → RunsAt (world_in queue_of c s) place q →
      (r : Running) × RunsIn s.initiators.items place r × (q ≡ shown_running c (queue_of s.parts.queue) r)
  runs_back q h =
      let (x, at, is) = shown_back c (queue_of s.parts.queue) s.initiators.items place h.it h.at in
      let (r, running, shows) = unmapped (shown_running c (queue_of s.parts.queue)) x.running q (ap (λ (y : world.Initiator). y.running) (sym is) ∙ h.running) in
      (r, record { it = x; at = at; running = running }, shows)

-- what stands at a place once one place has changed
pub seat_cases : (xs : List Initiator) (at : ℕ) (x y : Initiator) → slice_get xs at ≡ Some x → (place : ℕ) (z : Initiator) → slice_get (slice_set xs at y) place ≡ Some z →
    ((place ≡ at) × (z ≡ y)) ⊎ ((place ≡ at → ⊥) × (slice_get xs place ≡ Some z))
seat_cases xs at x y there place z h = by_place (cases_eq place at)
  where
    by_place : (place ≡ at) ⊎ (place ≡ at → ⊥) → ((place ≡ at) × (z ≡ y)) ⊎ ((place ≡ at → ⊥) × (slice_get xs place ≡ Some z))
    by_place (inl same) = inl (same, one_there (slice_set xs at y) place at z y same h (set_here xs at x y there))
    by_place (inr apart) = inr (apart, sym (set_elsewhere xs place at y apart) ∙ h)

-- a job is the one that a place was left with, or it is at another place as before
pub data RanIn (xs : List Initiator) (at : ℕ) (o : Option Running) (place : ℕ) (r : Running) : Type 0 where
  here : place ≡ at → o ≡ Some r → RanIn xs at o place r
  elsewhere : (place ≡ at → ⊥) → RunsIn xs place r → RanIn xs at o place r

pub ran_cases : (xs after : List Initiator) (at : ℕ) (x : Initiator) (o : Option Running) → slice_get xs at ≡ Some x → after ≡ slice_set xs at (record x { running = o }) →
    (place : ℕ) (r : Running) → RunsIn after place r → RanIn xs at o place r
ran_cases xs after at x o there is place r h =
    by_place (seat_cases xs at x (record x { running = o }) there place h.it (ap (λ (ys : List Initiator). slice_get ys place) (sym is) ∙ h.at))
  where
    by_place : ((place ≡ at) × (h.it ≡ record x { running = o })) ⊎ ((place ≡ at → ⊥) × (slice_get xs place ≡ Some h.it)) → RanIn xs at o place r
    by_place (inl (same, is_it)) = here same (sym (ap (λ (z : Initiator). z.running) is_it) ∙ h.running)
    by_place (inr (apart, was)) = elsewhere apart (record { it = h.it; at = was; running = h.running })

-- one place has one job
pub one_job : (xs : List Initiator) (place : ℕ) (r q : Running) → RunsIn xs place r → RunsIn xs place q → r ≡ q
one_job xs place r q a b =
    let both : Some r ≡ Some q = sym a.running ∙ (ap (λ (z : Initiator). z.running) (one_there xs place place a.it b.it refl a.at b.at) ∙ b.running) in cc
