-- Who is at which initiator behind an event.
use Rattle.std.proofs.Common.{◌≡◌, ◌⊎◌, inl, inr, ℕ, List, Option, Some, refl, sym, ap, ◌∙◌}
use Rattle.std.specs.Prelude.{slice_get}
use Rattle.std.proofs.lemmas.Bool.{cases_eq}
use Rattle.world_meaning.specs.Worlds.{Initiator, IsAt, Running, World, with_running}
use Rattle.world_laws.proofs.Beside.{one_there, set_elsewhere, set_here}
use Rattle.law_core.specs.Soundness.{RunsAt}

-- the initiator that has changed, or another one as it was
pub place_cases : (old new : List Initiator) (at : ℕ) (x : Initiator) (o : Option Running) → slice_get old at ≡ Some x → new ≡ with_running old at x o →
    (place : ℕ) (y : Initiator) → slice_get new place ≡ Some y →
    ((place ≡ at) × (y ≡ record x { running = o })) ⊎ ((place ≡ at → ⊥) × (slice_get old place ≡ Some y))
place_cases old new at x o there is place y h = by_place (cases_eq place at)
  where
    by_place : (place ≡ at) ⊎ (place ≡ at → ⊥) →
        ((place ≡ at) × (y ≡ record x { running = o })) ⊎ ((place ≡ at → ⊥) × (slice_get old place ≡ Some y))
    by_place (inl same) = inl (
      same,
      one_there new place at y (record x { running = o }) same h
          (ap (λ (xs : List Initiator). slice_get xs at) is ∙ set_here old at x (record x { running = o }) there),
    )
    by_place (inr apart) = inr (
      apart,
      sym (set_elsewhere old place at (record x { running = o }) apart) ∙ (sym (ap (λ (xs : List Initiator). slice_get xs place) is) ∙ h),
    )

-- its job is the one that it was left, or the initiator is another one and has the job that it had
pub data WasAt (old : World) (at : ℕ) (o : Option Running) (place : ℕ) (r : Running) : Type 0 where
  here : place ≡ at → o ≡ Some r → WasAt old at o place r
  there : (place ≡ at → ⊥) → RunsAt old place r → WasAt old at o place r

pub runs_cases : (old new : World) (at : ℕ) (x : Initiator) (o : Option Running) → IsAt old at x → new.initiators ≡ with_running old.initiators at x o →
    (place : ℕ) (r : Running) → RunsAt new place r → WasAt old at o place r
runs_cases old new at x o is_at is place r h = by_place (place_cases old.initiators new.initiators at x o is_at is place h.it h.at)
  where
    by_place : ((place ≡ at) × (h.it ≡ record x { running = o })) ⊎ ((place ≡ at → ⊥) × (slice_get old.initiators place ≡ Some h.it)) → WasAt old at o place r
    by_place (inl (same, is_it)) = here same (sym (ap (λ (z : Initiator). z.running) is_it) ∙ h.running)
    by_place (inr (apart, was)) = there apart (record { it = h.it; at = was; running = h.running })

pub runs_same : (old new : World) → new.initiators ≡ old.initiators → (place : ℕ) (r : Running) → RunsAt new place r → RunsAt old place r
runs_same old new is place r h =
    record { it = h.it; at = sym (ap (λ (xs : List Initiator). slice_get xs place) is) ∙ h.at; running = h.running }

-- one place has one job
pub one_running : (w : World) (place : ℕ) (r s : Running) → RunsAt w place r → RunsAt w place s → r ≡ s
one_running w place r s a b =
    let both : Some r ≡ Some s = sym a.running ∙ (ap (λ (z : Initiator). z.running) (one_there w.initiators place place a.it b.it refl a.at b.at) ∙ b.running) in cc
