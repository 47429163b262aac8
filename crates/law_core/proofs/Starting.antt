-- The start is sound.
use Rattle.std.proofs.Common.{◌≡◌, ℕ, zero, suc, List, [], ◌∷◌, Some, None, refl, sym, ap, ◌∙◌, subst}
use Rattle.std.specs.Prelude.{All, slice_get}
use Rattle.std.proofs.lemmas.List.Elements.{All-head, All-tail}
use Rattle.jcl_meaning.specs.WellFormed.{IsWellFormedStore}
use Rattle.part_laws.proofs.PlansFit.{sound_groups}
use Rattle.world_meaning.specs.Lenses.{seen}
use Rattle.world_meaning.specs.Starts.{IsStart}
use Rattle.world_meaning.specs.Worlds.{Initiator, Running, World}
use Rattle.world_laws.specs.Beside.{RunsFit}
use Rattle.law_core.specs.Soundness.{IsSound, RunsAt}

idle_at : (xs : List Initiator) (place : ℕ) (x : Initiator) → All (λ y. y.running ≡ None) xs → slice_get xs place ≡ Some x → x.running ≡ None
idle_at [] place x all e = absurd cc
idle_at (y ∷ xs) zero x all e = let is : y ≡ x = cc in ap (λ (z : Initiator). z.running) (sym is) ∙ All-head (λ z. z.running ≡ None) y xs all
idle_at (y ∷ xs) (suc place) x all e = idle_at xs place x (All-tail (λ z. z.running ≡ None) y xs all) e

module _ (w : World) (s : IsStart w) where
  nobody : (place : ℕ) (r : Running) → RunsAt w place r → ⊥
  nobody place r run = let no : None ≡ Some r = sym (idle_at w.initiators place run.it s.idle run.at) ∙ run.running in absurd cc

  well_formed : (job : ℕ) → IsWellFormedStore (seen job w.shared.store)
  well_formed job = record { entries = s.store.entries; no_relative = λ base sign amount serial. refl }

  pub starts_sound : IsSound w
  starts_sound = record {
    layout = s.layout;
    programs = s.programs;
    initiators = s.initiators;
    in_order = s.in_order;
    numbered = s.numbered;
    alone = λ place r run. absurd (nobody place r run);
    held = λ place r plan run is. absurd (nobody place r run);
    compatible = λ place other r q plan p run run_too differ is has. absurd (nobody place r run);
    denoted = λ place r plan run is. absurd (nobody place r run);
    fits = λ place x at. subst (RunsFit w.config) (sym (idle_at w.initiators place x s.idle at)) tt;
    groups = λ job. sound_groups (seen job w.shared.store) (well_formed job);
  }
