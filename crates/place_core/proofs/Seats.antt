-- Where the volume of a serial stands in a list.
use Rattle.std.proofs.Common.{◌≡◌, ◌<◌, ◌≤◌, ℕ, suc, ◌+◌, Bool, true, false, not, nat_lt, cond, IfSome, IfNone, List, [], ◌∷◌, Some, None, length, refl, subst, ap, ◌∙◌, arith}
use Rattle.std.specs.List.{position, position_or_len}
use Rattle.std.proofs.lemmas.Bool.{ltb-true, ltb-false}
use Rattle.mount_core.specs.Mounts.{MountedState}
use Rattle.shared_core.specs.Shown.{mounted_in}
use Rattle.shared_core.specs.Writes.{is_mounted}
use Rattle.place_core.specs.Volumes.{IsMissing, StandsAt, changed_on}

module _ (serial : List ℕ) where
  abbrev first_place : List MountedState → ℕ
  first_place volumes = position_or_len (is_mounted serial) volumes

  here : (m : MountedState) (ms : List MountedState) → is_mounted serial m ≡ true → StandsAt (m ∷ ms) serial 0
  here m ms e = record {
    within = omega (arith);
    found = λ d. ap (λ b. cond b (Some m) (mounted_in ms serial)) e;
    changed = λ f d. ap (λ b. cond b (f m ∷ ms) (m ∷ changed_on f serial ms)) e;
  }

  behind : (m : MountedState) (ms : List MountedState) (n : ℕ) → is_mounted serial m ≡ false → StandsAt ms serial n → StandsAt (m ∷ ms) serial (suc n)
  behind m ms n e s = record {
    within = omega (arith, s.within);
    found = λ d. ap (λ b. cond b (Some m) (mounted_in ms serial)) e ∙ s.found d;
    changed = λ f d. ap (λ b. cond b (f m ∷ ms) (m ∷ changed_on f serial ms)) e ∙ ap (λ l. m ∷ l) (s.changed f d);
  }

  step : (m : MountedState) (ms : List MountedState) (n : ℕ) (b : Bool) → is_mounted serial m ≡ b → (n < length ms → StandsAt ms serial n) →
      cond (not b) (1 + n) 0 < suc (length ms) → StandsAt (m ∷ ms) serial (cond (not b) (1 + n) 0)
  step m ms n true e ih h = here m ms e
  step m ms n false e ih h = subst (StandsAt (m ∷ ms) serial) (next n) (behind m ms n e (ih (omega (arith, h))))
    where
      next : (n : ℕ) → suc n ≡ 1 + n
      next n = omega (arith)

  stands : (volumes : List MountedState) → first_place volumes < length volumes → StandsAt volumes serial (first_place volumes)
  stands [] h = absurd (omega (arith, h))
  stands (m ∷ ms) h = step m ms (first_place ms) (is_mounted serial m) refl (stands ms) h

  none_step : (m : MountedState) (ms : List MountedState) (b : Bool) → is_mounted serial m ≡ b → (length ms ≤ first_place ms → IsMissing ms serial) →
      suc (length ms) ≤ cond (not b) (1 + first_place ms) 0 → IsMissing (m ∷ ms) serial
  none_step m ms true e ih h = absurd (omega (arith, h))
  none_step m ms false e ih h =
      let g : IsMissing ms serial = ih (omega (arith, h)) in
      record {
        found = ap (λ b. cond b (Some m) (mounted_in ms serial)) e ∙ g.found;
        changed = λ f. ap (λ b. cond b (f m ∷ ms) (m ∷ changed_on f serial ms)) e ∙ ap (λ l. m ∷ l) (g.changed f);
      }

  lacks : (volumes : List MountedState) → length volumes ≤ first_place volumes → IsMissing volumes serial
  lacks [] h = record { found = refl; changed = λ f. refl }
  lacks (m ∷ ms) h = none_step m ms (is_mounted serial m) refl (lacks ms) h

  there_by : (volumes : List MountedState) (n : ℕ) (b : Bool) → (b ≡ true → StandsAt volumes serial n) → IfSome (cond b (Some n) None) (StandsAt volumes serial)
  there_by volumes n true f = f refl
  there_by volumes n false f = tt

  pub there : (volumes : List MountedState) → IfSome (position (is_mounted serial) volumes) (StandsAt volumes serial)
  there volumes =
      there_by volumes (first_place volumes) (nat_lt (first_place volumes) (length volumes))
      (λ e. stands volumes (ltb-true (first_place volumes) (length volumes) e))

  missing_by : (volumes : List MountedState) (n : ℕ) (b : Bool) → (b ≡ false → IsMissing volumes serial) → IfNone (cond b (Some n) None) (IsMissing volumes serial)
  missing_by volumes n true f = tt
  missing_by volumes n false f = f refl

  pub missing : (volumes : List MountedState) → IfNone (position (is_mounted serial) volumes) (IsMissing volumes serial)
  missing volumes =
      missing_by volumes (first_place volumes) (nat_lt (first_place volumes) (length volumes))
      (λ e. lacks volumes (ltb-false (first_place volumes) (length volumes) e))
