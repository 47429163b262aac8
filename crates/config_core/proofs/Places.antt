-- The place of a volume, and the list with another there.
use Rattle.std.proofs.Common.{◌≡◌, ◌<◌, ◌≤◌, ℕ, suc, ◌+◌, Bool, true, false, not, nat_lt, cond, IfSome, IfNone, List, [], ◌∷◌, Some, None, length, refl, sym, subst, ap, ◌∙◌, arith}
use Rattle.std.specs.List.{position, position_or_len}
use Rattle.std.proofs.lemmas.Bool.{ltb-false, ltb-true}
use Rattle.mount_core.specs.Mounts.{MountedState}
use Rattle.shared_core.specs.Shown.{mounted_in}
use Rattle.shared_core.specs.Writes.{is_mounted}
use Rattle.config_core.specs.Configs.{changed_at}
use Rattle.config_core.specs.Sets.{IsPlaceOf}

module _ (serial : List ℕ) where
  here : (m : MountedState) (ms : List MountedState) → is_mounted serial m ≡ true → IsPlaceOf (m ∷ ms) serial 0
  here m ms e = record {
    within = omega (arith);
    its_volume = m;
    stands = refl;
    found = ap (λ b. cond b (Some m) (mounted_in ms serial)) e;
    changed = λ f. sym (ap (λ b. cond b (f m ∷ ms) (m ∷ changed_at f ms serial)) e);
  }

  behind : (m : MountedState) (ms : List MountedState) (n : ℕ) → is_mounted serial m ≡ false → IsPlaceOf ms serial n → IsPlaceOf (m ∷ ms) serial (suc n)
  behind m ms n e p = record {
    within = omega (arith, p.within);
    its_volume = p.its_volume;
    stands = p.stands;
    found = ap (λ b. cond b (Some m) (mounted_in ms serial)) e ∙ p.found;
    changed = λ f. ap (λ vs. m ∷ vs) (p.changed f) ∙ sym (ap (λ b. cond b (f m ∷ ms) (m ∷ changed_at f ms serial)) e);
  }

  step : (m : MountedState) (ms : List MountedState) (n : ℕ) (b : Bool) → is_mounted serial m ≡ b → (n < length ms → IsPlaceOf ms serial n) →
      cond (not b) (1 + n) 0 < suc (length ms) → IsPlaceOf (m ∷ ms) serial (cond (not b) (1 + n) 0)
  step m ms n true e ih h = here m ms e
  step m ms n false e ih h = subst (IsPlaceOf (m ∷ ms) serial) (next n) (behind m ms n e (ih (omega (arith, h))))
    where
      next : (n : ℕ) → suc n ≡ 1 + n
      next n = omega (arith)

  at_first : (ms : List MountedState) → position_or_len (is_mounted serial) ms < length ms → IsPlaceOf ms serial (position_or_len (is_mounted serial) ms)
  at_first [] h = absurd (omega (arith, h))
  at_first (m ∷ ms) h = step m ms (position_or_len (is_mounted serial) ms) (is_mounted serial m) refl (at_first ms) h

  there_by : (ms : List MountedState) (n : ℕ) (b : Bool) → (b ≡ true → IsPlaceOf ms serial n) → IfSome (cond b (Some n) None) (IsPlaceOf ms serial)
  there_by ms n true f = f refl
  there_by ms n false f = tt

  pub there : (ms : List MountedState) → IfSome (position (is_mounted serial) ms) (IsPlaceOf ms serial)
  there ms = there_by ms (position_or_len (is_mounted serial) ms) (nat_lt (position_or_len (is_mounted serial) ms) (length ms))
      (λ e. at_first ms (ltb-true _ _ e))

  none_step : (m : MountedState) (ms : List MountedState) (b : Bool) → is_mounted serial m ≡ b →
      (length ms ≤ position_or_len (is_mounted serial) ms → mounted_in ms serial ≡ None) →
      suc (length ms) ≤ cond (not b) (1 + position_or_len (is_mounted serial) ms) 0 → mounted_in (m ∷ ms) serial ≡ None
  none_step m ms true e ih h = absurd (omega (arith, h))
  none_step m ms false e ih h = ap (λ b. cond b (Some m) (mounted_in ms serial)) e ∙ ih (omega (arith, h))

  none_at : (ms : List MountedState) → length ms ≤ position_or_len (is_mounted serial) ms → mounted_in ms serial ≡ None
  none_at [] h = refl
  none_at (m ∷ ms) h = none_step m ms (is_mounted serial m) refl (none_at ms) h

  missing_by : (ms : List MountedState) (n : ℕ) (b : Bool) → (b ≡ false → mounted_in ms serial ≡ None) → IfNone (cond b (Some n) None) (mounted_in ms serial ≡ None)
  missing_by ms n true f = tt
  missing_by ms n false f = f refl

  pub missing : (ms : List MountedState) → IfNone (position (is_mounted serial) ms) (mounted_in ms serial ≡ None)
  missing ms = missing_by ms (position_or_len (is_mounted serial) ms) (nat_lt (position_or_len (is_mounted serial) ms) (length ms))
      (λ e. none_at ms (ltb-false _ _ e))
