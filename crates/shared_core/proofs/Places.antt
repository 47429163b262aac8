-- Where the volume of a serial stands in a list.
use Rattle.std.proofs.Common.{◌≡◌, ◌<◌, ◌≤◌, ℕ, suc, ◌+◌, Bool, true, false, not, nat_lt, cond, map, IfSome, IfNone, List, [], ◌∷◌, Some, None, length, refl, sym, subst, ap, ◌∙◌, arith}
use Rattle.std.specs.List.{position, position_or_len}
use Rattle.std.proofs.lemmas.Bool.{ltb-true, ltb-false, true≢false}
use Rattle.std.specs.Str.{bytes_eq}
use Rattle.mount_core.specs.Mounts.{MountedState}
use Rattle.shared_core.specs.Rooms.{room_of}
use Rattle.shared_core.specs.Shown.{mounted_in}
use Rattle.shared_core.specs.Writes.{IsFirstMounted, is_mounted}
use Rattle.shared_core.proofs.WorldKeys.{names_same, names_turned}

twice : {Y : Type 0} (b : Bool) (x y r : Y) → cond b x r ≡ cond b x (cond b y r)
twice true x y r = refl
twice false x y r = refl

swapped : {Y : Type 0} (a b : Bool) (x y r : Y) → (a ≡ true → b ≡ true → ⊥) → cond a x (cond b y r) ≡ cond b y (cond a x r)
swapped true true x y r h = absurd (h refl refl)
swapped true false x y r h = refl
swapped false b x y r h = refl

module _ (serial : List ℕ) where
  same_mount : (m : MountedState) (v : List ℕ) → is_mounted serial m ≡ true → bytes_eq m.serial v ≡ bytes_eq v serial
  same_mount m v e = ap (λ s. bytes_eq s v) (names_same m.serial serial e) ∙ names_turned serial v

  other_mount : (m : MountedState) (v : List ℕ) → is_mounted serial m ≡ false → bytes_eq m.serial v ≡ true → bytes_eq v serial ≡ true → ⊥
  other_mount m v e f g = true≢false (sym (ap (bytes_eq m.serial) (sym (names_same v serial g)) ∙ f) ∙ e)

  here : (m : MountedState) (ms : List MountedState) → is_mounted serial m ≡ true → IsFirstMounted (m ∷ ms) serial 0
  here m ms e = record {
    within = omega (arith);
    its_volume = m;
    stands = refl;
    found = ap (λ b. cond b (Some m) (mounted_in ms serial)) e;
    changed = λ other v s.
        ap (λ t. cond (bytes_eq t v) (Some other) (mounted_in ms v)) s
        ∙ ap (λ b. cond b (Some other) (mounted_in ms v)) (same_mount m v e)
        ∙ twice (bytes_eq v serial) (Some other) (Some m) (mounted_in ms v)
        ∙ ap (λ b. cond (bytes_eq v serial) (Some other) (cond b (Some m) (mounted_in ms v))) (sym (same_mount m v e));
    rooms = λ other h. ap (λ r. r ∷ map room_of ms) h;
  }

  behind : (m : MountedState) (ms : List MountedState) (n : ℕ) → is_mounted serial m ≡ false → IsFirstMounted ms serial n → IsFirstMounted (m ∷ ms) serial (suc n)
  behind m ms n e f = record {
    within = omega (arith, f.within);
    its_volume = f.its_volume;
    stands = f.stands;
    found = ap (λ b. cond b (Some m) (mounted_in ms serial)) e ∙ f.found;
    changed = λ other v s.
        ap (cond (bytes_eq m.serial v) (Some m)) (f.changed other v s)
        ∙ swapped (bytes_eq m.serial v) (bytes_eq v serial) (Some m) (Some other) (mounted_in ms v) (other_mount m v e);
    rooms = λ other h. ap (λ rs. room_of m ∷ rs) (f.rooms other h);
  }

  step : (m : MountedState) (ms : List MountedState) (n : ℕ) (b : Bool) → is_mounted serial m ≡ b → (n < length ms → IsFirstMounted ms serial n) →
      cond (not b) (1 + n) 0 < suc (length ms) → IsFirstMounted (m ∷ ms) serial (cond (not b) (1 + n) 0)
  step m ms n true e ih h = here m ms e
  step m ms n false e ih h = subst (IsFirstMounted (m ∷ ms) serial) (next n) (behind m ms n e (ih (omega (arith, h))))
    where
      next : (n : ℕ) → suc n ≡ 1 + n
      next n = omega (arith)

  first_at : (ms : List MountedState) → position_or_len (is_mounted serial) ms < length ms → IsFirstMounted ms serial (position_or_len (is_mounted serial) ms)
  first_at [] h = absurd (omega (arith, h))
  first_at (m ∷ ms) h = step m ms (position_or_len (is_mounted serial) ms) (is_mounted serial m) refl (first_at ms) h

  none_step : (m : MountedState) (ms : List MountedState) (b : Bool) → is_mounted serial m ≡ b →
      (length ms ≤ position_or_len (is_mounted serial) ms → mounted_in ms serial ≡ None) →
      suc (length ms) ≤ cond (not b) (1 + position_or_len (is_mounted serial) ms) 0 → mounted_in (m ∷ ms) serial ≡ None
  none_step m ms true e ih h = absurd (omega (arith, h))
  none_step m ms false e ih h = ap (λ b. cond b (Some m) (mounted_in ms serial)) e ∙ ih (omega (arith, h))

  none_at : (ms : List MountedState) → length ms ≤ position_or_len (is_mounted serial) ms → mounted_in ms serial ≡ None
  none_at [] h = refl
  none_at (m ∷ ms) h = none_step m ms (is_mounted serial m) refl (none_at ms) h

  there_by : (ms : List MountedState) (n : ℕ) (b : Bool) → (b ≡ true → IsFirstMounted ms serial n) → IfSome (cond b (Some n) None) (IsFirstMounted ms serial)
  there_by ms n true f = f refl
  there_by ms n false f = tt

  pub there : (ms : List MountedState) → IfSome (position (is_mounted serial) ms) (IsFirstMounted ms serial)
  there ms = there_by ms (position_or_len (is_mounted serial) ms) (nat_lt (position_or_len (is_mounted serial) ms) (length ms))
      (λ e. first_at ms (ltb-true _ _ e))

  missing_by : (ms : List MountedState) (n : ℕ) (b : Bool) → (b ≡ false → mounted_in ms serial ≡ None) → IfNone (cond b (Some n) None) (mounted_in ms serial ≡ None)
  missing_by ms n true f = tt
  missing_by ms n false f = f refl

  pub missing : (ms : List MountedState) → IfNone (position (is_mounted serial) ms) (mounted_in ms serial ≡ None)
  missing ms = missing_by ms (position_or_len (is_mounted serial) ms) (nat_lt (position_or_len (is_mounted serial) ms) (length ms))
      (λ e. none_at ms (ltb-false _ _ e))
