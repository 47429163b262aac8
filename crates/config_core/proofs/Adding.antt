-- A set that no statement's fault stands against can be added.
use Rattle.std.proofs.Common.{◌≡◌, ℕ, Bool, true, false, cond, List, [], ◌∷◌, Option, Some, None, refl, sym, ap, ◌∙◌}
use Rattle.std.specs.FinMap as finite
use Rattle.std.specs.Str.{bytes_eq}
use Rattle.std.proofs.lemmas.Option.{same_Some}
use Rattle.std.proofs.lemmas.List.Elements.{All-head, All-tail}
use Rattle.mount_core.specs.Mounts.{MountedState}
use Rattle.shared_core.specs.Shown.{mounted_in}
use Rattle.config_core.specs.Configs.{Configuration, has_room, set_fault, stands_on}
use Rattle.config_core.specs.Sets.{CanHold, NothingKept}
use Rattle.config_core.proofs.Refused.{neither, no_fault, not_there, so}
use Rattle.session_input.specs.declared.statement.SetStatement.{SetStatement}

abbrev KeepsNothing : MountedState → Type 0
KeepsNothing m = m.kept ≡ finite.empty

kept_by : (b : Bool) (m x : MountedState) (o : Option MountedState) → KeepsNothing m → (o ≡ Some x → KeepsNothing x) → cond b (Some m) o ≡ Some x → KeepsNothing x
kept_by true m x o k h e = ap (λ v. v.kept) (sym (same_Some m x e)) ∙ k
kept_by false m x o k h e = h e

keeps_nothing : (volumes : List MountedState) (serial : List ℕ) (x : MountedState) → NothingKept volumes → mounted_in volumes serial ≡ Some x → KeepsNothing x
keeps_nothing [] serial x k e = absurd cc
keeps_nothing (m ∷ ms) serial x k e =
    kept_by (bytes_eq m.serial serial) m x (mounted_in ms serial) (All-head KeepsNothing m ms k) (keeps_nothing ms serial x (All-tail KeepsNothing m ms k)) e

can_hold_on : (c : Configuration) (s : SetStatement) (o : Option MountedState) → mounted_in c.volumes s.serial ≡ o → NothingKept c.volumes →
    has_room o s.tracks ≡ true → stands_on o s.name ≡ false → (m : MountedState) × (mounted_in c.volumes s.serial ≡ Some m) × CanHold m s
can_hold_on c s None e k room stands = absurd cc
can_hold_on c s (Some m) e k room stands = (m, e, record { room = room; new = not_there _ stands; nothing_kept = keeps_nothing c.volumes s.serial m k e })

pub can_hold : (c : Configuration) (s : SetStatement) → NothingKept c.volumes → set_fault c s ≡ None →
    (m : MountedState) × (mounted_in c.volumes s.serial ≡ Some m) × CanHold m s
can_hold c s k h =
    let both = no_fault _ _ h in
    let value = neither _ _ both.0 in
    can_hold_on c s (mounted_in c.volumes s.serial) refl k (so _ (neither _ _ value.0).0) (neither _ _ both.1).0
