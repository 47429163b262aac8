-- Volumes that were tried in vain.
use Rattle.std.specs.Prelude.{◌≡◌, ℕ, true, false, List, Some, slice_index_or}
use Rattle.mount_core.specs.Mounts.{MountedState}
use Rattle.shared_core.specs.Shown.{mounted_in}
use Rattle.place_core.specs.declared.aside.Vain.{Vain}
use Rattle.place_core.specs.Volumes.{has_room}

-- no volume of the serial has room for so many tracks
abbrev pub LacksRoom : List MountedState → ℕ → List ℕ → Type 0
LacksRoom volumes n serial = has_room n (mounted_in volumes serial) ≡ false

-- so of the serial that was tried last, and of each volume that is noted
pub record AreVain (volumes : List MountedState) (n : ℕ) (vain : Vain) : Type 0 where
  pub last : (serial : List ℕ) → vain.last ≡ Some serial → LacksRoom volumes n serial
  pub tried : (k : ℕ) (m : MountedState) → slice_index_or vain.tried k false ≡ true → has_room n (Some (slice_index_or volumes k m)) ≡ false
