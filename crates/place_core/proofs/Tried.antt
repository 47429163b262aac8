-- A volume that is noted has no room.
use Rattle.std.proofs.Common.{◌≡◌, ℕ, true, false, Bool, List, [], ◌∷◌, Some, ap, ◌∙◌, arith, slice_index_or}
use Rattle.mount_core.specs.Mounts.{MountedState}
use Rattle.place_core.specs.Vain.{LacksRoom}
use Rattle.place_core.specs.Volumes.{StandsAt, has_room}

pub noted_lacks : (volumes : List MountedState) (n : ℕ) (tried : List Bool) (serial : List ℕ) (place : ℕ) → StandsAt volumes serial place →
    ((k : ℕ) (m : MountedState) → slice_index_or tried k false ≡ true → has_room n (Some (slice_index_or volumes k m)) ≡ false) →
    slice_index_or tried place false ≡ true → LacksRoom volumes n serial
noted_lacks [] n tried serial place there none h = absurd (omega (arith, there.within))
noted_lacks (v ∷ vs) n tried serial place there none h = ap (has_room n) (there.found v) ∙ none place v h
