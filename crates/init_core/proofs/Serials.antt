-- Volumes with the same rooms have the same serials.
use Rattle.std.proofs.Common.{◌≡◌, List, [], ◌∷◌, map, refl, sym, ap, ◌∙◌}
use Rattle.mount_core.specs.Mounts.{MountedState}
use Rattle.shared_core.specs.Rooms.{Room, room_of}
use Rattle.place_core.specs.Placings.{serials_of}

serials_told : (volumes : List MountedState) → serials_of volumes ≡ map (λ (r : Room). r.serial) (map room_of volumes)
serials_told [] = refl
serials_told (m ∷ ms) = ap (λ ss. m.serial ∷ ss) (serials_told ms)

pub same_serials : (old new : List MountedState) → map room_of new ≡ map room_of old → serials_of new ≡ serials_of old
same_serials old new rooms = serials_told new ∙ ap (map (λ (r : Room). r.serial)) rooms ∙ sym (serials_told old)
