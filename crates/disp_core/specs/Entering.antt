-- A number that is entered in the group of its base.
use Rattle.std.specs.Prelude.{◌≡◌, ℕ, Bool, List, Some}
use Rattle.group_core.specs.Groups.{GroupState}
use Rattle.jcl_meaning.specs.Stores.{Store, generation_entered_by, group_of}

-- where the group is this, which scratches the set of a generation that rolls off, or not
abbrev pub EntersNumber : List ℕ → ℕ → List ℕ → Bool → ℕ → Store → Store → Type 0
EntersNumber base number serial scratches date old new =
    (g : GroupState) → group_of old base ≡ Some g → g.scratch ≡ scratches → new ≡ generation_entered_by (Some (number, g)) base serial date old
