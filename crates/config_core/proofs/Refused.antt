-- What holds where a statement is not refused.
use Rattle.std.proofs.Common.{◌≡◌, Bool, true, false, not, ◌||◌, Option, Some, None, is_some, refl}
use Rattle.config_core.specs.Configs.{refused_by}

pub no_fault : (a b : Bool) → refused_by a b ≡ None → (a ≡ false) × (b ≡ false)
no_fault true b h = absurd cc
no_fault false true h = absurd cc
no_fault false false h = (refl, refl)

pub neither : (a b : Bool) → (a || b) ≡ false → (a ≡ false) × (b ≡ false)
neither true b h = absurd cc
neither false b h = (refl, h)

pub so : (b : Bool) → not b ≡ false → b ≡ true
so true h = refl
so false h = absurd cc

pub not_there : {X : Type 0} (o : Option X) → is_some o ≡ false → o ≡ None
not_there None h = refl
not_there (Some x) h = absurd cc
