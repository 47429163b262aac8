use Rattle.std.proofs.Common.{◌≡◌, map, take}
use Rattle.std.specs.Prelude.{All}
use Rattle.packed_core.specs.Classes.{IsMask}
use Rattle.packed_core.specs.declared.classes.Class.{Class}
use Rattle.packed_core.proofs.masks.classes_of.Given as goal

-- each code so far has its mask
abbrev pub invariant-loop-code : goal.invariant-loop-code
invariant-loop-code l = record {
  codes : map (λ (k : Class). k.code) l.classes.items ≡ take l.code-index l.code-items;
  masks : All (λ (k : Class). IsMask l.n l.tests l.room k.code k.mask.items) l.classes.items;
}
