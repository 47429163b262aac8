-- Text that is written in parts.
use Rattle.std.specs.Prelude.{ℕ, List}

-- what is kept, and what is begun behind it
pub record Drafted : Type 0 where
  pub kept : List ℕ
  pub begun : List ℕ
