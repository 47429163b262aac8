-- What a writer was given of a text.
use Rattle.std.specs.Prelude.{◌≡◌, ℕ, List, ◌++◌, Option}
use Rattle.std.specs.Io.KnownBytes.{Appends}

-- what was held and this text: a front was given to the writer, and the rest is held
pub record Puts (old new : Option (List ℕ)) (held held_after text : List ℕ) : Type 0 where
  pub given : List ℕ
  pub appends : Appends old new given
  pub same : held ++ text ≡ given ++ held_after

-- a front of this text was given to the writer
pub record GivesFront (old new : Option (List ℕ)) (text : List ℕ) : Type 0 where
  pub given : List ℕ
  pub rest : List ℕ
  pub appends : Appends old new given
  pub front : text ≡ given ++ rest
