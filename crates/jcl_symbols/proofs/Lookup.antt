-- looking up a symbol
use Rattle.std.proofs.Common.{◌≡◌, Bool, true, false, cond, ℕ, List, [], ◌∷◌, ◌++◌, Option, Some, None, refl}
use Rattle.std.specs.Str.{bytes_eq}
use Rattle.jcl_symbols.specs.declared.symbol.Symbol.{Symbol}
use Rattle.jcl_symbols.specs.Substitutions.{value_of}

abbrev pub or_later : Option (List ℕ) → Option (List ℕ) → Option (List ℕ)
or_later None later = later
or_later (Some value) later = Some value

pub value_of_both : (symbols others : List Symbol) (name : List ℕ) → value_of (symbols ++ others) name ≡ or_later (value_of symbols name) (value_of others name)
value_of_both [] others name = refl
value_of_both (symbol ∷ symbols) others name = either (bytes_eq symbol.name name) (value_of_both symbols others name)
  where
    either : (same : Bool) → value_of (symbols ++ others) name ≡ or_later (value_of symbols name) (value_of others name) →
        cond same (Some symbol.value) (value_of (symbols ++ others) name) ≡ or_later (cond same (Some symbol.value) (value_of symbols name)) (value_of others name)
    either true h = refl
    either false h = h
