-- places with commas between them
use Rattle.std.proofs.Common.{◌≡◌, ℕ, List, [], ◌∷◌, ◌++◌, sym, ap}
use Rattle.std.proofs.lemmas.List.{append-nil}
use Rattle.jcl_symbols.specs.Substitutions.{joined}
use Rattle.jcl_symbols.specs.Writing.{commas_before}

pub joined_commas : (place : List ℕ) (places : List (List ℕ)) → joined (place ∷ places) ≡ place ++ commas_before places
joined_commas place [] = sym (append-nil place)
joined_commas place (next ∷ places) = ap (λ text. place ++ 44 ∷ text) (joined_commas next places)
