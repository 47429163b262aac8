-- What is first said of a DD, in the words of its definitions.
use Rattle.std.proofs.Common.{◌≡◌, ℕ, Bool, ◌==◌, ◌&&◌, List, [], ◌∷◌, Option, None, Some, arith, if◌then◌else◌, ap, refl}
use Rattle.jcl_plan.specs.declared.fault.Fault.TheVariants as fault
use Rattle.jcl_meaning.specs.declared.state.KeyMeaning.{KeyMeaning}
use Rattle.jcl_meaning.specs.declared.state.Place.{Place}
use Rattle.jcl_meaning.specs.declared.state.Resolution.{Resolution}
use Rattle.jcl_meaning.specs.declared.state.Resolution.TheVariants.{Fails}
use Rattle.jcl_meaning.specs.InOrder.{first_of}
use Rattle.jcl_meaning.specs.Resolutions.{meaning_at, place_of}
use Rattle.std.proofs.lemmas.Bool as bool

abbrev pub meant : Option KeyMeaning → Resolution
meant None = Fails fault.F5
meant (Some m) = m.means

abbrev pub placed : Option Place → Option (List ℕ)
placed None = None
placed (Some p) = Some p.serial

pub meaning_is_first : (ms : List KeyMeaning) (s d : ℕ) → meaning_at ms s d ≡ meant (first_of (λ m. m.step) (λ m. m.dd) ms s d)
meaning_is_first [] s d = refl
meaning_is_first (m ∷ ms) s d = grind (arith, meaning_is_first ms s d)

pub place_is_first : (ps : List Place) (s d : ℕ) → place_of ps s d ≡ placed (first_of (λ p. p.step) (λ p. p.dd) ps s d)
place_is_first [] s d = refl
place_is_first (p ∷ ps) s d = grind (arith, place_is_first ps s d)
