-- What a take decides, by whether its primary is granted.
use Rattle.std.proofs.Common.{◌≡◌, ℕ, Bool, true, false, List, Option, Some, None, is_some, refl, sym, ap, ◌∙◌}
use Rattle.jname_core.specs.declared.key.Key.{Key}
use Rattle.jcl_meaning.specs.declared.take.Decision.{Decision}
use Rattle.jcl_meaning.specs.declared.take.Decision.TheVariants.{Refuses, Takes}
use Rattle.jcl_meaning.specs.declared.take.How.{How}
use Rattle.jcl_meaning.specs.declared.take.How.TheVariants as how
use Rattle.jcl_meaning.specs.declared.take.Target.{Target}
use Rattle.jcl_meaning.specs.declared.take.Target.TheVariants as target
use Rattle.jcl_meaning.specs.declared.store.DataSet.{DataSet}
use Rattle.jcl_meaning.specs.Stores.{Store}
use Rattle.jcl_meaning.specs.Takes.{decide, is_there, looked_at}
use Rattle.disp_core.specs.Takings.{granted_or_refused}

-- with its primary as it is answered, a take decides what it decides with its primary granted, or F6
pub decided_by_grant : (t : Target) (known there space granted : Bool) →
    decide t known there space granted ≡ granted_or_refused (decide t known there space true) granted
decided_by_grant (target.Makes None) known there space granted = refl
decided_by_grant (target.Makes (Some serial)) false there space granted = refl
decided_by_grant (target.Makes (Some serial)) true true space granted = refl
decided_by_grant (target.Makes (Some serial)) true false false granted = refl
decided_by_grant (target.Makes (Some serial)) true false true false = refl
decided_by_grant (target.Makes (Some serial)) true false true true = refl
decided_by_grant (target.Finds serial) false there space granted = refl
decided_by_grant (target.Finds serial) true false space granted = refl
decided_by_grant (target.Finds serial) true true space granted = refl
decided_by_grant (target.Receives p) known false space granted = refl
decided_by_grant (target.Receives p) known true space granted = refl
decided_by_grant (target.FindsByCatalog serial) known false space granted = refl
decided_by_grant (target.FindsByCatalog serial) known true space granted = refl
decided_by_grant target.Misses known there space granted = refl

-- a set is made on the volume that was looked at
abbrev serial_of : Decision → List ℕ → List ℕ
serial_of (Refuses fault) other = other
serial_of (Takes serial h) other = serial

abbrev makes : Decision → Bool
makes (Refuses fault) = false
makes (Takes serial how.Made) = true
makes (Takes serial how.Found) = false
makes (Takes serial how.FoundByCatalog) = false
makes (Takes serial (how.Received made by_catalog)) = false

clash : {X : Type 0} → true ≡ false → X
clash h = absurd cc

-- where none was
pub record MakesAt (t : Target) (there : Bool) (serial : List ℕ) : Type 0 where
  pub looked : looked_at t ≡ Some serial
  pub absent : there ≡ false

makes_at : (t : Target) (known there space : Bool) (d : Decision) (other : List ℕ) → d ≡ decide t known there space true → makes d ≡ true → MakesAt t there (serial_of d other)
makes_at (target.Makes None) known there space d other e m = clash (sym m ∙ ap makes e)
makes_at (target.Makes (Some serial)) false there space d other e m = clash (sym m ∙ ap makes e)
makes_at (target.Makes (Some serial)) true true space d other e m = clash (sym m ∙ ap makes e)
makes_at (target.Makes (Some serial)) true false false d other e m = clash (sym m ∙ ap makes e)
makes_at (target.Makes (Some serial)) true false true d other e m = record { looked = ap (λ x. Some (serial_of x other)) (sym e); absent = refl }
makes_at (target.Finds serial) false there space d other e m = clash (sym m ∙ ap makes e)
makes_at (target.Finds serial) true false space d other e m = clash (sym m ∙ ap makes e)
makes_at (target.Finds serial) true true space d other e m = clash (sym m ∙ ap makes e)
makes_at (target.Receives p) known false space d other e m = clash (sym m ∙ ap makes e)
makes_at (target.Receives p) known true space d other e m = clash (sym m ∙ ap makes e)
makes_at (target.FindsByCatalog serial) known false space d other e m = clash (sym m ∙ ap makes e)
makes_at (target.FindsByCatalog serial) known true space d other e m = clash (sym m ∙ ap makes e)
makes_at target.Misses known there space d other e m = clash (sym m ∙ ap makes e)

pub made_at : (t : Target) (known there space : Bool) (serial : List ℕ) (h : How) → Takes serial h ≡ decide t known there space true → h ≡ how.Made → MakesAt t there serial
made_at t known there space serial h e m = makes_at t known there space (Takes serial h) serial e (ap (λ x. makes (Takes serial x)) m)

pub not_there : (o : Option DataSet) → is_some o ≡ false → o ≡ None
not_there None h = refl
not_there (Some set) h = absurd cc

-- so no set of the key stands there
pub absent_at : (seen : Store) (key : Key) (o : Option (List ℕ)) (serial : List ℕ) → o ≡ Some serial → is_there seen key o ≡ false → seen.set key serial ≡ None
absent_at seen key o serial e h = not_there (seen.set key serial) (sym (ap (is_there seen key) e) ∙ h)
