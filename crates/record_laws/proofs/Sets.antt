-- The DDs that records spell.
use Rattle.std.proofs.Common.{◌≡◌, ◌≢◌, ◌++◌, ◌+◌, ◌-◌, ◌/◌, ◌%◌, ◌≤◌, arith, ℕ, Bool, true, false, cond, List, [], ◌∷◌, length, replicate, Option, Some, None, refl, sym, ap, subst}
use Rattle.std.specs.Prelude.{is_some}
use Rattle.jname_core.specs.declared.key.Key.{Key}
use Rattle.jname_core.specs.declared.key.Key.TheVariants.{Named, Relative, Temporary, Unnamed}
use Rattle.jname_core.specs.declared.key.Sign.{Sign}
use Rattle.jname_core.specs.declared.key.Sign.TheVariants.{Plus, Minus}
use Rattle.jname_core.specs.Generations.{has_generation_form}
use Rattle.jname_core.specs.Grammar.{IsName8, IsSerial}
use Rattle.jcl_plan.specs.declared.plan.Space.{Space}
use Rattle.jcl_plan.specs.declared.plan.StepPlan.{StepPlan}
use Rattle.jcl_plan.specs.declared.plan.VolumePlan.{VolumePlan}
use Rattle.jcl_plan.specs.declared.plan.VolumePlan.TheVariants as volume
use Rattle.cb_meaning.specs.Codes.{mark, or_zero}
use Rattle.cb_meaning.specs.Fields.{filled, filled_or_blank, two_bytes}
use Rattle.cb_meaning.specs.Spelled.{key_code, name_bytes, name_referred, of_space, relative_bytes, serial_coded, sign_code, volume_code, volume_dd_bytes}
use Rattle.cb_meaning.specs.Writable.{IsKeyAt, IsName, IsUnits, IsVolumeAt}
use Rattle.record_laws.proofs.Blanks.{NoBlank, dotted_blank, name_blank, same_text, serial_blank}
use Rattle.record_laws.proofs.Words.{same_number, same_short}

-- texts that fill a field; one that is absent is blank
pub same_filled : (width : ℕ) (a b : List ℕ) → NoBlank a → NoBlank b → filled width a ≡ filled width b → a ≡ b
same_filled width a b h g e = same_text a b (width - length a) (width - length b) h g e

abbrev Blankless : Option (List ℕ) → Type 0
Blankless None = Unit {0}
Blankless (Some text) = NoBlank text × (text ≢ [])

same_optional : (width : ℕ) (a b : Option (List ℕ)) → Blankless a → Blankless b → filled_or_blank width a ≡ filled_or_blank width b → a ≡ b
same_optional width None None h g e = refl
same_optional width None (Some b) h g e = absurd (g.1 (sym (same_text [] b width (width - length b) tt g.0 e)))
same_optional width (Some a) None h g e = absurd (h.1 (same_text a [] (width - length a) width h.0 tt e))
same_optional width (Some a) (Some b) h g e = ap Some (same_filled width a b h.0 g.0 e)

some_text : (text : List ℕ) → IsName8 text → text ≢ []
some_text [] h e = h
some_text (c ∷ cs) h e = absurd cc

name_blankless : (o : Option (List ℕ)) → IsName o → Blankless o
name_blankless None h = tt
name_blankless (Some name) h = (name_blank name h, some_text name h)

pub same_name : (a b : Option (List ℕ)) → IsName a → IsName b → filled_or_blank 8 a ≡ filled_or_blank 8 b → a ≡ b
same_name a b h g e = same_optional 8 a b (name_blankless a h) (name_blankless b g) e

some_serial : (text : List ℕ) → IsSerial text → text ≢ []
some_serial [] h e = h
some_serial (c ∷ cs) h e = absurd cc

-- marks: a name, SPACE and RLSE
abbrev marks : Option Space → ℕ
marks s = mark (is_some s) 4 + of_space s (λ z. mark z.release 2)

same_release : (a b : Bool) → mark a 2 ≡ mark b 2 → a ≡ b
same_release true true e = refl
same_release true false e = let no : ⊥ = omega (arith, e) in absurd no
same_release false true e = let no : ⊥ = omega (arith, e) in absurd no
same_release false false e = refl

pub same_space : (a b : Option Space) → marks a ≡ marks b → of_space a (λ s. s.primary) ≡ of_space b (λ s. s.primary) →
    of_space a (λ s. s.secondary) ≡ of_space b (λ s. s.secondary) → a ≡ b
same_space None None e p s = refl
same_space None (Some b) e p s = let no : ⊥ = omega (arith, e) in absurd no
same_space (Some a) None e p s = let no : ⊥ = omega (arith, e) in absurd no
same_space (Some a) (Some b) e p s =
    let both : mark a.release 2 ≡ mark b.release 2 = omega (arith, e) in
    λ i. Some (record { primary = p i; secondary = s i; release = same_release a.release b.release both i })

pub same_units : (units : ℕ) (a b : Option ℕ) → IsUnits units a → IsUnits units b → or_zero a ≡ or_zero b → a ≡ b
same_units units a b h g e = same_number a b (from_one a h) (from_one b g) e
  where
    from_one : (o : Option ℕ) → IsUnits units o → (n : ℕ) → o ≡ Some n → 1 ≤ n
    from_one None k n is = absurd cc
    from_one (Some m) k n is = let one : m ≡ n = cc in subst (λ z. 1 ≤ z) one k.0

-- two numbers of two bytes each
same_pair : (a b c d : ℕ) (m n : ℕ) → (two_bytes a ++ two_bytes b) ++ replicate m 32 ≡ (two_bytes c ++ two_bytes d) ++ replicate n 32 → (a ≡ c) × (b ≡ d)
same_pair a b c d m n e =
    let ah : a / 256 ≡ c / 256 = cc in
    let al : a % 256 ≡ c % 256 = cc in
    let bh : b / 256 ≡ d / 256 = cc in
    let bl : b % 256 ≡ d % 256 = cc in
    (same_short a c ah al, same_short b d bh bl)

-- volumes
pub same_volume : (steps others : List StepPlan) (k d : ℕ) (v w : VolumePlan) → IsVolumeAt steps k d v → IsVolumeAt others k d w → volume_code v ≡ volume_code w →
    volume_dd_bytes v ≡ volume_dd_bytes w → filled_or_blank 6 (serial_coded v) ≡ filled_or_blank 6 (serial_coded w) →
    filled_or_blank 44 (name_referred v) ≡ filled_or_blank 44 (name_referred w) → v ≡ w
same_volume steps others k d volume.NotCoded volume.NotCoded h g c b s r = refl
same_volume steps others k d (volume.Serial a) (volume.Serial x) h g c b s r =
    ap volume.Serial (same_filled 6 a x (serial_blank a h) (serial_blank x g) s)
same_volume steps others k d (volume.OfName a) (volume.OfName x) h g c b s r =
    ap volume.OfName (same_filled 44 a x (dotted_blank 44 a h.dotted) (dotted_blank 44 x g.dotted) r)
same_volume steps others k d (volume.OfDd n m) (volume.OfDd x y) h g c b s r =
    let both : (n ≡ x) × (m ≡ y) = same_pair n m x y 0 0 (ap (λ (bs : List ℕ). bs ++ []) b) in
    λ i. volume.OfDd (both.0 i) (both.1 i)
same_volume steps others k d volume.NotCoded (volume.Serial x) h g c b s r = absurd cc
same_volume steps others k d volume.NotCoded (volume.OfName x) h g c b s r = absurd cc
same_volume steps others k d volume.NotCoded (volume.OfDd x y) h g c b s r = absurd cc
same_volume steps others k d (volume.Serial a) volume.NotCoded h g c b s r = absurd cc
same_volume steps others k d (volume.Serial a) (volume.OfName x) h g c b s r = absurd cc
same_volume steps others k d (volume.Serial a) (volume.OfDd x y) h g c b s r = absurd cc
same_volume steps others k d (volume.OfName a) volume.NotCoded h g c b s r = absurd cc
same_volume steps others k d (volume.OfName a) (volume.Serial x) h g c b s r = absurd cc
same_volume steps others k d (volume.OfName a) (volume.OfDd x y) h g c b s r = absurd cc
same_volume steps others k d (volume.OfDd n m) volume.NotCoded h g c b s r = absurd cc
same_volume steps others k d (volume.OfDd n m) (volume.Serial x) h g c b s r = absurd cc
same_volume steps others k d (volume.OfDd n m) (volume.OfName x) h g c b s r = absurd cc

-- keys
same_sign : (a b : Sign) → sign_code a ≡ sign_code b → a ≡ b
same_sign Plus Plus e = refl
same_sign Minus Minus e = refl
same_sign Plus Minus e = absurd cc
same_sign Minus Plus e = absurd cc

-- a named set has the code 1 or 2
named_low : (name : List ℕ) → key_code (Named name) ≤ 2
named_low name = by_form (has_generation_form name)
  where
    by_form : (b : Bool) → cond b 2 1 ≤ 2
    by_form true = omega arith
    by_form false = omega arith

apart : (n m : ℕ) → n ≤ 2 → 3 ≤ m → n ≡ m → ⊥
apart n m low high e = let no : ⊥ = omega (arith, low, high, e) in no

pub same_key : (steps others : List StepPlan) (k d : ℕ) (a b : Key) → IsKeyAt steps k d a → IsKeyAt others k d b → key_code a ≡ key_code b →
    relative_bytes a ≡ relative_bytes b → name_bytes a ≡ name_bytes b → a ≡ b
same_key steps others k d (Named a) (Named b) h g c r n = ap Named (same_filled 44 a b (dotted_blank 44 a h.dotted) (dotted_blank 44 b g.dotted) n)
same_key steps others k d (Relative a s x) (Relative b t y) h g c r n =
    let sign : sign_code s ≡ sign_code t = cc in
    let high : x / 256 ≡ y / 256 = cc in
    let low : x % 256 ≡ y % 256 = cc in
    λ i. Relative (same_filled 44 a b (dotted_blank 35 a h.0.dotted) (dotted_blank 35 b g.0.dotted) n i) (same_sign s t sign i) (same_short x y high low i)
same_key steps others k d (Temporary a) (Temporary b) h g c r n = ap Temporary (same_filled 44 a b (name_blank a h) (name_blank b g) n)
same_key steps others k d (Unnamed s x) (Unnamed t y) h g c r n =
    let both : (s ≡ t) × (x ≡ y) = same_pair s x t y 40 40 n in
    λ i. Unnamed (both.0 i) (both.1 i)
same_key steps others k d (Named a) (Relative b t y) h g c r n = absurd (apart (key_code (Named a)) 3 (named_low a) (omega arith) c)
same_key steps others k d (Named a) (Temporary b) h g c r n = absurd (apart (key_code (Named a)) 4 (named_low a) (omega arith) c)
same_key steps others k d (Named a) (Unnamed t y) h g c r n = absurd (apart (key_code (Named a)) 5 (named_low a) (omega arith) c)
same_key steps others k d (Relative a s x) (Named b) h g c r n = absurd (apart (key_code (Named b)) 3 (named_low b) (omega arith) (sym c))
same_key steps others k d (Temporary a) (Named b) h g c r n = absurd (apart (key_code (Named b)) 4 (named_low b) (omega arith) (sym c))
same_key steps others k d (Unnamed s x) (Named b) h g c r n = absurd (apart (key_code (Named b)) 5 (named_low b) (omega arith) (sym c))
same_key steps others k d (Relative a s x) (Temporary b) h g c r n = absurd cc
same_key steps others k d (Relative a s x) (Unnamed t y) h g c r n = absurd cc
same_key steps others k d (Temporary a) (Relative b t y) h g c r n = absurd cc
same_key steps others k d (Temporary a) (Unnamed t y) h g c r n = absurd cc
same_key steps others k d (Unnamed s x) (Relative b t y) h g c r n = absurd cc
same_key steps others k d (Unnamed s x) (Temporary b) h g c r n = absurd cc
