-- A DD that is put behind those of the last step.
use Rattle.std.proofs.Common.{◌≡◌, Bool, true, false, cond, not, ◌&&◌, ◌==◌, List, [], ◌∷◌, ◌++◌, length, map, None, refl}
use Rattle.std.specs.Prelude.{All}
use Rattle.std.proofs.Math.Dec.{eqb-suc-zero}
use Rattle.std.proofs.lemmas.List.Elements.{All-cons, All-head, All-nil, All-tail}
use Rattle.jcl_plan.specs.declared.fault.Cause.{Cause}
use Rattle.jcl_plan.specs.declared.fault.Cause.TheVariants.{P}
use Rattle.jcl_plan.specs.declared.fault.StatementFault.TheVariants.{NothingToContinue}
use Rattle.card_core.specs.declared.statement.Statement.{Statement}
use Rattle.operand_core.specs.Faults.{told, when}
use Rattle.operand_core.proofs.Told.{told-none}
use Rattle.jcl_dds.specs.declared.dd.DdCard.{DdCard}
use Rattle.jcl_deck.specs.Decks.{dd_place_faults, has_no_name, last_has_dd}
use Rattle.statement_laws.proofs.Faultless.{when_none}
use Rattle.deck_laws.specs.Sound.{BeginsWithName, IsNamed}

-- the last of several changed
abbrev pub at_last : {A : Type 0} → (A → A) → List A → List A
at_last f [] = []
at_last f (x ∷ []) = f x ∷ []
at_last f (x ∷ y ∷ xs) = x ∷ at_last f (y ∷ xs)

-- what holds of all still does, where it does of what is changed
pub all_at_last : {A : Type 0} (Holds : A → Type 0) (f : A → A) → ((x : A) → Holds x → Holds (f x)) → (xs : List A) → All Holds xs → All Holds (at_last f xs)
all_at_last Holds f each [] all = all
all_at_last Holds f each (x ∷ []) all = All-cons Holds (f x) [] (each x (All-head Holds x [] all)) (All-nil Holds)
all_at_last Holds f each (x ∷ y ∷ xs) all =
    All-cons Holds x (at_last f (y ∷ xs)) (All-head Holds x (y ∷ xs) all) (all_at_last Holds f each (y ∷ xs) (All-tail Holds x (y ∷ xs) all))

-- a DD without a name has another before it in its step
abbrev pub HasFront : Bool → Bool → Type 0
HasFront no_name has_dd = (no_name && not has_dd) ≡ false

abbrev pub HasPlace : Bool → List (List DdCard) → Type 0
HasPlace no_name [] = Unit {0}
HasPlace no_name (dds ∷ steps) = HasFront no_name (last_has_dd (dds ∷ steps))

otherwise_none : (b : Bool) (faults others : List Cause) → b ≡ false → told (cond b faults others) ≡ None → others ≡ []
otherwise_none false faults others e none = told-none others none
otherwise_none true faults others e none = absurd (cc)

pub has_place : (job_library : Bool) (steps : List (List DdCard)) (s : Statement) → told (dd_place_faults job_library steps s) ≡ None →
    HasPlace (has_no_name s) steps
has_place job_library [] s none = tt
has_place job_library (dds ∷ steps) s none =
    let lacks = has_no_name s && not (last_has_dd (dds ∷ steps)) in
    when_none lacks (P NothingToContinue)
    (otherwise_none (length (dds ∷ steps) == 0) _ (when lacks (P NothingToContinue)) (eqb-suc-zero (length steps)) none)

pub all_with_dd : {A : Type 0} (Holds : A → Type 0) (dds : A → List DdCard) (f : A → A) (no_name : Bool) →
    ((x : A) → Holds x → HasFront no_name (not (length (dds x) == 0)) → Holds (f x)) → (xs : List A) → All Holds xs → HasPlace no_name (map dds xs) →
    All Holds (at_last f xs)
all_with_dd Holds dds f no_name each [] all has = all
all_with_dd Holds dds f no_name each (x ∷ []) all has = All-cons Holds (f x) [] (each x (All-head Holds x [] all) has) (All-nil Holds)
all_with_dd Holds dds f no_name each (x ∷ y ∷ xs) all has =
    All-cons Holds x (at_last f (y ∷ xs)) (All-head Holds x (y ∷ xs) all)
    (all_with_dd Holds dds f no_name each (y ∷ xs) (All-tail Holds x (y ∷ xs) all) has)

pub begins_behind : (no_name : Bool) (dds : List DdCard) (dd : DdCard) → HasFront no_name (not (length dds == 0)) → BeginsWithName dds →
    (no_name ≡ false → IsNamed dd.name) → BeginsWithName (dds ++ dd ∷ [])
begins_behind no_name (first ∷ dds) dd front named is = named
begins_behind false [] dd front named is = is refl
begins_behind true [] dd front named is = absurd (let no : true ≡ false = front in cc)
