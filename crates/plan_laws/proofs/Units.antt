-- The units of sets, which change nothing else.
use Rattle.std.proofs.Common.{◌≡◌, ℕ, ◌+◌, ◌≤◌, List, [], ◌∷◌, length, Option, Some, None, Result, Ok, Err, refl, sym, subst, arith}
use Rattle.std.specs.Prelude.{All}
use Rattle.std.specs.List.{position}
use Rattle.std.specs.Str.{bytes_eq}
use Rattle.std.proofs.lemmas.List.Elements.{All-cons, All-head, All-nil, All-tail}
use Rattle.std.proofs.lemmas.List.Quantifiers.{position-Some}
use Rattle.jcl_plan.specs.declared.fault.Cause.{Cause}
use Rattle.jcl_plan.specs.declared.fault.Cause.TheVariants.{P}
use Rattle.jcl_plan.specs.declared.fault.StatementFault.TheVariants.{UnknownUnit}
use Rattle.jcl_plan.specs.declared.plan.DdPlan.{DdPlan}
use Rattle.jcl_cards.specs.declared.coded.Coded.{Coded}
use Rattle.jcl_cards.specs.declared.coded.Coded.TheVariants.{NotGiven, Nullified, Value}
use Rattle.jcl_dds.specs.declared.dd.DdCard.{DdCard}
use Rattle.jcl_refs.specs.Plans.{all_of, unit_number, unit_of, units_of_dds, with_units}
use Rattle.deck_laws.proofs.Given.{same_ok}
use Rattle.plan_laws.proofs.Making.{firsts, none_left}

abbrev next_by : Option ℕ → Option ℕ
next_by None = None
next_by (Some n) = Some (n + 1)

numbered : (count : ℕ) (found : Option ℕ) (n : ℕ) → ((i : ℕ) → found ≡ Some i → i + 1 ≤ count) → next_by found ≡ Some n → (1 ≤ n) × (n ≤ count)
numbered count None n low is = absurd cc
numbered count (Some i) n low is =
    let e : i + 1 ≡ n = cc in
    (omega (arith, e), omega (arith, e, low i refl))

unit_known : (units : List (List ℕ)) (unit : List ℕ) (n : ℕ) → unit_number units unit ≡ Some n → (1 ≤ n) × (n ≤ length units)
unit_known units unit n is =
    numbered (length units) (position (bytes_eq unit) units) n
    (λ i e. omega (arith, (position-Some (bytes_eq unit) units i [] e).0)) is

-- a DD stays as it was, or has units that are known
pub data Put (count : ℕ) (dd new : DdPlan) : Type 0 where
  Same : new ≡ dd → Put count dd new
  With : (n : ℕ) → (1 ≤ n) × (n ≤ count) → new ≡ record dd { kind = with_units n dd.kind } → Put count dd new

abbrev put_by : DdPlan → Option ℕ → Result DdPlan Cause
put_by dd None = Err (P UnknownUnit)
put_by dd (Some n) = Ok (record dd { kind = with_units n dd.kind })

put_number : (count : ℕ) (dd new : DdPlan) (found : Option ℕ) → ((n : ℕ) → found ≡ Some n → (1 ≤ n) × (n ≤ count)) → put_by dd found ≡ Ok new → Put count dd new
put_number count dd new None known is = absurd cc
put_number count dd new (Some n) known is = With n (known n refl) (sym (same_ok (record dd { kind = with_units n dd.kind }) new is))

pub put : (units : List (List ℕ)) (unit : Coded (List ℕ)) (dd new : DdPlan) → unit_of units unit dd ≡ Ok new → Put (length units) dd new
put units NotGiven dd new is = Same (sym (same_ok dd new is))
put units Nullified dd new is = Same (sym (same_ok dd new is))
put units (Value unit) dd new is = put_number (length units) dd new (unit_number units unit) (unit_known units unit) is

-- what is true of each DD
pub all_put : (units : List (List ℕ)) (Before After : DdPlan → Type 0) → ((dd new : DdPlan) → Before dd → Put (length units) dd new → After new) →
    (dds : List DdCard) (plans placed : List DdPlan) → All Before plans → all_of (units_of_dds units dds plans) ≡ Ok placed → All After placed
all_put units Before After holds [] plans placed all is = subst (All After) (sym (none_left placed is)) (All-nil After)
all_put units Before After holds (dd ∷ dds) [] placed all is = subst (All After) (sym (none_left placed is)) (All-nil After)
all_put units Before After holds (dd ∷ dds) (plan ∷ plans) placed all is =
    let f = firsts (unit_of units dd.unit plan) (units_of_dds units dds plans) placed is in
    subst (All After) (sym f.all)
    (All-cons After f.first f.more (holds plan f.first (All-head Before plan plans all) (put units dd.unit plan f.first f.is_first))
    (all_put units Before After holds dds plans f.more (All-tail Before plan plans all) f.are_more))
