-- The step that an override names, and the DDs of a step.
use Rattle.std.proofs.Common.{◌≡◌, refl, sym, subst, ap, ◌∙◌, ℕ, zero, suc, ◌+◌, ◌<◌, ◌≤◌, Bool, true, false, is_none, if◌then◌else◌, List, [], ◌∷◌, length, drop, Option, Some, None, Result, Ok, Err, slice_get, slice_index_or, slice_set, arith}
use Rattle.std.specs.List.{insert, list_any, position}
use Rattle.jcl_plan.specs.declared.fault.Cause.{Cause}
use Rattle.operand_core.specs.Faults.{or_fault, told}
use Rattle.value_core.specs.Reads.{Gives}
use Rattle.value_core.specs.declared.refusal.ReadError.{ReadError}
use Rattle.value_core.specs.declared.refusal.ReadError.TheVariants.{Refused, Memory}
use Rattle.jcl_dds.specs.declared.dd.DdCard.{DdCard}
use Rattle.jcl_dds.specs.Merging.{merged}
use Rattle.jcl_procs.specs.declared.overriding.Members.{Members}
use Rattle.jcl_procs.specs.declared.overriding.Place.{Place}
use Rattle.jcl_procs.specs.declared.step.FlatStep.{FlatStep}
use Rattle.jcl_procs.specs.Overrides.{dds_at, inserts, is_of_name, is_step, overrides_by_position, overrides_member, overrides_named, overrides_next, overrides_there, puts_merged, step_at, step_by_position, with_dd, with_dd_between, with_dds}
use Rattle.jcl_procs.specs.StepDds.{by_next, by_position, continues, inserted, merged_at, merged_there, placed, with_member, with_named}

pub step_is : (steps : List FlatStep) (at : ℕ) (name : Option (List ℕ)) (own : List ℕ) (found : Option ℕ) (there : Bool) → name ≡ Some own
    → found ≡ position (is_step own) (drop at steps) → there ≡ list_any (is_step own) steps → step_by_position at found there ≡ step_at steps at name
step_is steps at name own found there named at_position any =
    ap (λ found. step_by_position at found there) at_position
    ∙ ap (step_by_position at (position (is_step own) (drop at steps))) any
    ∙ ap (step_at steps at) (sym named)

pub inserted_between : (dds : List DdCard) (n : ℕ) (dd : DdCard) → n ≤ length dds → insert dds n dd ≡ with_dd_between dds n dd
inserted_between [] zero dd le = refl
inserted_between (there ∷ dds) zero dd le = refl
inserted_between [] (suc n) dd le = absurd (omega (arith, le))
inserted_between (there ∷ dds) (suc n) dd le = ap (λ left. there ∷ left) (inserted_between dds n dd (omega (arith, le)))

pub put_twice : (steps : List FlatStep) (at : ℕ) (first next : List DdCard) → with_dds (with_dds steps at first) at next ≡ with_dds steps at next
put_twice [] at first next = refl
put_twice (step ∷ steps) zero first next = refl
put_twice (step ∷ steps) (suc at) first next = ap (λ left. step ∷ left) (put_twice steps at first next)

pub length_put : (steps : List FlatStep) (at : ℕ) (dds : List DdCard) → length (with_dds steps at dds) ≡ length steps
length_put [] at dds = refl
length_put (step ∷ steps) zero dds = refl
length_put (step ∷ steps) (suc at) dds = ap (λ n. suc n) (length_put steps at dds)

pub dds_put : (steps : List FlatStep) (at : ℕ) (dds : List DdCard) → at < length steps → dds_at (with_dds steps at dds) at ≡ dds
dds_put [] at dds lt = absurd (omega (arith, lt))
dds_put (step ∷ steps) zero dds lt = refl
dds_put (step ∷ steps) (suc at) dds lt = dds_put steps at dds (omega (arith, lt))

pub put_is : (steps : List FlatStep) (at : ℕ) (dds : List DdCard) (none : FlatStep)
    → slice_set steps at (record (slice_index_or steps at none) { dds = dds }) ≡ with_dds steps at dds
put_is [] at dds none = refl
put_is (step ∷ steps) zero dds none = refl
put_is (step ∷ steps) (suc at) dds none = ap (λ left. step ∷ left) (put_is steps at dds none)

pub dds_are : (steps : List FlatStep) (at : ℕ) (none : FlatStep) → at < length steps → (slice_index_or steps at none).dds ≡ dds_at steps at
dds_are [] at none lt = absurd (omega (arith, lt))
dds_are (step ∷ steps) zero none lt = refl
dds_are (step ∷ steps) (suc at) none lt = dds_are steps at none (omega (arith, lt))

pub with_dd_twice : (dds : List DdCard) (n : ℕ) (first next : DdCard) → with_dd (slice_set dds n first) n next ≡ with_dd dds n next
with_dd_twice [] n first next = refl
with_dd_twice (there ∷ dds) zero first next = refl
with_dd_twice (there ∷ dds) (suc n) first next = ap (λ left. there ∷ left) (with_dd_twice dds n first next)

pub length_with_dd : (dds : List DdCard) (n : ℕ) (dd : DdCard) → length (with_dd dds n dd) ≡ length dds
length_with_dd [] n dd = refl
length_with_dd (there ∷ dds) zero dd = refl
length_with_dd (there ∷ dds) (suc n) dd = ap (λ n. suc n) (length_with_dd dds n dd)

-- the answer, with what stands around it
abbrev pub mapped : {A B : Type 0} → (A → B) → Result A Cause → Result B Cause
mapped k (Ok a) = Ok (k a)
mapped k (Err fault) = Err fault

pub around : {A B : Type 0} (k : A → B) (fault : Option Cause) (a : A) (r : Result A Cause) → r ≡ or_fault fault a → or_fault fault (k a) ≡ mapped k r
around k None a r e = ap (mapped k) (sym e)
around k (Some fault) a r e = ap (mapped k) (sym e)

pub next_merged : (dds : List DdCard) (n : ℕ) (dd : DdCard) (o : Option DdCard) → continues o ≡ true → by_next dds n dd o ≡ merged_there dds dd n o
next_merged dds n dd None e = cc
next_merged dds n dd (Some there) e = ap (λ b. if b then merged_at dds n there dd else Ok (inserted dds n dd)) e

pub next_inserted : (dds : List DdCard) (n : ℕ) (dd : DdCard) (o : Option DdCard) → continues o ≡ false → by_next dds n dd o ≡ Ok (inserted dds n dd)
next_inserted dds n dd None e = refl
next_inserted dds n dd (Some there) e = ap (λ b. if b then merged_at dds n there dd else Ok (inserted dds n dd)) e

-- an override of a step's DDs is one of the steps
around_fault : {A B : Type 0} (k : A → B) (fault : Option Cause) (a : A) → or_fault fault (k a) ≡ mapped k (or_fault fault a)
around_fault k fault a = around k fault a (or_fault fault a) refl

named_there : (place : Place) (at : ℕ) (dd : DdCard) (n : ℕ) (o : Option DdCard)
    → overrides_there place at dd n o ≡ mapped (placed place.steps at) (merged_there (dds_at place.steps at) dd n o)
named_there place at dd n None = refl
named_there place at dd n (Some there) =
    around_fault (placed place.steps at) (told (merged there dd).faults)
    (record { dds = with_dd (dds_at place.steps at) n (merged there dd).value; member = n + 1 })

named_at : (place : Place) (at : ℕ) (dd : DdCard) (o : Option ℕ)
    → overrides_by_position place at dd o ≡ mapped (placed place.steps at) (by_position (dds_at place.steps at) dd o)
named_at place at dd None = refl
named_at place at dd (Some n) = named_there place at dd n (slice_get (dds_at place.steps at) n)

pub named_places : (place : Place) (at : ℕ) (dd : DdCard)
    → overrides_named place at dd ≡ mapped (placed place.steps at) (with_named (dds_at place.steps at) dd)
named_places place at dd = named_at place at dd (position (is_of_name dd.name) (dds_at place.steps at))

next_if : (place : Place) (dd there : DdCard) (b : Bool)
    → (if b then puts_merged place place.at place.member there dd else Ok (inserts place dd))
    ≡ mapped (placed place.steps place.at) (if b then merged_at (dds_at place.steps place.at) place.member there dd else Ok (inserted (dds_at place.steps place.at) place.member dd))
next_if place dd there true = named_there place place.at dd place.member (Some there)
next_if place dd there false = refl

next_there : (place : Place) (dd : DdCard) (o : Option DdCard)
    → overrides_next place dd o ≡ mapped (placed place.steps place.at) (by_next (dds_at place.steps place.at) place.member dd o)
next_there place dd None = refl
next_there place dd (Some there) = next_if place dd there (is_none there.name)

pub member_places : (place : Place) (dd : DdCard)
    → overrides_member place dd ≡ mapped (placed place.steps place.at) (with_member (dds_at place.steps place.at) place.member dd)
member_places place dd = next_there place dd (slice_get (dds_at place.steps place.at) place.member)

-- what memory gives, around it too
pub gives_ok : {A B : Type 0} (k : A → B) (a : A) (given : Result A Cause) (all : Result B Cause) → all ≡ mapped k given → given ≡ Ok a → all ≡ Ok (k a)
gives_ok k a given all e is = e ∙ ap (mapped k) is

pub gives_err : {A B : Type 0} (k : A → B) (fault : Cause) (given : Result A Cause) (all : Result B Cause) → all ≡ mapped k given → given ≡ Err fault → all ≡ Err fault
gives_err k fault given all e is = e ∙ ap (mapped k) is

pub gives_error : {A B : Type 0} (k : A → B) (error : ReadError) (given : Result A Cause) (all : Result B Cause)
    → all ≡ mapped k given → Gives {A = A} (Err error) given → Gives {A = B} (Err error) all
gives_error k (Refused fault) given all e is = gives_err k fault given all e is
gives_error k Memory given all e is = tt

pub merge_gives : (dds : List DdCard) (n : ℕ) (dd there : DdCard) (given : Result DdCard Cause)
    → slice_get dds n ≡ Some there → given ≡ or_fault (told (merged there dd).faults) (merged there dd).value
    → merged_there dds dd n (slice_get dds n) ≡ mapped (λ value. let m : Members = record { dds = with_dd dds n value; member = n + 1 } in m) given
merge_gives dds n dd there given is e =
    ap (merged_there dds dd n) is
    ∙ around (λ value. let m : Members = record { dds = with_dd dds n value; member = n + 1 } in m) (told (merged there dd).faults) (merged there dd).value given e

pub refused_on : {B : Type 0} (all : Result B Cause) (s : Result B ReadError) (e : Cause) → all ≡ Err e
    → (d : ReadError) × (s ≡ Err d) × (d ≡ Refused e) → Gives s all
refused_on {B} all s e is exit =
    let Q : Result B ReadError → Type 0 = λ x. Gives x all in
    subst Q (sym (exit.1 ∙ ap (λ d. let x : Result B ReadError = Err d in x) exit.2)) is

pub error_on : {B : Type 0} (all : Result B Cause) (s : Result B ReadError) (e : ReadError) → Gives {A = B} (Err e) all
    → (d : ReadError) × (s ≡ Err d) × (d ≡ e) → Gives s all
error_on {B} all s e is exit =
    let Q : Result B ReadError → Type 0 = λ x. Gives x all in
    subst Q (sym (exit.1 ∙ ap (λ d. let x : Result B ReadError = Err d in x) exit.2)) is

pub is_place : (steps : List FlatStep) (at : ℕ) (dds : List DdCard) (member : ℕ) (left : List FlatStep) → left ≡ with_dds steps at dds → at < length steps
    → member ≤ length dds → (at < length left) × (member ≤ length (dds_at left at))
is_place steps at dds member left is lt le =
    let P : List FlatStep → Type 0 = λ s. (at < length s) × (member ≤ length (dds_at s at)) in
    let L : ℕ → Type 0 = λ n. at < n in
    let D : List DdCard → Type 0 = λ ds. member ≤ length ds in
    subst P (sym is) (subst L (sym (length_put steps at dds)) lt, subst D (sym (dds_put steps at dds lt)) le)

put_again : (steps left : List FlatStep) (at : ℕ) (m : Members) (p : Place) → left ≡ with_dds steps at [] → p ≡ placed left at m → p ≡ placed steps at m
put_again steps left at m p is e =
    e ∙ ap (λ s. placed s at m) is ∙ ap (λ s. let q : Place = record { steps = s; at = at; member = m.member } in q) (put_twice steps at [] m.dds)

ok_place : (p q : Place) → p ≡ q → ◌≡◌ {A = Result Place Cause} (Ok q) (Ok p)
ok_place p q e = ap (λ p. let r : Result Place Cause = Ok p in r) (sym e)

pub named_ok : (place : Place) (at : ℕ) (dd : DdCard) (dds : List DdCard) (left : List FlatStep) (m : Members) (p : Place)
    → p ≡ placed left at m → with_named dds dd ≡ Ok m → dds ≡ dds_at place.steps at → left ≡ with_dds place.steps at [] → overrides_named place at dd ≡ Ok p
named_ok place at dd dds left m p placed_is given taken is =
    named_places place at dd ∙ ap (λ ds. mapped (placed place.steps at) (with_named ds dd)) (sym taken) ∙ ap (mapped (placed place.steps at)) given
    ∙ ok_place p (placed place.steps at m) (put_again place.steps left at m p is placed_is)

pub member_ok : (place : Place) (dd : DdCard) (dds : List DdCard) (left : List FlatStep) (m : Members) (p : Place)
    → p ≡ placed left place.at m → with_member dds place.member dd ≡ Ok m → dds ≡ dds_at place.steps place.at
    → left ≡ with_dds place.steps place.at [] → overrides_member place dd ≡ Ok p
member_ok place dd dds left m p placed_is given taken is =
    member_places place dd ∙ ap (λ ds. mapped (placed place.steps place.at) (with_member ds place.member dd)) (sym taken)
    ∙ ap (mapped (placed place.steps place.at)) given
    ∙ ok_place p (placed place.steps place.at m) (put_again place.steps left place.at m p is placed_is)

pub named_error : (place : Place) (at : ℕ) (dd : DdCard) (dds : List DdCard) (e : ReadError) → dds ≡ dds_at place.steps at
    → Gives {A = Members} (Err e) (with_named dds dd) → Gives {A = Place} (Err e) (overrides_named place at dd)
named_error place at dd dds e taken given =
    gives_error (placed place.steps at) e (with_named dds dd) (overrides_named place at dd)
    (named_places place at dd ∙ ap (λ ds. mapped (placed place.steps at) (with_named ds dd)) (sym taken)) given

pub member_error : (place : Place) (dd : DdCard) (dds : List DdCard) (e : ReadError) → dds ≡ dds_at place.steps place.at
    → Gives {A = Members} (Err e) (with_member dds place.member dd) → Gives {A = Place} (Err e) (overrides_member place dd)
member_error place dd dds e taken given =
    gives_error (placed place.steps place.at) e (with_member dds place.member dd) (overrides_member place dd)
    (member_places place dd ∙ ap (λ ds. mapped (placed place.steps place.at) (with_member ds place.member dd)) (sym taken)) given
