-- DDs that override those of a procedure's steps.
use Rattle.std.proofs.Common.{◌≡◌, ℕ, zero, suc, ◌+◌, ◌<◌, ◌≤◌, Bool, true, false, cond, List, [], ◌∷◌, ◌++◌, length, slice_get, Option, Some, None, is_none, Result, Ok, Err, refl, sym, ap, subst, ◌∙◌, ◌⊎◌, inl, inr, arith}
use Rattle.std.specs.Prelude.{All}
use Rattle.std.specs.List.{position}
use Rattle.std.proofs.lemmas.List.{length_push}
use Rattle.std.proofs.lemmas.List.Elements.{All-cons, All-head, All-nil, All-push, All-tail}
use Rattle.jcl_plan.specs.declared.fault.Cause.{Cause}
use Rattle.operand_core.specs.Faults.{told}
use Rattle.jcl_dds.specs.declared.dd.DdCard.{DdCard}
use Rattle.jcl_dds.specs.Merging.{by_itself, merged}
use Rattle.jcl_procs.specs.declared.step.FlatStep.{FlatStep}
use Rattle.jcl_procs.specs.Overrides.{adds, dds_at, dds_overridden, inserts, is_of_name, overrides_by_position, overrides_from, overrides_member, overrides_named, overrides_next, overrides_one, overrides_there, place_behind, puts_merged, step_at, steps_behind, with_dd, with_dd_between, with_dds}
use Rattle.jcl_procs.proofs.Reached.{dds_put, length_put, length_with_dd}
use Rattle.statement_laws.specs.Ranges.{IsSoundDd}
use Rattle.statement_laws.proofs.Merging.{by_itself_is_sound, merged_is_sound, merged_keeps_name}
use Rattle.deck_laws.specs.Sound.{BeginsWithName, IsNamed, IsSoundStep}
use Rattle.deck_laws.proofs.Calls.{AreBrought}
use Rattle.deck_laws.proofs.Taken.{from_or}

-- a place among the steps: what the overrides change
abbrev Domain : {A B : Type 0} → (A → B) → Type 0
Domain {A} f = A

abbrev Place : Type 0
Place = Domain overrides_from

-- the DDs of a step
abbrev AreStepDds : List DdCard → Type 0
AreStepDds dds = BeginsWithName dds × All IsSoundDd dds

dds_there : (steps : List FlatStep) (at : ℕ) → All IsSoundStep steps → AreStepDds (dds_at steps at)
dds_there [] at sound = (tt, All-nil IsSoundDd)
dds_there (step ∷ steps) zero sound = let s = All-head IsSoundStep step steps sound in (s.begins_named, s.dds)
dds_there (step ∷ steps) (suc at) sound = dds_there steps at (All-tail IsSoundStep step steps sound)

with_step_dds : (step : FlatStep) (dds : List DdCard) → AreStepDds dds → IsSoundStep step → IsSoundStep (record step { dds = dds })
with_step_dds step dds are sound = record {
  name = sound.name;
  procedure_step = sound.procedure_step;
  program = sound.program;
  codes = sound.codes;
  begins_named = are.0;
  dds = are.1;
}

-- asked only where there is such a step
dds_stand : (steps : List FlatStep) (at : ℕ) (dds : List DdCard) → (at < length steps → AreStepDds dds) → All IsSoundStep steps →
    All IsSoundStep (with_dds steps at dds)
dds_stand [] at dds are sound = sound
dds_stand (step ∷ steps) zero dds are sound =
    All-cons IsSoundStep (record step { dds = dds }) steps
    (with_step_dds step dds (are (omega (arith))) (All-head IsSoundStep step steps sound)) (All-tail IsSoundStep step steps sound)
dds_stand (step ∷ steps) (suc at) dds are sound =
    All-cons IsSoundStep step (with_dds steps at dds) (All-head IsSoundStep step steps sound)
    (dds_stand steps at dds (λ lt. are (omega (arith, lt))) (All-tail IsSoundStep step steps sound))

-- the place behind an override: the step that it is in has a DD, and the next one to be changed is not its first
abbrev IsBehindDd : Place → Type 0
IsBehindDd place = (1 ≤ place.member) × (place.at < length place.steps → 1 ≤ length (dds_at place.steps place.at))

record IsNext (place next : Place) : Type 0 where
  steps : All IsSoundStep next.steps
  number : length next.steps ≡ length place.steps
  behind_dd : IsBehindDd next

next_is : (place : Place) (at member : ℕ) (dds : List DdCard) → All IsSoundStep place.steps → (at < length place.steps → AreStepDds dds) → 1 ≤ member →
    1 ≤ length dds → IsNext place (record { steps = with_dds place.steps at dds; at = at; member = member })
next_is place at member dds sound are from_one some = record {
  steps = dds_stand place.steps at dds are sound;
  number = length_put place.steps at dds;
  behind_dd = (
    from_one,
    λ lt. subst (λ (ds : List DdCard). 1 ≤ length ds)
        (sym (dds_put place.steps at dds (subst (λ n. at < n) (length_put place.steps at dds) lt))) some,
  );
}

-- one that is merged
dd_there : (dds : List DdCard) (n : ℕ) (there : DdCard) → slice_get dds n ≡ Some there → All IsSoundDd dds → IsSoundDd there
dd_there [] n there is all = absurd (let no : (let o : Option DdCard = None in o) ≡ Some there = is in cc)
dd_there (dd ∷ dds) zero there is all = subst IsSoundDd (let same : dd ≡ there = cc in same) (All-head IsSoundDd dd dds all)
dd_there (dd ∷ dds) (suc n) there is all = dd_there dds n there is (All-tail IsSoundDd dd dds all)

some_there : (dds : List DdCard) (n : ℕ) (there : DdCard) → slice_get dds n ≡ Some there → 1 ≤ length dds
some_there [] n there is = absurd (let no : (let o : Option DdCard = None in o) ≡ Some there = is in cc)
some_there (dd ∷ dds) n there is = omega (arith)

all_with : (dds : List DdCard) (n : ℕ) (dd : DdCard) → IsSoundDd dd → All IsSoundDd dds → All IsSoundDd (with_dd dds n dd)
all_with [] n dd good all = all
all_with (there ∷ dds) zero dd good all = All-cons IsSoundDd dd dds good (All-tail IsSoundDd there dds all)
all_with (there ∷ dds) (suc n) dd good all =
    All-cons IsSoundDd there (with_dd dds n dd) (All-head IsSoundDd there dds all) (all_with dds n dd good (All-tail IsSoundDd there dds all))

begins_with : (dds : List DdCard) (n : ℕ) (there dd : DdCard) → slice_get dds n ≡ Some there → dd.name ≡ there.name → BeginsWithName dds →
    BeginsWithName (with_dd dds n dd)
begins_with [] n there dd is keeps begins = begins
begins_with (first ∷ dds) zero there dd is keeps begins =
    let same : first ≡ there = cc in
    subst IsNamed (ap (λ (d : DdCard). d.name) same ∙ sym keeps) begins
begins_with (first ∷ dds) (suc n) there dd is keeps begins = begins

merged_next : (place next : Place) (at n : ℕ) (there dd : DdCard) → slice_get (dds_at place.steps at) n ≡ Some there → All IsSoundStep place.steps →
    IsSoundDd dd → puts_merged place at n there dd ≡ Ok next → IsNext place next
merged_next place next at n there dd stands sound good is =
    let dds = dds_at place.steps at in
    let are = dds_there place.steps at sound in
    let whole = merged_is_sound there dd (dd_there dds n there stands are.1) good in
    let changed = with_dd dds n (merged there dd).value in
    let found = from_or (told (merged there dd).faults) (record { steps = with_dds place.steps at changed; at = at; member = n + 1 }) next is in
    subst (IsNext place) (sym found.1)
    (next_is place at (n + 1) changed sound
    (λ lt. (begins_with dds n there (merged there dd).value stands (merged_keeps_name there dd) are.0, all_with dds n (merged there dd).value whole are.1))
    (omega (arith)) (subst (λ k. 1 ≤ k) (sym (length_with_dd dds n (merged there dd).value)) (some_there dds n there stands)))

-- one that is added, which has a name
begins_added : (dds : List DdCard) (dd : DdCard) → IsNamed dd.name → BeginsWithName dds → BeginsWithName (dds ++ dd ∷ [])
begins_added [] dd named begins = named
begins_added (first ∷ dds) dd named begins = begins

added_next : (place : Place) (at : ℕ) (dd : DdCard) → All IsSoundStep place.steps → IsNamed dd.name → IsSoundDd dd → IsNext place (adds place at dd)
added_next place at dd sound named good =
    let dds = dds_at place.steps at in
    let are = dds_there place.steps at sound in
    next_is place at (length dds + 1) (dds ++ by_itself dd ∷ []) sound
    (λ lt. (begins_added dds (by_itself dd) named are.0, All-push IsSoundDd dds (by_itself dd) are.1 (by_itself_is_sound dd good)))
    (omega (arith)) (omega (arith, length_push dds (by_itself dd)))

-- one that is put between others
all_between : (dds : List DdCard) (n : ℕ) (dd : DdCard) → IsSoundDd dd → All IsSoundDd dds → All IsSoundDd (with_dd_between dds n dd)
all_between dds zero dd good all = All-cons IsSoundDd dd dds good all
all_between [] (suc n) dd good all = All-cons IsSoundDd dd [] good all
all_between (there ∷ dds) (suc n) dd good all =
    All-cons IsSoundDd there (with_dd_between dds n dd) (All-head IsSoundDd there dds all) (all_between dds n dd good (All-tail IsSoundDd there dds all))

some_between : (dds : List DdCard) (n : ℕ) (dd : DdCard) → 1 ≤ length (with_dd_between dds n dd)
some_between dds zero dd = omega (arith)
some_between [] (suc n) dd = omega (arith)
some_between (there ∷ dds) (suc n) dd = omega (arith)

begins_between : (dds : List DdCard) (n : ℕ) (dd : DdCard) → 1 ≤ n → 1 ≤ length dds → BeginsWithName dds → BeginsWithName (with_dd_between dds n dd)
begins_between dds zero dd from_one some begins = absurd (omega (arith, from_one))
begins_between [] (suc n) dd from_one some begins = absurd (omega (arith, some))
begins_between (there ∷ dds) (suc n) dd from_one some begins = begins

inserted_next : (place : Place) (dd : DdCard) → All IsSoundStep place.steps → IsBehindDd place → IsSoundDd dd → IsNext place (inserts place dd)
inserted_next place dd sound behind good =
    let dds = dds_at place.steps place.at in
    let are = dds_there place.steps place.at sound in
    next_is place place.at (place.member + 1) (with_dd_between dds place.member (by_itself dd)) sound
    (λ lt. (
      begins_between dds place.member (by_itself dd) behind.0 (behind.1 lt) are.0,
      all_between dds place.member (by_itself dd) (by_itself_is_sound dd good) are.1,
    ))
    (omega (arith)) (some_between dds place.member (by_itself dd))

-- an override with a name, and one without
abbrev Given : Place → Result Place Cause → Type 0
Given place r = (next : Place) → r ≡ Ok next → IsNext place next

ok_given : (place new : Place) → IsNext place new → Given place (Ok new)
ok_given place new is next e = subst (IsNext place) (let same : new ≡ next = cc in same) is

there_given : (place : Place) (at : ℕ) (dd : DdCard) (n : ℕ) (o : Option DdCard) → slice_get (dds_at place.steps at) n ≡ o → All IsSoundStep place.steps →
    IsNamed dd.name → IsSoundDd dd → Given place (overrides_there place at dd n o)
there_given place at dd n None is sound named good = ok_given place (adds place at dd) (added_next place at dd sound named good)
there_given place at dd n (Some there) is sound named good = λ next e. merged_next place next at n there dd is sound good e

position_given : (place : Place) (at : ℕ) (dd : DdCard) (o : Option ℕ) → All IsSoundStep place.steps → IsNamed dd.name → IsSoundDd dd →
    Given place (overrides_by_position place at dd o)
position_given place at dd None sound named good = ok_given place (adds place at dd) (added_next place at dd sound named good)
position_given place at dd (Some n) sound named good = there_given place at dd n (slice_get (dds_at place.steps at) n) refl sound named good

step_given : (place : Place) (dd : DdCard) (at : Result ℕ Cause) → All IsSoundStep place.steps → IsNamed dd.name → IsSoundDd dd →
    Given place (place_behind at (λ at. overrides_named place at dd))
step_given place dd (Err fault) sound named good = λ next e. absurd (cc)
step_given place dd (Ok at) sound named good = position_given place at dd (position (is_of_name dd.name) (dds_at place.steps at)) sound named good

either_given : (none : Bool) (place : Place) (r s : Result Place Cause) → Given place r → Given place s → Given place (cond none r s)
either_given true place r s first second = first
either_given false place r s first second = second

next_given : (place : Place) (dd : DdCard) (o : Option DdCard) → slice_get (dds_at place.steps place.at) place.member ≡ o → All IsSoundStep place.steps →
    IsBehindDd place → IsSoundDd dd → Given place (overrides_next place dd o)
next_given place dd None is sound behind good = ok_given place (inserts place dd) (inserted_next place dd sound behind good)
next_given place dd (Some there) is sound behind good =
    either_given (is_none there.name) place (puts_merged place place.at place.member there dd) (Ok (inserts place dd))
    (λ next e. merged_next place next place.at place.member there dd is sound good e)
    (ok_given place (inserts place dd) (inserted_next place dd sound behind good))

-- the first override has a name
abbrev CanStand : Place → Option (List ℕ) → Type 0
CanStand place name = IsNamed name ⊎ IsBehindDd place

one_by : (name : Option (List ℕ)) (place : Place) (dd : DdCard) → dd.name ≡ name → All IsSoundStep place.steps → CanStand place name → IsSoundDd dd →
    Given place (cond (is_none name) (overrides_member place dd) (place_behind (step_at place.steps place.at dd.qualifier) (λ at. overrides_named place at dd)))
one_by None place dd is sound (inl named) good = absurd (named)
one_by None place dd is sound (inr behind) good =
    next_given place dd (slice_get (dds_at place.steps place.at) place.member) refl sound behind good
one_by (Some name) place dd is sound can good =
    step_given place dd (step_at place.steps place.at dd.qualifier) sound (subst IsNamed (sym is) tt) good

-- one after another
abbrev FirstCan : Place → List DdCard → Type 0
FirstCan place dds = BeginsWithName dds ⊎ IsBehindDd place

first_can : (place : Place) (dd : DdCard) (dds : List DdCard) → FirstCan place (dd ∷ dds) → CanStand place dd.name
first_can place dd dds (inl named) = inl named
first_can place dd dds (inr behind) = inr behind

abbrev Brings : ℕ → Result (List FlatStep) Cause → Type 0
Brings n r = (steps : List FlatStep) → r ≡ Ok steps → (length steps ≡ n) × All IsSoundStep steps

then_brings : (n : ℕ) (r : Result Place Cause) (next : Place → Result (List FlatStep) Cause) → ((place : Place) → r ≡ Ok place → Brings n (next place)) →
    Brings n (steps_behind r next)
then_brings n (Err fault) next brings = λ steps e. absurd (cc)
then_brings n (Ok place) next brings = brings place refl

all_bring : (dds : List DdCard) (place : Place) → All IsSoundStep place.steps → FirstCan place dds → All IsSoundDd dds →
    Brings (length place.steps) (overrides_from place dds)
all_bring [] place sound can good = λ steps e. subst (λ (s : List FlatStep). (length s ≡ length place.steps) × All IsSoundStep s)
    (let same : place.steps ≡ steps = cc in same) (refl, sound)
all_bring (dd ∷ dds) place sound can good =
    then_brings (length place.steps) (overrides_one place dd) (λ next. overrides_from next dds)
    (λ next moved.
    let is = one_by dd.name place dd refl sound (first_can place dd dds can) (All-head IsSoundDd dd dds good) next moved in
    subst (λ n. Brings n (overrides_from next dds)) is.number (all_bring dds next is.steps (inr is.behind_dd) (All-tail IsSoundDd dd dds good)))

pub dds_are : (steps : List FlatStep) (dds : List DdCard) (all : List FlatStep) → AreBrought steps → BeginsWithName dds → All IsSoundDd dds →
    dds_overridden steps dds ≡ Ok all → AreBrought all
dds_are steps dds all brought named good is =
    let done = all_bring dds (record { steps = steps; at = 0; member = 0 }) brought.1 (inl named) good all is in
    (subst (λ n. 1 ≤ n) (sym done.0) brought.0, done.1)
