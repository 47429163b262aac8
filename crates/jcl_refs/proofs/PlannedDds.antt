-- What a DD is, by the key of its set, and the DDs of a step one after another.
use Rattle.std.proofs.Common.{◌≡◌, ℕ, suc, ◌+◌, ◌<◌, ◌≤◌, arith, is_some, length, drop, get_or, List, [], ◌∷◌, ◌++◌, Option, Some, None}
use Rattle.std.proofs.Common.{Result, Ok, Err, refl, sym, ap, ◌∙◌, subst, append_assoc}
use Rattle.std.specs.List.{flat_map}
use Rattle.std.proofs.Math.Seq.{drop-cons}
use Rattle.std.proofs.lemmas.List.{append-nil}
use Rattle.jname_core.specs.declared.key.Key.{Key}
use Rattle.jcl_plan.specs.declared.fault.Cause.{Cause}
use Rattle.jcl_plan.specs.declared.plan.DdKind.{DdKind}
use Rattle.jcl_plan.specs.declared.plan.DdPlan.{DdPlan}
use Rattle.operand_core.specs.Faults.{earlier, or_fault, told}
use Rattle.operand_core.proofs.Told.{told_append}
use Rattle.value_core.specs.declared.refusal.ReadError.{ReadError}
use Rattle.value_core.specs.declared.refusal.ReadError.TheVariants.{Refused, Memory}
use Rattle.value_core.specs.Reads.{Gives, answer}
use Rattle.jcl_dds.specs.declared.dd.DdCard.{DdCard}
use Rattle.jcl_procs.specs.declared.step.FlatStep.{FlatStep}
use Rattle.jcl_procs.specs.Expansions.{and_then}
use Rattle.jcl_refs.specs.Kinds.{fault_named, fault_with, is_set, key_by, kind_by, kinds_here, named_by, plan_of, plan_with, plans_from}
use Rattle.jcl_refs.specs.LaterDds.{references_of}
use Rattle.jcl_refs.specs.Plans.{MakesDummy, Names, NamesNothing, Naming, Own, OwnCards, OwnDummy, OwnSet, OwnSysout, Spot}
use Rattle.jcl_refs.specs.Plans.{by_fault, dds_with, disposition_of, faults_of, key_of, kind_of, kind_with, kinds_from, led, naming, naming_faults, own_kind}
use Rattle.jcl_refs.specs.Plans.{spot, uncataloged_faults, volume_faults, with_kind}

naming_told : (n : Naming) → told (naming_faults n) ≡ fault_named (named_by n)
naming_told (Names key) = refl
naming_told MakesDummy = refl
naming_told (NamesNothing fault) = refl

key_is : (own : Own) (n : Naming) → key_by (is_set own) (named_by n) ≡ key_of own n
key_is OwnSet (Names key) = refl
key_is OwnSet MakesDummy = refl
key_is OwnSet (NamesNothing fault) = refl
key_is OwnDummy n = refl
key_is (OwnSysout class) n = refl
key_is (OwnCards cards) n = refl

kind_is : (at : Spot) (dd : DdCard) (own : Own) (n : Naming) → kind_with at dd own n ≡ kind_by at dd own (key_of own n)
kind_is at dd OwnSet (Names key) = refl
kind_is at dd OwnSet MakesDummy = refl
kind_is at dd OwnSet (NamesNothing fault) = refl
kind_is at dd OwnDummy n = refl
kind_is at dd (OwnSysout class) n = refl
kind_is at dd (OwnCards cards) n = refl

told_four : (a b c d : List Cause) → told (a ++ b ++ c ++ d) ≡ earlier (earlier (earlier (told a) (told b)) (told c)) (told d)
told_four a b c d =
    told_append (a ++ b ++ c) d
    ∙ ap (λ x. earlier x (told d)) (told_append (a ++ b) c ∙ ap (λ x. earlier x (told c)) (told_append a b))

told_is : (at : Spot) (dd : DdCard) →
    told (kind_of at dd).faults ≡ fault_with at dd (named_by (naming at dd.set_name)) (key_of (own_kind dd) (naming at dd.set_name))
told_is at dd =
    let key = key_of (own_kind dd) (naming at dd.set_name) in
    let volume = volume_faults (is_some key) at dd.volume in
    let blocks = flat_map (λ reference. faults_of (led at reference)) (references_of dd.control_blocks) in
    let uncataloged = uncataloged_faults key (disposition_of dd.disposition) in
    told_four (naming_faults (naming at dd.set_name)) volume blocks uncataloged
    ∙ ap (λ x. earlier (earlier (earlier x (told volume)) (told blocks)) (told uncataloged)) (naming_told (naming at dd.set_name))

pub answered : (at : Spot) (dd : DdCard) {named : Result (Option Key) Cause} {key : Option Key} {fault : Option Cause} →
    named ≡ named_by (naming at dd.set_name) → key ≡ key_by (is_set (own_kind dd)) named → fault ≡ fault_with at dd named key →
    answer (kind_of at dd) ≡ or_fault fault (kind_by at dd (own_kind dd) key)
answered at dd {named} {key} {fault} named_eq key_eq fault_eq =
    let n = naming at dd.set_name in
    let own = own_kind dd in
    let same_key : key ≡ key_of own n = key_eq ∙ ap (key_by (is_set own)) named_eq ∙ key_is own n in
    let same_fault : fault ≡ told (kind_of at dd).faults =
    fault_eq ∙ ap (λ m. fault_with at dd m key) named_eq ∙ ap (fault_with at dd (named_by n)) same_key ∙ sym (told_is at dd) in
    ap (λ f. or_fault f (kind_with at dd own n)) (sym same_fault) ∙ ap (or_fault fault) (kind_is at dd own n ∙ ap (kind_by at dd own) (sym same_key))

-- one DD after another, with the kinds and with the plans
one_step : {A B : Type 0} (f : Option Cause) (kind : DdKind) (plan : DdKind → DdPlan) (next : DdPlan → Result B Cause) (kinds : Result A Cause)
    (last : A → Result B Cause) → next (plan kind) ≡ and_then kinds last →
    and_then (and_then (or_fault f kind) (λ k. Ok (plan k))) next ≡ and_then (by_fault f kinds) last
one_step None kind plan next kinds last is = is
one_step (Some fault) kind plan next kinds last is = refl

kinds_more : (here : List DdPlan) (plan : DdPlan) → kinds_here (here ++ plan ∷ []) ≡ kinds_here here ++ plan.kind ∷ []
kinds_more [] plan = refl
kinds_more (first ∷ here) plan = ap (λ kinds. first.kind ∷ kinds) (kinds_more here plan)

pub planned_all : (steps : List FlatStep) (call : Option ℕ) (k : ℕ) (planned : List (List DdKind)) (whole : List DdCard) (here : List DdPlan)
    (dds : List DdCard) → ((kinds : List DdKind) → dds_with whole (kinds_here here ++ kinds) ≡ here ++ dds_with dds kinds)
    → plans_from steps call k planned here dds ≡ and_then (kinds_from steps call k planned (kinds_here here) dds) (λ kinds. Ok (dds_with whole kinds))
planned_all steps call k planned whole here [] is =
    let ok : List DdPlan → Result (List DdPlan) Cause = λ plans. Ok plans in
    ap ok (sym (append-nil here) ∙ sym (is []) ∙ ap (dds_with whole) (append-nil (kinds_here here)))
planned_all steps call k planned whole here (dd ∷ dds) is =
    let found = kind_of (spot steps call k planned (kinds_here here)) dd in
    let plan : DdPlan = plan_with dd found.value in
    let last : List DdKind → Result (List DdPlan) Cause = λ kinds. Ok (dds_with whole kinds) in
    let more : (kinds : List DdKind) → dds_with whole (kinds_here (here ++ plan ∷ []) ++ kinds) ≡ (here ++ plan ∷ []) ++ dds_with dds kinds =
    λ kinds.
    ap (λ front. dds_with whole (front ++ kinds)) (kinds_more here plan)
    ∙ ap (dds_with whole) (append_assoc (kinds_here here) (found.value ∷ []) kinds)
    ∙ is (found.value ∷ kinds)
    ∙ sym (append_assoc here (plan ∷ []) (dds_with dds kinds)) in
    one_step (told found.faults) found.value (plan_with dd) (λ p. plans_from steps call k planned (here ++ p ∷ []) dds)
    (kinds_from steps call k planned (kinds_here here ++ found.value ∷ []) dds) last
    (planned_all steps call k planned whole (here ++ plan ∷ []) dds more
    ∙ ap (λ kinds. and_then (kinds_from steps call k planned kinds dds) last) (kinds_more here plan))

-- a refusal on the way is the answer
pub refused : {A B : Type 0} (given : Result A Cause) (whole : Result B Cause)
    {taken : Result A ReadError} {e : ReadError} {result : Result B ReadError} →
    Gives taken given → taken ≡ Err e → ((fault : Cause) → given ≡ Err fault → whole ≡ Err fault) → (d : ReadError) × (result ≡ Err d) × (d ≡ e) →
    Gives result whole
refused {A} {B} given whole {taken} {e} {result} gives was so exit =
    let P : Result A ReadError → Type 0 = λ r. Gives r given in
    let Q : Result B ReadError → Type 0 = λ r. Gives r whole in
    subst Q (sym (exit.1 ∙ ap (λ d. let a : Result B ReadError = Err d in a) exit.2)) (by e (subst P was gives))
  where
    by : (x : ReadError) → Gives (let r : Result A ReadError = Err x in r) given → Gives (let r : Result B ReadError = Err x in r) whole
    by (Refused fault) h = so fault h
    by Memory h = tt

length_kinds : (here : List DdPlan) → length (kinds_here here) ≡ length here
length_kinds [] = refl
length_kinds (first ∷ here) = ap (λ n. suc n) (length_kinds here)

pub refused_at : (steps : List FlatStep) (call : Option ℕ) (k : ℕ) (planned : List (List DdKind)) (here slice : List DdPlan) (n : ℕ) (dds : List DdCard)
    (at : ℕ) (dd : DdCard) {taken : Result DdPlan ReadError} {e : ReadError} {result : Result (List DdPlan) ReadError} → slice ≡ here → n ≡ length here
    → dd ≡ get_or dds at dd → at < length dds → plans_from steps call k planned here (drop at dds) ≡ plans_from steps call k planned [] dds
    → Gives taken (plan_of (record { steps = steps; planned = with_kind planned (kinds_here slice); call = call; step = k; dd = n + 1 }) dd)
    → taken ≡ Err e → (d : ReadError) × (result ≡ Err d) × (d ≡ e)
    → Gives result (and_then (kinds_from steps call k planned [] dds) (λ kinds. Ok (dds_with dds kinds)))
refused_at steps call k planned here slice n dds at dd slice_is n_is dd_is within left gives was exit =
    let place : List DdPlan → ℕ → Spot = λ s m.
    record { steps = steps; planned = with_kind planned (kinds_here s); call = call; step = k; dd = m + 1 } in
    let next : DdPlan → Result (List DdPlan) Cause = λ p. plans_from steps call k planned (here ++ p ∷ []) (drop (suc at) dds) in
    let whole : Result (List DdPlan) Cause = and_then (kinds_from steps call k planned [] dds) (λ kinds. Ok (dds_with dds kinds)) in
    let same : plan_of (spot steps call k planned (kinds_here here)) dd ≡ plan_of (place slice n) dd =
    ap (λ m. plan_of (place here m) dd) (length_kinds here ∙ sym n_is) ∙ ap (λ s. plan_of (place s n) dd) (sym slice_is) in
    let split : drop at dds ≡ dd ∷ drop (suc at) dds = drop-cons dds at dd within ∙ ap (λ d. d ∷ drop (suc at) dds) (sym dd_is) in
    refused (plan_of (place slice n) dd) whole gives was
    (λ fault is.
    sym (planned_all steps call k planned dds [] dds (λ kinds. refl))
    ∙ sym left
    ∙ ap (plans_from steps call k planned here) split
    ∙ ap (λ r. and_then r next) (same ∙ is)) exit

-- no more DDs are planned than there are
few_with : (dds : List DdCard) (kinds : List DdKind) → length (dds_with dds kinds) ≤ length dds
few_with [] kinds = omega (arith)
few_with (dd ∷ dds) [] = omega (arith)
few_with (dd ∷ dds) (kind ∷ kinds) = omega (arith, few_with dds kinds)

pub few_planned : (dds : List DdCard) (kinds : Result (List DdKind) Cause) (plans : List DdPlan) →
    and_then kinds (λ found. Ok (dds_with dds found)) ≡ Ok plans → length plans ≤ length dds
few_planned dds (Err fault) plans is = cc
few_planned dds (Ok found) plans is =
    let same : dds_with dds found ≡ plans = cc in
    omega (arith, ap length same, few_with dds found)
