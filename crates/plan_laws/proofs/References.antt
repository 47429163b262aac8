-- The references of DDs look back.
use Rattle.std.proofs.Common.{◌≡◌, ℕ, ◌+◌, ◌-◌, ◌<◌, ◌≤◌, ◌⊎◌, inl, inr, Bool, true, false, nat_lt, List, [], ◌∷◌, ◌++◌, length, Option, Some, None, Result, Ok, Err, if◌then◌else◌, refl, sym, subst, arith}
use Rattle.std.specs.Prelude.{All, slice_get}
use Rattle.std.specs.List.{position}
use Rattle.std.proofs.lemmas.Bool.{ltb-true}
use Rattle.std.proofs.lemmas.List.Elements.{All-head, All-tail}
use Rattle.jname_core.specs.declared.key.Key.{Key}
use Rattle.jname_core.specs.declared.key.Key.TheVariants.{Named, Relative, Temporary, Unnamed}
use Rattle.jcl_plan.specs.declared.fault.Cause.{Cause}
use Rattle.jcl_plan.specs.declared.fault.Cause.TheVariants.{P}
use Rattle.jcl_plan.specs.declared.fault.StatementFault.TheVariants.{ForwardReference, ReferenceToNothing}
use Rattle.jcl_plan.specs.declared.plan.DdKind.{DdKind}
use Rattle.jcl_plan.specs.declared.plan.DdKind.TheVariants.{Cards, Dummy, Set, Sysout}
use Rattle.jcl_plan.specs.declared.plan.SetPlan.{SetPlan}
use Rattle.jcl_plan.specs.declared.plan.VolumePlan.{VolumePlan}
use Rattle.jcl_plan.specs.declared.plan.VolumePlan.TheVariants as volume
use Rattle.operand_core.specs.Faults.{told}
use Rattle.value_core.specs.declared.reference.DdReference.{DdReference}
use Rattle.value_core.specs.declared.reference.DdReference.TheVariants as reference
use Rattle.value_core.specs.declared.reference.StepReference.{StepReference}
use Rattle.value_core.specs.declared.reference.StepReference.TheVariants as step
use Rattle.value_core.specs.declared.set.SetName.{SetName}
use Rattle.value_core.specs.declared.set.SetName.TheVariants as name
use Rattle.value_core.specs.declared.set.VolumeName.{VolumeName}
use Rattle.value_core.specs.declared.set.VolumeName.TheVariants as coded_volume
use Rattle.jcl_cards.specs.declared.coded.Coded.{Coded}
use Rattle.jcl_cards.specs.declared.coded.Coded.TheVariants.{NotGiven, Nullified, Value}
use Rattle.jcl_dds.specs.declared.dd.DdCard.{DdCard}
use Rattle.jcl_procs.specs.declared.step.FlatStep.{FlatStep}
use Rattle.cb_meaning.specs.Writable.{IsBefore}
use Rattle.jcl_refs.specs.declared.targets.Target.{Target}
use Rattle.jcl_refs.specs.LaterDds.{has_name}
use Rattle.jcl_refs.specs.Plans.{Led, Naming, Names, MakesDummy, NamesNothing, Nowhere, Own, OwnCards, OwnDummy, OwnSet, OwnSysout, Spot, ToDummy, ToSet, by_fault, kind_at, kind_of, kind_with, kinds_from, led, led_by, naming, naming_by, own_kind, spot, volume_by, volume_plan}
use Rattle.jcl_refs.specs.Targets.{dds_of, earlier_step, in_earlier, looks_forward, missing, dd_position, target_of}
use Rattle.statement_laws.specs.Ranges.{CodesName}
use Rattle.deck_laws.proofs.Given.{same_ok}
use Rattle.plan_laws.proofs.Places.{Extends, IsLast, look, look_in, more_there, was_there}
use Rattle.plan_laws.proofs.Tests.{step_between}

-- an earlier set
pub record Earlier (planned : List (List DdKind)) (k d s e : ℕ) : Type 0 where
  pub from_one : (1 ≤ s) × (1 ≤ e)
  pub before : IsBefore s e k d
  pub set : SetPlan
  pub there : look planned (s - 1) (e - 1) ≡ Some (Set set)

before_along : (s e n i k d : ℕ) → IsBefore s e n i → IsBefore n i k d → IsBefore s e k d
before_along s e n i k d (inl a) (inl b) = inl (omega (arith, a, b))
before_along s e n i k d (inl a) (inr b) = inl (omega (arith, a, b.0))
before_along s e n i k d (inr a) (inl b) = inl (omega (arith, a.0, b))
before_along s e n i k d (inr a) (inr b) = inr (omega (arith, a.0, b.0), omega (arith, a.1, b.1))

earlier_in : (a b : List (List DdKind)) (k d s e : ℕ) → Extends a b → Earlier a k d s e → Earlier b k d s e
earlier_in a b k d s e more h =
    record { from_one = h.from_one; before = h.before; set = h.set; there = more (s - 1) (e - 1) (Set h.set) h.there }

-- what a reference means stands before
record Stands (k d : ℕ) (t : Target) : Type 0 where
  from_one : (1 ≤ t.step) × (1 ≤ t.dd)
  before : IsBefore t.step t.dd k d

abbrev AllStand : ℕ → ℕ → Result Target Cause → Type 0
AllStand k d r = (t : Target) → r ≡ Ok t → Stands k d t

wrong : (fault : Cause) (t : Target) → (let r : Result Target Cause = Err fault in r) ≡ Ok t → ⊥
wrong fault t is = cc

no_place : (n : ℕ) → (let none : Option ℕ = None in none) ≡ Some n → ⊥
no_place n is = cc

abbrev place_by : Option ℕ → Option ℕ
place_by None = None
place_by (Some n) = Some (n + 1)

placed_from_one : (found : Option ℕ) (n : ℕ) → place_by found ≡ Some n → 1 ≤ n
placed_from_one None n is = absurd (no_place n is)
placed_from_one (Some m) n is = let e : m + 1 ≡ n = cc in omega (arith, e)

place_from_one : (text : List ℕ) (dds : List DdCard) (n : ℕ) → dd_position text dds ≡ Some n → 1 ≤ n
place_from_one text dds n is = placed_from_one (position (has_name text) dds) n is

abbrev here_if : Bool → ℕ → ℕ → Result Target Cause
here_if b k n = if b then Ok (record { step = k; dd = n }) else Err (P ForwardReference)

abbrev here_by : ℕ → ℕ → Option ℕ → Result Target Cause
here_by k d None = Err (P ReferenceToNothing)
here_by k d (Some n) = here_if (nat_lt n d) k n

stands_if : (b : Bool) (k d n : ℕ) → 1 ≤ k → 1 ≤ n → (b ≡ true → n < d) → AllStand k d (here_if b k n)
stands_if false k d n one first low t is = absurd (wrong (P ForwardReference) t is)
stands_if true k d n one first low t is =
    subst (Stands k d) (same_ok (record { step = k; dd = n }) t is) (record { from_one = (one, first); before = inr (refl, low refl) })

stands_here : (k d : ℕ) (place : Option ℕ) → 1 ≤ k → ((n : ℕ) → place ≡ Some n → 1 ≤ n) → AllStand k d (here_by k d place)
stands_here k d None one first t is = absurd (wrong (P ReferenceToNothing) t is)
stands_here k d (Some n) one first t is = stands_if (nat_lt n d) k d n one (first n refl) (λ e. ltb-true n d e) t is

abbrev earlier_by_place : ℕ → Option ℕ → Option Target
earlier_by_place s None = None
earlier_by_place s (Some n) = Some (record { step = s; dd = n })

abbrev earlier_by : List ℕ → List FlatStep → Option ℕ → Option Target
earlier_by text steps None = None
earlier_by text steps (Some s) = earlier_by_place s (dd_position text (dds_of steps s))

abbrev earlier_or : Cause → Option Target → Result Target Cause
earlier_or fault None = Err fault
earlier_or fault (Some t) = Ok t

stands_at : (fault : Cause) (k d s : ℕ) (place : Option ℕ) → (1 ≤ s) × (s < k) → ((n : ℕ) → place ≡ Some n → 1 ≤ n) →
    AllStand k d (earlier_or fault (earlier_by_place s place))
stands_at fault k d s None at first t is = absurd (wrong fault t is)
stands_at fault k d s (Some n) at first t is =
    subst (Stands k d) (same_ok (record { step = s; dd = n }) t is) (record { from_one = (at.0, first n refl); before = inl at.1 })

stands_earlier : (fault : Cause) (text : List ℕ) (steps : List FlatStep) (k d : ℕ) (found : Option ℕ) → ((s : ℕ) → found ≡ Some s → (1 ≤ s) × (s < k)) →
    AllStand k d (earlier_or fault (earlier_by text steps found))
stands_earlier fault text steps k d None at t is = absurd (wrong fault t is)
stands_earlier fault text steps k d (Some s) at t is =
    stands_at fault k d s (dd_position text (dds_of steps s)) (at s refl) (place_from_one text (dds_of steps s)) t is

stands_in_earlier : (call : Option ℕ) (s : StepReference) (text : List ℕ) (k d : ℕ) (steps : List FlatStep) → AllStand k d (in_earlier call s text k steps)
stands_in_earlier call s text k d steps =
    stands_earlier (missing (looks_forward call s text k steps)) text steps k d (earlier_step call s k steps) (step_between call s k steps)

target_stands : (call : Option ℕ) (k d : ℕ) (steps : List FlatStep) (r : DdReference) → 1 ≤ k → AllStand k d (target_of call k d steps r)
target_stands call k d steps (reference.Dd text) one = stands_here k d (dd_position text (dds_of steps k)) one (place_from_one text (dds_of steps k))
target_stands call k d steps (reference.OfStep s text) one = stands_in_earlier call (step.Step s) text k d steps
target_stands call k d steps (reference.OfProcedureStep s p text) one = stands_in_earlier call (step.ProcedureStep s p) text k d steps

-- where it leads
abbrev LedFact : List (List DdKind) → ℕ → ℕ → Led → Type 0
LedFact planned k d (ToSet t p) = Stands k d t × (look planned (t.step - 1) (t.dd - 1) ≡ Some (Set p))
LedFact planned k d ToDummy = Unit {0}
LedFact planned k d (Nowhere fault) = Unit {0}

abbrev led_result : List (List DdKind) → Result Target Cause → Led
led_result planned (Err fault) = Nowhere fault
led_result planned (Ok t) = led_by t (kind_at planned t)

fact_at : (planned : List (List DdKind)) (k d : ℕ) (t : Target) (found : Option DdKind) → Stands k d t → look planned (t.step - 1) (t.dd - 1) ≡ found →
    LedFact planned k d (led_by t found)
fact_at planned k d t None stands is = tt
fact_at planned k d t (Some (Set p)) stands is = (stands, is)
fact_at planned k d t (Some Dummy) stands is = tt
fact_at planned k d t (Some (Sysout class)) stands is = tt
fact_at planned k d t (Some (Cards cards)) stands is = tt

abbrev found_by : Target → Option (List DdKind) → Option DdKind
found_by t None = None
found_by t (Some dds) = slice_get dds (t.dd - 1)

found_same : (t : Target) (dds : Option (List DdKind)) → look_in dds (t.dd - 1) ≡ found_by t dds
found_same t None = refl
found_same t (Some dds) = refl

fact_by : (planned : List (List DdKind)) (k d : ℕ) (r : Result Target Cause) → AllStand k d r → LedFact planned k d (led_result planned r)
fact_by planned k d (Err fault) stands = tt
fact_by planned k d (Ok t) stands = fact_at planned k d t (kind_at planned t) (stands t refl) (found_same t (slice_get planned (t.step - 1)))

led_fact : (at : Spot) (r : DdReference) → 1 ≤ at.step → LedFact at.planned at.step at.dd (led at r)
led_fact at r one =
    fact_by at.planned at.step at.dd (target_of at.call at.step at.dd at.steps r) (target_stands at.call at.step at.dd at.steps r one)

-- names and volumes, where a name that is coded keeps to a rule, which an unnamed one breaks
module _ (Text : Key → Type 0) (named : (s e : ℕ) → Text (Unnamed s e) → ⊥) where
  abbrev pub KeyAt : List (List DdKind) → ℕ → ℕ → Key → Type 0
  KeyAt planned k d (Named text) = Text (Named text)
  KeyAt planned k d (Relative base sign amount) = Text (Relative base sign amount)
  KeyAt planned k d (Temporary text) = Text (Temporary text)
  KeyAt planned k d (Unnamed s e) = ((s ≡ k) × (e ≡ d)) ⊎ Earlier planned k d s e

  abbrev pub VolumeAt : List (List DdKind) → ℕ → ℕ → VolumePlan → Type 0
  VolumeAt planned k d volume.NotCoded = Unit {0}
  VolumeAt planned k d (volume.Serial serial) = Unit {0}
  VolumeAt planned k d (volume.OfName text) = Unit {0}
  VolumeAt planned k d (volume.OfDd s e) = Earlier planned k d s e

  abbrev pub Fine : List (List DdKind) → ℕ → ℕ → SetPlan → Type 0
  Fine planned k d p = KeyAt planned k d p.key × VolumeAt planned k d p.volume

  abbrev pub AllFine : List (List DdKind) → Type 0
  AllFine planned = (n i : ℕ) (p : SetPlan) → look planned n i ≡ Some (Set p) → Fine planned (n + 1) (i + 1) p

  abbrev KindFact : List (List DdKind) → ℕ → ℕ → DdKind → Type 0
  KindFact planned k d (Set p) = Fine planned k d p
  KindFact planned k d Dummy = Unit {0}
  KindFact planned k d (Sysout class) = Unit {0}
  KindFact planned k d (Cards cards) = Unit {0}

  key_in : (a b : List (List DdKind)) (k d : ℕ) (key : Key) → Extends a b → KeyAt a k d key → KeyAt b k d key
  key_in a b k d (Named text) more h = h
  key_in a b k d (Relative base sign amount) more h = h
  key_in a b k d (Temporary text) more h = h
  key_in a b k d (Unnamed s e) more (inl own) = inl own
  key_in a b k d (Unnamed s e) more (inr h) = inr (earlier_in a b k d s e more h)

  volume_in : (a b : List (List DdKind)) (k d : ℕ) (v : VolumePlan) → Extends a b → VolumeAt a k d v → VolumeAt b k d v
  volume_in a b k d volume.NotCoded more h = tt
  volume_in a b k d (volume.Serial serial) more h = tt
  volume_in a b k d (volume.OfName text) more h = tt
  volume_in a b k d (volume.OfDd s e) more h = earlier_in a b k d s e more h

  pub fine_in : (a b : List (List DdKind)) (k d : ℕ) (p : SetPlan) → Extends a b → Fine a k d p → Fine b k d p
  fine_in a b k d p more h = (key_in a b k d p.key more h.0, volume_in a b k d p.volume more h.1)

  coded_key : (planned : List (List DdKind)) (k d : ℕ) (key : Key) → Text key → KeyAt planned k d key
  coded_key planned k d (Named text) h = h
  coded_key planned k d (Relative base sign amount) h = h
  coded_key planned k d (Temporary text) h = h
  coded_key planned k d (Unnamed s e) h = absurd (named s e h)

  -- the key of an earlier set
  key_of_earlier : (planned : List (List DdKind)) (k d n i : ℕ) (p : SetPlan) (key : Key) → 1 ≤ n → 1 ≤ i → IsBefore n i k d →
      look planned (n - 1) (i - 1) ≡ Some (Set p) → KeyAt planned n i key → KeyAt planned k d key
  key_of_earlier planned k d n i p (Named text) one first before there h = h
  key_of_earlier planned k d n i p (Relative base sign amount) one first before there h = h
  key_of_earlier planned k d n i p (Temporary text) one first before there h = h
  key_of_earlier planned k d n i p (Unnamed s e) one first before there (inl own) =
      inr (subst (λ (m : ℕ). Earlier planned k d m e) (sym own.0) (subst (λ (m : ℕ). Earlier planned k d n m) (sym own.1)
      (record { from_one = (one, first); before = before; set = p; there = there })))
  key_of_earlier planned k d n i p (Unnamed s e) one first before there (inr h) =
      inr (record { from_one = h.from_one; before = before_along s e n i k d h.before before; set = h.set; there = h.there })

  fine_at : (planned : List (List DdKind)) (n i : ℕ) (p : SetPlan) → AllFine planned → 1 ≤ n → 1 ≤ i → look planned (n - 1) (i - 1) ≡ Some (Set p) →
      Fine planned n i p
  fine_at planned n i p all one first there =
      let m : n - 1 + 1 ≡ n = omega (arith, one) in
      let j : i - 1 + 1 ≡ i = omega (arith, first) in
      subst (λ (x : ℕ). Fine planned x i p) m (subst (λ (x : ℕ). Fine planned (n - 1 + 1) x p) j (all (n - 1) (i - 1) p there))

  abbrev NamingFact : List (List DdKind) → ℕ → ℕ → Naming → Type 0
  NamingFact planned k d (Names key) = KeyAt planned k d key
  NamingFact planned k d MakesDummy = Unit {0}
  NamingFact planned k d (NamesNothing fault) = Unit {0}

  naming_led : (planned : List (List DdKind)) (k d : ℕ) (l : Led) → AllFine planned → LedFact planned k d l → NamingFact planned k d (naming_by l)
  naming_led planned k d (ToSet t p) all h =
      key_of_earlier planned k d t.step t.dd p p.key h.0.from_one.0 h.0.from_one.1 h.0.before h.1
      (fine_at planned t.step t.dd p all h.0.from_one.0 h.0.from_one.1 h.1).0
  naming_led planned k d ToDummy all h = tt
  naming_led planned k d (Nowhere fault) all h = tt

  naming_fact : (at : Spot) (coded : Coded SetName) → AllFine at.planned → 1 ≤ at.step → CodesName Text coded →
      NamingFact at.planned at.step at.dd (naming at coded)
  naming_fact at NotGiven all one text = inl (refl, refl)
  naming_fact at Nullified all one text = inl (refl, refl)
  naming_fact at (Value name.Null) all one text = tt
  naming_fact at (Value (name.Of key)) all one text = coded_key at.planned at.step at.dd key text
  naming_fact at (Value (name.OfDd r)) all one text = naming_led at.planned at.step at.dd (led at r) all (led_fact at r one)

  volume_led : (planned : List (List DdKind)) (k d : ℕ) (l : Led) → LedFact planned k d l → VolumeAt planned k d (volume_by l)
  volume_led planned k d (ToSet t p) h = record { from_one = h.0.from_one; before = h.0.before; set = p; there = h.1 }
  volume_led planned k d ToDummy h = tt
  volume_led planned k d (Nowhere fault) h = tt

  volume_fact : (at : Spot) (coded : Coded VolumeName) → 1 ≤ at.step → VolumeAt at.planned at.step at.dd (volume_plan at coded)
  volume_fact at NotGiven one = tt
  volume_fact at Nullified one = tt
  volume_fact at (Value coded_volume.Any) one = tt
  volume_fact at (Value (coded_volume.Serial serial)) one = tt
  volume_fact at (Value (coded_volume.OfName text)) one = tt
  volume_fact at (Value (coded_volume.OfDd r)) one = volume_led at.planned at.step at.dd (led at r) (led_fact at r one)

  kind_by : (at : Spot) (dd : DdCard) (own : Own) (n : Naming) → NamingFact at.planned at.step at.dd n →
      VolumeAt at.planned at.step at.dd (volume_plan at dd.volume) → KindFact at.planned at.step at.dd (kind_with at dd own n)
  kind_by at dd OwnSet (Names key) h v = (h, v)
  kind_by at dd OwnSet MakesDummy h v = tt
  kind_by at dd OwnSet (NamesNothing fault) h v = tt
  kind_by at dd OwnDummy n h v = tt
  kind_by at dd (OwnSysout class) n h v = tt
  kind_by at dd (OwnCards cards) n h v = tt

  kind_fact : (at : Spot) (dd : DdCard) → AllFine at.planned → 1 ≤ at.step → CodesName Text dd.set_name →
      KindFact at.planned at.step at.dd (kind_of at dd).value
  kind_fact at dd all one text =
      kind_by at dd (own_kind dd) (naming at dd.set_name) (naming_fact at dd.set_name all one text) (volume_fact at dd.volume one)

  -- one more DD, and all of a step
  one_more : (planned : List (List DdKind)) (here : List DdKind) (last : DdKind) (k : ℕ) → length planned + 1 ≡ k → AllFine (planned ++ here ∷ []) →
      KindFact (planned ++ here ∷ []) k (length here + 1) last → AllFine (planned ++ (here ++ last ∷ []) ∷ [])
  one_more planned here last k at all fact n i p there = by_case (was_there planned here last n i (Set p) there)
    where
      by_case : (look (planned ++ here ∷ []) n i ≡ Some (Set p)) ⊎ IsLast planned here last n i (Set p) →
          Fine (planned ++ (here ++ last ∷ []) ∷ []) (n + 1) (i + 1) p
      by_case (inl before) =
          fine_in (planned ++ here ∷ []) (planned ++ (here ++ last ∷ []) ∷ []) (n + 1) (i + 1) p (more_there planned here last) (all n i p before)
      by_case (inr l) =
          let f : Fine (planned ++ here ∷ []) k (length here + 1) p = subst (KindFact (planned ++ here ∷ []) k (length here + 1)) l.same fact in
          let m : k ≡ n + 1 = omega (arith, at, l.step) in
          let j : length here + 1 ≡ i + 1 = omega (arith, l.dd) in
          fine_in (planned ++ here ∷ []) (planned ++ (here ++ last ∷ []) ∷ []) (n + 1) (i + 1) p (more_there planned here last)
          (subst (λ (x : ℕ). Fine (planned ++ here ∷ []) x (i + 1) p) m (subst (λ (x : ℕ). Fine (planned ++ here ∷ []) k x p) j f))

  pub kinds_fine : (steps : List FlatStep) (call : Option ℕ) (k : ℕ) (planned : List (List DdKind)) (here : List DdKind) (dds : List DdCard)
      (kinds : List DdKind) → length planned + 1 ≡ k → AllFine (planned ++ here ∷ []) → All (λ dd. CodesName Text dd.set_name) dds →
      kinds_from steps call k planned here dds ≡ Ok kinds → AllFine (planned ++ kinds ∷ [])
  kinds_fine steps call k planned here [] kinds at all text is =
      subst (λ (ks : List DdKind). AllFine (planned ++ ks ∷ [])) (same_ok here kinds is) all
  kinds_fine steps call k planned here (dd ∷ dds) kinds at all text is =
      let this = kind_of (spot steps call k planned here) dd in
      let next = here ++ this.value ∷ [] in
      let one : 1 ≤ k = omega (arith, at) in
      let fact = kind_fact (spot steps call k planned here) dd all one (All-head (λ (d : DdCard). CodesName Text d.set_name) dd dds text) in
      kinds_fine steps call k planned next dds kinds at (one_more planned here this.value k at all fact)
      (All-tail (λ (d : DdCard). CodesName Text d.set_name) dd dds text) (no_fault (told this.faults) (kinds_from steps call k planned next dds) kinds is)
    where
      no_fault : {A : Type 0} (fault : Option Cause) (next : Result A Cause) (a : A) → by_fault fault next ≡ Ok a → next ≡ Ok a
      no_fault None next a is = is
      no_fault (Some fault) next a is = cc
