-- Records can spell a plan of sound cards.
use Rattle.std.proofs.Common.{◌≡◌, ℕ, zero, suc, ◌+◌, ◌≤◌, true, List, [], ◌∷◌, ◌++◌, length, map, Option, Some, None, Result, Ok, Err, refl, sym, ap, subst, ◌∙◌, arith, length-append}
use Rattle.std.specs.Prelude.{All}
use Rattle.std.proofs.lemmas.List.Elements.{All-cons, All-head, All-map, All-nil, All-tail, All-weaker}
use Rattle.jname_core.specs.Characters.{is_job_class, is_letter_or_digit}
use Rattle.jname_core.specs.Grammar.{IsDsNameWithin, IsName8, IsSerial}
use Rattle.jname_core.specs.declared.key.Key.{Key}
use Rattle.jname_core.specs.declared.key.Key.TheVariants.{Named, Relative, Temporary, Unnamed}
use Rattle.jcl_plan.specs.declared.fault.Cause.{Cause}
use Rattle.jcl_plan.specs.declared.fault.Cause.TheVariants.{P}
use Rattle.jcl_plan.specs.declared.fault.StatementFault.TheVariants.{TestOfNoEarlierStep}
use Rattle.jcl_plan.specs.declared.outcome.TheConstants.{GREATEST_CODE}
use Rattle.jcl_plan.specs.declared.plan.DdKind.{DdKind}
use Rattle.jcl_plan.specs.declared.plan.DdKind.TheVariants.{Cards, Dummy, Set, Sysout}
use Rattle.jcl_plan.specs.declared.plan.DdPlan.{DdPlan}
use Rattle.jcl_plan.specs.declared.plan.JobPlan.{JobPlan}
use Rattle.jcl_plan.specs.declared.plan.Expiry.{Expiry}
use Rattle.jcl_plan.specs.declared.plan.Space.{Space}
use Rattle.jcl_plan.specs.declared.plan.StepPlan.{StepPlan}
use Rattle.jcl_plan.specs.declared.plan.Test.{Test}
use Rattle.jcl_plan.specs.declared.plan.VolumePlan.{VolumePlan}
use Rattle.jcl_plan.specs.declared.plan.VolumePlan.TheVariants as volume
use Rattle.list_values.specs.declared.condition.CodedTest.{CodedTest}
use Rattle.value_core.specs.declared.reference.StepReference.{StepReference}
use Rattle.value_core.specs.declared.set.VolumeName.{VolumeName}
use Rattle.value_core.specs.declared.set.VolumeName.TheVariants as coded_volume
use Rattle.cb_meaning.specs.Writable.{AreDds, AreSteps, BeginsNamed, IsCard, IsExpiry, IsJobTest, IsKeyAt, IsKindAt, IsName, IsSpace, IsVolumeAt, IsWritable}
use Rattle.jcl_cards.specs.declared.coded.Coded.{Coded}
use Rattle.jcl_cards.specs.declared.coded.Coded.TheVariants.{NotGiven, Nullified, Value}
use Rattle.jcl_cards.specs.declared.job.JobCard.{JobCard}
use Rattle.jcl_dds.specs.declared.dd.DdCard.{DdCard}
use Rattle.jcl_dds.specs.declared.dd.Word as positional
use Rattle.jcl_dds.specs.declared.dd.Word.TheVariants as positional_word
use Rattle.jcl_procs.specs.declared.step.FlatStep.{FlatStep}
use Rattle.jcl_refs.specs.LaterDds.{Found, as_dummy, defined_by, found_in, left_by, next_by, next_of, wanted_by}
use Rattle.jcl_refs.specs.Plans.{Led, MakesDummy, Names, NamesNothing, Naming, Nowhere, Own, OwnCards, OwnDummy, OwnSet, OwnSysout, Spot, expiry_of, ToDummy, ToSet, all_of, by_class, dds_with, job_test, job_with, kind_of, kind_with, kinds_in, led, most_dds, most_steps, naming, own_kind, plan_of, space_of, step_of, steps_from, test_of, test_with, unit_of, units_of_dds, units_of_steps, volume_by, volume_plan, with_dds_left, with_units}
use Rattle.jcl_refs.specs.Targets.{earlier_step}
use Rattle.plan_laws.specs.Each.{EachDd, EachStep}
use Rattle.statement_laws.specs.Ranges.{CodesName, IsSoundClass, IsSoundDd, IsSoundJob, IsSoundKey, IsSoundLabel, IsSoundSpace, IsSoundVolume, IsSoundWord}
use Rattle.deck_laws.specs.Sound.{BeginsWithName, IsNamed, IsSoundStep}
use Rattle.plan_laws.specs.PlanLaws.{HasKnownUnits, VolumeLooksBack}
use Rattle.plan_laws.proofs.DdFacts.{all_kinds, all_with, units_are_known}
use Rattle.plan_laws.proofs.Few.{as_many, map_length, steps_are_few}
use Rattle.plan_laws.proofs.LeftDds.{all_left}
use Rattle.deck_laws.proofs.Given.{and_ok, same_ok}
use Rattle.plan_laws.proofs.Making.{StepMade, each_placed, each_planned, firsts, job_made, none_left}
use Rattle.plan_laws.proofs.Placing.{KeyPlaced, KindPlaced, all_placed}
use Rattle.plan_laws.proofs.Tests.{LooksBack, tests_look_back}
use Rattle.plan_laws.proofs.Units.{Put, Same, With, all_put, put}

-- the DDs that are left are sound, and the first has a name
dummy_sound : (dd : DdCard) → IsSoundDd dd → IsSoundDd (as_dummy dd)
dummy_sound dd h = record { name = h.name; word = tt; set_name = h.set_name; volume = h.volume; space = h.space; label = h.label; class = h.class }

defined_sound : (dd later : DdCard) → IsSoundDd dd → IsSoundDd later → IsSoundDd (defined_by dd later)
defined_sound dd later h l = record { name = h.name; word = l.word; set_name = l.set_name; volume = l.volume; space = l.space; label = l.label; class = l.class }

begins_found : (n : ℕ) (dd : DdCard) (dds : List DdCard) (found : Option Found) →
    ((first : DdCard) (others : List DdCard) → IsNamed first.name → BeginsWithName (left_by n (first ∷ others))) → IsNamed dd.name →
    BeginsWithName ((next_by dd dds found).stays ++ left_by n (next_by dd dds found).rest)
begins_found n dd dds None more named = named
begins_found n dd dds (Some f) more named = more (defined_by dd f.first) (f.continued ++ (f.before ++ f.behind)) named

begins_next : (n : ℕ) (dd : DdCard) (dds : List DdCard) (wanted : Option (List ℕ)) →
    ((first : DdCard) (others : List DdCard) → IsNamed first.name → BeginsWithName (left_by n (first ∷ others))) → IsNamed dd.name →
    BeginsWithName ((next_of dd dds wanted).stays ++ left_by n (next_of dd dds wanted).rest)
begins_next n dd dds None more named = named
begins_next n dd dds (Some name) more named = begins_found n dd dds (found_in name dds) more named

begins_left : (n : ℕ) (dd : DdCard) (dds : List DdCard) → IsNamed dd.name → BeginsWithName (left_by n (dd ∷ dds))
begins_left zero dd dds named = named
begins_left (suc n) dd dds named =
    begins_next n dd dds (wanted_by dd.dd_name) (λ first others is. begins_left n first others is) named

all_begin : (dds : List DdCard) → BeginsWithName dds → BeginsWithName (left_by (length dds) dds)
all_begin [] named = tt
all_begin (dd ∷ dds) named = begins_left (suc (length dds)) dd dds named

left_sound : (s : FlatStep) → IsSoundStep s → IsSoundStep (with_dds_left s)
left_sound s h =
    record {
      name = h.name;
      procedure_step = h.procedure_step;
      program = h.program;
      codes = h.codes;
      begins_named = all_begin s.dds h.begins_named;
      dds = all_left IsSoundDd dummy_sound defined_sound (length s.dds) s.dds h.dds;
    }

-- the kind of a DD of a sound card
abbrev VolumeText : VolumePlan → Type 0
VolumeText volume.NotCoded = Unit {0}
VolumeText (volume.Serial serial) = IsSerial serial
VolumeText (volume.OfName text) = IsDsNameWithin 44 text
VolumeText (volume.OfDd step dd) = Unit {0}

abbrev KindText : DdKind → Type 0
KindText (Set p) = VolumeText p.volume × IsSpace p.space × IsExpiry p.expiry
KindText Dummy = Unit {0}
KindText (Sysout class) = is_letter_or_digit class ≡ true
KindText (Cards cards) = All IsCard cards

abbrev OwnText : Own → Type 0
OwnText OwnSet = Unit {0}
OwnText OwnDummy = Unit {0}
OwnText (OwnSysout class) = is_letter_or_digit class ≡ true
OwnText (OwnCards cards) = All IsCard cards

abbrev own_by : DdCard → Option positional.Word → Own
own_by dd None = by_class dd.sysout
own_by dd (Some positional_word.Dummy) = OwnDummy
own_by dd (Some (positional_word.Cards cards)) = OwnCards cards

class_text : (class : Coded ℕ) → IsSoundClass class → OwnText (by_class class)
class_text NotGiven h = tt
class_text Nullified h = tt
class_text (Value class) h = h

own_text : (dd : DdCard) (word : Option positional.Word) → IsSoundClass dd.sysout → IsSoundWord word → OwnText (own_by dd word)
own_text dd None class h = class_text dd.sysout class
own_text dd (Some positional_word.Dummy) class h = tt
own_text dd (Some (positional_word.Cards cards)) class h = h

led_text : (l : Led) → VolumeText (volume_by l)
led_text (ToSet t p) = tt
led_text ToDummy = tt
led_text (Nowhere fault) = tt

volume_text : (at : Spot) (v : Coded VolumeName) → IsSoundVolume v → VolumeText (volume_plan at v)
volume_text at NotGiven h = tt
volume_text at Nullified h = tt
volume_text at (Value coded_volume.Any) h = tt
volume_text at (Value (coded_volume.Serial serial)) h = h
volume_text at (Value (coded_volume.OfName text)) h = h
volume_text at (Value (coded_volume.OfDd r)) h = led_text (led at r)

space_text : (s : Coded Space) → IsSoundSpace s → IsSpace (space_of s)
space_text NotGiven h = tt
space_text Nullified h = tt
space_text (Value s) h = h

label_text : (e : Coded Expiry) → IsSoundLabel e → IsExpiry (expiry_of e)
label_text NotGiven h = tt
label_text Nullified h = tt
label_text (Value e) h = h

kind_text : (at : Spot) (dd : DdCard) (own : Own) (n : Naming) → OwnText own → VolumeText (volume_plan at dd.volume) → IsSpace (space_of dd.space) →
    IsExpiry (expiry_of dd.label) → KindText (kind_with at dd own n)
kind_text at dd OwnSet (Names key) h v s e = (v, s, e)
kind_text at dd OwnSet MakesDummy h v s e = tt
kind_text at dd OwnSet (NamesNothing fault) h v s e = tt
kind_text at dd OwnDummy n h v s e = tt
kind_text at dd (OwnSysout class) n h v s e = h
kind_text at dd (OwnCards cards) n h v s e = h

card_text : (at : Spot) (dd : DdCard) → IsSoundDd dd → KindText (kind_of at dd).value
card_text at dd h =
    kind_text at dd (own_kind dd) (naming at dd.set_name) (own_text dd dd.word h.class h.word) (volume_text at dd.volume h.volume) (space_text dd.space h.space)
    (label_text dd.label h.label)

-- a step of a sound card, without its references
abbrev DdText : DdPlan → Type 0
DdText dd = IsName dd.name × KindText dd.kind

record StepText (k : ℕ) (step : StepPlan) : Type 0 where
  name : IsName step.name
  procedure_step : IsName step.procedure_step
  program : IsName8 step.program
  codes : All (λ t. t.code ≤ GREATEST_CODE) step.tests.items
  begins_named : BeginsNamed step.dds
  dds : All DdText step.dds

-- the tests of a step keep their codes
abbrev test_by_step : CodedTest → Option ℕ → Result Test Cause
test_by_step t None = Err (P TestOfNoEarlierStep)
test_by_step t (Some n) = Ok (test_with t (Some n))

abbrev test_by : Option ℕ → ℕ → List FlatStep → CodedTest → Option StepReference → Result Test Cause
test_by call k steps t None = Ok (test_with t None)
test_by call k steps t (Some reference) = test_by_step t (earlier_step call reference k steps)

code_by_step : (t : CodedTest) (found : Option ℕ) (x : Test) → test_by_step t found ≡ Ok x → x.code ≡ t.code
code_by_step t None x is = absurd cc
code_by_step t (Some n) x is = ap (λ (y : Test). y.code) (sym (same_ok (test_with t (Some n)) x is))

same_code : (call : Option ℕ) (k : ℕ) (steps : List FlatStep) (t : CodedTest) (reference : Option StepReference) (x : Test) →
    test_by call k steps t reference ≡ Ok x → x.code ≡ t.code
same_code call k steps t None x is = ap (λ (y : Test). y.code) (sym (same_ok (test_with t None) x is))
same_code call k steps t (Some reference) x is = code_by_step t (earlier_step call reference k steps) x is

all_codes : (call : Option ℕ) (k : ℕ) (steps : List FlatStep) (tests : List CodedTest) (found : List Test) → All (λ t. t.code ≤ GREATEST_CODE) tests →
    all_of (map (test_of call k steps) tests) ≡ Ok found → All (λ t. t.code ≤ GREATEST_CODE) found
all_codes call k steps [] found codes is =
    let Q : Test → Type 0 = λ t. t.code ≤ GREATEST_CODE in
    subst (All Q) (sym (none_left found is)) (All-nil Q)
all_codes call k steps (t ∷ tests) found codes is =
    let Q : Test → Type 0 = λ t. t.code ≤ GREATEST_CODE in
    let C : CodedTest → Type 0 = λ t. t.code ≤ GREATEST_CODE in
    let f = firsts (test_of call k steps t) (map (test_of call k steps) tests) found is in
    let same = same_code call k steps t t.step f.first f.is_first in
    let first : f.first.code ≤ GREATEST_CODE = subst (λ (n : ℕ). n ≤ GREATEST_CODE) (sym same) (All-head C t tests codes) in
    subst (All Q) (sym f.all) (All-cons Q f.first f.more first (all_codes call k steps tests f.more (All-tail C t tests codes) f.are_more))

begins_with : (dds : List DdCard) (kinds : List DdKind) → BeginsWithName dds → BeginsNamed (dds_with dds kinds)
begins_with [] kinds named = tt
begins_with (dd ∷ dds) [] named = tt
begins_with (dd ∷ dds) (kind ∷ kinds) named = named_first dd.name named
  where
    named_first : (name : Option (List ℕ)) → IsNamed name → BeginsNamed (record { name = name; kind = kind } ∷ dds_with dds kinds)
    named_first None h = absurd h
    named_first (Some text) h = tt

step_text : (left : List FlatStep) (k : ℕ) (planned : List (List DdKind)) (s : FlatStep) (plan : StepPlan) → IsSoundStep s →
    StepMade left k planned s plan → StepText k plan
step_text left k planned s plan h made =
    subst (StepText k) (sym made.is)
    (record {
      name = h.name;
      procedure_step = h.procedure_step;
      program = h.program;
      codes = all_codes s.call k left s.condition.tests.items made.tests h.codes made.are_tests;
      begins_named = begins_with s.dds made.kinds h.begins_named;
      dds = all_with IsSoundDd KindText DdText (λ dd kind card text. (card.name, text)) s.dds made.kinds h.dds
          (all_kinds IsSoundDd KindText card_text left s.call k planned [] s.dds made.kinds (All-nil KindText) h.dds made.are_kinds);
    })

-- units change no text
with_text : (n : ℕ) (kind : DdKind) → KindText kind → KindText (with_units n kind)
with_text n (Set p) h = h
with_text n Dummy h = tt
with_text n (Sysout class) h = h
with_text n (Cards cards) h = h

put_text : (count : ℕ) (dd new : DdPlan) → DdText dd → Put count dd new → DdText new
put_text count dd new h (Same is) = subst DdText (sym is) h
put_text count dd new h (With n known is) = subst DdText (sym is) (h.0, with_text n dd.kind h.1)

put_name : (count : ℕ) (dd new : DdPlan) → Put count dd new → dd.name ≡ new.name
put_name count dd new (Same is) = ap (λ (d : DdPlan). d.name) (sym is)
put_name count dd new (With n known is) = ap (λ (d : DdPlan). d.name) (sym is)

begins_put : (units : List (List ℕ)) (dds : List DdCard) (plans placed : List DdPlan) → BeginsNamed plans →
    all_of (units_of_dds units dds plans) ≡ Ok placed → BeginsNamed placed
begins_put units [] plans placed named is = subst BeginsNamed (sym (none_left placed is)) tt
begins_put units (dd ∷ dds) [] placed named is = subst BeginsNamed (sym (none_left placed is)) tt
begins_put units (dd ∷ dds) (plan ∷ plans) placed named is =
    let f = firsts (unit_of units dd.unit plan) (units_of_dds units dds plans) placed is in
    subst BeginsNamed (sym f.all) (subst IsNamed (put_name (length units) plan f.first (put units dd.unit plan f.first f.is_first)) named)

text_placed : (units : List (List ℕ)) (k : ℕ) (s : FlatStep) (plan new : StepPlan) → StepText k plan → (dds : List DdPlan) →
    all_of (units_of_dds units s.dds plan.dds) ≡ Ok dds → new ≡ record plan { dds = dds } → StepText k new
text_placed units k s plan new h dds are is =
    subst (StepText k) (sym is)
    (record {
      name = h.name;
      procedure_step = h.procedure_step;
      program = h.program;
      codes = h.codes;
      begins_named = begins_put units s.dds plan.dds dds h.begins_named are;
      dds = all_put units DdText DdText (put_text (length units)) s.dds plan.dds dds h.dds are;
    })

-- as many steps as there are cards
planned_length : (left : List FlatStep) (k : ℕ) (done : List StepPlan) (stand here : List FlatStep) (steps : List StepPlan) → length stand ≡ length here →
    steps_from left k done stand here ≡ Ok steps → length steps ≡ length done + length here
planned_length left k done [] [] steps same is = ap length (sym (same_ok done steps is)) ∙ omega (arith)
planned_length left k done [] (s ∷ here) steps same is = absurd (omega (arith, same))
planned_length left k done (stands ∷ stand) [] steps same is = absurd (omega (arith, same))
planned_length left k done (stands ∷ stand) (s ∷ here) steps same is =
    let made = and_ok (step_of left k (map kinds_in done) stands s) (λ plan. steps_from left (k + 1) (done ++ plan ∷ []) stand here) steps is in
    omega (arith, planned_length left (k + 1) (done ++ made.0 ∷ []) stand here steps (omega (arith, same)) made.2, length-append done (made.0 ∷ []))

placed_length : (units : List (List ℕ)) (left : List FlatStep) (plans : List StepPlan) → length plans ≡ length left →
    length (units_of_steps units left plans) ≡ length left
placed_length units [] plans same = refl
placed_length units (s ∷ left) [] same = same
placed_length units (s ∷ left) (plan ∷ plans) same = ap (λ n. suc n) (placed_length units left plans (omega (arith, same)))

-- all together
named : (s e : ℕ) → IsSoundKey (Unnamed s e) → ⊥
named s e h = h

key_at : (all : List StepPlan) (k d : ℕ) (key : Key) → KeyPlaced IsSoundKey named all k d key → IsKeyAt all k d key
key_at all k d (Named text) h = h
key_at all k d (Relative base sign amount) h = h
key_at all k d (Temporary text) h = h
key_at all k d (Unnamed s e) h = h

volume_at : (all : List StepPlan) (k d : ℕ) (v : VolumePlan) → VolumeText v → VolumeLooksBack all k d v → IsVolumeAt all k d v
volume_at all k d volume.NotCoded text back = tt
volume_at all k d (volume.Serial serial) text back = text
volume_at all k d (volume.OfName name) text back = text
volume_at all k d (volume.OfDd s e) text back = back

kind_at : (count : ℕ) (all : List StepPlan) (k d : ℕ) (kind : DdKind) → KindText kind → KindPlaced IsSoundKey named all k d kind → HasKnownUnits count kind →
    IsKindAt count all k d kind
kind_at count all k d (Set p) text back known =
    record {
      key = key_at all k d p.key back.0;
      volume = volume_at all k d p.volume text.0 back.1;
      space = text.1;
      unit = known;
      expiry_fits = text.2;
    }
kind_at count all k d Dummy text back known = tt
kind_at count all k d (Sysout class) text back known = text
kind_at count all k d (Cards cards) text back known = text

module _ (count : ℕ) (all : List StepPlan) where
  abbrev Known : DdPlan → Type 0
  Known dd = HasKnownUnits count dd.kind

  abbrev AllKnown : StepPlan → Type 0
  AllKnown step = All Known step.dds

  abbrev IsFew : StepPlan → Type 0
  IsFew step = length step.dds ≤ most_dds

  dds_are : (k d : ℕ) (dds : List DdPlan) → All DdText dds → EachDd (λ e dd. KindPlaced IsSoundKey named all k e dd.kind) d dds → All Known dds →
      AreDds count all k d dds
  dds_are k d [] text back known = tt
  dds_are k d (dd ∷ dds) text back known =
      let t = All-head DdText dd dds text in (
        t.0,
        kind_at count all k d dd.kind t.1 back.0 (All-head Known dd dds known),
        dds_are k (d + 1) dds (All-tail DdText dd dds text) back.1 (All-tail Known dd dds known),
      )

  steps_are : (k : ℕ) (steps : List StepPlan) → EachStep StepText k steps → All IsFew steps → EachStep LooksBack k steps →
      EachStep (λ n step. EachDd (λ d dd. KindPlaced IsSoundKey named all n d dd.kind) 1 step.dds) k steps → All AllKnown steps → AreSteps count all k steps
  steps_are k [] text few tests back known = tt
  steps_are k (step ∷ steps) text few tests back known = (
    record {
      name = text.0.name;
      procedure_step = text.0.procedure_step;
      program = text.0.program;
      tests = λ i d lt. (text.0.codes i d lt, tests.0 i d lt);
      few_dds = All-head IsFew step steps few;
      begins_named = text.0.begins_named;
      dds = dds_are k 1 step.dds text.0.dds back.0 (All-head AllKnown step steps known);
    },
    steps_are (k + 1) steps text.1 (All-tail IsFew step steps few) tests.1 back.1 (All-tail AllKnown step steps known),
  )

job_tests : (tests : List CodedTest) → All (λ t. t.code ≤ GREATEST_CODE) tests → All IsJobTest (map job_test tests)
job_tests tests codes =
    All-map IsJobTest job_test tests (λ i d lt. (codes i d lt, refl))

-- what a plan has from its JOB statement
record IsWritableFront (plan : JobPlan) : Type 0 where
  name : IsName8 plan.name
  class : is_job_class plan.class ≡ true
  priority : plan.priority ≤ 13
  message_class : is_letter_or_digit plan.message_class ≡ true
  tests : All IsJobTest plan.tests.items

front : (job : JobCard) (steps : List StepPlan) → IsSoundJob job → IsWritableFront (job_with job steps)
front job steps h =
    record {
      name = h.name;
      class = h.class;
      priority = h.priority;
      message_class = h.message_class;
      tests = job_tests job.tests.items h.codes;
    }

none_more : (n : ℕ) → 0 + n ≡ n
none_more n = omega (arith)

pub plan_is_writable : (units : List (List ℕ)) (job : JobCard) (steps : List FlatStep) (plan : JobPlan) → IsSoundJob job → 1 ≤ length steps →
    All IsSoundStep steps → plan_of units job steps ≡ Ok plan → IsWritable most_steps (length units) plan
plan_is_writable units job steps plan h some sound is =
    let m = job_made units job steps plan is in
    let left = map with_dds_left steps in
    let sound_left : All IsSoundStep left = All-map IsSoundStep with_dds_left steps
    (All-weaker IsSoundStep (λ (s : FlatStep). IsSoundStep (with_dds_left s)) left_sound steps sound) in
    let text = each_placed units StepText StepText (text_placed units) 1 left m.planned m.placed
    (each_planned IsSoundStep StepText left (step_text left) steps m.planned sound_left m.are_planned) m.are_placed in
    let text_all : EachStep StepText 1 plan.steps = subst (λ (p : JobPlan). EachStep StepText 1 p.steps) (sym m.is) text in
    let names = All-weaker IsSoundStep (λ (s : FlatStep). All (λ dd. CodesName IsSoundKey dd.set_name) s.dds)
    (λ s step. All-weaker IsSoundDd (λ (dd : DdCard). CodesName IsSoundKey dd.set_name) (λ dd card. card.set_name) s.dds step.dds) steps sound in
    let few = steps_are_few units job steps plan is in
    let tests = tests_look_back units job steps plan is in
    let back = all_placed IsSoundKey named units job steps plan names is in
    let known = units_are_known units job steps plan is in
    let begun : IsWritableFront plan = subst IsWritableFront (sym m.is) (front job m.placed h) in
    let all_planned = planned_length left 1 [] steps left m.planned (sym (map_length with_dds_left steps)) m.are_planned in
    let size : length plan.steps ≡ length steps = ap (λ (p : JobPlan). length p.steps) m.is
    ∙ as_many (units_of_steps units left m.planned) m.placed m.are_placed
    ∙ placed_length units left m.planned (all_planned ∙ none_more (length left))
    ∙ map_length with_dds_left steps in
    record {
      name = begun.name;
      class = begun.class;
      priority = begun.priority;
      message_class = begun.message_class;
      tests = begun.tests;
      some_step = omega (arith, some, size);
      few_steps = few.0;
      steps = steps_are (length units) plan.steps 1 plan.steps text_all few.1 tests.1 back known;
    }
