-- Steps that ask for no volume need not be looked through.
use Rattle.std.proofs.Common.{◌≡◌, ◌∷◌, ◌∙◌, ◌+◌, ◌≤◌, arith, ℕ, zero, suc, Bool, true, false, List, [], None, ap, refl, sym}
use Rattle.std.specs.Prelude.{◌||◌, drop, take, if◌then◌else◌}
use Rattle.std.specs.List.{list_any}
use Rattle.jcl_plan.specs.declared.plan.DdKind.{DdKind}
use Rattle.jcl_plan.specs.declared.plan.DdKind.TheVariants.{Sysout, Dummy, Cards, Set}
use Rattle.jcl_plan.specs.declared.plan.DdPlan.{DdPlan}
use Rattle.jcl_plan.specs.declared.plan.StepPlan.{StepPlan}
use Rattle.jcl_plan.specs.declared.plan.VolumePlan.{VolumePlan}
use Rattle.jcl_plan.specs.declared.plan.VolumePlan.TheVariants.{NotCoded, Serial, OfName, OfDd}
use Rattle.jcl_meaning.specs.Parts.{part_of}
use Rattle.jcl_meaning.specs.Stores.{store_of}
use Rattle.jcl_meaning.specs.Takes.{dd_volume}
use Rattle.jcl_meaning.specs.Views.{kind_refers, refers, shown_set, steps_refer}
use Rattle.jcl_meaning.specs.declared.names.HeldName.{HeldName}
use Rattle.view_core.specs.declared.scene.Scene.{Scene}
use Rattle.view_core.specs.Same.{shown_alone}
use Rattle.packed_core.specs.Asking.{AskUpTo, asks, kind_asks}
use Rattle.packed_core.specs.Shown.{ShowsAlike}

or_behind : (a b : Bool) → (a || b) ≡ false → b ≡ false
or_behind true b e = absurd cc
or_behind false b e = e

or_first : (a b : Bool) → (a || b) ≡ false → a ≡ false
or_first true b e = absurd cc
or_first false b e = refl

or_none : (a b : Bool) → a ≡ false → b ≡ false → (a || b) ≡ false
or_none true b e h = absurd cc
or_none false b e h = h

none_behind : {X : Type 0} (f : X → Bool) (xs : List X) (k : ℕ) → list_any f xs ≡ false → list_any f (drop k xs) ≡ false
none_behind f xs zero e = e
none_behind f [] (suc k) e = refl
none_behind f (x ∷ xs) (suc k) e = none_behind f xs k (or_behind (f x) (list_any f xs) e)

-- where none behind so many has it, those in front tell whether one has it
any_front : {X : Type 0} (f : X → Bool) (xs : List X) (n k : ℕ) → list_any f (drop n xs) ≡ false →
    list_any f (drop k (take n xs)) ≡ list_any f (drop k xs)
any_front f xs zero zero e = sym e
any_front f xs zero (suc k) e = sym (none_behind f xs (suc k) e)
any_front f [] (suc n) k e = refl
any_front f (x ∷ xs) (suc n) zero e = ap (λ (b : Bool). f x || b) (any_front f xs n zero e)
any_front f (x ∷ xs) (suc n) (suc k) e = any_front f xs n k e

pub without_rest : (steps : List StepPlan) (n part : ℕ) (s : Scene) → AskUpTo steps n → ShowsAlike (drop part steps) (drop part (take n steps)) s
without_rest steps n part s none names date = λ i. record {
  sets = λ key serial. shown_set ((part_of names (store_of s.store)).set key serial) date;
  catalog = (part_of names (store_of s.store)).catalog;
  passed = s.passed;
  volumes = λ step dd. if any_front (λ (x : StepPlan). list_any (λ (d : DdPlan). kind_refers d.kind step dd) x.dds) steps n part (none step dd) i
      then dd_volume s.volumes step dd else None;
  abended = false;
  job_tests = [];
  step_tests = [];
}

-- a DD that asks for no volume refers to none
refers_not : (v : VolumePlan) (step dd : ℕ) → asks v ≡ false → refers v step dd ≡ false
refers_not NotCoded step dd e = refl
refers_not (Serial serial) step dd e = refl
refers_not (OfName name) step dd e = refl
refers_not (OfDd s d) step dd e = absurd cc

kind_not : (k : DdKind) (step dd : ℕ) → kind_asks k ≡ false → kind_refers k step dd ≡ false
kind_not (Sysout class) step dd e = refl
kind_not Dummy step dd e = refl
kind_not (Cards cards) step dd e = refl
kind_not (Set p) step dd e = refers_not p.volume step dd e

dds_not : (dds : List DdPlan) (step dd : ℕ) → list_any (λ (d : DdPlan). kind_asks d.kind) dds ≡ false →
    list_any (λ (d : DdPlan). kind_refers d.kind step dd) dds ≡ false
dds_not [] step dd e = refl
dds_not (d ∷ dds) step dd e =
    or_none (kind_refers d.kind step dd) (list_any (λ (x : DdPlan). kind_refers x.kind step dd) dds)
    (kind_not d.kind step dd (or_first (kind_asks d.kind) (list_any (λ (x : DdPlan). kind_asks x.kind) dds) e))
    (dds_not dds step dd (or_behind (kind_asks d.kind) (list_any (λ (x : DdPlan). kind_asks x.kind) dds) e))

-- a step fewer, which asks for none
pub one_less : (steps : List StepPlan) (n : ℕ) (s : StepPlan) → drop n steps ≡ s ∷ drop (n + 1) steps →
    list_any (λ (d : DdPlan). kind_asks d.kind) s.dds ≡ false → AskUpTo steps (n + 1) → AskUpTo steps n
one_less steps n s at not none step dd =
    ap (λ (l : List StepPlan). steps_refer l step dd) at
    ∙ or_none (list_any (λ (d : DdPlan). kind_refers d.kind step dd) s.dds) (steps_refer (drop (n + 1) steps) step dd) (dds_not s.dds step dd not)
    (none step dd)

none_further : {X : Type 0} (f : X → Bool) (xs : List X) (n k : ℕ) → n ≤ k → list_any f (drop n xs) ≡ false → list_any f (drop k xs) ≡ false
none_further f xs zero k h e = none_behind f xs k e
none_further f [] (suc n) zero h e = refl
none_further f [] (suc n) (suc k) h e = refl
none_further f (x ∷ xs) (suc n) zero h e = absurd (omega (arith, h))
none_further f (x ∷ xs) (suc n) (suc k) h e = none_further f xs n k (omega (arith, h)) e

-- where no step behind a part asks for one, volumes are not seen
pub without_volumes : (steps : List StepPlan) (n part : ℕ) (s : Scene) → n ≤ part → AskUpTo steps n → (names : List HeldName) (date : ℕ) →
    shown_alone names date (drop part steps) (record { store = s.store; passed = s.passed; volumes = [] }) ≡ shown_alone names date (drop part steps) s
without_volumes steps n part s h none names date = λ i. record {
  sets = λ key serial. shown_set ((part_of names (store_of s.store)).set key serial) date;
  catalog = (part_of names (store_of s.store)).catalog;
  passed = s.passed;
  volumes = λ step dd. unseen step dd i;
  abended = false;
  job_tests = [];
  step_tests = [];
}
  where
    unseen : (step dd : ℕ) → (if steps_refer (drop part steps) step dd then dd_volume [] step dd else None)
        ≡ (if steps_refer (drop part steps) step dd then dd_volume s.volumes step dd else None)
    unseen step dd =
        let not : steps_refer (drop part steps) step dd ≡ false =
        none_further (λ (x : StepPlan). list_any (λ (d : DdPlan). kind_refers d.kind step dd) x.dds) steps n part h (none step dd) in
        ap (λ (b : Bool). if b then dd_volume [] step dd else None) not
        ∙ sym (ap (λ (b : Bool). if b then dd_volume s.volumes step dd else None) not)
