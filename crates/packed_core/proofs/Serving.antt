-- Classes of codes that serve for the next step too.
use Rattle.std.proofs.Common.{◌≡◌, ◌++◌, ◌∷◌, ◌∙◌, ◌+◌, ℕ, Bool, List, [], ap, arith, cond, length, map, refl, subst, sym, take, drop}
use Rattle.std.specs.Prelude.{◌&&◌, All}
use Rattle.std.specs.List.{flat_map}
use Rattle.std.proofs.lemmas.List.{length-map, map-append}
use Rattle.std.proofs.lemmas.List.Elements.{All-head, All-tail, All-weaker}
use Rattle.cond_core.specs.Classes.{AreClasses}
use Rattle.jcl_plan.specs.declared.outcome.Outcome.TheVariants as outcome
use Rattle.jcl_plan.specs.declared.plan.JobPlan.{JobPlan}
use Rattle.jcl_plan.specs.declared.plan.StepPlan.{StepPlan}
use Rattle.jcl_plan.specs.declared.plan.Test.{Test}
use Rattle.jcl_meaning.specs.History.{holds, met_by}
use Rattle.view_core.specs.Bits.{bits_kept, kept_tests, looking}
use Rattle.packed_core.specs.declared.classes.Class.{Class}
use Rattle.packed_core.specs.declared.room.Room.{Room}
use Rattle.packed_core.specs.Classes.{AreMasks, IsMask, LooksAlike, Serves, tests_before}
use Rattle.packed_core.specs.Rooms.{IsSmall, count_in, room_at}
use Rattle.packed_core.proofs.Passing.{after_is, cleared_met, cleared_row, left_is, passed_is}
use Rattle.packed_core.proofs.Rows.{back_of, front_of}

looking_alike : (n : ℕ) (tests : List Test) → All (LooksAlike n) tests → looking n tests ≡ looking (n + 1) tests
looking_alike n [] h = refl
looking_alike n (t ∷ tests) h =
    let rest : looking n tests ≡ looking (n + 1) tests = looking_alike n tests (All-tail (LooksAlike n) t tests h) in
    λ i. cond (All-head (LooksAlike n) t tests h i) (t ∷ rest i) (rest i)

met_alike : (n code : ℕ) (tests : List Test) → All (LooksAlike n) tests →
    map (λ t. met_by t n (outcome.Code code)) tests ≡ map (λ t. met_by t (n + 1) (outcome.Code code)) tests
met_alike n code [] h = refl
met_alike n code (t ∷ tests) h = λ i. (All-head (LooksAlike n) t tests h i && holds t.operator t.code code)
    ∷ met_alike n code tests (All-tail (LooksAlike n) t tests h) i

masks_serve : (n : ℕ) (tests : List Test) (room : Room) (list : List Class) → All (LooksAlike n) tests → AreMasks n tests room list →
    AreMasks (n + 1) tests room list
masks_serve n tests room list alike are = record {
  codes = subst (λ (ts : List Test). AreClasses ts (map (λ (c : Class). c.code) list)) (looking_alike n tests alike) are.codes;
  masks = All-weaker (λ (c : Class). IsMask n tests room c.code c.mask.items) (λ (c : Class). IsMask (n + 1) tests room c.code c.mask.items)
      (λ c is. record {
        row = is.row;
        unnumbered = is.unnumbered;
        calm = is.calm;
        met = is.met ∙ met_alike n c.code tests alike;
      }) list are.masks;
}

-- masks serve behind a part's step where the bits of its tests are cleared
module _ (plan : JobPlan) (k : ℕ) (step : StepPlan) (later : List StepPlan) (is : drop k plan.steps ≡ step ∷ later) where
  abbrev job : List Test
  job = plan.tests.items

  abbrev own : List Test
  own = step.tests.items

  abbrev rest : List Test
  rest = flat_map (λ (s : StepPlan). s.tests.items) later

  abbrev next : List Test
  next = tests_before plan (k + 1)

  bits_of_kept : (f : Test → Bool) → bits_kept (length job) (length own) (map f (tests_before plan k)) ≡ map f next
  bits_of_kept f =
      let parts : map f (tests_before plan k) ≡ map f job ++ (map f own ++ map f rest) =
      ap (λ (l : List StepPlan). map f (kept_tests job l)) is ∙ map-append f job (own ++ rest) ∙ ap (λ (l : List Bool). map f job ++ l) (map-append f own rest) in
      let front : take (length job) (map f job ++ (map f own ++ map f rest)) ≡ map f job =
      front_of (map f job) (map f own ++ map f rest) (length job) (length-map job f) in
      let back : drop (length own) (drop (length job) (map f job ++ (map f own ++ map f rest))) ≡ map f rest =
      ap (drop (length own)) (back_of (map f job) (map f own ++ map f rest) (length job) (length-map job f))
      ∙ back_of (map f own) (map f rest) (length own) (length-map own f) in
      ap (bits_kept (length job) (length own)) parts ∙ (λ i. front i ++ back i) ∙ sym (map-append f job rest)
      ∙ ap (λ (l : List StepPlan). map f (kept_tests job l)) (sym (after_is plan k step later is))

  pub mask_serves : (class : Class) → All (LooksAlike k) next → IsSmall (room_at plan k) → IsMask k (tests_before plan k) (room_at plan k) class.code class.mask.items →
      Serves (k + 1) next (room_at plan (k + 1)) (length job + count_in (take k plan.steps) + 1) (length own) class
  mask_serves class alike small of_mask =
      let left : count_in (drop k plan.steps) ≡ length own + count_in (drop (k + 1) plan.steps) = left_is plan k step later is in
      record {
        there = omega (arith, of_mask.row.size, left);
        small = omega (arith, small, left);
        within = of_mask.row.within;
        serves = λ new by. record {
          row = cleared_row plan k step later is class.mask.items new by.cleared by.before by.after of_mask.row by.size by.within;
          unnumbered = by.first ∙ of_mask.unnumbered;
          calm = by.before 0 (omega arith) ∙ of_mask.calm;
          met = cleared_met plan k step later is class.mask.items new by.cleared by.before by.after
              ∙ ap (bits_kept (length job) (length own)) of_mask.met
              ∙ bits_of_kept (λ (t : Test). met_by t k (outcome.Code class.code))
              ∙ met_alike k class.code next alike;
        };
      }

-- where a part's step has no tests
module _ (plan : JobPlan) (k : ℕ) (step : StepPlan) (later : List StepPlan) (is : drop k plan.steps ≡ step ∷ later) (none : step.tests.items ≡ []) where
  same_tests : tests_before plan k ≡ tests_before plan (k + 1)
  same_tests =
      ap (kept_tests plan.tests.items) is
      ∙ ap (λ (ts : List Test). plan.tests.items ++ (ts ++ flat_map (λ (s : StepPlan). s.tests.items) later)) none
      ∙ ap (kept_tests plan.tests.items) (sym (after_is plan k step later is))

  none_own : length step.tests.items ≡ 0
  none_own = ap (λ (l : List Test). length l) none

  same_room : room_at plan k ≡ room_at plan (k + 1)
  same_room =
      let passed : count_in (take k plan.steps) ≡ count_in (take (k + 1) plan.steps) = omega (arith, none_own, passed_is plan k step later is) in
      let left : count_in (drop k plan.steps) ≡ count_in (drop (k + 1) plan.steps) = omega (arith, none_own, left_is plan k step later is) in
      λ i. record { job = length plan.tests.items; passed = passed i; left = left i }

  pub classes_serve : (list : List Class) → All (LooksAlike k) (tests_before plan (k + 1)) → AreMasks k (tests_before plan k) (room_at plan k) list →
      AreMasks (k + 1) (tests_before plan (k + 1)) (room_at plan (k + 1)) list
  classes_serve list alike are =
      masks_serve k (tests_before plan (k + 1)) (room_at plan (k + 1)) list alike
      (subst (λ (room : Room). AreMasks k (tests_before plan (k + 1)) room list) same_room
      (subst (λ (ts : List Test). AreMasks k ts (room_at plan k) list) same_tests are))
