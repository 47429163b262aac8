-- A view is put among others, and the first one.
use Rattle.std.proofs.Common.{◌≡◌, ◌++◌, ◌∷◌, ◌∙◌, ◌+◌, ◌<◌, ℕ, zero, suc, Bool, true, false, List, [], ap, arith, drop, get_or, length, map, refl}
use Rattle.std.proofs.Common.{replicate, subst, sym}
use Rattle.std.proofs.lemmas.List.{map-append}
use Rattle.jcl_plan.specs.declared.plan.JobPlan.{JobPlan}
use Rattle.jcl_plan.specs.declared.plan.StepPlan.{StepPlan}
use Rattle.jcl_meaning.specs.declared.store.SoloStore.{SoloStore}
use Rattle.jcl_meaning.specs.Solo.{at_start, given}
use Rattle.jcl_meaning.specs.Stores.{store_of}
use Rattle.jcl_meaning.specs.Views.{View, view_at}
use Rattle.view_domain.specs.Crossings.{IsPut, New, Stood}
use Rattle.view_core.specs.declared.scene.Scene.{Scene}
use Rattle.view_core.specs.Bits.{kept_tests}
use Rattle.view_core.specs.PlainViews.{shown_parts}
use Rattle.view_core.proofs.Shown.{shown_first}
use Rattle.packed_core.specs.declared.room.Room.{Room}
use Rattle.packed_core.specs.Crossing.{IsRenumbered}
use Rattle.packed_core.specs.Moving.{all_shown, shown_among}
use Rattle.packed_core.specs.Rooms.{count_in, room_at}
use Rattle.packed_core.specs.Rows.{has_row, row_at}
use Rattle.packed_core.specs.Scenes.{HasScene}
use Rattle.packed_core.specs.Shown.{AreApart, row_shown}
use Rattle.packed_core.specs.Views.{AreRows, Views}
use Rattle.packed_core.specs.Words.{IsRow, bit, bits_from, met_of}
use Rattle.packed_core.proofs.Bits.{no_bits}
use Rattle.packed_core.proofs.Distinct.{one_row}
use Rattle.packed_core.proofs.Passing.{kept_length}
use Rattle.packed_core.proofs.ShownRows.{shown_like}
use Rattle.packed_core.proofs.Standing.{is_new, stands}

module _ (plan : JobPlan) (date : ℕ) (old : Views) (row : List ℕ) where
  pub put_stood : has_row row old.rows ≡ true → IsPut (all_shown plan date old) (shown_among plan date old row) true (all_shown plan date old)
  put_stood h = Stood (stands (shown_among plan date old) row old.rows h)

  pub put_new : (new : Views) → new.part ≡ old.part → new.scenes ≡ old.scenes → new.rows ≡ old.rows ++ row ∷ [] → has_row row old.rows ≡ false →
      AreApart plan date old.part old.scenes → AreRows plan old.part (length old.scenes) old.rows → IsRow (room_at plan old.part) row →
      get_or row 0 0 < length old.scenes → IsPut (all_shown plan date old) (shown_among plan date old row) false (all_shown plan date new)
  put_new new part scenes rows none apart are packed named =
      let longer : all_shown plan date new ≡ all_shown plan date old ++ shown_among plan date old row ∷ [] =
      (λ i. map (row_shown plan date (part i) (scenes i)) (rows i)) ∙ map-append (shown_among plan date old) old.rows (row ∷ []) in
      subst (IsPut (all_shown plan date old) (shown_among plan date old row) false) (sym longer)
      (New (is_new (shown_among plan date old) row old.rows none
      (λ n l same. one_row plan date old.part old.scenes apart (row_at old.rows n) row (are.packed n l) packed (are.numbered n l) named same)))

pub put_among_none : (old : List View) (v : View) (b : Bool) (new : List View) → old ≡ [] → IsPut old v b new → new ≡ v ∷ []
put_among_none old v b new e (Stood c) = absurd (omega (arith, c.1, ap length e))
put_among_none old v b new e (New h) = ap (λ (l : List View). l ++ v ∷ []) e

-- a row keeps its bits under another number
pub renumbered_row : (room : Room) (row new : List ℕ) (n : ℕ) → IsRow room row → IsRenumbered row n new → IsRow room new
renumbered_row room row new n of_row is = record {
  size = is.size ∙ of_row.size;
  within = is.within of_row.within;
  gap = λ i low high. is.bits i ∙ of_row.gap i low high;
  beyond = λ i high. is.bits i ∙ of_row.beyond i high;
}

-- rows without bits
none_met : (n s : ℕ) (row : List ℕ) → ((i : ℕ) → bit row i ≡ false) → bits_from n s row ≡ replicate n false
none_met zero s row h = refl
none_met (suc n) s row h = λ i. h s i ∷ none_met n (suc s) row h i

two_none : (n m : ℕ) → let front : List Bool = replicate n false in front ++ replicate m false ≡ replicate (n + m) false
two_none zero m = ap (λ (k : ℕ). replicate k false) (let e : m ≡ 0 + m = omega arith in e)
two_none (suc n) m = ap (λ (l : List Bool). false ∷ l) (two_none n m) ∙ ap (λ (k : ℕ). replicate k false) (let e : suc (n + m) ≡ suc n + m = omega arith in e)

all_steps : (l : List StepPlan) → drop 0 l ≡ l
all_steps [] = refl
all_steps (s ∷ l) = refl

module _ (plan : JobPlan) (date : ℕ) (store : SoloStore) (views : Views) (scene : Scene) (number : ℕ) (blank row : List ℕ) (at : views.part ≡ 0)
    (has : HasScene plan date views.part views.scenes scene number) (zeros : (j : ℕ) → get_or blank j 0 ≡ 0) (is : IsRenumbered blank number row) where
  none_set : (i : ℕ) → bit row i ≡ false
  none_set i = is.bits i ∙ no_bits blank zeros i

  first_met : met_of (room_at plan views.part) row ≡ replicate (length (kept_tests plan.tests.items plan.steps)) false
  first_met =
      let room : Room = room_at plan 0 in
      ap (λ (k : ℕ). met_of (room_at plan k) row) at
      ∙ (λ i. none_met room.job 1 row none_set i ++ none_met room.left (room.job + room.passed + 1) row none_set i)
      ∙ two_none room.job room.left
      ∙ ap (λ (k : ℕ). replicate k false) (ap (λ (l : List StepPlan). length plan.tests.items + count_in l) (all_steps plan.steps)
      ∙ sym (kept_length plan.tests.items plan.steps))

  pub first_shown : store_of scene.store ≡ store_of store → scene.passed ≡ [] → scene.volumes ≡ [] →
      shown_among plan date views row ≡ view_at plan 0 date (at_start (store_of store) (given []))
  first_shown same passed volumes =
      let bits : List Bool = replicate (length (kept_tests plan.tests.items plan.steps)) false in
      shown_like plan date views.part views.scenes row scene false bits (none_set 0) first_met number is.first has
      ∙ ap (λ (k : ℕ). shown_parts plan date k scene false bits) at
      ∙ shown_first plan date store scene bits same passed volumes refl
