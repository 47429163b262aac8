-- Worked examples: one change each of the records of two dummies, and the fault that is told. (This profile)
use Rattle.std.specs.Prelude.{◌≡◌, ℕ, ◌+◌, List, [], ◌∷◌, ◌++◌, take, drop, length, Option, Some, None}
use Rattle.cb_meaning.specs.declared.layout.Layout.{Layout}
use Rattle.cb_meaning.specs.declared.layout.TheConstants.{LAYOUT_1, QUEUE_LAYOUT}
use Rattle.cb_meaning.specs.Examples.{first_dd_of_dummies, first_dd_of_set, four, jct_of_dummies, jct_of_set, jfcb_of_day, last_of_dummies, last_of_set, sct_of_dummies, sct_of_set}
use Rattle.cb_meaning.specs.Walks.{first_fault, jfcb_faults, lowest}

-- a record with these bytes from a place on
abbrev pub with : List ℕ → ℕ → List ℕ → List ℕ
with r at bytes = take at r ++ (bytes ++ drop (at + length bytes) r)

-- the fault of job 1, of one list of volumes
abbrev pub told : List ℕ → List ℕ → List ℕ → List ℕ → Option ℕ
told a b c d = first_fault LAYOUT_1 1 (four a b c d) 1 1

abbrev pub damaged_job : ℕ → List ℕ → Option ℕ
damaged_job at bytes = told (with jct_of_dummies at bytes) sct_of_dummies first_dd_of_dummies last_of_dummies

abbrev pub damaged_step : ℕ → List ℕ → Option ℕ
damaged_step at bytes = told jct_of_dummies (with sct_of_dummies at bytes) first_dd_of_dummies last_of_dummies

abbrev pub damaged_dd : ℕ → List ℕ → Option ℕ
damaged_dd at bytes = told jct_of_dummies sct_of_dummies (with first_dd_of_dummies at bytes) last_of_dummies

abbrev pub damaged_last : ℕ → List ℕ → Option ℕ
damaged_last at bytes = told jct_of_dummies sct_of_dummies first_dd_of_dummies (with last_of_dummies at bytes)

-- the fault of a JFCB that has a day, with these bytes from 106 on
abbrev pub day_fault : Layout → List ℕ → Option ℕ
day_fault l bytes = lowest (jfcb_faults l [] 1 1 first_dd_of_set (with jfcb_of_day 106 bytes))

pub record TellsNoDays : Type 0 where
  pub last_day : day_fault QUEUE_LAYOUT (1 ∷ 0 ∷ 1 ∷ 109 ∷ 61 ∷ []) ≡ None
  pub past_the_last : day_fault QUEUE_LAYOUT (1 ∷ 0 ∷ 1 ∷ 109 ∷ 62 ∷ []) ≡ Some 12
  pub most_days : day_fault QUEUE_LAYOUT (2 ∷ 0 ∷ 0 ∷ 39 ∷ 15 ∷ []) ≡ None
  pub too_many_days : day_fault QUEUE_LAYOUT (2 ∷ 0 ∷ 0 ∷ 39 ∷ 16 ∷ []) ≡ Some 12
  pub no_kind : day_fault QUEUE_LAYOUT (3 ∷ 0 ∷ 0 ∷ 0 ∷ 0 ∷ []) ≡ Some 12
  pub number_without_kind : day_fault QUEUE_LAYOUT (0 ∷ 0 ∷ 0 ∷ 0 ∷ 1 ∷ []) ≡ Some 12
  pub none : day_fault QUEUE_LAYOUT (0 ∷ 0 ∷ 0 ∷ 0 ∷ 0 ∷ []) ≡ None
  pub no_place_in_images : day_fault LAYOUT_1 (1 ∷ 0 ∷ 0 ∷ 107 ∷ 100 ∷ []) ≡ Some 12

pub record TellsDamages : Type 0 where
  pub dummies : told jct_of_dummies sct_of_dummies first_dd_of_dummies last_of_dummies ≡ None
  pub a_set : told jct_of_set sct_of_set first_dd_of_set last_of_set ≡ None
  pub outside : damaged_job 12 (16 ∷ 1 ∷ []) ≡ Some 1
  pub of_another_kind : damaged_job 12 (0 ∷ 3 ∷ []) ≡ Some 2
  pub of_another_job : damaged_last 2 (0 ∷ 2 ∷ []) ≡ Some 3
  pub met_twice : damaged_last 8 (0 ∷ 3 ∷ []) ≡ Some 4
  pub of_another_count : damaged_step 12 (0 ∷ 3 ∷ []) ≡ Some 5
  pub no_name : damaged_job 16 (49 ∷ []) ≡ Some 6
  pub no_kind : damaged_dd 12 (5 ∷ []) ≡ Some 7
  pub no_operator : damaged_step 15 (1 ∷ []) ≡ Some 8
  pub of_no_earlier_step : told jct_of_dummies (with (with sct_of_dummies 15 (1 ∷ [])) 40 (1 ∷ 0 ∷ 0 ∷ 0 ∷ 1 ∷ [])) first_dd_of_dummies last_of_dummies ≡ Some 9
  pub of_another_layout : damaged_job 8 (2 ∷ []) ≡ Some 11
  pub not_zero : damaged_last 1 (1 ∷ []) ≡ Some 12
  pub status_is_open : damaged_last 168 (1 ∷ 2 ∷ 3 ∷ []) ≡ None
  pub links_are_open : damaged_last 4 (1 ∷ 2 ∷ []) ≡ None
