-- A record of each kind as it is put into a store: what it spells, its owner, its links, and nothing in the store's own link.
use Rattle.std.specs.Prelude.{◌≡◌, ℕ, List, [], ◌∷◌, length}
use Rattle.jname_core.specs.declared.key.Key.{Key}
use Rattle.jcl_plan.specs.declared.plan.DdKind.{DdKind}
use Rattle.jcl_plan.specs.declared.plan.DdPlan.{DdPlan}
use Rattle.jcl_plan.specs.declared.plan.JobPlan.{JobPlan}
use Rattle.jcl_plan.specs.declared.plan.SetPlan.{SetPlan}
use Rattle.jcl_plan.specs.declared.plan.StepPlan.{StepPlan}
use Rattle.cb_meaning.specs.declared.layout.Layout.{Layout}
use Rattle.cb_meaning.specs.declared.layout.TheConstants.{RECORD_BYTES}
use Rattle.cb_meaning.specs.Codes.{conditional_code, normal_code, or_zero, status_code, step_test_bytes}
use Rattle.cb_meaning.specs.Fields.{byte_at, field, filled, filled_or_blank, number_at, then_zeros}
use Rattle.cb_meaning.specs.Spelled.{SpellsCards, SpellsJct, SpellsJfcb, SpellsSct, SpellsSiot, card_record, jct, jfcb, sct, siot}
use Rattle.cb_meaning.specs.Spelled.{kind_code, name_bytes, of_set, of_space, set_of, volume_code, volume_dd_of}
use Rattle.cb_queue.specs.RecordQueues.{unlinked}
use Rattle.std.specs.List.{flat_map}
use Rattle.cb_chain.specs.Entries.{Byte, Entry, Number, Text}
use Rattle.cb_chain.specs.Written.{HasNoStatus}

-- a whole record of a kind and a job, with zeros in its link
pub record IsOf (l : Layout) (job kind : ℕ) (r : List ℕ) : Type 0 where
  pub size : length r ≡ RECORD_BYTES
  pub of_kind : byte_at r 0 ≡ kind
  pub of_job : number_at r (field 2 2) ≡ job
  pub link : unlinked l r ≡ r

-- what it spells, the number of each record that it leads to, and no status
pub record IsJct (l : Layout) (job : ℕ) (plan : JobPlan) (first_step : ℕ) (r : List ℕ) : Type 0 where
  pub head : IsOf l job jct r
  pub spells : SpellsJct l plan r
  pub to_step : number_at r l.first_step ≡ first_step
  pub status : HasNoStatus r

pub record IsSct (l : Layout) (job : ℕ) (step : StepPlan) (first_dd next : ℕ) (r : List ℕ) : Type 0 where
  pub head : IsOf l job sct r
  pub spells : SpellsSct l step r
  pub to_dd : number_at r l.first_dd ≡ first_dd
  pub to_next : number_at r l.next_step ≡ next
  pub status : HasNoStatus r

pub record IsSiot (l : Layout) (job : ℕ) (dd : DdPlan) (below next : ℕ) (r : List ℕ) : Type 0 where
  pub head : IsOf l job siot r
  pub spells : SpellsSiot l dd r
  pub to_below : number_at r l.below ≡ below
  pub to_next : number_at r l.next_dd ≡ next
  pub status : HasNoStatus r

pub record IsJfcb (l : Layout) (job : ℕ) (p : SetPlan) (r : List ℕ) : Type 0 where
  pub head : IsOf l job jfcb r
  pub spells : SpellsJfcb l p r
  pub status : HasNoStatus r

pub record IsCards (l : Layout) (job : ℕ) (cards : List (List ℕ)) (next : ℕ) (r : List ℕ) : Type 0 where
  pub head : IsOf l job card_record r
  pub spells : SpellsCards l cards r
  pub to_next : number_at r l.next_cards ≡ next

-- the kind, and the job that owns the record
abbrev pub head_entries : ℕ → ℕ → List Entry
head_entries kind job = Byte 0 kind ∷ Number (field 2 2) job ∷ []

-- the number of the layout, the job's classes and its priority
abbrev pub class_entries : ℕ → JobPlan → List Entry
class_entries number plan = Byte 8 number ∷ Byte 9 plan.class ∷ Byte 10 plan.priority ∷ Byte 11 plan.message_class ∷ []

-- a set's name, or what stands in its place
abbrev pub key_entries : Key → List Entry
key_entries key = Text (field 12 44) (name_bytes key) ∷ []

-- the names and the tests of a step
abbrev pub name_entries : StepPlan → List Entry
name_entries step = Text (field 16 8) (filled_or_blank 8 step.name) ∷ Text (field 24 8) (filled_or_blank 8 step.procedure_step)
    ∷ Text (field 32 8) (filled 8 step.program) ∷ Text (field 40 40) (then_zeros 40 (flat_map step_test_bytes step.tests.items)) ∷ []

-- what a DD is, and its DISP
abbrev pub word_entries : DdKind → List Entry
word_entries kind = Byte 12 (kind_code kind) ∷ Byte 13 (of_set (set_of kind) (λ p. status_code p.status))
    ∷ Byte 14 (of_set (set_of kind) (λ p. normal_code p.normal)) ∷ Byte 15 (of_set (set_of kind) (λ p. conditional_code p.conditional)) ∷ []

-- the volume, the space and the unit of a set
abbrev pub set_entries : DdKind → List Entry
set_entries kind = Byte 28 (of_set (set_of kind) (λ p. volume_code p.volume)) ∷ Text (field 30 4) (volume_dd_of (set_of kind))
    ∷ Number (field 34 2) (of_set (set_of kind) (λ p. of_space p.space (λ s. s.primary)))
    ∷ Number (field 36 2) (of_set (set_of kind) (λ p. of_space p.space (λ s. s.secondary)))
    ∷ Number (field 38 2) (of_set (set_of kind) (λ p. or_zero p.units)) ∷ []
