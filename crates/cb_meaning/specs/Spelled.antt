-- What the records of a job spell. Links, status bytes and what stands in free records are open. (This profile)
use Rattle.std.specs.Prelude.{◌≡◌, ℕ, ◌+◌, ◌≤◌, Bool, true, false, not, ◌&&◌, ◌==◌, List, [], ◌∷◌, ◌++◌, length, Option, Some, None, is_none, is_some, if◌then◌else◌}
use Rattle.std.specs.List.{flat_map, list_any}
use Rattle.jname_core.specs.declared.key.Key.{Key}
use Rattle.jname_core.specs.declared.key.Key.TheVariants.{Named, Relative, Temporary, Unnamed}
use Rattle.jname_core.specs.declared.key.Sign.{Sign}
use Rattle.jname_core.specs.declared.key.Sign.TheVariants.{Plus, Minus}
use Rattle.jname_core.specs.Generations.{has_generation_form}
use Rattle.jcl_plan.specs.declared.plan.DdKind.{DdKind}
use Rattle.jcl_plan.specs.declared.plan.DdKind.TheVariants.{Cards, Dummy, Set, Sysout}
use Rattle.jcl_plan.specs.declared.plan.DdPlan.{DdPlan}
use Rattle.jcl_plan.specs.declared.plan.JobPlan.{JobPlan}
use Rattle.jcl_plan.specs.declared.plan.SetPlan.{SetPlan}
use Rattle.jcl_plan.specs.declared.plan.Space.{Space}
use Rattle.jcl_plan.specs.declared.plan.StepPlan.{StepPlan}
use Rattle.jcl_plan.specs.declared.plan.VolumePlan.{VolumePlan}
use Rattle.jcl_plan.specs.declared.plan.VolumePlan.TheVariants as volume
use Rattle.cb_meaning.specs.declared.layout.Field.{Field}
use Rattle.cb_meaning.specs.declared.layout.Layout.{Layout}
use Rattle.cb_meaning.specs.declared.layout.TheConstants.{RECORD_BYTES}
use Rattle.cb_meaning.specs.Codes.{after_abend_code, conditional_code, expiry_code, expiry_number, job_test_bytes, mark, normal_code, or_zero, status_code, step_test_bytes}
use Rattle.cb_meaning.specs.Writable.{IsWritable}
use Rattle.cb_meaning.specs.Fields.{byte_at, field, filled, filled_or_blank, is_zero_but, number_at, part, then_zeros, two_bytes}
use Rattle.plain.specs.Lists.{are_different}

-- the records by number, and which of them are free
pub record Records : Type 0 where
  pub at : ℕ → List ℕ
  pub free : List ℕ

-- kinds of records
abbrev pub jct : ℕ
jct = 1

abbrev pub sct : ℕ
sct = 2

abbrev pub siot : ℕ
siot = 3

abbrev pub jfcb : ℕ
jfcb = 4

abbrev pub card_record : ℕ
card_record = 5

-- a record of a kind that a job owns; a free record is of no kind and has no owner, whatever stands in it
pub record IsOwned (l : Layout) (q : Records) (job kind n : ℕ) : Type 0 where
  pub from_one : 1 ≤ n
  pub within : n ≤ l.most_records
  pub in_use : list_any (λ f. f == n) q.free ≡ false
  pub size : length (q.at n) ≡ RECORD_BYTES
  pub of_kind : byte_at (q.at n) 0 ≡ kind
  pub of_job : number_at (q.at n) (field 2 2) ≡ job

-- the fields of every record
abbrev pub common : Layout → List Field
common l = field 0 1 ∷ field 2 2 ∷ l.link ∷ []

abbrev pub status_bytes : Field
status_bytes = field 168 8

-- JCT
abbrev pub jct_fields : Layout → List Field
jct_fields l = common l ++ field 8 4 ∷ l.first_step ∷ l.steps ∷ field 16 9 ∷ field 26 24 ∷ status_bytes ∷ []

pub record SpellsJct (l : Layout) (plan : JobPlan) (r : List ℕ) : Type 0 where
  pub layout : byte_at r 8 ≡ l.number
  pub class : byte_at r 9 ≡ plan.class
  pub priority : byte_at r 10 ≡ plan.priority
  pub message_class : byte_at r 11 ≡ plan.message_class
  pub steps : number_at r l.steps ≡ length plan.steps
  pub name : part r 16 8 ≡ filled 8 plan.name
  pub count : byte_at r 24 ≡ length plan.tests.items
  pub tests : part r 26 24 ≡ then_zeros 24 (flat_map job_test_bytes plan.tests.items)
  pub unused : is_zero_but (jct_fields l) r ≡ true

-- SCT
abbrev pub sct_fields : Layout → List Field
sct_fields l = common l ++ l.next_step ∷ l.first_dd ∷ l.dds ∷ field 14 2 ∷ field 16 24 ∷ field 40 40 ∷ status_bytes ∷ []

pub record SpellsSct (l : Layout) (step : StepPlan) (r : List ℕ) : Type 0 where
  pub dds : number_at r l.dds ≡ length step.dds
  pub after_abend : byte_at r 14 ≡ after_abend_code step.after_abend
  pub count : byte_at r 15 ≡ length step.tests.items
  pub name : part r 16 8 ≡ filled_or_blank 8 step.name
  pub procedure_step : part r 24 8 ≡ filled_or_blank 8 step.procedure_step
  pub program : part r 32 8 ≡ filled 8 step.program
  pub tests : part r 40 40 ≡ then_zeros 40 (flat_map step_test_bytes step.tests.items)
  pub unused : is_zero_but (sct_fields l) r ≡ true

-- SIOT: what its kind does not use is zero
abbrev pub kind_code : DdKind → ℕ
kind_code (Set p) = 1
kind_code Dummy = 2
kind_code (Sysout class) = 3
kind_code (Cards cards) = 4

abbrev pub set_of : DdKind → Option SetPlan
set_of (Set p) = Some p
set_of Dummy = None
set_of (Sysout class) = None
set_of (Cards cards) = None

abbrev pub of_set : Option SetPlan → (SetPlan → ℕ) → ℕ
of_set None f = 0
of_set (Some p) f = f p

abbrev pub of_space : Option Space → (Space → ℕ) → ℕ
of_space None f = 0
of_space (Some s) f = f s

abbrev pub class_of : DdKind → ℕ
class_of (Sysout class) = class
class_of (Set p) = 0
class_of Dummy = 0
class_of (Cards cards) = 0

abbrev pub cards_of : DdKind → List (List ℕ)
cards_of (Cards cards) = cards
cards_of (Set p) = []
cards_of Dummy = []
cards_of (Sysout class) = []

abbrev pub volume_code : VolumePlan → ℕ
volume_code volume.NotCoded = 0
volume_code (volume.Serial serial) = 1
volume_code (volume.OfName name) = 2
volume_code (volume.OfDd step dd) = 3

abbrev pub volume_dd_bytes : VolumePlan → List ℕ
volume_dd_bytes volume.NotCoded = two_bytes 0 ++ two_bytes 0
volume_dd_bytes (volume.Serial serial) = two_bytes 0 ++ two_bytes 0
volume_dd_bytes (volume.OfName name) = two_bytes 0 ++ two_bytes 0
volume_dd_bytes (volume.OfDd step dd) = two_bytes step ++ two_bytes dd

abbrev pub volume_dd_of : Option SetPlan → List ℕ
volume_dd_of None = two_bytes 0 ++ two_bytes 0
volume_dd_of (Some p) = volume_dd_bytes p.volume

abbrev pub marks_of : DdPlan → ℕ
marks_of dd = mark (is_none dd.name) 1 + of_set (set_of dd.kind) (λ p. mark (is_some p.space) 4 + of_space p.space (λ s. mark s.release 2))

pub record SpellsSiot (l : Layout) (dd : DdPlan) (r : List ℕ) : Type 0 where
  pub kind : byte_at r 12 ≡ kind_code dd.kind
  pub status : byte_at r 13 ≡ of_set (set_of dd.kind) (λ p. status_code p.status)
  pub normal : byte_at r 14 ≡ of_set (set_of dd.kind) (λ p. normal_code p.normal)
  pub conditional : byte_at r 15 ≡ of_set (set_of dd.kind) (λ p. conditional_code p.conditional)
  pub name : part r 16 8 ≡ filled_or_blank 8 dd.name
  pub marks : byte_at r 24 ≡ marks_of dd
  pub class : byte_at r 25 ≡ class_of dd.kind
  pub cards : number_at r l.cards ≡ length (cards_of dd.kind)
  pub volume : byte_at r 28 ≡ of_set (set_of dd.kind) (λ p. volume_code p.volume)
  pub volume_dd : part r 30 4 ≡ volume_dd_of (set_of dd.kind)
  pub primary : number_at r (field 34 2) ≡ of_set (set_of dd.kind) (λ p. of_space p.space (λ s. s.primary))
  pub secondary : number_at r (field 36 2) ≡ of_set (set_of dd.kind) (λ p. of_space p.space (λ s. s.secondary))
  pub units : number_at r (field 38 2) ≡ of_set (set_of dd.kind) (λ p. or_zero p.units)
  pub unused : is_zero_but (common l ++ l.next_dd ∷ l.below ∷ field 12 4 ∷ field 16 10 ∷ l.cards ∷ field 28 1 ∷ field 30 10 ∷ status_bytes ∷ []) r ≡ true

-- JFCB
abbrev pub sign_code : Sign → ℕ
sign_code Plus = 0
sign_code Minus = 1

abbrev pub key_code : Key → ℕ
key_code (Named name) = if has_generation_form name then 2 else 1
key_code (Relative base sign amount) = 3
key_code (Temporary name) = 4
key_code (Unnamed step dd) = 5

-- the sign and the amount of a relative number
abbrev pub relative_bytes : Key → List ℕ
relative_bytes (Relative base sign amount) = sign_code sign ∷ two_bytes amount
relative_bytes (Named name) = 0 ∷ 0 ∷ 0 ∷ []
relative_bytes (Temporary name) = 0 ∷ 0 ∷ 0 ∷ []
relative_bytes (Unnamed step dd) = 0 ∷ 0 ∷ 0 ∷ []

abbrev pub name_bytes : Key → List ℕ
name_bytes (Named name) = filled 44 name
name_bytes (Relative base sign amount) = filled 44 base
name_bytes (Temporary name) = filled 44 name
name_bytes (Unnamed step dd) = filled 44 (two_bytes step ++ two_bytes dd)

abbrev pub serial_coded : VolumePlan → Option (List ℕ)
serial_coded volume.NotCoded = None
serial_coded (volume.Serial serial) = Some serial
serial_coded (volume.OfName name) = None
serial_coded (volume.OfDd step dd) = None

abbrev pub name_referred : VolumePlan → Option (List ℕ)
name_referred volume.NotCoded = None
name_referred (volume.Serial serial) = None
name_referred (volume.OfName name) = Some name
name_referred (volume.OfDd step dd) = None

abbrev pub jfcb_fields : Layout → List Field
jfcb_fields l = common l ++ field 8 98 ∷ l.expiry_kind ∷ l.expiry_days ∷ []

pub record SpellsJfcb (l : Layout) (p : SetPlan) (r : List ℕ) : Type 0 where
  pub kind : byte_at r 8 ≡ key_code p.key
  pub relative : part r 9 3 ≡ relative_bytes p.key
  pub name : part r 12 44 ≡ name_bytes p.key
  pub serial : part r 56 6 ≡ filled_or_blank 6 (serial_coded p.volume)
  pub reference : part r 62 44 ≡ filled_or_blank 44 (name_referred p.volume)
  pub expiry_kind : number_at r l.expiry_kind ≡ expiry_code p.expiry
  pub expiry_days : number_at r l.expiry_days ≡ expiry_number p.expiry
  pub unused : is_zero_but (jfcb_fields l) r ≡ true

-- records of cards: one or two each
abbrev pub card_fields : Layout → List Field
card_fields l = common l ++ l.next_cards ∷ field 10 1 ∷ field 16 160 ∷ []

pub record SpellsCards (l : Layout) (here : List (List ℕ)) (r : List ℕ) : Type 0 where
  pub count : byte_at r 10 ≡ length here
  pub some : 1 ≤ length here
  pub most : length here ≤ 2
  pub cards : part r 16 160 ≡ then_zeros 160 (flat_map (λ card. card) here)
  pub unused : is_zero_but (card_fields l) r ≡ true

-- A chain of records, from a first number on, spells these; its own numbers are the list's.
abbrev pub CardChain : Layout → Records → ℕ → ℕ → List ℕ → List (List ℕ) → Type 0
CardChain l q job first [] cards = (first ≡ 0) × (cards ≡ [])
CardChain l q job first (n ∷ numbers) cards =
    (here : List (List ℕ)) × (behind : List (List ℕ)) × (first ≡ n) × (cards ≡ here ++ behind) × IsOwned l q job card_record n × SpellsCards l here (q.at n)
    × CardChain l q job (number_at (q.at n) l.next_cards) numbers behind

-- what stands below an SIOT
abbrev pub Below : Layout → Records → ℕ → ℕ → List ℕ → DdKind → Type 0
Below l q job first numbers Dummy = (first ≡ 0) × (numbers ≡ [])
Below l q job first numbers (Sysout class) = (first ≡ 0) × (numbers ≡ [])
Below l q job first numbers (Cards cards) = CardChain l q job first numbers cards
Below l q job first numbers (Set p) = (numbers ≡ first ∷ []) × IsOwned l q job jfcb first × SpellsJfcb l p (q.at first)

abbrev pub DdChain : Layout → Records → ℕ → ℕ → List ℕ → List DdPlan → Type 0
DdChain l q job first numbers [] = (first ≡ 0) × (numbers ≡ [])
DdChain l q job first numbers (dd ∷ dds) =
    (below : List ℕ) × (behind : List ℕ) × (numbers ≡ first ∷ (below ++ behind)) × IsOwned l q job siot first × SpellsSiot l dd (q.at first)
    × Below l q job (number_at (q.at first) l.below) below dd.kind × DdChain l q job (number_at (q.at first) l.next_dd) behind dds

abbrev pub StepChain : Layout → Records → ℕ → ℕ → List ℕ → List StepPlan → Type 0
StepChain l q job first numbers [] = (first ≡ 0) × (numbers ≡ [])
StepChain l q job first numbers (step ∷ steps) =
    (below : List ℕ) × (behind : List ℕ) × (numbers ≡ first ∷ (below ++ behind)) × IsOwned l q job sct first × SpellsSct l step (q.at first)
    × DdChain l q job (number_at (q.at first) l.first_dd) below step.dds × StepChain l q job (number_at (q.at first) l.next_step) behind steps

-- The records with these numbers, in the order of writing, spell the job.
pub record Spell (l : Layout) (q : Records) (job : ℕ) (numbers : List ℕ) (plan : JobPlan) : Type 0 where
  pub first : ℕ
  pub behind : List ℕ
  pub begins : numbers ≡ first ∷ behind
  pub once : are_different numbers ≡ true  -- no record is used twice
  pub owned : IsOwned l q job jct first
  pub head : SpellsJct l plan (q.at first)
  pub steps : StepChain l q job (number_at (q.at first) l.first_step) behind plan.steps

-- The records of a queue with so many lists of volumes denote the job: its fields are in their ranges, and these records spell it.
pub record Denotes (l : Layout) (units : ℕ) (q : Records) (job : ℕ) (numbers : List ℕ) (plan : JobPlan) : Type 0 where
  pub in_range : IsWritable l.most_steps units plan
  pub spelled : Spell l q job numbers plan
