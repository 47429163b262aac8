-- Worked examples: a job that catalogs a set, and one of two dummies, in an empty queue. Each takes four records. (This profile)
use Rattle.std.specs.Prelude.{◌≡◌, ℕ, ◌-◌, List, slice_index_or, [], ◌∷◌, ◌++◌, codes, replicate, false, Some, None}
use Rattle.jname_core.specs.declared.key.Key.TheVariants.{Named}
use Rattle.jcl_plan.specs.declared.plan.AfterAbend.TheVariants as after
use Rattle.jcl_plan.specs.declared.plan.DdKind.TheVariants as kind
use Rattle.jcl_plan.specs.declared.plan.DdPlan.{DdPlan}
use Rattle.jcl_plan.specs.declared.plan.Expiry.TheVariants as expiry
use Rattle.jcl_plan.specs.declared.plan.JobPlan.{JobPlan}
use Rattle.jcl_plan.specs.declared.plan.SetPlan.{SetPlan}
use Rattle.jcl_plan.specs.declared.plan.Status.TheVariants as status
use Rattle.jcl_plan.specs.declared.plan.VolumePlan.TheVariants as volume
use Rattle.jcl_plan.specs.declared.plan.Word.TheVariants as word
use Rattle.cb_meaning.specs.declared.layout.TheConstants.{LAYOUT_1, QUEUE_LAYOUT}
use Rattle.cb_meaning.specs.Fields.{number_at}
use Rattle.cb_meaning.specs.Needs.{records_needed}
use Rattle.cb_meaning.specs.Readings.{expiry_read, plan_read}
use Rattle.cb_meaning.specs.Spelled.{Records, Spell, SpellsJfcb}

abbrev pub job_with : List ℕ → List DdPlan → JobPlan
job_with name dds = record {
  name = name;
  class = 65;
  priority = 6;
  message_class = 65;
  tests = record { items = [] };
  steps = record {
    name = Some (codes "S1");
    procedure_step = None;
    program = codes "IEFBR14";
    after_abend = after.Unsaid;
    tests = record { items = [] };
    dds = dds;
  } ∷ [];
}

abbrev pub a_set : SetPlan
a_set = record {
  key = Named (codes "PAY.DATA");
  status = status.New;
  normal = Some word.Catlg;
  conditional = None;
  volume = volume.NotCoded;
  units = Some 1;
  space = Some (record { primary = 3; secondary = 0; release = false });
  expiry = expiry.NotCoded;
}

-- //OUT DD DSN=PAY.DATA,DISP=(NEW,CATLG),UNIT=SYSDA,SPACE=(TRK,3), where SYSDA is the first list of volumes
abbrev pub catalogs_a_set : JobPlan
catalogs_a_set = job_with (codes "PAY") (record {
  name = Some (codes "OUT");
  kind = kind.Set a_set;
} ∷ [])

abbrev pub two_dummies : JobPlan
two_dummies = job_with (codes "J") (record { name = Some (codes "A"); kind = kind.Dummy } ∷ record { name = Some (codes "B"); kind = kind.Dummy } ∷ [])

-- the first four records
abbrev pub four : List ℕ → List ℕ → List ℕ → List ℕ → Records
four a b c d = record { at = λ n. slice_index_or (a ∷ b ∷ c ∷ d ∷ []) (n - 1) []; free = 5 ∷ 6 ∷ 7 ∷ [] }

abbrev pub jct_of_set : List ℕ
jct_of_set = (1 ∷ 0 ∷ 0 ∷ 1 ∷ []) ++ (replicate 4 0 ++ ((1 ∷ 65 ∷ 6 ∷ 65 ∷ 0 ∷ 2 ∷ 0 ∷ 1 ∷ 80 ∷ 65 ∷ 89 ∷ []) ++ (replicate 5 32 ++ (replicate 152 0))))

abbrev pub sct_of_set : List ℕ
sct_of_set = (2 ∷ 0 ∷ 0 ∷ 1 ∷ []) ++ (replicate 7 0 ++ ((3 ∷ 0 ∷ 1 ∷ 0 ∷ 0 ∷ 83 ∷ 49 ∷ []) ++ (replicate 14 32 ++ ((73 ∷ 69 ∷ 70 ∷ 66 ∷ 82 ∷ 49 ∷ 52 ∷ 32 ∷ []) ++ (replicate 136 0)))))

abbrev pub first_dd_of_set : List ℕ
first_dd_of_set = (3 ∷ 0 ∷ 0 ∷ 1 ∷ []) ++ (replicate 7 0 ++ ((4 ∷ 1 ∷ 1 ∷ 4 ∷ 0 ∷ 79 ∷ 85 ∷ 84 ∷ []) ++ (replicate 5 32 ++ ((4 ∷ []) ++ (replicate 10 0 ++ ((3 ∷ 0 ∷ 0 ∷ 0 ∷ 1 ∷ []) ++ (replicate 136 0)))))))

abbrev pub last_of_set : List ℕ
last_of_set = (4 ∷ 0 ∷ 0 ∷ 1 ∷ []) ++ (replicate 4 0 ++ ((1 ∷ 0 ∷ 0 ∷ 0 ∷ 80 ∷ 65 ∷ 89 ∷ 46 ∷ 68 ∷ 65 ∷ 84 ∷ 65 ∷ []) ++ (replicate 86 32 ++ (replicate 70 0))))

abbrev pub jct_of_dummies : List ℕ
jct_of_dummies = (1 ∷ 0 ∷ 0 ∷ 1 ∷ []) ++ (replicate 4 0 ++ ((1 ∷ 65 ∷ 6 ∷ 65 ∷ 0 ∷ 2 ∷ 0 ∷ 1 ∷ 74 ∷ []) ++ (replicate 7 32 ++ (replicate 152 0))))

abbrev pub sct_of_dummies : List ℕ
sct_of_dummies = (2 ∷ 0 ∷ 0 ∷ 1 ∷ []) ++ (replicate 7 0 ++ ((3 ∷ 0 ∷ 2 ∷ 0 ∷ 0 ∷ 83 ∷ 49 ∷ []) ++ (replicate 14 32 ++ ((73 ∷ 69 ∷ 70 ∷ 66 ∷ 82 ∷ 49 ∷ 52 ∷ 32 ∷ []) ++ (replicate 136 0)))))

abbrev pub first_dd_of_dummies : List ℕ
first_dd_of_dummies = (3 ∷ 0 ∷ 0 ∷ 1 ∷ []) ++ (replicate 5 0 ++ ((4 ∷ 0 ∷ 0 ∷ 2 ∷ 0 ∷ 0 ∷ 0 ∷ 65 ∷ []) ++ (replicate 7 32 ++ (replicate 152 0))))

abbrev pub last_of_dummies : List ℕ
last_of_dummies = (3 ∷ 0 ∷ 0 ∷ 1 ∷ []) ++ (replicate 8 0 ++ ((2 ∷ 0 ∷ 0 ∷ 0 ∷ 66 ∷ []) ++ (replicate 7 32 ++ (replicate 152 0))))

-- the JFCB of such a set with LABEL=EXPDT=75100, in the layout of a session's queue
abbrev pub jfcb_of_day : List ℕ
jfcb_of_day = (4 ∷ 0 ∷ 0 ∷ 1 ∷ []) ++ (replicate 4 0 ++ ((1 ∷ 0 ∷ 0 ∷ 0 ∷ 80 ∷ 65 ∷ 89 ∷ 46 ∷ 68 ∷ 65 ∷ 84 ∷ 65 ∷ []) ++ (replicate 86 32
    ++ ((1 ∷ 0 ∷ 0 ∷ 107 ∷ 100 ∷ []) ++ replicate 65 0))))

pub record SpellsADay : Type 0 where
  pub spelled : SpellsJfcb QUEUE_LAYOUT (record a_set { expiry = expiry.Day 27492 }) jfcb_of_day
  pub read : expiry_read (number_at jfcb_of_day QUEUE_LAYOUT.expiry_kind) (number_at jfcb_of_day QUEUE_LAYOUT.expiry_days) ≡ expiry.Day 27492

pub record SpellsAJobOfOneSet : Type 0 where
  pub needs : records_needed catalogs_a_set ≡ 4
  pub spelled : Spell LAYOUT_1 (four jct_of_set sct_of_set first_dd_of_set last_of_set) 1 (1 ∷ 2 ∷ 3 ∷ 4 ∷ []) catalogs_a_set

pub record SpellsTwoDummies : Type 0 where
  pub needs : records_needed two_dummies ≡ 4
  pub spelled : Spell LAYOUT_1 (four jct_of_dummies sct_of_dummies first_dd_of_dummies last_of_dummies) 1 (1 ∷ 2 ∷ 3 ∷ 4 ∷ []) two_dummies

-- read back
pub record ReadsBack : Type 0 where
  pub a_set : plan_read LAYOUT_1 (four jct_of_set sct_of_set first_dd_of_set last_of_set) 1 ≡ catalogs_a_set
  pub dummies : plan_read LAYOUT_1 (four jct_of_dummies sct_of_dummies first_dd_of_dummies last_of_dummies) 1 ≡ two_dummies
