-- What the fields of records say of a step and of a DD. (This profile)
use Rattle.std.specs.Prelude.{ℕ, ◌*◌, ◌==◌, ◌||◌, Bool, false, bit_and, List, [], ◌∷◌, drop, take, Option, None, Some, if◌then◌else◌}
use Rattle.jname_core.specs.Grammar.{IsName8}
use Rattle.jcl_plan.specs.Texts.{trimmed}
use Rattle.jcl_plan.specs.declared.plan.Expiry.{Expiry}
use Rattle.jcl_plan.specs.declared.plan.VolumePlan.{VolumePlan}
use Rattle.jcl_plan.specs.declared.plan.VolumePlan.TheVariants as volume
use Rattle.jcl_meaning.specs.Plans.{is_pass, normal_meaning}
use Rattle.job_text.specs.declared.texts.DispText.{DispText}
use Rattle.job_text.specs.declared.texts.DispText.TheVariants as disp
use Rattle.job_text.specs.declared.texts.PutText.{PutText}
use Rattle.job_text.specs.declared.texts.PutText.TheVariants as put
use Rattle.job_text.specs.declared.texts.SourceText.{SourceText}
use Rattle.job_text.specs.declared.texts.SourceText.TheVariants as source
use Rattle.job_text.specs.declared.texts.StepText.{StepText}
use Rattle.job_text.specs.declared.texts.TakeSet.{TakeSet}
use Rattle.job_text.specs.declared.texts.TakeText.{TakeText}
use Rattle.job_text.specs.declared.texts.TakeText.TheVariants as taking
use Rattle.cb_meaning.specs.Readings.{after_abend_read, conditional_read, expiry_read, name_read, normal_read, status_read}
use Rattle.cb_meaning.specs.Writable.{IsName}
use Rattle.job_records.specs.Fields.{CardsFields, JfcbFields, SctFields, SiotFields}

-- A step, whose names are names.
abbrev pub step_said : SctFields → StepText
step_said f = record {
  name = name_read f.name;
  procedure_step = name_read f.procedure_step;
  program = trimmed f.program;
  after_abend = after_abend_read f.after_abend;
}

pub record AreStepNames (f : SctFields) : Type 0 where
  pub name : IsName (name_read f.name)
  pub procedure_step : IsName (name_read f.procedure_step)
  pub program : IsName8 (trimmed f.program)

-- a DD: whether SPACE is coded, and whether with RLSE
abbrev pub space_said : SiotFields → Bool
space_said f = bit_and f.marks 4 == 4

abbrev pub release_said : SiotFields → Bool
release_said f = if space_said f then bit_and f.marks 2 == 2 else false

abbrev pub primary_said : SiotFields → Option ℕ
primary_said f = if space_said f then Some f.primary else None

abbrev pub secondary_said : SiotFields → ℕ
secondary_said f = if space_said f then f.secondary else 0

abbrev pub volume_said : SiotFields → JfcbFields → VolumePlan
volume_said f g =
    if f.volume == 1 then volume.Serial (trimmed g.serial)
    else (if f.volume == 2 then volume.OfName (trimmed g.volume_name)
    else (if f.volume == 3 then volume.OfDd f.volume_step f.volume_dd
    else volume.NotCoded))

abbrev pub expiry_said : JfcbFields → Expiry
expiry_said g = expiry_read g.expiry_kind g.expiry_days

-- what its taking reads: a set has a JFCB
abbrev pub take_set_said : SiotFields → JfcbFields → TakeSet
take_set_said f g = record { status = status_read f.status; volume = volume_said f g; primary = primary_said f; expiry = expiry_said g }

abbrev pub take_other_said : SiotFields → TakeText
take_other_said f = if f.kind == 3 then taking.Sysout f.class else (if f.kind == 4 then taking.Cards f.cards else taking.Dummy)

abbrev pub take_said : SiotFields → JfcbFields → TakeText
take_said f g = if f.kind == 1 then taking.Set (take_set_said f g) else take_other_said f

abbrev pub put_said : SiotFields → PutText
put_said f =
    if f.kind == 1 then put.Set (record { status = status_read f.status; secondary = secondary_said f })
    else (if f.kind == 3 then put.Sysout
    else (if f.kind == 4 then put.Cards
    else put.Dummy))

abbrev pub disp_said : SiotFields → DispText
disp_said f =
    if f.kind == 1 then disp.Set (record { normal = normal_read f.normal; conditional = conditional_read f.conditional; release = release_said f })
    else (if f.kind == 3 then disp.Sysout f.class
    else disp.Nothing)

abbrev pub source_said : SiotFields → SourceText
source_said f = if f.kind == 1 then source.Set else (if f.kind == 3 then source.Nothing else (if f.kind == 4 then source.Cards f.cards else source.Nothing))

abbrev pub temporary_said : JfcbFields → Bool
temporary_said g = g.key_kind == 4 || g.key_kind == 5

abbrev pub set_passes : SiotFields → JfcbFields → Bool
set_passes f g = is_pass (normal_meaning (temporary_said g) (normal_read f.normal))

abbrev pub passes_said : SiotFields → JfcbFields → Bool
passes_said f g = if f.kind == 1 then set_passes f g else false

-- the cards of one record
abbrev pub cards_said : CardsFields → List (List ℕ)
cards_said f = if f.count == 2 then f.first ∷ f.second ∷ [] else f.first ∷ []

-- the bytes of a test of a step, by its number from 0
abbrev pub test_bytes : SctFields → ℕ → List ℕ
test_bytes f i = take 5 (drop (5 * i) f.tests)
