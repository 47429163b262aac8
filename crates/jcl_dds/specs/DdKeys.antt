-- The keywords of a DD, read one after another from the last back: each value stands beside the fault that is told of it.
use Rattle.std.specs.Prelude.{◌≡◌, ℕ, ◌||◌, List, ◌∷◌, codes, Option, None, if◌then◌else◌}
use Rattle.std.specs.List.{flat_map}
use Rattle.std.specs.Str.{bytes_eq}
use Rattle.jcl_plan.specs.declared.fault.Cause.{Cause}
use Rattle.operand_core.specs.Faults.{told}
use Rattle.operand_core.specs.Operands.{Keyword}
use Rattle.list_values.specs.ControlBlocks.{control_blocks}
use Rattle.value_core.specs.Dispositions.{disposition}
use Rattle.value_core.specs.Reads.{Read}
use Rattle.value_core.specs.SetNames.{set_name}
use Rattle.value_core.specs.Spaces.{space}
use Rattle.value_core.specs.Units.{unit}
use Rattle.value_core.specs.VolumeNames.{volume_name}
use Rattle.jcl_cards.specs.declared.coded.Coded.{Coded}
use Rattle.jcl_cards.specs.declared.coded.Coded.TheVariants.{NotGiven}
use Rattle.jcl_cards.specs.Keywords.{and_later, coded_in}
use Rattle.jcl_dds.specs.declared.dd.DdCard.{DdCard}
use Rattle.jcl_dds.specs.declared.dd_faults.DdFaults.{DdFaults}
use Rattle.jcl_dds.specs.declared.dd_key.DdKey.{DdKey}
use Rattle.jcl_dds.specs.declared.dd_key.DdKey.TheVariants.{SetName, Disposition, Unit, Volume, Space, Sysout, DdName, Label, ControlBlocks, CharacterSet, FormsControl, OutputLimit, Other}
use Rattle.jcl_dds.specs.DdCards.{dd_name, is_key, sysout, unknown_on_dd}
use Rattle.value_core.specs.Labels.{label}
use Rattle.jcl_dds.specs.Dds.{coding}

-- the keyword that a key is
abbrev pub dd_key : List ℕ → DdKey
dd_key key =
    if bytes_eq key (codes "DSN") || bytes_eq key (codes "DSNAME") then SetName
    else if bytes_eq key (codes "DISP") then Disposition
    else if bytes_eq key (codes "UNIT") then Unit
    else if bytes_eq key (codes "VOL") || bytes_eq key (codes "VOLUME") then Volume
    else if bytes_eq key (codes "SPACE") then Space
    else if bytes_eq key (codes "SYSOUT") then Sysout
    else if bytes_eq key (codes "DDNAME") then DdName
    else if bytes_eq key (codes "LABEL") then Label
    else if bytes_eq key (codes "DCB") then ControlBlocks
    else if bytes_eq key (codes "UCS") then CharacterSet
    else if bytes_eq key (codes "FCB") then FormsControl
    else if bytes_eq key (codes "OUTLIM") then OutputLimit
    else Other

-- a value and the fault that is told beside it, as they are read: the value counts where no fault is told
pub record IsBeside {A : Type 0} (coded : Coded A) (fault : Option Cause) (r : Read (Coded A)) : Type 0 where
  pub is_told : fault ≡ told r.faults
  pub counts : fault ≡ None → coded ≡ r.value

-- one more is read before those behind it
abbrev pub IsPut : {A : Type 0} → Read (Coded A) → Coded A → Option Cause → Coded A → Option Cause → Type 0
IsPut {A} here coded fault new_coded new_fault = (behind : Read (Coded A)) → IsBeside coded fault behind → IsBeside new_coded new_fault (and_later here behind)

-- a card holds what these keywords code, beside their faults
pub record AreRead (card : DdCard) (faults : DdFaults) (keywords : List Keyword) : Type 0 where
  pub set_name : IsBeside card.set_name faults.set_name (coded_in (is_key (codes "DSNAME")) set_name keywords)
  pub disposition : IsBeside card.disposition faults.disposition (coded_in (is_key (codes "DISP")) disposition keywords)
  pub unit : IsBeside card.unit faults.unit (coded_in (is_key (codes "UNIT")) unit keywords)
  pub volume : IsBeside card.volume faults.volume (coded_in (is_key (codes "VOLUME")) volume_name keywords)
  pub space : IsBeside card.space faults.space (coded_in (is_key (codes "SPACE")) space keywords)
  pub sysout : IsBeside card.sysout faults.sysout (coded_in (is_key (codes "SYSOUT")) sysout keywords)
  pub dd_name : IsBeside card.dd_name faults.dd_name (coded_in (is_key (codes "DDNAME")) dd_name keywords)
  pub label : IsBeside card.label faults.label (coded_in (is_key (codes "LABEL")) label keywords)
  pub control_blocks : IsBeside card.control_blocks faults.control_blocks (coded_in (is_key (codes "DCB")) control_blocks keywords)
  pub character_set : card.character_set ≡ coding (codes "UCS") keywords
  pub forms_control : card.forms_control ≡ coding (codes "FCB") keywords
  pub output_limit : card.output_limit ≡ coding (codes "OUTLIM") keywords
  pub unknown : faults.unknown ≡ told (flat_map unknown_on_dd keywords)

-- one more is read before those behind it
abbrev pub IsReadFirst : Keyword → DdCard → DdFaults → DdCard → DdFaults → Type 0
IsReadFirst keyword card faults new_card new_faults =
    (behind : List Keyword) → AreRead card faults behind → AreRead new_card new_faults (keyword ∷ behind)

-- a card that holds no keyword's value
pub record CodesNothing (card : DdCard) : Type 0 where
  pub set_name : card.set_name ≡ NotGiven
  pub disposition : card.disposition ≡ NotGiven
  pub unit : card.unit ≡ NotGiven
  pub volume : card.volume ≡ NotGiven
  pub space : card.space ≡ NotGiven
  pub sysout : card.sysout ≡ NotGiven
  pub dd_name : card.dd_name ≡ NotGiven
  pub label : card.label ≡ NotGiven
  pub control_blocks : card.control_blocks ≡ NotGiven
  pub character_set : card.character_set ≡ NotGiven
  pub forms_control : card.forms_control ≡ NotGiven
  pub output_limit : card.output_limit ≡ NotGiven
