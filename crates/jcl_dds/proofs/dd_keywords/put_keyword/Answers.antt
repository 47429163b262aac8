use Rattle.std.proofs.Common.{cond, codes, sym, ap, ◌∙◌}
use Rattle.jcl_plan.specs.declared.fault.Cause.TheVariants.{P}
use Rattle.jcl_plan.specs.declared.fault.StatementFault.TheVariants.{LeftOut, UnknownKeyword}
use Rattle.list_values.specs.ControlBlocks.{control_blocks}
use Rattle.value_core.specs.Dispositions.{disposition}
use Rattle.value_core.specs.SetNames.{set_name}
use Rattle.value_core.specs.Spaces.{space}
use Rattle.value_core.specs.Units.{unit}
use Rattle.value_core.specs.VolumeNames.{volume_name}
use Rattle.jcl_cards.specs.Keywords.{coded_in}
use Rattle.jcl_dds.specs.DdCards.{any_text, dd_name, is_key, left_out_on_dd, sysout}
use Rattle.value_core.specs.Labels.{label}
use Rattle.jcl_dds.specs.DdKeys.{dd_key}
use Rattle.jcl_dds.proofs.DdKeywords.{on_ok}
use Rattle.jcl_dds.proofs.DdKeys.{at_key, at_other, coding_at, put_at, spells_as}
use Rattle.jcl_dds.proofs.dd_keywords.put_keyword.Goals as goal

pub returns-in-SetName : goal.returns-in-SetName
returns-in-SetName c = λ behind is.
    at_key (spells_as c.args.keyword.now.key (sym (c.dd_key.ensures ∙ ap dd_key c.key.ensures) ∙ c.in-SetName.is)) (record {
      set_name = put_at set_name c.put_value.ensures c.value-text.ensures (coded_in (is_key (codes "DSNAME")) set_name behind) is.set_name;
      disposition = is.disposition;
      unit = is.unit;
      volume = is.volume;
      space = is.space;
      sysout = is.sysout;
      dd_name = is.dd_name;
      label = is.label;
      control_blocks = is.control_blocks;
      character_set = is.character_set;
      forms_control = is.forms_control;
      output_limit = is.output_limit;
      unknown = is.unknown;
    })

pub returns-in-Disposition : goal.returns-in-Disposition
returns-in-Disposition c = λ behind is.
    at_key (spells_as c.args.keyword.now.key (sym (c.dd_key.ensures ∙ ap dd_key c.key.ensures) ∙ c.in-Disposition.is)) (record {
      set_name = is.set_name;
      disposition = put_at disposition c.put_value-in-Disposition.ensures c.value-text.ensures (coded_in (is_key (codes "DISP")) disposition behind) is.disposition;
      unit = is.unit;
      volume = is.volume;
      space = is.space;
      sysout = is.sysout;
      dd_name = is.dd_name;
      label = is.label;
      control_blocks = is.control_blocks;
      character_set = is.character_set;
      forms_control = is.forms_control;
      output_limit = is.output_limit;
      unknown = is.unknown;
    })

pub returns-in-Unit : goal.returns-in-Unit
returns-in-Unit c = λ behind is.
    at_key (spells_as c.args.keyword.now.key (sym (c.dd_key.ensures ∙ ap dd_key c.key.ensures) ∙ c.in-Unit.is)) (record {
      set_name = is.set_name;
      disposition = is.disposition;
      unit = put_at unit c.put_value-in-Unit.ensures c.value-text.ensures (coded_in (is_key (codes "UNIT")) unit behind) is.unit;
      volume = is.volume;
      space = is.space;
      sysout = is.sysout;
      dd_name = is.dd_name;
      label = is.label;
      control_blocks = is.control_blocks;
      character_set = is.character_set;
      forms_control = is.forms_control;
      output_limit = is.output_limit;
      unknown = is.unknown;
    })

pub returns-in-Volume : goal.returns-in-Volume
returns-in-Volume c = λ behind is.
    at_key (spells_as c.args.keyword.now.key (sym (c.dd_key.ensures ∙ ap dd_key c.key.ensures) ∙ c.in-Volume.is)) (record {
      set_name = is.set_name;
      disposition = is.disposition;
      unit = is.unit;
      volume = put_at volume_name c.put_value-in-Volume.ensures c.value-text.ensures (coded_in (is_key (codes "VOLUME")) volume_name behind) is.volume;
      space = is.space;
      sysout = is.sysout;
      dd_name = is.dd_name;
      label = is.label;
      control_blocks = is.control_blocks;
      character_set = is.character_set;
      forms_control = is.forms_control;
      output_limit = is.output_limit;
      unknown = is.unknown;
    })

pub returns-in-Space : goal.returns-in-Space
returns-in-Space c = λ behind is.
    at_key (spells_as c.args.keyword.now.key (sym (c.dd_key.ensures ∙ ap dd_key c.key.ensures) ∙ c.in-Space.is)) (record {
      set_name = is.set_name;
      disposition = is.disposition;
      unit = is.unit;
      volume = is.volume;
      space = put_at space c.put_value-in-Space.ensures c.value-text.ensures (coded_in (is_key (codes "SPACE")) space behind) is.space;
      sysout = is.sysout;
      dd_name = is.dd_name;
      label = is.label;
      control_blocks = is.control_blocks;
      character_set = is.character_set;
      forms_control = is.forms_control;
      output_limit = is.output_limit;
      unknown = is.unknown;
    })

pub returns-in-Sysout : goal.returns-in-Sysout
returns-in-Sysout c = λ behind is.
    at_key (spells_as c.args.keyword.now.key (sym (c.dd_key.ensures ∙ ap dd_key c.key.ensures) ∙ c.in-Sysout.is)) (record {
      set_name = is.set_name;
      disposition = is.disposition;
      unit = is.unit;
      volume = is.volume;
      space = is.space;
      sysout = put_at sysout c.put_value-in-Sysout.ensures c.value-text.ensures (coded_in (is_key (codes "SYSOUT")) sysout behind) is.sysout;
      dd_name = is.dd_name;
      label = is.label;
      control_blocks = is.control_blocks;
      character_set = is.character_set;
      forms_control = is.forms_control;
      output_limit = is.output_limit;
      unknown = is.unknown;
    })

pub returns-in-DdName : goal.returns-in-DdName
returns-in-DdName c = λ behind is.
    at_key (spells_as c.args.keyword.now.key (sym (c.dd_key.ensures ∙ ap dd_key c.key.ensures) ∙ c.in-DdName.is)) (record {
      set_name = is.set_name;
      disposition = is.disposition;
      unit = is.unit;
      volume = is.volume;
      space = is.space;
      sysout = is.sysout;
      dd_name = put_at dd_name c.put_value-in-DdName.ensures c.value-text.ensures (coded_in (is_key (codes "DDNAME")) dd_name behind) is.dd_name;
      label = is.label;
      control_blocks = is.control_blocks;
      character_set = is.character_set;
      forms_control = is.forms_control;
      output_limit = is.output_limit;
      unknown = is.unknown;
    })

pub returns-in-Label : goal.returns-in-Label
returns-in-Label c = λ behind is.
    at_key (spells_as c.args.keyword.now.key (sym (c.dd_key.ensures ∙ ap dd_key c.key.ensures) ∙ c.in-Label.is)) (record {
      set_name = is.set_name;
      disposition = is.disposition;
      unit = is.unit;
      volume = is.volume;
      space = is.space;
      sysout = is.sysout;
      dd_name = is.dd_name;
      label = put_at label c.put_value-in-Label.ensures c.value-text.ensures (coded_in (is_key (codes "LABEL")) label behind) is.label;
      control_blocks = is.control_blocks;
      character_set = is.character_set;
      forms_control = is.forms_control;
      output_limit = is.output_limit;
      unknown = is.unknown;
    })

pub returns-in-ControlBlocks : goal.returns-in-ControlBlocks
returns-in-ControlBlocks c = on_ok c.put_blocks.result (λ put. λ behind is.
    at_key (spells_as c.args.keyword.now.key (sym (c.dd_key.ensures ∙ ap dd_key c.key.ensures) ∙ c.in-ControlBlocks.is)) (record {
      set_name = is.set_name;
      disposition = is.disposition;
      unit = is.unit;
      volume = is.volume;
      space = is.space;
      sysout = is.sysout;
      dd_name = is.dd_name;
      label = is.label;
      control_blocks = put_at control_blocks put c.value-text.ensures (coded_in (is_key (codes "DCB")) control_blocks behind) is.control_blocks;
      character_set = is.character_set;
      forms_control = is.forms_control;
      output_limit = is.output_limit;
      unknown = is.unknown;
    }))
    c.put_blocks.ensures

pub returns-in-CharacterSet : goal.returns-in-CharacterSet
returns-in-CharacterSet c = λ behind is.
    at_key (spells_as c.args.keyword.now.key (sym (c.dd_key.ensures ∙ ap dd_key c.key.ensures) ∙ c.in-CharacterSet.is)) (record {
      set_name = is.set_name;
      disposition = is.disposition;
      unit = is.unit;
      volume = is.volume;
      space = is.space;
      sysout = is.sysout;
      dd_name = is.dd_name;
      label = is.label;
      control_blocks = is.control_blocks;
      character_set = coding_at any_text c.coding_of-card.ensures c.value-text.ensures;
      forms_control = is.forms_control;
      output_limit = is.output_limit;
      unknown = is.unknown;
    })

pub returns-in-FormsControl : goal.returns-in-FormsControl
returns-in-FormsControl c = λ behind is.
    at_key (spells_as c.args.keyword.now.key (sym (c.dd_key.ensures ∙ ap dd_key c.key.ensures) ∙ c.in-FormsControl.is)) (record {
      set_name = is.set_name;
      disposition = is.disposition;
      unit = is.unit;
      volume = is.volume;
      space = is.space;
      sysout = is.sysout;
      dd_name = is.dd_name;
      label = is.label;
      control_blocks = is.control_blocks;
      character_set = is.character_set;
      forms_control = coding_at any_text c.coding_of-card-in-FormsControl.ensures c.value-text.ensures;
      output_limit = is.output_limit;
      unknown = is.unknown;
    })

pub returns-in-OutputLimit : goal.returns-in-OutputLimit
returns-in-OutputLimit c = λ behind is.
    at_key (spells_as c.args.keyword.now.key (sym (c.dd_key.ensures ∙ ap dd_key c.key.ensures) ∙ c.in-OutputLimit.is)) (record {
      set_name = is.set_name;
      disposition = is.disposition;
      unit = is.unit;
      volume = is.volume;
      space = is.space;
      sysout = is.sysout;
      dd_name = is.dd_name;
      label = is.label;
      control_blocks = is.control_blocks;
      character_set = is.character_set;
      forms_control = is.forms_control;
      output_limit = coding_at any_text c.coding_of-card-in-OutputLimit.ensures c.value-text.ensures;
      unknown = is.unknown;
    })

pub returns-in-Other : goal.returns-in-Other
returns-in-Other c = λ behind is.
    let none = spells_as c.args.keyword.now.key (sym (c.dd_key.ensures ∙ ap dd_key c.key.ensures) ∙ c.in-Other.is) in
    let left_out = c.is_left_out.ensures ∙ ap left_out_on_dd c.key-in-Other.ensures in
    at_other none is (c.unknown_fault-unknown.ensures ∙ ap (λ b. cond b (P LeftOut) (P UnknownKeyword)) left_out) c.earlier-faults.ensures
