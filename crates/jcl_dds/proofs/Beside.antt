-- the values of a DD beside the faults that are told of them
use Rattle.std.proofs.Common.{◌≡◌, ℕ, List, [], ◌++◌, codes, Option, Some, None, Result, Ok, Err, refl, sym, ap, ◌∙◌}
use Rattle.std.specs.List.{flat_map}
use Rattle.jcl_plan.specs.declared.fault.Cause.{Cause}
use Rattle.jcl_plan.specs.declared.plan.Expiry.{Expiry}
use Rattle.jcl_plan.specs.declared.plan.Space.{Space}
use Rattle.operand_core.specs.Faults.{earlier, or_fault, told}
use Rattle.operand_core.specs.Operands.{Keyword, Operand, first_of}
use Rattle.operand_core.proofs.Faultless.{none_behind, none_in_front}
use Rattle.operand_core.proofs.Told.{told-none, told_joined}
use Rattle.list_values.specs.ControlBlocks.{control_blocks}
use Rattle.value_core.specs.declared.reference.DdReference.{DdReference}
use Rattle.value_core.specs.declared.set.Disposition.{Disposition}
use Rattle.value_core.specs.declared.set.SetName.{SetName}
use Rattle.value_core.specs.declared.set.VolumeName.{VolumeName}
use Rattle.value_core.specs.Dispositions.{disposition}
use Rattle.value_core.specs.Reads.{IsRead, Read}
use Rattle.value_core.specs.SetNames.{set_name}
use Rattle.value_core.specs.Spaces.{space}
use Rattle.value_core.specs.Units.{unit}
use Rattle.value_core.specs.VolumeNames.{volume_name}
use Rattle.jcl_cards.specs.declared.coded.Coded.{Coded}
use Rattle.jcl_cards.specs.Keywords.{coded_in, spelled, twice_faults}
use Rattle.jcl_dds.specs.declared.dd.DdCard.{DdCard}
use Rattle.jcl_dds.specs.declared.dd.Word.{Word}
use Rattle.jcl_dds.specs.declared.dd_faults.DdFaults.{DdFaults}
use Rattle.jcl_dds.specs.DdCards.{dd_name, dd_name_faults, dd_name_of, dd_with, is_key, keyword_faults, positional_faults, qualifier_of, sysout, unknown_on_dd, word_of}
use Rattle.value_core.specs.Labels.{label}
use Rattle.jcl_dds.specs.DdFaults.{told_of}
use Rattle.jcl_dds.specs.DdKeys.{AreRead}
use Rattle.jcl_dds.specs.Dds.{excluded_faults}
use Rattle.jcl_dds.proofs.DdWords.{dd_faults, faults_same}

-- what was read, and what was told
ok_cases : {A : Type 0} (f : Option Cause) (value x : A) → or_fault f value ≡ Ok x → (None ≡ f) × (x ≡ value)
ok_cases None value x h = (refl, cc)
ok_cases (Some fault) value x h = absurd (cc)

pub ok_told : {A : Type 0} (r : Read A) {given : Result A Cause} {x : A} → IsRead given r → given ≡ Ok x → None ≡ told r.faults
ok_told r {given} {x} is was = let both = ok_cases (told r.faults) r.value x (sym is ∙ was) in both.0

pub ok_value : {A : Type 0} (r : Read A) {given : Result A Cause} {x : A} → IsRead given r → given ≡ Ok x → x ≡ r.value
ok_value r {given} {x} is was = let both = ok_cases (told r.faults) r.value x (sym is ∙ was) in both.1

err_cases : {A : Type 0} (f : Option Cause) (value : A) (e : Cause) → or_fault f value ≡ Err e → Some e ≡ f
err_cases None value e h = absurd (cc)
err_cases (Some fault) value e h = cc

pub err_told : {A : Type 0} (r : Read A) {given : Result A Cause} {e : Cause} → IsRead given r → given ≡ Err e → Some e ≡ told r.faults
err_told r {given} {e} is was = err_cases (told r.faults) r.value e (sym is ∙ was)

abbrev pub named : List Keyword → Read (Coded SetName)
named ks = coded_in (is_key (codes "DSNAME")) set_name ks

abbrev pub disposed : List Keyword → Read (Coded Disposition)
disposed ks = coded_in (is_key (codes "DISP")) disposition ks

abbrev pub on_unit : List Keyword → Read (Coded (List ℕ))
on_unit ks = coded_in (is_key (codes "UNIT")) unit ks

abbrev pub on_volume : List Keyword → Read (Coded VolumeName)
on_volume ks = coded_in (is_key (codes "VOLUME")) volume_name ks

abbrev pub in_space : List Keyword → Read (Coded Space)
in_space ks = coded_in (is_key (codes "SPACE")) space ks

abbrev pub of_class : List Keyword → Read (Coded ℕ)
of_class ks = coded_in (is_key (codes "SYSOUT")) sysout ks

abbrev pub later : List Keyword → Read (Coded (List ℕ))
later ks = coded_in (is_key (codes "DDNAME")) dd_name ks

abbrev pub labelled : List Keyword → Read (Coded Expiry)
labelled ks = coded_in (is_key (codes "LABEL")) label ks

abbrev pub referring : List Keyword → Read (Coded (List DdReference))
referring ks = coded_in (is_key (codes "DCB")) control_blocks ks

-- the faults that are told of a DD's keywords
pub values_told : {card : DdCard} {faults : DdFaults} (ks : List Keyword) → AreRead card faults ks → told_of faults ≡ told (keyword_faults ks)
values_told ks are =
    let to_disposition = told_joined (named ks).faults (disposed ks).faults are.set_name.is_told are.disposition.is_told refl in
    let set = (named ks).faults ++ (disposed ks).faults in
    let to_unit = told_joined set (on_unit ks).faults to_disposition are.unit.is_told refl in
    let to_volume = told_joined (set ++ (on_unit ks).faults) (on_volume ks).faults to_unit are.volume.is_told refl in
    let device = set ++ (on_unit ks).faults ++ (on_volume ks).faults in
    let to_space = told_joined device (in_space ks).faults to_volume are.space.is_told refl in
    let to_sysout = told_joined (device ++ (in_space ks).faults) (of_class ks).faults to_space are.sysout.is_told refl in
    let placed = device ++ (in_space ks).faults ++ (of_class ks).faults in
    let to_dd_name = told_joined placed (later ks).faults to_sysout are.dd_name.is_told refl in
    let to_label = told_joined (placed ++ (later ks).faults) (labelled ks).faults to_dd_name are.label.is_told refl in
    let all = placed ++ (later ks).faults ++ (labelled ks).faults in
    let to_blocks = told_joined all (referring ks).faults to_label are.control_blocks.is_told refl in
    told_joined (all ++ (referring ks).faults) (flat_map unknown_on_dd ks) to_blocks are.unknown refl

abbrev pub front_of : List ℕ → Operand → List Cause
front_of name operand = dd_name_faults name ++ operand.faults ++ positional_faults (first_of operand.positional)

-- what is told of a DD
pub last_told : (name : List ℕ) (operand : Operand) (cards : Option (List (List ℕ))) {card : DdCard} {faults : DdFaults}
    {names own formed at placed valued twice once excluded last : Option Cause} → AreRead card faults operand.keywords →
    names ≡ told (dd_name_faults name) → own ≡ told operand.faults → formed ≡ earlier names own → at ≡ told (positional_faults (first_of operand.positional)) →
    placed ≡ earlier formed at → valued ≡ earlier placed (told_of faults) → twice ≡ told (twice_faults spelled operand.keywords) →
    once ≡ earlier valued twice → excluded ≡ told (excluded_faults operand.positional operand.keywords) → last ≡ earlier once excluded →
    last ≡ told (dd_with name operand cards).faults
last_told name operand cards are names_are own_is formed_is at_is placed_is valued_is twice_is once_is excluded_is last_is =
    let ks = operand.keywords in
    let front = front_of name operand in
    let formed = told_joined (dd_name_faults name) operand.faults names_are own_is formed_is in
    let placed = told_joined (dd_name_faults name ++ operand.faults) (positional_faults (first_of operand.positional)) formed at_is placed_is in
    let valued = told_joined front (keyword_faults ks) placed (values_told ks are) valued_is in
    let once = told_joined (front ++ keyword_faults ks) (twice_faults spelled ks) valued twice_is once_is in
    told_joined (front ++ keyword_faults ks ++ twice_faults spelled ks) (excluded_faults operand.positional ks) once excluded_is last_is
    ∙ sym (faults_same name operand cards)

faultless : (a b c d e f g h i u : List Cause) → a ++ b ++ c ++ d ++ e ++ f ++ g ++ h ++ i ++ u ≡ [] →
    (a ≡ []) × (b ≡ []) × (c ≡ []) × (d ≡ []) × (e ≡ []) × (f ≡ []) × (g ≡ []) × (h ≡ []) × (i ≡ [])
faultless a b c d e f g h i u none =
    let to_i = none_in_front (a ++ b ++ c ++ d ++ e ++ f ++ g ++ h ++ i) u none in
    let to_h = none_in_front (a ++ b ++ c ++ d ++ e ++ f ++ g ++ h) i to_i in
    let to_g = none_in_front (a ++ b ++ c ++ d ++ e ++ f ++ g) h to_h in
    let to_f = none_in_front (a ++ b ++ c ++ d ++ e ++ f) g to_g in
    let to_e = none_in_front (a ++ b ++ c ++ d ++ e) f to_f in
    let to_d = none_in_front (a ++ b ++ c ++ d) e to_e in
    let to_c = none_in_front (a ++ b ++ c) d to_d in
    let to_b = none_in_front (a ++ b) c to_c in (
      none_in_front a b to_b,
      none_behind a b to_b,
      none_behind (a ++ b) c to_c,
      none_behind (a ++ b ++ c) d to_d,
      none_behind (a ++ b ++ c ++ d) e to_e,
      none_behind (a ++ b ++ c ++ d ++ e) f to_f,
      none_behind (a ++ b ++ c ++ d ++ e ++ f) g to_g,
      none_behind (a ++ b ++ c ++ d ++ e ++ f ++ g) h to_h,
      none_behind (a ++ b ++ c ++ d ++ e ++ f ++ g ++ h) i to_i,
    )

-- a card by its parts
pub card_parts : {qualifier name other_qualifier other_name : Option (List ℕ)} {word other_word : Option Word}
    {set other_set : Coded SetName} {disp other_disp : Coded Disposition} {on other_on : Coded (List ℕ)} {vol other_vol : Coded VolumeName}
    {room other_room : Coded Space} {class other_class : Coded ℕ} {dd other_dd : Coded (List ℕ)} {form other_form : Coded Expiry}
    {refs other_refs : Coded (List DdReference)} {characters other_characters forms other_forms limit other_limit : Coded (Unit {0})} →
    qualifier ≡ other_qualifier → name ≡ other_name → word ≡ other_word → set ≡ other_set → disp ≡ other_disp → on ≡ other_on → vol ≡ other_vol →
    room ≡ other_room → class ≡ other_class → dd ≡ other_dd → form ≡ other_form → refs ≡ other_refs → characters ≡ other_characters → forms ≡ other_forms →
    limit ≡ other_limit →
    let card : DdCard = record {
      qualifier = qualifier;
      name = name;
      word = word;
      set_name = set;
      disposition = disp;
      unit = on;
      volume = vol;
      space = room;
      sysout = class;
      dd_name = dd;
      label = form;
      control_blocks = refs;
      character_set = characters;
      forms_control = forms;
      output_limit = limit;
    } in
    let other : DdCard = record {
      qualifier = other_qualifier;
      name = other_name;
      word = other_word;
      set_name = other_set;
      disposition = other_disp;
      unit = other_on;
      volume = other_vol;
      space = other_room;
      sysout = other_class;
      dd_name = other_dd;
      label = other_form;
      control_blocks = other_refs;
      character_set = other_characters;
      forms_control = other_forms;
      output_limit = other_limit;
    } in
    card ≡ other
card_parts a b c d e f g h i j k l m n o = cc

-- a card whose keywords have no fault holds what they code
pub holds : (name : List ℕ) (operand : Operand) (cards : Option (List (List ℕ))) {card : DdCard} {faults : DdFaults} → AreRead card faults operand.keywords →
    told (dd_with name operand cards).faults ≡ None →
    let whole : DdCard = record {
      qualifier = qualifier_of name;
      name = dd_name_of name;
      word = word_of (first_of operand.positional) cards;
      set_name = card.set_name;
      disposition = card.disposition;
      unit = card.unit;
      volume = card.volume;
      space = card.space;
      sysout = card.sysout;
      dd_name = card.dd_name;
      label = card.label;
      control_blocks = card.control_blocks;
      character_set = card.character_set;
      forms_control = card.forms_control;
      output_limit = card.output_limit;
    } in
    (front_of name operand ≡ []) × (whole ≡ (dd_with name operand cards).value)
holds name operand cards are none =
    let ks = operand.keywords in
    let front = front_of name operand in
    let all : dd_faults name operand ≡ [] = told-none (dd_faults name operand) (sym (faults_same name operand cards) ∙ none) in
    let once = none_in_front (front ++ keyword_faults ks ++ twice_faults spelled ks) (excluded_faults operand.positional ks) all in
    let valued = none_in_front (front ++ keyword_faults ks) (twice_faults spelled ks) once in
    let each = faultless (named ks).faults (disposed ks).faults (on_unit ks).faults (on_volume ks).faults (in_space ks).faults (of_class ks).faults
    (later ks).faults (labelled ks).faults (referring ks).faults (flat_map unknown_on_dd ks) (none_behind front (keyword_faults ks) valued) in (
      none_in_front front (keyword_faults ks) valued,
      card_parts refl refl refl
          (are.set_name.counts (are.set_name.is_told ∙ ap told each.0))
          (are.disposition.counts (are.disposition.is_told ∙ ap told each.1))
          (are.unit.counts (are.unit.is_told ∙ ap told each.2))
          (are.volume.counts (are.volume.is_told ∙ ap told each.3))
          (are.space.counts (are.space.is_told ∙ ap told each.4))
          (are.sysout.counts (are.sysout.is_told ∙ ap told each.5))
          (are.dd_name.counts (are.dd_name.is_told ∙ ap told each.6))
          (are.label.counts (are.label.is_told ∙ ap told each.7))
          (are.control_blocks.counts (are.control_blocks.is_told ∙ ap told each.8))
          are.character_set are.forms_control are.output_limit,
    )

-- the names of such a DD
pub no_name_fault : (name : List ℕ) (operand : Operand) {fault : Option Cause} → front_of name operand ≡ [] → fault ≡ told (dd_name_faults name) → fault ≡ None
no_name_fault name operand none is =
    let own = none_in_front (dd_name_faults name ++ operand.faults) (positional_faults (first_of operand.positional)) none in
    is ∙ ap told (none_in_front (dd_name_faults name) operand.faults own)

-- and with its names and its word
pub put_names : {qualifier name other_qualifier other_name : Option (List ℕ)} {word other_word : Option Word} {whole : DdCard} (card : DdCard) →
    qualifier ≡ other_qualifier → name ≡ other_name → word ≡ other_word →
    let held : DdCard = record {
      qualifier = other_qualifier;
      name = other_name;
      word = other_word;
      set_name = card.set_name;
      disposition = card.disposition;
      unit = card.unit;
      volume = card.volume;
      space = card.space;
      sysout = card.sysout;
      dd_name = card.dd_name;
      label = card.label;
      control_blocks = card.control_blocks;
      character_set = card.character_set;
      forms_control = card.forms_control;
      output_limit = card.output_limit;
    } in
    held ≡ whole →
    let put : DdCard = record {
      qualifier = qualifier;
      name = name;
      word = word;
      set_name = card.set_name;
      disposition = card.disposition;
      unit = card.unit;
      volume = card.volume;
      space = card.space;
      sysout = card.sysout;
      dd_name = card.dd_name;
      label = card.label;
      control_blocks = card.control_blocks;
      character_set = card.character_set;
      forms_control = card.forms_control;
      output_limit = card.output_limit;
    } in
    put ≡ whole
put_names card qualifier_is name_is word_is held_is = card_parts qualifier_is name_is word_is refl refl refl refl refl refl refl refl refl refl refl refl ∙ held_is
