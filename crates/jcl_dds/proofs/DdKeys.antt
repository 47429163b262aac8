-- what the keywords of a DD code, by the first of them and the others
use Rattle.std.proofs.Common.{◌≡◌, ℕ, Bool, true, false, cond, ◌||◌, List, [], ◌∷◌, ◌++◌, codes, Option, Some, refl, sym, ap, ◌∙◌, subst}
use Rattle.std.specs.List.{flat_map}
use Rattle.std.specs.Str.{bytes_eq}
use Rattle.std.proofs.lemmas.Slice.Eq.{bytes_eq-Decides}
use Rattle.jcl_plan.specs.declared.fault.Cause.{Cause}
use Rattle.jcl_plan.specs.declared.fault.Cause.TheVariants.{P}
use Rattle.jcl_plan.specs.declared.fault.StatementFault.TheVariants.{LeftOut, UnknownKeyword}
use Rattle.operand_core.specs.Faults.{earlier, told}
use Rattle.operand_core.specs.Keywords.{is_among, unknown_faults}
use Rattle.operand_core.specs.Operands.{Keyword}
use Rattle.list_values.specs.ControlBlocks.{control_blocks}
use Rattle.value_core.specs.Dispositions.{disposition}
use Rattle.value_core.specs.Reads.{Read}
use Rattle.value_core.specs.SetNames.{set_name}
use Rattle.value_core.specs.Spaces.{space}
use Rattle.value_core.specs.Units.{unit}
use Rattle.value_core.specs.VolumeNames.{volume_name}
use Rattle.jcl_cards.specs.declared.coded.Coded.{Coded}
use Rattle.jcl_cards.specs.Keywords.{and_later, coded_in, coded_text, spelled}
use Rattle.jcl_dds.specs.declared.dd.DdCard.{DdCard}
use Rattle.jcl_dds.specs.declared.dd_faults.DdFaults.{DdFaults}
use Rattle.jcl_dds.specs.declared.dd_key.DdKey.{DdKey}
use Rattle.jcl_dds.specs.declared.dd_key.DdKey.TheVariants.{SetName, Disposition, Unit, Volume, Space, Sysout, DdName, Label, ControlBlocks, CharacterSet, FormsControl, OutputLimit, Other}
use Rattle.jcl_dds.specs.DdCards.{any_text, dd_name, is_key, known_on_dd, left_out_on_dd, sysout, unknown_on_dd}
use Rattle.value_core.specs.Labels.{label}
use Rattle.jcl_dds.specs.DdKeys.{AreRead, IsBeside, IsPut, dd_key}

-- the keyword that a key spells
abbrev pub Spells : DdKey → List ℕ → Type 0
Spells SetName key = spelled key ≡ codes "DSNAME"
Spells Disposition key = spelled key ≡ codes "DISP"
Spells Unit key = spelled key ≡ codes "UNIT"
Spells Volume key = spelled key ≡ codes "VOLUME"
Spells Space key = spelled key ≡ codes "SPACE"
Spells Sysout key = spelled key ≡ codes "SYSOUT"
Spells DdName key = spelled key ≡ codes "DDNAME"
Spells Label key = spelled key ≡ codes "LABEL"
Spells ControlBlocks key = spelled key ≡ codes "DCB"
Spells CharacterSet key = spelled key ≡ codes "UCS"
Spells FormsControl key = spelled key ≡ codes "FCB"
Spells OutputLimit key = spelled key ≡ codes "OUTLIM"
Spells Other key = known_on_dd key ≡ false

chosen : (d rest : DdKey) (key : List ℕ) (b : Bool) → (b ≡ true → Spells d key) → (b ≡ false → Spells rest key) → Spells (cond b d rest) key
chosen d rest key true there elsewhere = there refl
chosen d rest key false there elsewhere = elsewhere refl

either : {P : Type 0} (a b : Bool) → (a ≡ true → P) → (b ≡ true → P) → (a || b) ≡ true → P
either true b f g is = f refl
either false b f g is = g is

neither : (a b : Bool) → (a || b) ≡ false → (a ≡ false) × (b ≡ false)
neither true b none = absurd (cc)
neither false b none = (refl, none)

spelled_as : (key word : List ℕ) → bytes_eq key word ≡ true → spelled key ≡ spelled word
spelled_as key word is = ap spelled ((bytes_eq-Decides key word).0 is)

plain_key : (key : List ℕ) → bytes_eq key (codes "DSN") ≡ false → bytes_eq key (codes "VOL") ≡ false → spelled key ≡ key
plain_key key one two =
    ap (λ b. cond b (codes "DSNAME") (cond (bytes_eq key (codes "VOL")) (codes "VOLUME") key)) one ∙ ap (λ b. cond b (codes "VOLUME") key) two

none_of_them : {a b c d e f g h i j k l : Bool} → a ≡ false → b ≡ false → c ≡ false → d ≡ false → e ≡ false → f ≡ false → g ≡ false → h ≡ false → i ≡ false →
    j ≡ false → k ≡ false → l ≡ false → (a || (b || (c || (d || (e || (f || (g || (h || (i || (j || (k || (l || false)))))))))))) ≡ false
none_of_them a b c d e f g h i j k l = rw (a, b, c, d, e, f, g, h, i, j, k, l)

-- the keywords from each on
abbrev from_outlim : List ℕ → DdKey
from_outlim key = cond (bytes_eq key (codes "OUTLIM")) OutputLimit Other

abbrev from_fcb : List ℕ → DdKey
from_fcb key = cond (bytes_eq key (codes "FCB")) FormsControl (from_outlim key)

abbrev from_ucs : List ℕ → DdKey
from_ucs key = cond (bytes_eq key (codes "UCS")) CharacterSet (from_fcb key)

abbrev from_dcb : List ℕ → DdKey
from_dcb key = cond (bytes_eq key (codes "DCB")) ControlBlocks (from_ucs key)

abbrev from_label : List ℕ → DdKey
from_label key = cond (bytes_eq key (codes "LABEL")) Label (from_dcb key)

abbrev from_ddname : List ℕ → DdKey
from_ddname key = cond (bytes_eq key (codes "DDNAME")) DdName (from_label key)

abbrev from_sysout : List ℕ → DdKey
from_sysout key = cond (bytes_eq key (codes "SYSOUT")) Sysout (from_ddname key)

abbrev from_space : List ℕ → DdKey
from_space key = cond (bytes_eq key (codes "SPACE")) Space (from_sysout key)

abbrev from_vol : List ℕ → DdKey
from_vol key = cond (bytes_eq key (codes "VOL") || bytes_eq key (codes "VOLUME")) Volume (from_space key)

abbrev from_unit : List ℕ → DdKey
from_unit key = cond (bytes_eq key (codes "UNIT")) Unit (from_vol key)

abbrev from_disp : List ℕ → DdKey
from_disp key = cond (bytes_eq key (codes "DISP")) Disposition (from_unit key)

pub spells : (key : List ℕ) → Spells (dd_key key) key
spells key =
    let dsn = bytes_eq key (codes "DSN") in
    let dsname = bytes_eq key (codes "DSNAME") in
    let vol = bytes_eq key (codes "VOL") in
    let volume = bytes_eq key (codes "VOLUME") in
    chosen SetName (from_disp key) key (dsn || dsname) (either dsn dsname (spelled_as key (codes "DSN")) (spelled_as key (codes "DSNAME"))) (λ no_set.
    chosen Disposition (from_unit key) key (bytes_eq key (codes "DISP")) (spelled_as key (codes "DISP")) (λ no_disp.
    chosen Unit (from_vol key) key (bytes_eq key (codes "UNIT")) (spelled_as key (codes "UNIT")) (λ no_unit.
    chosen Volume (from_space key) key (vol || volume) (either vol volume (spelled_as key (codes "VOL")) (spelled_as key (codes "VOLUME"))) (λ no_volume.
    chosen Space (from_sysout key) key (bytes_eq key (codes "SPACE")) (spelled_as key (codes "SPACE")) (λ no_space.
    chosen Sysout (from_ddname key) key (bytes_eq key (codes "SYSOUT")) (spelled_as key (codes "SYSOUT")) (λ no_sysout.
    chosen DdName (from_label key) key (bytes_eq key (codes "DDNAME")) (spelled_as key (codes "DDNAME")) (λ no_dd_name.
    chosen Label (from_dcb key) key (bytes_eq key (codes "LABEL")) (spelled_as key (codes "LABEL")) (λ no_label.
    chosen ControlBlocks (from_ucs key) key (bytes_eq key (codes "DCB")) (spelled_as key (codes "DCB")) (λ no_dcb.
    chosen CharacterSet (from_fcb key) key (bytes_eq key (codes "UCS")) (spelled_as key (codes "UCS")) (λ no_ucs.
    chosen FormsControl (from_outlim key) key (bytes_eq key (codes "FCB")) (spelled_as key (codes "FCB")) (λ no_fcb.
    chosen OutputLimit Other key (bytes_eq key (codes "OUTLIM")) (spelled_as key (codes "OUTLIM")) (λ no_outlim.
    let set = neither dsn dsname no_set in
    let of_volume = neither vol volume no_volume in
    ap (is_among (codes "DSNAME" ∷ codes "DISP" ∷ codes "UNIT" ∷ codes "VOLUME" ∷ codes "SPACE" ∷ codes "SYSOUT" ∷ codes "DDNAME" ∷ codes "LABEL" ∷ codes "DCB"
    ∷ codes "UCS" ∷ codes "FCB" ∷ codes "OUTLIM" ∷ [])) (plain_key key set.0 of_volume.0)
    ∙ none_of_them set.1 no_disp no_unit of_volume.1 no_space no_sysout no_dd_name no_label no_dcb no_ucs no_fcb no_outlim))))))))))))

-- the same where the key of the first is spelled so
pub record AreReadAs (card : DdCard) (faults : DdFaults) (key : List ℕ) (k : Keyword) (ks : List Keyword) : Type 0 where
  pub set_name : IsBeside card.set_name faults.set_name (cond (bytes_eq key (codes "DSNAME")) (and_later (coded_text set_name k.value) (coded_in (is_key (codes "DSNAME")) set_name ks)) (coded_in (is_key (codes "DSNAME")) set_name ks))
  pub disposition : IsBeside card.disposition faults.disposition (cond (bytes_eq key (codes "DISP")) (and_later (coded_text disposition k.value) (coded_in (is_key (codes "DISP")) disposition ks)) (coded_in (is_key (codes "DISP")) disposition ks))
  pub unit : IsBeside card.unit faults.unit (cond (bytes_eq key (codes "UNIT")) (and_later (coded_text unit k.value) (coded_in (is_key (codes "UNIT")) unit ks)) (coded_in (is_key (codes "UNIT")) unit ks))
  pub volume : IsBeside card.volume faults.volume (cond (bytes_eq key (codes "VOLUME")) (and_later (coded_text volume_name k.value) (coded_in (is_key (codes "VOLUME")) volume_name ks)) (coded_in (is_key (codes "VOLUME")) volume_name ks))
  pub space : IsBeside card.space faults.space (cond (bytes_eq key (codes "SPACE")) (and_later (coded_text space k.value) (coded_in (is_key (codes "SPACE")) space ks)) (coded_in (is_key (codes "SPACE")) space ks))
  pub sysout : IsBeside card.sysout faults.sysout (cond (bytes_eq key (codes "SYSOUT")) (and_later (coded_text sysout k.value) (coded_in (is_key (codes "SYSOUT")) sysout ks)) (coded_in (is_key (codes "SYSOUT")) sysout ks))
  pub dd_name : IsBeside card.dd_name faults.dd_name (cond (bytes_eq key (codes "DDNAME")) (and_later (coded_text dd_name k.value) (coded_in (is_key (codes "DDNAME")) dd_name ks)) (coded_in (is_key (codes "DDNAME")) dd_name ks))
  pub label : IsBeside card.label faults.label (cond (bytes_eq key (codes "LABEL")) (and_later (coded_text label k.value) (coded_in (is_key (codes "LABEL")) label ks)) (coded_in (is_key (codes "LABEL")) label ks))
  pub control_blocks : IsBeside card.control_blocks faults.control_blocks (cond (bytes_eq key (codes "DCB")) (and_later (coded_text control_blocks k.value) (coded_in (is_key (codes "DCB")) control_blocks ks)) (coded_in (is_key (codes "DCB")) control_blocks ks))
  pub character_set : card.character_set ≡ (cond (bytes_eq key (codes "UCS")) (and_later (coded_text any_text k.value) (coded_in (is_key (codes "UCS")) any_text ks)) (coded_in (is_key (codes "UCS")) any_text ks)).value
  pub forms_control : card.forms_control ≡ (cond (bytes_eq key (codes "FCB")) (and_later (coded_text any_text k.value) (coded_in (is_key (codes "FCB")) any_text ks)) (coded_in (is_key (codes "FCB")) any_text ks)).value
  pub output_limit : card.output_limit ≡ (cond (bytes_eq key (codes "OUTLIM")) (and_later (coded_text any_text k.value) (coded_in (is_key (codes "OUTLIM")) any_text ks)) (coded_in (is_key (codes "OUTLIM")) any_text ks)).value
  pub unknown : faults.unknown ≡ told (cond (is_among (codes "DSNAME" ∷ codes "DISP" ∷ codes "UNIT" ∷ codes "VOLUME" ∷ codes "SPACE" ∷ codes "SYSOUT" ∷ codes "DDNAME" ∷ codes "LABEL" ∷ codes "DCB"
      ∷ codes "UCS" ∷ codes "FCB" ∷ codes "OUTLIM" ∷ []) key) [] (unknown_faults left_out_on_dd k.key) ++ flat_map unknown_on_dd ks)

pub are_read : {card : DdCard} {faults : DdFaults} {k : Keyword} {ks : List Keyword} → AreReadAs card faults (spelled k.key) k ks → AreRead card faults (k ∷ ks)
are_read as_spelled = record {
  set_name = as_spelled.set_name;
  disposition = as_spelled.disposition;
  unit = as_spelled.unit;
  volume = as_spelled.volume;
  space = as_spelled.space;
  sysout = as_spelled.sysout;
  dd_name = as_spelled.dd_name;
  label = as_spelled.label;
  control_blocks = as_spelled.control_blocks;
  character_set = as_spelled.character_set;
  forms_control = as_spelled.forms_control;
  output_limit = as_spelled.output_limit;
  unknown = as_spelled.unknown;
}

pub at_key : {card : DdCard} {faults : DdFaults} {k : Keyword} {ks : List Keyword} {key : List ℕ} → spelled k.key ≡ key → AreReadAs card faults key k ks →
    AreRead card faults (k ∷ ks)
at_key {card} {faults} {k} {ks} is as_key = are_read (subst (λ key. AreReadAs card faults key k ks) (sym is) as_key)

pub spells_as : (key : List ℕ) {d : DdKey} → dd_key key ≡ d → Spells d key
spells_as key is = subst (λ d. Spells d key) is (spells key)

pub put_at : {A : Type 0} (read : List ℕ → Read A) {text value : Option (List ℕ)} {coded new : Coded A} {fault new_fault : Option Cause} →
    IsPut (coded_text read text) coded fault new new_fault → text ≡ value → (behind : Read (Coded A)) → IsBeside coded fault behind →
    IsBeside new new_fault (and_later (coded_text read value) behind)
put_at read {text} {value} {coded} {new} {fault} {new_fault} put is = subst (λ t. IsPut (coded_text read t) coded fault new new_fault) is put

pub coding_at : {A : Type 0} (read : List ℕ → Read A) {text value : Option (List ℕ)} {coded : Coded A} → coded ≡ (coded_text read text).value →
    text ≡ value → coded ≡ (coded_text read value).value
coding_at read coded_is is = coded_is ∙ ap (λ t. (coded_text read t).value) is

-- and where it is none of them
beside_none : {A : Type 0} {coded : Coded A} {fault : Option Cause} (b : Bool) (r later : Read (Coded A)) → b ≡ false → IsBeside coded fault later →
    IsBeside coded fault (cond b r later)
beside_none {A} {coded} {fault} b r later none is = subst (λ b. IsBeside coded fault (cond b r later)) (sym none) is

coding_none : {A : Type 0} {coded : Coded A} (b : Bool) (r later : Read (Coded A)) → b ≡ false → coded ≡ later.value → coded ≡ (cond b r later).value
coding_none {A} {coded} b r later none is = subst (λ b. coded ≡ (cond b r later).value) (sym none) is

all_none : (a b c d e f g h i j k l : Bool) → (a || (b || (c || (d || (e || (f || (g || (h || (i || (j || (k || (l || false)))))))))))) ≡ false →
    (a ≡ false) × (b ≡ false) × (c ≡ false) × (d ≡ false) × (e ≡ false) × (f ≡ false) × (g ≡ false) × (h ≡ false) × (i ≡ false) × (j ≡ false)
    × (k ≡ false) × (l ≡ false)
all_none a b c d e f g h i j k l none =
    let behind_a = neither a _ none in
    let behind_b = neither b _ behind_a.1 in
    let behind_c = neither c _ behind_b.1 in
    let behind_d = neither d _ behind_c.1 in
    let behind_e = neither e _ behind_d.1 in
    let behind_f = neither f _ behind_e.1 in
    let behind_g = neither g _ behind_f.1 in
    let behind_h = neither h _ behind_g.1 in
    let behind_i = neither i _ behind_h.1 in
    let behind_j = neither j _ behind_i.1 in
    let behind_k = neither k _ behind_j.1 in
    let behind_l = neither l _ behind_k.1 in
    (behind_a.0, behind_b.0, behind_c.0, behind_d.0, behind_e.0, behind_f.0, behind_g.0, behind_h.0, behind_i.0, behind_j.0, behind_k.0, behind_l.0)

one_told : (left : Bool) (faults : List Cause) {own : Cause} {old : Option Cause} → own ≡ cond left (P LeftOut) (P UnknownKeyword) → old ≡ told faults →
    earlier (Some own) old ≡ told (cond left (P LeftOut ∷ []) (P UnknownKeyword ∷ []) ++ faults)
one_told true faults {own} {old} own_is old_is = ap (λ a. earlier (Some a) old) own_is ∙ ap (earlier (Some (P LeftOut))) old_is
one_told false faults {own} {old} own_is old_is = ap (λ a. earlier (Some a) old) own_is ∙ ap (earlier (Some (P UnknownKeyword))) old_is

unknown_told : (known left : Bool) (faults : List Cause) {own : Cause} {old : Option Cause} → known ≡ false → own ≡ cond left (P LeftOut) (P UnknownKeyword) →
    old ≡ told faults → earlier (Some own) old ≡ told (cond known [] (cond left (P LeftOut ∷ []) (P UnknownKeyword ∷ [])) ++ faults)
unknown_told known left faults {own} {old} none own_is old_is =
    one_told left faults own_is old_is ∙ ap (λ known. told (cond known [] (cond left (P LeftOut ∷ []) (P UnknownKeyword ∷ [])) ++ faults)) (sym none)

pub at_other : {card : DdCard} {faults : DdFaults} {k : Keyword} {ks : List Keyword} {own : Cause} {new : Option Cause} →
    known_on_dd k.key ≡ false → AreRead card faults ks → own ≡ cond (left_out_on_dd k.key) (P LeftOut) (P UnknownKeyword) →
    new ≡ earlier (Some own) faults.unknown →
    let told_too : DdFaults = record {
      set_name = faults.set_name;
      disposition = faults.disposition;
      unit = faults.unit;
      volume = faults.volume;
      space = faults.space;
      sysout = faults.sysout;
      dd_name = faults.dd_name;
      label = faults.label;
      control_blocks = faults.control_blocks;
      unknown = new;
    } in
    AreRead card told_too (k ∷ ks)
at_other {card} {faults} {k} {ks} none are own_is new_is =
    let key = spelled k.key in
    let each = all_none (bytes_eq key (codes "DSNAME")) (bytes_eq key (codes "DISP")) (bytes_eq key (codes "UNIT")) (bytes_eq key (codes "VOLUME")) (bytes_eq key (codes "SPACE")) (bytes_eq key (codes "SYSOUT")) (bytes_eq key (codes "DDNAME")) (bytes_eq key (codes "LABEL")) (bytes_eq key (codes "DCB")) (bytes_eq key (codes "UCS")) (bytes_eq key (codes "FCB")) (bytes_eq key (codes "OUTLIM")) none in
    are_read (record {
      set_name = beside_none (bytes_eq key (codes "DSNAME")) (and_later (coded_text set_name k.value) (coded_in (is_key (codes "DSNAME")) set_name ks)) (coded_in (is_key (codes "DSNAME")) set_name ks) each.0 are.set_name;
      disposition = beside_none (bytes_eq key (codes "DISP")) (and_later (coded_text disposition k.value) (coded_in (is_key (codes "DISP")) disposition ks)) (coded_in (is_key (codes "DISP")) disposition ks) each.1 are.disposition;
      unit = beside_none (bytes_eq key (codes "UNIT")) (and_later (coded_text unit k.value) (coded_in (is_key (codes "UNIT")) unit ks)) (coded_in (is_key (codes "UNIT")) unit ks) each.2 are.unit;
      volume = beside_none (bytes_eq key (codes "VOLUME")) (and_later (coded_text volume_name k.value) (coded_in (is_key (codes "VOLUME")) volume_name ks)) (coded_in (is_key (codes "VOLUME")) volume_name ks) each.3 are.volume;
      space = beside_none (bytes_eq key (codes "SPACE")) (and_later (coded_text space k.value) (coded_in (is_key (codes "SPACE")) space ks)) (coded_in (is_key (codes "SPACE")) space ks) each.4 are.space;
      sysout = beside_none (bytes_eq key (codes "SYSOUT")) (and_later (coded_text sysout k.value) (coded_in (is_key (codes "SYSOUT")) sysout ks)) (coded_in (is_key (codes "SYSOUT")) sysout ks) each.5 are.sysout;
      dd_name = beside_none (bytes_eq key (codes "DDNAME")) (and_later (coded_text dd_name k.value) (coded_in (is_key (codes "DDNAME")) dd_name ks)) (coded_in (is_key (codes "DDNAME")) dd_name ks) each.6 are.dd_name;
      label = beside_none (bytes_eq key (codes "LABEL")) (and_later (coded_text label k.value) (coded_in (is_key (codes "LABEL")) label ks)) (coded_in (is_key (codes "LABEL")) label ks) each.7 are.label;
      control_blocks = beside_none (bytes_eq key (codes "DCB")) (and_later (coded_text control_blocks k.value) (coded_in (is_key (codes "DCB")) control_blocks ks)) (coded_in (is_key (codes "DCB")) control_blocks ks) each.8 are.control_blocks;
      character_set = coding_none (bytes_eq key (codes "UCS")) (and_later (coded_text any_text k.value) (coded_in (is_key (codes "UCS")) any_text ks)) (coded_in (is_key (codes "UCS")) any_text ks) each.9 are.character_set;
      forms_control = coding_none (bytes_eq key (codes "FCB")) (and_later (coded_text any_text k.value) (coded_in (is_key (codes "FCB")) any_text ks)) (coded_in (is_key (codes "FCB")) any_text ks) each.10 are.forms_control;
      output_limit = coding_none (bytes_eq key (codes "OUTLIM")) (and_later (coded_text any_text k.value) (coded_in (is_key (codes "OUTLIM")) any_text ks)) (coded_in (is_key (codes "OUTLIM")) any_text ks) each.11 are.output_limit;
      unknown = new_is ∙ unknown_told (known_on_dd k.key) (left_out_on_dd k.key) (flat_map unknown_on_dd ks) none own_is are.unknown;
    })
