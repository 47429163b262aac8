-- what a DD statement codes, word by word
use Rattle.std.proofs.Common.{◌≡◌, ℕ, Bool, true, false, cond, not, ◌&&◌, ◌||◌, List, [], ◌∷◌, ◌++◌, codes, Option, Some, None, refl, ap}
use Rattle.std.specs.Str.{bytes_eq}
use Rattle.jcl_plan.specs.declared.fault.Cause.{Cause}
use Rattle.jcl_plan.specs.declared.fault.Cause.TheVariants.{P}
use Rattle.jcl_plan.specs.declared.fault.StatementFault.TheVariants.{ExcludeOneAnother}
use Rattle.operand_core.specs.Faults.{told, when}
use Rattle.operand_core.specs.Operands.{Keyword, Operand, first_of}
use Rattle.value_core.specs.Dispositions.{disposition}
use Rattle.value_core.specs.Reads.{Read}
use Rattle.value_core.specs.SetNames.{set_name}
use Rattle.value_core.specs.Spaces.{space}
use Rattle.value_core.specs.Units.{unit}
use Rattle.value_core.specs.VolumeNames.{volume_name}
use Rattle.jcl_cards.specs.declared.coded.Coded.{Coded}
use Rattle.jcl_cards.specs.Keywords.{and_later, coded_in, coded_text, is_given, spelled, twice_faults}
use Rattle.jcl_dds.specs.declared.dd.Word.{Word}
use Rattle.jcl_dds.specs.declared.dd.Word.TheVariants.{Cards, Dummy}
use Rattle.jcl_dds.specs.declared.given.Given.{Given}
use Rattle.jcl_dds.specs.DdCards.{any_text, card_of, dd_name, dd_name_faults, dd_with, excludes, has_two_words, is_key, is_read_word, keyword_faults, positional_faults, sysout, word_of}
use Rattle.value_core.specs.Labels.{label}
use Rattle.jcl_dds.specs.Dds.{excluded_faults, given_in, given_on, is_coded, is_data_word, is_excluded}

-- whether a value is given does not depend on what reads it
text_same : {A : Type 0} (read : List ℕ → Read A) (text : Option (List ℕ)) → is_given (coded_text read text).value ≡ is_given (coded_text any_text text).value
text_same read None = refl
text_same read (Some []) = refl
text_same read (Some (c ∷ cs)) = refl

same_cases : {A B : Type 0} (b : Bool) (r later : Read (Coded A)) (s other : Read (Coded B)) → is_given r.value ≡ is_given s.value →
    is_given later.value ≡ is_given other.value → is_given (cond b (and_later r later) later).value ≡ is_given (cond b (and_later s other) other).value
same_cases true r later s other here behind = here
same_cases false r later s other here behind = behind

given_same : {A : Type 0} (key : List ℕ) (read : List ℕ → Read A) (ks : List Keyword) → is_given (coded_in (is_key key) read ks).value ≡ is_coded key ks
given_same key read [] = refl
given_same key read (k ∷ ks) =
    same_cases (is_key key k.key) (coded_text read k.value) (coded_in (is_key key) read ks) (coded_text any_text k.value) (coded_in (is_key key) any_text ks)
    (text_same read k.value) (given_same key read ks)

-- the word that counts
abbrev word_there : Option Word → Bool
word_there None = false
word_there (Some word) = true

abbrev data_there : Option Word → Bool
data_there None = false
data_there (Some (Cards cards)) = true
data_there (Some Dummy) = false

word_cases : (star data_word dummy : Bool) (cards : List (List ℕ)) →
    word_there (cond dummy (Some Dummy) (cond (star || (data_word || (dummy || false))) (Some (Cards cards)) None)) ≡ (star || (data_word || (dummy || false)))
word_cases true data_word true cards = refl
word_cases true data_word false cards = refl
word_cases false true true cards = refl
word_cases false true false cards = refl
word_cases false false true cards = refl
word_cases false false false cards = refl

data_cases : (star data_word dummy : Bool) (cards : List (List ℕ)) →
    data_there (cond dummy (Some Dummy) (cond (star || (data_word || (dummy || false))) (Some (Cards cards)) None)) ≡
    ((star || (data_word || (dummy || false))) && not dummy)
data_cases true data_word true cards = refl
data_cases true data_word false cards = refl
data_cases false true true cards = refl
data_cases false true false cards = refl
data_cases false false true cards = refl
data_cases false false false cards = refl

word_same : (first : Option (List ℕ)) (cards : Option (List (List ℕ))) → word_there (word_of first cards) ≡ is_read_word first
word_same None cards = refl
word_same (Some text) cards = word_cases (bytes_eq text (codes "*")) (bytes_eq text (codes "DATA")) (bytes_eq text (codes "DUMMY")) _

data_same : (first : Option (List ℕ)) (cards : Option (List (List ℕ))) → data_there (word_of first cards) ≡ is_data_word first
data_same None cards = refl
data_same (Some text) cards = data_cases (bytes_eq text (codes "*")) (bytes_eq text (codes "DATA")) (bytes_eq text (codes "DUMMY")) _

any_same : {a b c d e f g h i j k l : Bool} (x y z : Bool) → a ≡ g → b ≡ h → c ≡ i → d ≡ j → e ≡ k → f ≡ l →
    (a || b || c || d || e || f || x || y || z) ≡ (g || h || i || j || k || l || x || y || z)
any_same x y z a_is b_is c_is d_is e_is f_is = cc

given_parts : {word other_word cards other_cards set other_set any other_any sysout other_sysout later other_later : Bool} → word ≡ other_word → cards ≡
    other_cards →
    set ≡ other_set → any ≡ other_any → sysout ≡ other_sysout → later ≡ other_later →
    let given : Given = record { word = word; cards = cards; set = set; any = any; sysout = sysout; dd_name = later } in
    let other : Given = record { word = other_word; cards = other_cards; set = other_set; any = other_any; sysout = other_sysout; dd_name = other_later } in
    given ≡ other
given_parts word_is cards_is set_is any_is sysout_is later_is = cc

or_same : {a b c d : Bool} → a ≡ c → b ≡ d → (a || b) ≡ (c || d)
or_same a_is b_is = cc

-- what stands on the card stands in the operand
given_is : (name : List ℕ) (operand : Operand) (cards : Option (List (List ℕ))) → given_on (card_of name operand cards) ≡ given_in
    (first_of operand.positional) operand.keywords
given_is name operand cards =
    let ks = operand.keywords in
    let first = first_of operand.positional in
    let named = given_same (codes "DSNAME") set_name ks in
    let disp = given_same (codes "DISP") disposition ks in
    given_parts (word_same first cards) (data_same first cards) (or_same named disp)
    (any_same (is_coded (codes "UCS") ks) (is_coded (codes "FCB") ks) (is_coded (codes "OUTLIM") ks) named disp (given_same (codes "UNIT") unit ks)
    (given_same (codes "VOLUME") volume_name ks) (given_same (codes "SPACE") space ks) (given_same (codes "LABEL") label ks))
    (given_same (codes "SYSOUT") sysout ks) (given_same (codes "DDNAME") dd_name ks)

excludes_is : (name : List ℕ) (operand : Operand) (cards : Option (List (List ℕ))) →
    excludes (card_of name operand cards) ≡ is_excluded (given_in (first_of operand.positional) operand.keywords)
excludes_is name operand cards = ap is_excluded (given_is name operand cards)

-- the faults of a DD, of which those of what excludes one another are told by its operand
abbrev pub dd_faults : List ℕ → Operand → List Cause
dd_faults name operand =
    dd_name_faults name ++ operand.faults ++ positional_faults (first_of operand.positional) ++ keyword_faults operand.keywords
    ++ twice_faults spelled operand.keywords ++ excluded_faults operand.positional operand.keywords

pub faults_same : (name : List ℕ) (operand : Operand) (cards : Option (List (List ℕ))) → told (dd_with name operand cards).faults ≡ told (dd_faults name operand)
faults_same name operand cards =
    let front = dd_name_faults name ++ operand.faults ++ positional_faults (first_of operand.positional) ++ keyword_faults operand.keywords
    ++ twice_faults spelled operand.keywords in
    ap (λ (b : Bool). told (front ++ when (has_two_words operand || b) (P ExcludeOneAnother))) (excludes_is name operand cards)
