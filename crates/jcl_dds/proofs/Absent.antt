-- words and keywords that exclude nothing
use Rattle.std.proofs.Common.{◌≡◌, ℕ, Bool, true, false, ◌||◌, ◌&&◌, List, codes, Option, Some, None, refl}
use Rattle.operand_core.specs.Operands.{Keyword}
use Rattle.jcl_dds.specs.declared.given.Given.{Given}
use Rattle.jcl_dds.specs.DdCards.{is_read_word, is_word}
use Rattle.jcl_dds.specs.Dds.{any_given, given_in, is_coded, is_data_word, is_excluded}

-- nothing excludes anything without a word, SYSOUT and DDNAME
nothing_excluded : (word cards set any sysout later : Bool) → (word || sysout || later) ≡ false → (word ≡ false → cards ≡ false) →
    let given : Given = record { word = word; cards = cards; set = set; any = any; sysout = sysout; dd_name = later } in
    is_excluded given ≡ false
nothing_excluded true cards set any sysout later none no_cards = absurd (cc)
nothing_excluded false cards set any true later none no_cards = absurd (cc)
nothing_excluded false cards set any false true none no_cards = absurd (cc)
nothing_excluded false true set any false false none no_cards = absurd (let is = no_cards refl in cc)
nothing_excluded false false set any false false none no_cards = refl

no_data : (word dummy : Bool) → word ≡ false → (word && dummy) ≡ false
no_data true dummy none = absurd (cc)
no_data false dummy none = refl

no_cards : (first : Option (List ℕ)) → is_read_word first ≡ false → is_data_word first ≡ false
no_cards None none = refl
no_cards (Some text) none = no_data (is_word text) _ none

pub unasked : (first : Option (List ℕ)) (ks : List Keyword) → (is_read_word first || is_coded (codes "SYSOUT") ks || is_coded (codes "DDNAME") ks) ≡ false →
    is_excluded (given_in first ks) ≡ false
unasked first ks none =
    nothing_excluded (is_read_word first) (is_data_word first) (is_coded (codes "DSNAME") ks || is_coded (codes "DISP") ks) (any_given ks)
    (is_coded (codes "SYSOUT") ks) (is_coded (codes "DDNAME") ks) none (no_cards first)
