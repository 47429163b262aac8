-- A DD with its override.
use Rattle.std.proofs.Common.{◌≡◌, ℕ, Bool, true, false, Option, Some, None, refl}
use Rattle.std.proofs.lemmas.Bool.{cond_both}
use Rattle.jcl_plan.specs.declared.fault.Cause.TheVariants.{P}
use Rattle.jcl_plan.specs.declared.fault.StatementFault.TheVariants.{ExcludeOneAnother}
use Rattle.operand_core.specs.Faults.{when}
use Rattle.value_core.specs.Reads.{Read, good}
use Rattle.jcl_cards.specs.declared.coded.Coded.{Coded}
use Rattle.jcl_cards.specs.declared.coded.Coded.TheVariants.{NotGiven, Nullified, Value}
use Rattle.jcl_cards.specs.Keywords.{is_given}
use Rattle.jcl_dds.specs.declared.dd.DdCard.{DdCard}
use Rattle.jcl_dds.specs.declared.dd.Word.{Word}
use Rattle.jcl_dds.specs.declared.dd.Word.TheVariants.{Cards, Dummy}
use Rattle.jcl_dds.specs.DdCards.{excludes}
use Rattle.jcl_dds.specs.Merging.{by_itself, keyword_by_keyword, merged, overridden, replaces, settled, without_dummy, without_sysout}
use Rattle.statement_laws.specs.CardLaws.{ByItselfIsSound, MergedIsSound, MergedKeepsName}
use Rattle.statement_laws.specs.Ranges.{CodesName, IsSoundClass, IsSoundDd, IsSoundKey, IsSoundLabel, IsSoundSpace, IsSoundVolume, IsSoundWord}

-- one keyword
overridden_is : {A : Type 0} (Q : Coded A → Type 0) → Q NotGiven → (there over : Coded A) → Q there → Q over → Q (overridden there over)
overridden_is Q not_given there NotGiven is other = is
overridden_is Q not_given there Nullified is other = not_given
overridden_is Q not_given there (Value a) is other = other

settled_is : {A : Type 0} (Q : Coded A → Type 0) → Q NotGiven → (there : Coded A) → Q there → Q (settled there)
settled_is Q not_given there is = overridden_is Q not_given NotGiven there not_given is

word_is : (named : Bool) (word : Option Word) → IsSoundWord word → IsSoundWord (without_dummy named word)
word_is true None is = tt
word_is true (Some Dummy) is = tt
word_is true (Some (Cards cards)) is = is
word_is false word is = is

class_is : (named : Bool) (class : Coded ℕ) → IsSoundClass class → IsSoundClass (without_sysout named class)
class_is true class is = tt
class_is false class is = is

pub by_itself_is_sound : ByItselfIsSound
by_itself_is_sound dd is = record {
  name = is.name;
  word = is.word;
  set_name = settled_is (CodesName IsSoundKey) tt dd.set_name is.set_name;
  volume = settled_is IsSoundVolume tt dd.volume is.volume;
  space = settled_is IsSoundSpace tt dd.space is.space;
  label = settled_is IsSoundLabel tt dd.label is.label;
  class = settled_is IsSoundClass tt dd.sysout is.class;
}

-- the whole DD is replaced, but for its name
named_is : (dd override : DdCard) → IsSoundDd dd → IsSoundDd override → IsSoundDd (record (by_itself override) { name = dd.name })
named_is dd override is other =
    let itself = by_itself_is_sound override other in
    record { name = is.name; word = itself.word; set_name = itself.set_name; volume = itself.volume; space = itself.space; label = itself.label; class = itself.class }

both_are : (dd override : DdCard) → IsSoundDd dd → IsSoundDd override → IsSoundDd (keyword_by_keyword dd override)
both_are dd override is other = record {
  name = is.name;
  word = word_is (is_given override.set_name) dd.word is.word;
  set_name = overridden_is (CodesName IsSoundKey) tt dd.set_name override.set_name is.set_name other.set_name;
  volume = overridden_is IsSoundVolume tt dd.volume override.volume is.volume other.volume;
  space = overridden_is IsSoundSpace tt dd.space override.space is.space other.space;
  label = overridden_is IsSoundLabel tt dd.label override.label is.label other.label;
  class = class_is (is_given override.set_name) (overridden dd.sysout override.sysout)
      (overridden_is IsSoundClass tt dd.sysout override.sysout is.class other.class);
}

abbrev read_of : DdCard → DdCard → Read DdCard
read_of dd override = record { value = keyword_by_keyword dd override; faults = when (excludes (keyword_by_keyword dd override)) (P ExcludeOneAnother) }

-- what both ways of merging have
merged_by : (Q : DdCard → Type 0) (dd override : DdCard) → Q (record (by_itself override) { name = dd.name }) → Q (keyword_by_keyword dd override) →
    Q (merged dd override).value
merged_by Q dd override whole each =
    cond_both (replaces override) (good (record (by_itself override) { name = dd.name })) (read_of dd override) (λ r. Q r.value) (λ is. whole) (λ is. each)

pub merged_is_sound : MergedIsSound
merged_is_sound dd override is other = merged_by IsSoundDd dd override (named_is dd override is other) (both_are dd override is other)

pub merged_keeps_name : MergedKeepsName
merged_keeps_name dd override = merged_by (λ card. card.name ≡ dd.name) dd override refl refl
