-- What the words of a plan mean on a set. (GC28-6704, DISP parameter; on temporary sets this profile)
use Rattle.std.specs.Prelude.{Bool, true, false, Option, Some, None}
use Rattle.jcl_plan.specs.declared.plan.ConditionalWord.{ConditionalWord}
use Rattle.jcl_plan.specs.declared.plan.ConditionalWord.TheVariants as conditional
use Rattle.jcl_plan.specs.declared.plan.DdKind.{DdKind}
use Rattle.jcl_plan.specs.declared.plan.DdKind.TheVariants.{Sysout, Dummy, Cards, Set}
use Rattle.jcl_plan.specs.declared.plan.Word.{Word}
use Rattle.jcl_plan.specs.declared.plan.Word.TheVariants as word
use Rattle.jcl_meaning.specs.Names.{is_temporary}

-- KEEP and CATLG on a temporary set mean to pass it, as the normal word
abbrev pub normal_meaning : Bool → Option Word → Option Word
normal_meaning true (Some word.Keep) = Some word.Pass
normal_meaning true (Some word.Catlg) = Some word.Pass
normal_meaning temporary normal = normal

abbrev pub as_word : ConditionalWord → Word
as_word conditional.Delete = word.Delete
as_word conditional.Keep = word.Keep
as_word conditional.Catlg = word.Catlg
as_word conditional.Uncatlg = word.Uncatlg

-- and to delete it as the conditional one; other words mean what they say, and where none is coded the normal word is done
abbrev pub conditional_meaning : Bool → Option ConditionalWord → Option Word
conditional_meaning true (Some conditional.Keep) = Some word.Delete
conditional_meaning true (Some conditional.Catlg) = Some word.Delete
conditional_meaning temporary (Some w) = Some (as_word w)
conditional_meaning temporary None = None

-- what stands where no word is coded
abbrev pub omitted : Bool → Word
omitted true = word.Delete
omitted false = word.Keep

abbrev pub or_omitted : Option Word → Bool → Word
or_omitted None made = omitted made
or_omitted (Some w) made = w

-- the word that is done at the end of a step: after its ABEND the conditional word, if coded
abbrev pub word_done : Option Word → Option Word → Bool → Bool → Word
word_done normal (Some w) true made = w
word_done normal None true made = or_omitted normal made
word_done normal conditional false made = or_omitted normal made

-- the normal word is or means PASS
abbrev pub is_pass : Option Word → Bool
is_pass None = false
is_pass (Some word.Delete) = false
is_pass (Some word.Keep) = false
is_pass (Some word.Pass) = true
is_pass (Some word.Catlg) = false
is_pass (Some word.Uncatlg) = false

abbrev pub passes : DdKind → Bool
passes (Sysout class) = false
passes Dummy = false
passes (Cards cards) = false
passes (Set p) = is_pass (normal_meaning (is_temporary p.key) p.normal)
