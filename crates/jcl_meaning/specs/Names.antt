-- The names that a job holds, and jobs that may run together. (This profile's rule)
use Rattle.std.specs.Prelude.{◌≡◌, ℕ, Bool, true, false, not, ◌&&◌, ◌||◌, ◌==◌, List, [], ◌∷◌, ◌++◌, All, IsTrue, Option, Some, None, if◌then◌else◌, slice_index_or}
use Rattle.std.specs.List.{list_all, flat_map}
use Rattle.std.specs.Str.{bytes_eq}
use Rattle.std.specs.Ordering.{nat_cmp}
use Rattle.std.specs.Cmp.Lexicographic.{slice_cmp}
use Rattle.std.specs.declared.cmp.Ordering.{Ordering}
use Rattle.std.specs.declared.cmp.Ordering.TheVariants.{Less, Equal, Greater}
use Rattle.jname_core.specs.declared.key.Key.{Key}
use Rattle.jname_core.specs.declared.key.Key.TheVariants.{Named, Relative, Temporary, Unnamed}
use Rattle.jname_core.specs.declared.key.Sign.{Sign}
use Rattle.jname_core.specs.declared.key.Sign.TheVariants.{Plus, Minus}
use Rattle.jname_core.specs.Generations.{base_of}
use Rattle.jcl_plan.specs.declared.plan.ConditionalWord.{ConditionalWord}
use Rattle.jcl_plan.specs.declared.plan.ConditionalWord.TheVariants as conditional
use Rattle.jcl_plan.specs.declared.plan.DdKind.{DdKind}
use Rattle.jcl_plan.specs.declared.plan.DdKind.TheVariants.{Sysout, Dummy, Cards, Set}
use Rattle.jcl_plan.specs.declared.plan.JobPlan.{JobPlan}
use Rattle.jcl_plan.specs.declared.plan.SetPlan.{SetPlan}
use Rattle.jcl_plan.specs.declared.plan.Status.{Status}
use Rattle.jcl_plan.specs.declared.plan.Status.TheVariants.{New, Old, Shr, Mod}
use Rattle.jcl_plan.specs.declared.plan.StepPlan.{StepPlan}
use Rattle.jcl_plan.specs.declared.plan.VolumePlan.{VolumePlan}
use Rattle.jcl_plan.specs.declared.plan.VolumePlan.TheVariants.{NotCoded, Serial, OfName, OfDd}
use Rattle.jcl_plan.specs.declared.plan.Word.{Word}
use Rattle.jcl_plan.specs.declared.plan.Word.TheVariants as word
use Rattle.jcl_meaning.specs.declared.names.HeldName.{HeldName}

abbrev pub same_sign : Sign → Sign → Bool
same_sign Plus Plus = true
same_sign Minus Minus = true
same_sign Plus Minus = false
same_sign Minus Plus = false

-- keys of one set
abbrev pub same_key : Key → Key → Bool
same_key (Named a) (Named b) = bytes_eq a b
same_key (Relative a s n) (Relative b t m) = bytes_eq a b && (same_sign s t && n == m)
same_key (Temporary a) (Temporary b) = bytes_eq a b
same_key (Unnamed s d) (Unnamed t e) = s == t && d == e
same_key _ _ = false

-- a set of the job alone, which has no name that is held
abbrev pub is_temporary : Key → Bool
is_temporary (Named name) = false
is_temporary (Relative base sign amount) = false
is_temporary (Temporary name) = true
is_temporary (Unnamed step dd) = true

-- the name under which a key is held: a generation's base, and else its own
abbrev pub held_under : Key → Option (List ℕ)
held_under (Named name) = Some (base_of name)
held_under (Relative base sign amount) = Some base
held_under (Temporary name) = None
held_under (Unnamed step dd) = None

-- words that change what others see
abbrev pub changes : Option Word → Bool
changes None = false
changes (Some word.Delete) = true
changes (Some word.Keep) = false
changes (Some word.Pass) = false
changes (Some word.Catlg) = true
changes (Some word.Uncatlg) = true

abbrev pub changes_after_abend : Option ConditionalWord → Bool
changes_after_abend None = false
changes_after_abend (Some conditional.Delete) = true
changes_after_abend (Some conditional.Keep) = false
changes_after_abend (Some conditional.Catlg) = true
changes_after_abend (Some conditional.Uncatlg) = true

abbrev pub is_shr : Status → Bool
is_shr New = false
is_shr Old = false
is_shr Shr = true
is_shr Mod = false

-- a DD wants its set alone unless it is SHR and has none of those words
abbrev pub wants_alone : SetPlan → Bool
wants_alone p = not (is_shr p.status) || (changes p.normal || changes_after_abend p.conditional)

abbrev pub held : List ℕ → Bool → HeldName
held name exclusive = record { name = name; exclusive = exclusive }

abbrev pub set_names : Option (List ℕ) → Bool → List HeldName
set_names None exclusive = []
set_names (Some name) exclusive = held name exclusive ∷ []

-- a name in VOL=REF is held shared
abbrev pub volume_names : VolumePlan → List HeldName
volume_names NotCoded = []
volume_names (Serial serial) = []
volume_names (OfName name) = held (base_of name) false ∷ []
volume_names (OfDd step dd) = []

abbrev pub dd_names : DdKind → List HeldName
dd_names (Sysout class) = []
dd_names Dummy = []
dd_names (Cards cards) = []
dd_names (Set p) = set_names (held_under p.key) (wants_alone p) ++ volume_names p.volume

-- every name that the job's DDs want, in their order
abbrev pub wanted_by : List StepPlan → List HeldName
wanted_by steps = flat_map (λ step. flat_map (λ dd. dd_names dd.kind) step.dds) steps

-- a name in its place, in byte order; it is shared where all its DDs share it
abbrev pub entered_at : Ordering → HeldName → HeldName → List HeldName → List HeldName → List HeldName
entered_at Less h there rest more = h ∷ there ∷ rest
entered_at Equal h there rest more = held there.name (there.exclusive || h.exclusive) ∷ rest
entered_at Greater h there rest more = there ∷ more

abbrev pub with_name : List HeldName → HeldName → List HeldName
with_name [] h = h ∷ []
with_name (there ∷ rest) h = entered_at (slice_cmp nat_cmp h.name there.name) h there rest (with_name rest h)

abbrev pub with_names : List HeldName → List HeldName → List HeldName
with_names names [] = names
with_names names (h ∷ hs) = with_names (with_name names h) hs

-- a name of a list, asked for once more
abbrev pub asked_again : List HeldName → ℕ → HeldName → HeldName
asked_again names i wanted = held (slice_index_or names i wanted).name ((slice_index_or names i wanted).exclusive || wanted.exclusive)

-- a name stands before another in byte order
abbrev pub IsBefore : List ℕ → List ℕ → Type 0
IsBefore name other = slice_cmp nat_cmp name other ≡ Less

-- names in byte order, each once
abbrev pub AreSorted : List HeldName → Type 0
AreSorted [] = Unit {0}
AreSorted (h ∷ names) = All (λ other. IsBefore h.name other.name) names × AreSorted names

-- the names of a job, each once, in byte order
abbrev pub names_of : JobPlan → List HeldName
names_of plan = with_names [] (wanted_by plan.steps)

-- each name of both jobs is shared in both
abbrev pub agree : HeldName → HeldName → Bool
agree a b = if bytes_eq a.name b.name then not (a.exclusive || b.exclusive) else true

abbrev pub IsCompatible : JobPlan → JobPlan → Type 0
IsCompatible plan other = IsTrue (list_all (λ a. list_all (agree a) (names_of other)) (names_of plan))
