-- DDNAME: a DD takes the definition of a later DD of its step, which is then no DD of its own. (GC28-6704, DDNAME parameter)
use Rattle.std.specs.Prelude.{ℕ, zero, suc, Bool, false, List, [], ◌∷◌, ◌++◌, drop, length, take_while, Option, Some, None, is_none, if◌then◌else◌}
use Rattle.std.specs.Str.{bytes_eq}
use Rattle.value_core.specs.declared.reference.DdReference.{DdReference}
use Rattle.jcl_cards.specs.declared.coded.Coded.{Coded}
use Rattle.jcl_cards.specs.declared.coded.Coded.TheVariants.{NotGiven, Nullified, Value}
use Rattle.jcl_dds.specs.declared.dd.DdCard.{DdCard}
use Rattle.jcl_dds.specs.declared.dd.Word.TheVariants.{Dummy}

abbrev pub wanted_by : Coded (List ℕ) → Option (List ℕ)
wanted_by NotGiven = None
wanted_by Nullified = None
wanted_by (Value name) = Some name

abbrev pub has_name : List ℕ → DdCard → Bool
has_name name dd = is_named dd.name
  where
    is_named : Option (List ℕ) → Bool
    is_named None = false
    is_named (Some own) = bytes_eq own name

abbrev pub has_no_name : DdCard → Bool
has_no_name dd = is_none dd.name

-- The DDs before the first of a name, that one with those that continue it, and the DDs behind.
pub record Found : Type 0 where
  pub before : List DdCard
  pub first : DdCard
  pub continued : List DdCard
  pub behind : List DdCard

abbrev pub onto_found : DdCard → Option Found → Option Found
onto_found dd None = None
onto_found dd (Some f) = Some (record f { before = dd ∷ f.before })

abbrev pub found_in : List ℕ → List DdCard → Option Found
found_in name [] = None
found_in name (dd ∷ dds) =
    if has_name name dd
    then Some (record { before = []; first = dd; continued = take_while has_no_name dds; behind = drop (length (take_while has_no_name dds)) dds })
    else onto_found dd (found_in name dds)

-- references of both
abbrev pub references_of : Coded (List DdReference) → List DdReference
references_of NotGiven = []
references_of Nullified = []
references_of (Value references) = references

-- a DD with the definition of another: it keeps its name, and its own references stand before that one's
abbrev pub defined_by : DdCard → DdCard → DdCard
defined_by dd later = record later { name = dd.name; control_blocks = Value (references_of dd.control_blocks ++ references_of later.control_blocks) }

abbrev pub as_dummy : DdCard → DdCard
as_dummy dd = record dd { word = Some Dummy; dd_name = NotGiven }

-- the first DD as it stands, and those that are looked at next
pub record Next : Type 0 where
  pub stays : List DdCard
  pub rest : List DdCard

abbrev pub next_by : DdCard → List DdCard → Option Found → Next
next_by dd dds None = record { stays = as_dummy dd ∷ []; rest = dds }
next_by dd dds (Some f) = record { stays = []; rest = defined_by dd f.first ∷ (f.continued ++ (f.before ++ f.behind)) }

abbrev pub next_of : DdCard → List DdCard → Option (List ℕ) → Next
next_of dd dds None = record { stays = dd ∷ []; rest = dds }
next_of dd dds (Some name) = next_by dd dds (found_in name dds)

-- each time one DD less is looked at
abbrev pub left_by : ℕ → List DdCard → List DdCard
left_by zero dds = dds
left_by (suc more) [] = []
left_by (suc more) (dd ∷ dds) = (next_of dd dds (wanted_by dd.dd_name)).stays ++ left_by more (next_of dd dds (wanted_by dd.dd_name)).rest

-- the DDs of a step that are left
abbrev pub dds_left : List DdCard → List DdCard
dds_left dds = left_by (length dds) dds
