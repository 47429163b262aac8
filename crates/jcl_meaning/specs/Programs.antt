-- Programs and their requests. (This profile)
use Rattle.std.specs.Prelude.{ℕ, ◌+◌, ◌*◌, Bool, true, false, not, nat_le, nat_lt, List, [], ◌∷◌, ◌++◌, length, take_while, slice_get, codes, Option, Some, None, if◌then◌else◌}
use Rattle.std.specs.List.{position}
use Rattle.std.specs.Str.{bytes_eq}
use Rattle.jcl_plan.specs.declared.outcome.Abend.TheVariants as abend
use Rattle.jcl_plan.specs.declared.outcome.Outcome.{Outcome}
use Rattle.jcl_plan.specs.declared.outcome.Outcome.TheVariants as outcome
use Rattle.jcl_plan.specs.declared.plan.DdKind.{DdKind}
use Rattle.jcl_plan.specs.declared.plan.DdKind.TheVariants.{Sysout, Dummy, Cards, Set}
use Rattle.jcl_plan.specs.declared.plan.DdPlan.{DdPlan}
use Rattle.jcl_plan.specs.declared.plan.Status.{Status}
use Rattle.jcl_plan.specs.declared.plan.Status.TheVariants.{New, Old, Shr, Mod}
use Rattle.jcl_meaning.specs.declared.program.Request.{Request}
use Rattle.jcl_meaning.specs.declared.program.Request.TheVariants.{Get, Put, End, Abend as AbendRequest}
use Rattle.jcl_meaning.specs.declared.program.SoloProgram.{SoloProgram}
use Rattle.jcl_meaning.specs.declared.program.Move.{Move}
use Rattle.jcl_meaning.specs.declared.program.Move.TheVariants.{From, To}
use Rattle.jcl_meaning.specs.declared.source.FoundRecord.{FoundRecord}
use Rattle.jcl_meaning.specs.declared.source.Source.{Source}
use Rattle.jcl_meaning.specs.declared.state.DdState.{DdState}
use Rattle.jcl_meaning.specs.declared.state.TakenSet.{TakenSet}
use Rattle.jcl_meaning.specs.declared.store.DataSet.{DataSet}
use Rattle.jcl_meaning.specs.Names.{is_shr}
use Rattle.jcl_meaning.specs.Stores.{Store}
use Rattle.jcl_plan.specs.declared.plan.TheConstants.{RECORDS_A_TRACK}

-- the Gets and Puts before a program's end
abbrev pub moves_in : List Request → List Move
moves_in [] = []
moves_in (Get dd ∷ requests) = From dd ∷ moves_in requests
moves_in (Put dd text ∷ requests) = To dd text ∷ moves_in requests
moves_in (End code ∷ requests) = []
moves_in (AbendRequest code ∷ requests) = []

-- and its end: without one, code 0
abbrev pub ending_in : List Request → Outcome
ending_in [] = outcome.Code 0
ending_in (Get dd ∷ requests) = ending_in requests
ending_in (Put dd text ∷ requests) = ending_in requests
ending_in (End code ∷ requests) = outcome.Code code
ending_in (AbendRequest code ∷ requests) = outcome.Abend (abend.User code)

-- the first program of a name
abbrev pub program_of : List SoloProgram → List ℕ → Option (List Request)
program_of [] name = None
program_of (p ∷ ps) name = if bytes_eq p.name name then Some p.requests else program_of ps name

-- IEFBR14 ends at once with code 0; a program that is not there is S806
abbrev pub is_iefbr14 : List ℕ → Bool
is_iefbr14 name = bytes_eq name (codes "IEFBR14")

abbrev pub moves_by : Option (List Request) → List Move
moves_by None = []
moves_by (Some requests) = moves_in requests

abbrev pub ending_by : Option (List Request) → Outcome
ending_by None = outcome.Abend abend.S806
ending_by (Some requests) = ending_in requests

abbrev pub moves_of : List SoloProgram → List ℕ → List Move
moves_of programs name = if is_iefbr14 name then [] else moves_by (program_of programs name)

abbrev pub ending_of : List SoloProgram → List ℕ → Outcome
ending_of programs name = if is_iefbr14 name then outcome.Code 0 else ending_by (program_of programs name)

-- a request goes to the first DD of its name
abbrev pub is_named : List ℕ → DdPlan → Bool
is_named name dd = named_by dd.name name
  where
    named_by : Option (List ℕ) → List ℕ → Bool
    named_by None name = false
    named_by (Some own) name = bytes_eq own name

abbrev pub dd_of : List DdPlan → List ℕ → Option ℕ
dd_of dds name = position (is_named name) dds

-- the DDs behind a DD that continue its concatenation
abbrev pub is_continued : Option (List ℕ) → Bool
is_continued None = true
is_continued (Some name) = false

abbrev pub continuing : List DdPlan → List DdPlan
continuing dds = take_while (λ dd. is_continued dd.name) dds

-- a DD and those that continue its concatenation
abbrev pub members_at : List DdPlan → List DdPlan
members_at [] = []
members_at (dd ∷ dds) = dd ∷ continuing dds

abbrev pub is_concatenated : List DdPlan → Bool
is_concatenated [] = false
is_concatenated (dd ∷ dds) = nat_lt 0 (length (continuing dds))

-- what a member of a concatenation has to read: cards and sets have records and are read past; DUMMY and SYSOUT have none and are not
abbrev pub records_of : Option DataSet → List (List ℕ)
records_of None = []
records_of (Some set) = set.records

abbrev pub set_source : Store → Option TakenSet → Source
set_source s None = record { records = []; read_past = false; serial = None }
set_source s (Some t) = record { records = records_of (s.set t.key t.serial); read_past = true; serial = Some t.serial }

abbrev pub no_source : Source
no_source = record { records = []; read_past = false; serial = None }

abbrev pub taken_by : Option DdState → Option TakenSet
taken_by None = None
taken_by (Some d) = d.taken

abbrev pub taken_at : List DdState → ℕ → Option TakenSet
taken_at states n = taken_by (slice_get states n)

-- the members from a DD on, which is the n-th of its step, from 0
abbrev pub source_of : Store → DdKind → Option TakenSet → Source
source_of s (Sysout class) t = no_source
source_of s Dummy t = no_source
source_of s (Cards cards) t = record { records = cards; read_past = true; serial = None }
source_of s (Set p) t = set_source s t

abbrev pub sources_from : Store → List DdPlan → List DdState → ℕ → List Source
sources_from s [] states n = []
sources_from s (dd ∷ dds) states n = source_of s dd.kind (taken_at states n) ∷ sources_from s dds states (n + 1)

abbrev pub at_source : Source → ℕ → ℕ → FoundRecord
at_source x member position = record { member = member; position = position; text = slice_get x.records position; serial = x.serial }

-- a member whose end is met is left for the next, but not the last, nor one that is not read past
abbrev pub located : List Source → ℕ → ℕ → FoundRecord
located [] member position = record { member = member; position = position; text = None; serial = None }
located (x ∷ []) member position = at_source x member position
located (x ∷ y ∷ rest) member position =
    if nat_lt position (length x.records) then at_source x member position
    else (if x.read_past then located (y ∷ rest) (member + 1) 0 else at_source x member position)

-- a record may not be put to SHR, to cards or to a concatenation of several
abbrev pub is_read_only : DdKind → Bool
is_read_only (Sysout class) = false
is_read_only Dummy = false
is_read_only (Cards cards) = true
is_read_only (Set p) = is_shr p.status

-- the first PUT by a DD with NEW or OLD empties its set
abbrev pub empties : Status → Bool → Bool
empties New written = not written
empties Old written = not written
empties Shr written = false
empties Mod written = false

abbrev pub nothing_there : DataSet
nothing_there = record { tracks = 0; expires = None; records = [] }

abbrev pub or_nothing : Option DataSet → DataSet
or_nothing None = nothing_there
or_nothing (Some set) = set

abbrev pub emptied : Bool → DataSet → DataSet
emptied true set = record { tracks = set.tracks; expires = set.expires; records = [] }
emptied false set = set

abbrev pub is_full : DataSet → Bool
is_full set = nat_le (RECORDS_A_TRACK * set.tracks) (length set.records)

abbrev pub grown_by : ℕ → DataSet → DataSet
grown_by tracks set = record { tracks = set.tracks + tracks; expires = set.expires; records = set.records }

abbrev pub appended : List ℕ → DataSet → DataSet
appended text set = record { tracks = set.tracks; expires = set.expires; records = set.records ++ text ∷ [] }
