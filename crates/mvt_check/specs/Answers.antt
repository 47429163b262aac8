-- What is kept of the lines that a machine writes: which jobs decks became, and what admission answers them. (This profile)
use Rattle.std.specs.Prelude.{◌≡◌, ℕ, Bool, true, false, List, [], ◌∷◌, Option, Some, None, fold, nat_eq, option_map, slice_index_or, if◌then◌else◌}
use Rattle.std.specs.List.{flat_map}
use Rattle.jcl_plan.specs.declared.entry.Entry.{Entry}
use Rattle.jcl_plan.specs.declared.entry.Entry.TheVariants as entry
use Rattle.jcl_plan.specs.declared.entry.JobLine.{JobLine}
use Rattle.jcl_plan.specs.declared.entry.JobLine.TheVariants as line
use Rattle.mvt_check.specs.declared.answers.answer.Answer.{Answer}
use Rattle.mvt_check.specs.declared.answers.answer.Answer.TheVariants.{Assured, Risk, SpaceWait, TooMany}
use Rattle.mvt_check.specs.declared.answers.answer.DeckRead.{DeckRead}

-- a line of a job that a deck became, also where the deck was refused
abbrev pub has_number : JobLine → Bool
has_number (line.Read name class priority) = true
has_number (line.Rejected cause) = true
has_number other = false

-- a line that answers an admission, and the answer, with the lines that explain it
abbrev pub is_answer : JobLine → Bool
is_answer (line.Assured tracks actions) = true
is_answer (line.Risk fault step dd path) = true
is_answer (line.TooMany step) = true
is_answer (line.WaitSpace serial) = true
is_answer other = false

abbrev pub answer_by : List JobLine → JobLine → Option Answer
answer_by path (line.Assured tracks actions) = Some (Assured tracks actions)
answer_by path (line.Risk fault step dd outcomes) = Some (Risk fault step dd outcomes path)
answer_by path (line.TooMany step) = Some (TooMany step)
answer_by path (line.WaitSpace serial) = Some (SpaceWait serial)
answer_by path other = None

-- the last of such lines, of the lines of an event
abbrev pub number_behind : Option ℕ → Entry → Option ℕ
number_behind before (entry.Job job l) = if has_number l then Some job else before
number_behind before other = before

abbrev pub answer_behind : Option (ℕ × JobLine) → Entry → Option (ℕ × JobLine)
answer_behind before (entry.Job job l) = if is_answer l then Some (job, l) else before
answer_behind before other = before

-- the lines that explain a risk
abbrev pub path_of : Entry → List JobLine
path_of (entry.Path job l) = l ∷ []
path_of other = []

abbrev pub path_in : List Entry → List JobLine
path_in lines = flat_map path_of lines

-- the number that lines of an event tell
abbrev pub number_in : List Entry → Option ℕ
number_in lines = fold number_behind None lines

-- the first number that events tell
abbrev pub first_of : Option ℕ → Option ℕ → Option ℕ
first_of (Some number) later = Some number
first_of None later = later

abbrev pub first_number : List (List Entry) → Option ℕ
first_number [] = None
first_number (lines ∷ more) = first_of (number_in lines) (first_number more)

-- the job that lines of an event answer, and what
abbrev pub answered_by : List JobLine → Option (ℕ × JobLine) → Option (ℕ × Answer)
answered_by path None = None
answered_by path (Some (job, l)) = option_map (λ answer. (job, answer)) (answer_by path l)

abbrev pub answered_in : List Entry → Option (ℕ × Answer)
answered_in lines = answered_by (path_in lines) (fold answer_behind None lines)

-- what a job is answered last, where it was answered so before
abbrev pub answer_for : ℕ → Option Answer → Option (ℕ × Answer) → Option Answer
answer_for job before None = before
answer_for job before (Some (other, answer)) = if nat_eq other job then Some answer else before

abbrev pub last_answer : ℕ → List (List Entry) → Option Answer
last_answer job entries = fold (λ before lines. answer_for job before (answered_in lines)) None entries

-- each job has what it was answered last, where one of them is answered this
abbrev pub AreNoted : Option (ℕ × Answer) → List (Option Answer) → List (Option Answer) → Type 0
AreNoted told old new = (job : ℕ) → slice_index_or new job None ≡ answer_for job (slice_index_or old job None) told

-- each job has what these events answered it last
abbrev pub AreKept : List (List Entry) → List (Option Answer) → Type 0
AreKept entries answers = (job : ℕ) → slice_index_or answers job None ≡ last_answer job entries

abbrev pub statement_of : DeckRead → ℕ
statement_of deck = deck.statement
