-- At which card of a deck it is told what admission answers its job. (This profile)
use Rattle.std.specs.Prelude.{◌≡◌, ℕ, ◌+◌, List, ◌++◌, Option, Some, None, slice_index_or, unwrap_or, ◌∷◌}
use Rattle.jcl_plan.specs.declared.plan.JobPlan.{JobPlan}
use Rattle.check_core.specs.declared.report.Checked.{Checked}
use Rattle.check_core.specs.declared.report.Checked.TheVariants.{Refused, Taken}
use Rattle.deck_places.specs.Stands.{Stood, card_of_dd, card_of_step, stood_in, stood_with}
use Rattle.proc_library.specs.declared.library.LibraryProcedure.{LibraryProcedure}
use Rattle.mvt_check.specs.declared.answers.answer.Answer.{Answer}
use Rattle.mvt_check.specs.declared.answers.answer.Answer.TheVariants.{Assured, Risk, SpaceWait, TooMany}
use Rattle.mvt_check.specs.declared.answers.answer.Answers.{Answers}
use Rattle.mvt_check.specs.declared.answers.answer.DeckRead.{DeckRead}
use Rattle.mvt_check.specs.declared.asides.Aside.{Aside}
use Rattle.mvt_check.specs.declared.asides.Taken as deck
use Rattle.mvt_check.specs.declared.session.Looked.{Looked}
use Rattle.mvt_check.specs.Words.{beginning}

-- what the job of a deck was answered last
abbrev pub answer_to : Answers → Option ℕ → Option Answer
answer_to answers None = None
answer_to answers (Some job) = slice_index_or answers.by_job.items job None

-- a job that may fail is told of at the card of the DD that meets the fault, one that has too many paths at that of the step behind which there are
abbrev pub card_told : Stood → Option Answer → Option ℕ
card_told s (Some (Risk fault step dd path lines)) = card_of_dd s step dd
card_told s (Some (TooMany step)) = card_of_step s step
card_told s (Some (Assured tracks actions)) = None
card_told s (Some (SpaceWait serial)) = None
card_told s None = None

-- the line of a card, of a deck whose first card stands on this line; of no card that of the first
abbrev pub line_at : ℕ → Option ℕ → ℕ
line_at first card = first + unwrap_or card 0

-- what is said of an answer begins with the line of its card
abbrev pub answer_head : ℕ → Stood → JobPlan → Answers → DeckRead → List ℕ
answer_head first s plan answers deck =
    beginning (line_at first (card_told s (answer_to answers deck.job))) deck.job plan.name (answer_to answers deck.job)

-- a text begins with words
abbrev pub BeginsWith : List ℕ → List ℕ → Type 0
BeginsWith words text = (behind : List ℕ) × (text ≡ words ++ behind)

-- words are among those of a text
pub record IsAmong (words text : List ℕ) : Type 0 where
  pub before : List ℕ
  pub behind : List ℕ
  pub so : text ≡ before ++ words ++ behind

-- the texts of asides are among those of a text
abbrev pub HasAside : List ℕ → Aside → Type 0
HasAside text aside = IsAmong aside.text.items text

-- one of them is this
pub record IsPutAmong (aside : Aside) (asides : List Aside) : Type 0 where
  pub front : List Aside
  pub back : List Aside
  pub so : asides ≡ front ++ aside ∷ back

-- one of them begins with words
pub record OneBegins (words : List ℕ) (asides : List Aside) : Type 0 where
  pub aside : Aside
  pub there : IsPutAmong aside asides
  pub begins : BeginsWith words aside.text.items

-- where the steps and DDs of a deck stand that denotes a job, and how what is said of its job's answer begins
abbrev pub stood_of : deck.Taken → Stood
stood_of d = stood_with d.lines.now d.origins.now

abbrev pub head_of : deck.Taken → Answers → DeckRead → List ℕ
head_of d answers read = answer_head d.first (stood_of d) d.plan.now answers read

abbrev pub OneAnswers : deck.Taken → Answers → Option DeckRead → List Aside → Type 0
OneAnswers d answers None asides = Unit {0}
OneAnswers d answers (Some read) asides = OneBegins (head_of d answers read) asides

-- among what is told of the job of a deck that is read is what it is answered, at its card
abbrev pub TellsAnswer : ℕ → Stood → JobPlan → Answers → Option DeckRead → List ℕ → Type 0
TellsAnswer first s plan answers None text = Unit {0}
TellsAnswer first s plan answers (Some deck) text = IsAmong (answer_head first s plan answers deck) text

abbrev pub TellsTaken : deck.Taken → Answers → Option DeckRead → List ℕ → Type 0
TellsTaken d answers read text = TellsAnswer d.first (stood_of d) d.plan.now answers read text

abbrev pub TellsChecked : ℕ → Stood → Checked → Answers → Option DeckRead → List ℕ → Type 0
TellsChecked first s (Taken plan origins) answers deck text = TellsAnswer first s plan answers deck text
TellsChecked first s (Refused report later) answers deck text = Unit {0}

abbrev pub TellsLooked : Looked → Answers → Option DeckRead → List ℕ → Type 0
TellsLooked found answers deck text = TellsChecked found.first (stood_in found.library.now found.lines.now) found.checked.now answers deck text

-- where the steps of the job of a deck come from is known, if it denotes one
abbrev pub KnowsOrigins : List LibraryProcedure → List (List ℕ) → Checked → Type 0
KnowsOrigins library lines (Taken plan origins) = stood_in library lines ≡ stood_with lines origins.items
KnowsOrigins library lines (Refused report later) = Unit {0}

abbrev pub HasOrigins : Looked → Type 0
HasOrigins found = KnowsOrigins found.library.now found.lines.now found.checked.now
