-- How a program ends that runs no session, and what it says.
use Rattle.std.specs.Prelude.{◌≡◌, ℕ, Bool, true, false, List, [], ◌++◌, codes, Option}
use Rattle.std.specs.Bool.{OnTrue}
use Rattle.std.specs.Io.KnownBytes.{Appends}
use Rattle.std.specs.declared.io.ErrorKind.{ErrorKind as IoKind}
use Rattle.std.specs.declared.io.ErrorKind.TheVariants.{OutOfMemory as HasNoMemory}
use Rattle.clap.specs.Words.{Text}
use Rattle.clap.specs.declared.error.kind.ErrorKind.{ErrorKind}
use Rattle.clap.specs.declared.error.kind.ErrorKind.TheVariants.{DisplayHelp, DisplayVersion, OutOfMemory as WantsMemory}
use Rattle.command_line.specs.declared.ended.Ended.{Ended}

-- the status of a command line that is not taken
abbrev pub misuse_status : ErrorKind → ℕ
misuse_status WantsMemory = 3
misuse_status _ = 2

abbrev pub said_of_memory : List ℕ
said_of_memory = codes "out of memory\n"

-- Nothing was run, for an error of this kind. What is said of a command line is the text of that error, of which nothing is claimed.
pub record EndsUnrun (kind : ErrorKind) (errors errors_after : Option (List ℕ)) (answer : Ended) : Type 0 where
  pub status : answer.status ≡ misuse_status kind
  pub said : kind ≡ WantsMemory → OnTrue answer.said (Appends errors errors_after said_of_memory)

-- the command line asks for help, or for the version, in place of a run
abbrev pub is_asked : ErrorKind → Bool
is_asked DisplayHelp = true
is_asked DisplayVersion = true
is_asked _ = false

-- What is asked for is written on the output and nothing on the errors, or the other way round.
abbrev pub EndsByKind : Bool → ErrorKind → Option (List ℕ) → Option (List ℕ) → Option (List ℕ) → Option (List ℕ) → Ended → Type 0
EndsByKind true kind output output_after errors errors_after answer = (answer.status ≡ 0) × (errors_after ≡ errors)
EndsByKind false kind output output_after errors errors_after answer = EndsUnrun kind errors errors_after answer × (output_after ≡ output)

abbrev pub EndsAsked : ErrorKind → Option (List ℕ) → Option (List ℕ) → Option (List ℕ) → Option (List ℕ) → Ended → Type 0
EndsAsked kind = EndsByKind (is_asked kind) kind

-- so where the words of the command line could not be had
abbrev pub unread_status : IoKind → ℕ
unread_status HasNoMemory = 3
unread_status _ = 2

pub record EndsUnread (kind : IoKind) (errors errors_after : Option (List ℕ)) (answer : Ended) : Type 0 where
  pub status : answer.status ≡ unread_status kind
  pub said : kind ≡ HasNoMemory → OnTrue answer.said (Appends errors errors_after said_of_memory)

-- what the program of this name says before it reads a session from a terminal
abbrev pub prompt_of : Text → Bool → List ℕ
prompt_of name true = name ++ codes " reads a session from standard input: " ++ name ++ codes " < SESSION\n"
prompt_of name false = []
