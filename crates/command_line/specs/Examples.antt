-- Command lines, and what they ask for.
use Rattle.std.specs.Prelude.{◌≡◌, false, true, List, [], ◌∷◌, codes, map, Option, Some}
use Rattle.clap.specs.Words.{App, Kinds, Text}
use Rattle.clap.specs.declared.error.kind.ErrorKind.{ErrorKind}
use Rattle.clap.specs.declared.error.kind.ErrorKind.TheVariants as kind
use Rattle.run_options.specs.declared.Options.{Options}
use Rattle.run_options.specs.declared.RiskChoice.TheVariants as risk
use Rattle.command_line.specs.CommandLines.{given_of, kinds_of, options_of}

-- words behind the program's name, and the options that they ask for
abbrev pub taken : List (List Text × Options)
taken =
    ([], record { risk = risk.Run; views = 1024; explains = false })
    ∷ (codes "--risk" ∷ codes "run" ∷ [], record { risk = risk.Run; views = 1024; explains = false })
    ∷ (codes "--risk" ∷ codes "refuse" ∷ [], record { risk = risk.Refuse; views = 1024; explains = false })
    ∷ (codes "--risk=refuse" ∷ codes "--views=1" ∷ [], record { risk = risk.Refuse; views = 1; explains = false })
    ∷ (codes "--views=1" ∷ codes "--risk=run" ∷ [], record { risk = risk.Run; views = 1; explains = false })
    ∷ (codes "--views" ∷ codes "1024" ∷ [], record { risk = risk.Run; views = 1024; explains = false })
    ∷ (codes "--views" ∷ codes "01" ∷ [], record { risk = risk.Run; views = 1; explains = false })
    ∷ (codes "--views" ∷ codes "17" ∷ [], record { risk = risk.Run; views = 17; explains = false })
    ∷ (codes "--views" ∷ codes "17" ∷ codes "--risk" ∷ codes "run" ∷ [], record { risk = risk.Run; views = 17; explains = false })
    ∷ (codes "--explain" ∷ [], record { risk = risk.Run; views = 1024; explains = true })
    ∷ (codes "--explain" ∷ codes "--risk" ∷ codes "run" ∷ [], record { risk = risk.Run; views = 1024; explains = true })
    ∷ (codes "--views=1024" ∷ codes "--explain" ∷ [], record { risk = risk.Run; views = 1024; explains = true })
    ∷ []

-- words that are not taken, and the kind of what is told of them
abbrev pub refused : List (List Text × ErrorKind)
refused =
    (codes "--help" ∷ [], kind.DisplayHelp)
    ∷ (codes "-h" ∷ [], kind.DisplayHelp)
    ∷ (codes "--version" ∷ [], kind.DisplayVersion)
    ∷ (codes "-V" ∷ [], kind.DisplayVersion)
    ∷ (codes "--views" ∷ codes "0" ∷ [], kind.ValueValidation)
    ∷ (codes "--views" ∷ codes "1025" ∷ [], kind.ValueValidation)
    ∷ (codes "--views" ∷ codes "70000" ∷ [], kind.ValueValidation)
    ∷ (codes "--views" ∷ codes "+1" ∷ [], kind.ValueValidation)
    ∷ (codes "--views=-1" ∷ [], kind.ValueValidation)
    ∷ (codes "--views" ∷ codes "-1" ∷ [], kind.UnknownArgument)
    ∷ (codes "--views" ∷ codes "1 " ∷ [], kind.ValueValidation)
    ∷ (codes "--views=" ∷ [], kind.ValueValidation)
    ∷ (codes "--views" ∷ codes "ten" ∷ [], kind.ValueValidation)
    ∷ (codes "--views" ∷ codes "0" ∷ codes "--help" ∷ [], kind.ValueValidation)
    ∷ (codes "--views" ∷ [], kind.InvalidValue)
    ∷ (codes "--risk" ∷ codes "stop" ∷ [], kind.InvalidValue)
    ∷ (codes "--risk" ∷ codes "RUN" ∷ codes "--help" ∷ [], kind.InvalidValue)
    ∷ (codes "--risk" ∷ [], kind.InvalidValue)
    ∷ (codes "--explain=yes" ∷ [], kind.TooManyValues)
    ∷ (codes "--explain" ∷ codes "yes" ∷ [], kind.UnknownArgument)
    ∷ (codes "--explain" ∷ codes "--explain" ∷ [], kind.ArgumentConflict)
    ∷ (codes "--risk=run" ∷ codes "--risk=run" ∷ [], kind.ArgumentConflict)
    ∷ (codes "--verbose" ∷ [], kind.UnknownArgument)
    ∷ (codes "--events" ∷ [], kind.UnknownArgument)
    ∷ (codes "session" ∷ [], kind.UnknownArgument)
    ∷ []

-- what is wrong with the words, and what they ask for
abbrev pub answer_to : App → List Text → Kinds × Option Options
answer_to program words = (kinds_of program (codes "mvt" ∷ words), options_of program (codes "mvt" ∷ words))

abbrev pub Refuses : App → List (List Text × ErrorKind) → Type 0
Refuses program rows = map (λ (row : List Text × ErrorKind). kinds_of program (codes "mvt" ∷ row.0)) rows ≡ map (λ (row : List Text × ErrorKind). row.1 ∷ []) rows

pub record AreExamples (program : App) : Type 0 where
  pub takes : map (λ (row : List Text × Options). answer_to program row.0) taken ≡ map (λ (row : List Text × Options). ([], Some row.1)) taken
  pub refuses : Refuses program refused

-- words of a program with two options of its own: the options that they ask for, and which of its own they give
abbrev pub own_taken : List (List Text × Options × List Text)
own_taken =
    ([], record { risk = risk.Run; views = 1024; explains = false }, [])
    ∷ (codes "--explain" ∷ [], record { risk = risk.Run; views = 1024; explains = true }, [])
    ∷ (codes "--events" ∷ [], record { risk = risk.Run; views = 1024; explains = false }, codes "events" ∷ [])
    ∷ (codes "--waits" ∷ codes "--views=2" ∷ [], record { risk = risk.Run; views = 2; explains = false }, codes "waits" ∷ [])
    ∷ (codes "--waits" ∷ codes "--events" ∷ [], record { risk = risk.Run; views = 1024; explains = false }, codes "events" ∷ codes "waits" ∷ [])
    ∷ (codes "--events" ∷ codes "--explain" ∷ [], record { risk = risk.Run; views = 1024; explains = true }, codes "events" ∷ [])
    ∷ []

abbrev pub own_refused : List (List Text × ErrorKind)
own_refused =
    (codes "--version" ∷ [], kind.DisplayVersion)
    ∷ (codes "--events" ∷ codes "--events" ∷ [], kind.ArgumentConflict)
    ∷ (codes "--events=all" ∷ [], kind.TooManyValues)
    ∷ (codes "--event" ∷ [], kind.UnknownArgument)
    ∷ []

abbrev pub own_flags : List Text
own_flags = codes "events" ∷ codes "waits" ∷ []

abbrev pub own_answer_to : App → List Text → (Kinds × Option Options) × List Text
own_answer_to program words = (answer_to program words, given_of program own_flags (codes "mvt" ∷ words))

pub record AreOwnExamples (program : App) : Type 0 where
  pub takes : map (λ (row : List Text × Options × List Text). own_answer_to program row.0) own_taken
      ≡ map (λ (row : List Text × Options × List Text). (([], Some row.1), row.2)) own_taken
  pub refuses : Refuses program own_refused
