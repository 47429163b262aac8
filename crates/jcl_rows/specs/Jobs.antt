-- Decks, with procedures of a library and names of units: what `job_of` is given. (jcl_job)
use Rattle.std.specs.Prelude.{ℕ, zero, suc, ◌==◌, ◌++◌, ◌∷◌, [], List, codes, Option, Some, None, Result, Ok, Err}
use Prim.Native.String.{String}
use Rattle.std.specs.List.{slice_split}
use Rattle.jcl_plan.specs.declared.fault.Cause.{Cause}
use Rattle.jcl_plan.specs.declared.plan.JobPlan.{JobPlan}
use Rattle.proc_library.specs.declared.library.LibraryProcedure.{LibraryProcedure}
use Rattle.jcl_job.specs.Jobs.{job_of}

-- the lines of a text
abbrev pub cards : String → List (List ℕ)
cards text = slice_split (λ c. c == 10) (codes text)

abbrev pub procedure : List ℕ → String → LibraryProcedure
procedure name text = record { name = name; lines = cards text }

-- the procedures of the library
abbrev pub library : List LibraryProcedure
library = procedure (codes "P") "//P PROC N=IEFBR14\n//A EXEC PGM=&N\n//O DD SYSOUT=&C"
    ∷ procedure (codes "TWO") "//A EXEC PGM=X\n//D DD SYSOUT=A\n//B EXEC PGM=Y,COND=(0,EQ,A)\n//E DD DUMMY"
    ∷ procedure (codes "CALLS") "//A EXEC P"
    ∷ procedure (codes "LATE") "//A EXEC PGM=X,PARM='Y"
    ∷ procedure (codes "DATA") "//A EXEC PGM=X\n//I DD *"
    ∷ procedure (codes "EMPTY") "//EMPTY PROC"
    ∷ procedure (codes "JOBBED") "//A EXEC PGM=X\n//K JOB 1"
    ∷ procedure (codes "ENDED") "//A EXEC PGM=X\n// PEND"
    ∷ procedure (codes "EARLY") "//D DD DUMMY\n//A EXEC PGM=X" ∷ []

-- the names of units
abbrev pub units : List (List ℕ)
units = codes "DISK" ∷ codes "SYSDA" ∷ []

-- the job of a deck that begins with a plain JOB statement, or its first refusal; `job_of` of jcl_job answers this
abbrev pub job : List (List ℕ) → Result JobPlan Cause
job lines = job_of units library (codes "//J JOB 1" ∷ lines)

-- the refusal of such a deck, where it is refused
abbrev pub refusal : List (List ℕ) → Option Cause
refusal lines = refused (job lines)
  where
    refused : Result JobPlan Cause → Option Cause
    refused (Ok plan) = None
    refused (Err cause) = Some cause

-- these lines so often
abbrev pub times : ℕ → List (List ℕ) → List (List ℕ)
times zero lines = []
times (suc n) lines = lines ++ times n lines
