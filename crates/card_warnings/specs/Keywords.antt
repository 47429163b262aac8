-- The keywords that a user may have meant. (GC28-6704, "Keyword parameters")
use Rattle.std.specs.Prelude.{ℕ, Bool, ◌||◌, ◌&&◌, List, [], ◌∷◌, codes, if◌then◌else◌}
use Rattle.std.specs.List.{list_any}
use Rattle.std.specs.Str.{bytes_eq}

abbrev pub job_keywords : List (List ℕ)
job_keywords =
    codes "CLASS" ∷ codes "PRTY" ∷ codes "MSGCLASS" ∷ codes "COND" ∷ codes "MSGLEVEL" ∷ codes "NOTIFY" ∷ codes "REGION" ∷ codes "TIME" ∷ []

abbrev pub exec_keywords : List (List ℕ)
exec_keywords = codes "PGM" ∷ codes "PROC" ∷ codes "COND" ∷ codes "PARM" ∷ codes "REGION" ∷ codes "TIME" ∷ codes "ACCT" ∷ []

abbrev pub dd_keywords : List (List ℕ)
dd_keywords =
    codes "DSNAME" ∷ codes "DSN" ∷ codes "DISP" ∷ codes "UNIT" ∷ codes "VOLUME" ∷ codes "VOL" ∷ codes "SPACE" ∷ codes "SYSOUT" ∷ codes "DDNAME"
    ∷ codes "LABEL" ∷ codes "DCB" ∷ codes "UCS" ∷ codes "FCB" ∷ codes "OUTLIM" ∷ codes "DUMMY" ∷ []

-- of JOB and of EXEC; of any other operation those of DD
abbrev pub keywords_of : List ℕ → List (List ℕ)
keywords_of operation =
    if bytes_eq operation (codes "JOB") then job_keywords else (if bytes_eq operation (codes "EXEC") then exec_keywords else dd_keywords)

abbrev pub has_keywords : List ℕ → Bool
has_keywords operation = (bytes_eq operation (codes "JOB") || bytes_eq operation (codes "EXEC")) || bytes_eq operation (codes "DD")

abbrev pub is_keyword_of : List ℕ → List ℕ → Bool
is_keyword_of operation word = has_keywords operation && list_any (λ k. bytes_eq k word) (keywords_of operation)
