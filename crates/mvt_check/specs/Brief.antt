-- What is found in brief: one line for each finding, with its line and column in front. (This profile)
use Rattle.std.specs.Prelude.{◌≡◌, ℕ, ◌-◌, ◌==◌, nat_eq, nat_lt, Bool, false, ◌&&◌, List, [], ◌∷◌, ◌++◌, codes, decimal, count_by, length, take, drop, take_while, find, Option, Some, None, is_some, if◌then◌else◌}
use Rattle.std.specs.Char.{is_ascii_digit}
use Rattle.std.specs.List.{before_first, ends_with, flat_map, list_all, slice_split, starts_with}
use Rattle.std.specs.Option.{option_and_then, option_map, option_map_or}

-- the rest of a line, if it begins with these words
abbrev pub rest_behind : List ℕ → List ℕ → Option (List ℕ)
rest_behind words line = if starts_with nat_eq line words then Some (drop (length words) line) else None

-- the decimal digits in front
abbrev pub digits_of : List ℕ → List ℕ
digits_of line = take_while is_ascii_digit line

-- digits, `: ` and a text
abbrev pub number_and_text : List ℕ → Option (List ℕ × List ℕ)
number_and_text line = option_map (λ what. (digits_of line, what)) (rest_behind (codes ": ") (drop (length (digits_of line)) line))

-- where a line begins a finding (`line `, decimal digits, `: `), those digits and the rest of the line
abbrev pub finding_of : List ℕ → Option (List ℕ × List ℕ)
finding_of line = option_and_then number_and_text (rest_behind (codes "line ") line)

abbrev pub begins_finding : List ℕ → Bool
begins_finding line = is_some (finding_of line)

abbrev pub is_blank : ℕ → Bool
is_blank c = c == 32

-- a mark: four blanks or more, only blanks, and then `^` as the last character
abbrev pub is_mark : List ℕ → Bool
is_mark line = nat_lt 4 (length line) && list_all is_blank (take (length line - 1) line) && ends_with nat_eq line (codes "^")

-- the column of a finding, by the lines behind its first: that of the first mark before the next finding, and 1 without one
abbrev pub column_of : List (List ℕ) → ℕ
column_of lines = option_map_or (λ mark. length mark - 4) (find is_mark (before_first begins_finding lines)) 1

-- a finding in brief: `LINE:COLUMN: ` and what it is
abbrev pub brief_line : List ℕ × List ℕ → ℕ → List ℕ
brief_line (number, what) column = number ++ codes ":" ++ decimal column ++ codes ": " ++ what ++ codes "\n"

-- a line in brief, by those behind it: nothing, unless it begins a finding
abbrev pub line_in_brief : List ℕ → List (List ℕ) → List ℕ
line_in_brief line behind = option_map_or (λ finding. brief_line finding (column_of behind)) (finding_of line) []

-- and all lines, in order
abbrev pub lines_in_brief : List (List ℕ) → List ℕ
lines_in_brief [] = []
lines_in_brief (line ∷ lines) = line_in_brief line lines ++ lines_in_brief lines

abbrev pub lines_of : List ℕ → List (List ℕ)
lines_of text = slice_split (λ c. c == 10) text

-- the findings of a text in brief
abbrev pub brief_of : List ℕ → List ℕ
brief_of text = lines_in_brief (lines_of text)

-- a line begins a finding that is a warning
abbrev pub is_warning : List ℕ → Bool
is_warning line = option_map_or (λ finding. starts_with nat_eq finding.1 (codes "warning: ")) (finding_of line) false

-- how many findings of a text are warnings
abbrev pub warnings_in : List ℕ → ℕ
warnings_in text = count_by is_warning (lines_of text)

-- worked examples: lines, and what is written of them

abbrev pub text_of : List (List ℕ) → List ℕ
text_of lines = flat_map (λ line. line ++ codes "\n") lines

abbrev pub unknown_keyword : List (List ℕ)
unknown_keyword = codes "line 7: P4 a keyword is unknown on this statement"
    ∷ codes "    //OUT DD DSN=A.B,SPCE=(TRK,1)"
    ∷ codes "                     ^"
    ∷ codes "    compare with the keywords of its statement; did you mean SPACE?" ∷ []

abbrev pub unknown_reference : List (List ℕ)
unknown_reference = codes "line 8: P40 a reference is to no DD of the job, or to SYSOUT or cards"
    ∷ codes "    //X DD DSN=*.S1.OTU"
    ∷ codes "               ^"
    ∷ codes "    compare the names; did you mean OUT?" ∷ []

abbrev pub unknown_unit : List (List ℕ)
unknown_unit = codes "line 9: P16 the session has no unit of the name"
    ∷ codes "    //Y DD DSN=A.C,UNIT=SYSDB,SPACE=(TRK,1)"
    ∷ codes "                   ^"
    ∷ codes "    correct the name, or add a ./ UNIT statement; did you mean SYSDA?" ∷ []

abbrev pub failing_job : List (List ℕ)
failing_job = codes "line 7: job 1 PAY fails: step S1, DD OUT: the data set PAY.DATA is on the volume already (F2)"
    ∷ codes "    delete it in an earlier step, or DISP=OLD or MOD" ∷ []

abbrev pub sums : List (List ℕ)
sums = codes "1 refused, 0 at risk, 0 warnings" ∷ []

pub record Shortens : Type 0 where
  pub on_the_page : brief_of (text_of (unknown_keyword ++ unknown_reference ++ unknown_unit ++ sums))
      ≡ text_of (codes "7:18: P4 a keyword is unknown on this statement"
      ∷ codes "8:12: P40 a reference is to no DD of the job, or to SYSOUT or cards"
      ∷ codes "9:16: P16 the session has no unit of the name" ∷ [])
  pub marked : brief_of (text_of unknown_keyword) ≡ codes "7:18: P4 a keyword is unknown on this statement\n"
  pub unmarked : brief_of (text_of (codes "line 1: session fault S2; nothing of the session after it is run (docs/SESSION.md)" ∷ []))
      ≡ codes "1:1: session fault S2; nothing of the session after it is run (docs/SESSION.md)\n"
  pub second_marked : brief_of (text_of (failing_job ++ unknown_reference))
      ≡ text_of (codes "7:1: job 1 PAY fails: step S1, DD OUT: the data set PAY.DATA is on the volume already (F2)"
      ∷ codes "8:12: P40 a reference is to no DD of the job, or to SYSOUT or cards" ∷ [])
  pub marked_later : brief_of (text_of (codes "line 3: C4" ∷ codes "    //A DD DSN=B," ∷ codes "    // SPACE=(TRK,1)" ∷ codes "       ^" ∷ [])) ≡ codes "3:4: C4\n"
  pub marked_twice : brief_of (text_of (codes "line 3: C4" ∷ codes "     ^" ∷ codes "       ^" ∷ [])) ≡ codes "3:2: C4\n"
  pub first_column : brief_of (text_of (codes "line 3: C4" ∷ codes "    ^" ∷ [])) ≡ codes "3:1: C4\n"
  pub within_the_margin : brief_of (text_of (codes "line 3: C4" ∷ codes "   ^" ∷ codes "      ^" ∷ [])) ≡ codes "3:3: C4\n"
  pub other_characters : brief_of (text_of (codes "line 3: C4" ∷ codes "    a^" ∷ codes "     ^ " ∷ codes "       ^" ∷ [])) ≡ codes "3:4: C4\n"
  pub last_line : brief_of (codes "line 12: C4") ≡ codes "12:1: C4\n"
  pub no_finding : brief_of (text_of sums) ≡ []
  pub other_beginnings : brief_of (text_of (codes "    line 3: C4" ∷ codes "lines 3: C4" ∷ codes "line A: C4"
      ∷ codes "line 3 : C4" ∷ codes "line 3:C4" ∷ [])) ≡ []
  pub no_text : brief_of [] ≡ []
