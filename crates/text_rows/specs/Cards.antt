-- Decks at the edges of the rules, and what they are: `read_statements` gives what `statements_of` denotes (card_core).
use Rattle.std.specs.Prelude.{◌≡◌, ℕ, ◌==◌, ◌∷◌, [], List, map, codes, Some, None, Ok, Err}
use Prim.Native.String.{String}
use Rattle.std.specs.List.{slice_split}
use Rattle.card_core.specs.Cards.{filled}
use Rattle.card_core.specs.Deck.{statements_of}
use Rattle.card_core.specs.declared.fault.CardFault.TheVariants.{BadByte, DataBeforeExec, LineTooLong, NoOperation, NotContinued, OpenApostrophe, ResumedOutside}
use Rattle.card_core.specs.declared.statement.Statement.{Statement}

-- the lines of a text, each a card
abbrev pub cards : String → List (List ℕ)
cards text = slice_split (λ c. c == 10) (codes text)

abbrev pub statement : List ℕ → List ℕ → List ℕ → Statement
statement name operation operand = record { name = name; operation = operation; operand = operand; cards = None }

-- with cards of 80 columns
abbrev pub with_cards : List ℕ → List ℕ → List ℕ → List (List ℕ) → Statement
with_cards name operation operand cards = record { name = name; operation = operation; operand = operand; cards = Some (map filled cards) }

-- Lines: their length and their bytes, before all other faults.
pub record ReadsLines : Type 0 where
  pub of_80_columns : statements_of (cards "//J JOB                                                                        X")
      ≡ Ok (statement (codes "J") (codes "JOB") [] ∷ [])
  pub of_81_columns : statements_of (cards "//J JOB                                                                         X") ≡ Err LineTooLong
  pub of_81_columns_with_a_blank : statements_of (cards "//J JOB                                                                          ") ≡ Err LineTooLong
  pub byte_20 : statements_of (cards "//J JOB A B") ≡ Ok (statement (codes "J") (codes "JOB") (codes "A") ∷ [])
  pub byte_1f : statements_of (cards "//J JOB A\u{1f}B") ≡ Err BadByte
  pub byte_7e : statements_of (cards "//J JOB A~B") ≡ Ok (statement (codes "J") (codes "JOB") (codes "A~B") ∷ [])
  pub byte_7f : statements_of (cards "//J JOB A\u{7f}B") ≡ Err BadByte
  pub long_before_bad : statements_of (cards "//J JOB \u{1f}XXXXXXXXXXXXXXXXXXXXXXXXXXXXXXXXXXXXXXXXXXXXXXXXXXXXXXXXXXXXXXXXXXXXXXXX") ≡ Err LineTooLong
  pub bad_card_before_long_card : statements_of (cards "//J JOB \u{1f}\nXXXXXXXXXXXXXXXXXXXXXXXXXXXXXXXXXXXXXXXXXXXXXXXXXXXXXXXXXXXXXXXXXXXXXXXXXXXXXXXXX")
      ≡ Err BadByte
  pub line_fault_first : statements_of (cards "X\n//\n\u{7f}") ≡ Err BadByte
  pub line_fault_behind_null : statements_of (cards "//J JOB\n//\nXXXXXXXXXXXXXXXXXXXXXXXXXXXXXXXXXXXXXXXXXXXXXXXXXXXXXXXXXXXXXXXXXXXXXXXXXXXXXXXXX")
      ≡ Err LineTooLong
  pub other_fault_behind_null : statements_of (cards "//J JOB\n//\nX\n//A") ≡ Ok (statement (codes "J") (codes "JOB") [] ∷ [])

-- Continued operands and comments.
pub record ReadsContinuations : Type 0 where
  pub resumed_in_3 : statements_of (cards "//J JOB A,\n//B") ≡ Err NotContinued
  pub resumed_in_4 : statements_of (cards "//J JOB A,\n// B") ≡ Ok (statement (codes "J") (codes "JOB") (codes "A,B") ∷ [])
  pub resumed_in_16 : statements_of (cards "//J JOB A,\n//             B") ≡ Ok (statement (codes "J") (codes "JOB") (codes "A,B") ∷ [])
  pub resumed_in_17 : statements_of (cards "//J JOB A,\n//              B") ≡ Err ResumedOutside
  pub comma_at_the_end : statements_of (cards "//J JOB A,") ≡ Err NotContinued
  pub comma_before_data : statements_of (cards "//J JOB A,\nB") ≡ Err NotContinued
  pub comma_before_a_delimiter : statements_of (cards "//J JOB A,\n/*") ≡ Err NotContinued
  pub comment_between : statements_of (cards "//J JOB A,\n//* B\n// C") ≡ Err NotContinued
  pub null_in_place_of_it : statements_of (cards "//J JOB A,\n//") ≡ Err NotContinued
  pub null_with_column_72 : statements_of (cards "//J JOB A,\n//                                                                     X") ≡ Err NotContinued
  pub three_cards : statements_of (cards "//J JOB A,  ONE\n// B, TWO\n//  'C,D' THREE")
      ≡ Ok (statement (codes "J") (codes "JOB") (codes "A,B,'C,D'") ∷ [])
  pub comma_in_apostrophes : statements_of (cards "//J JOB 'A,'") ≡ Ok (statement (codes "J") (codes "JOB") (codes "'A,'") ∷ [])
  pub comment_continued : statements_of (cards "//J JOB A B                                                            X\n// GOES ON\n//S EXEC P")
      ≡ Ok (statement (codes "J") (codes "JOB") (codes "A") ∷ statement (codes "S") (codes "EXEC") (codes "P") ∷ [])
  pub only_one_card : statements_of (cards "//J JOB A B                                                            X\n// GOES ON                                                             X\n// EXEC P")
      ≡ Ok (statement (codes "J") (codes "JOB") (codes "A") ∷ statement [] (codes "EXEC") (codes "P") ∷ [])
  pub marked_without_continuation : statements_of (cards "//J JOB A B                                                            X\n//S EXEC P")
      ≡ Ok (statement (codes "J") (codes "JOB") (codes "A") ∷ statement (codes "S") (codes "EXEC") (codes "P") ∷ [])
  pub marked_before_a_comment : statements_of (cards "//J JOB A B                                                            X\n//* C\n// EXEC P")
      ≡ Ok (statement (codes "J") (codes "JOB") (codes "A") ∷ statement [] (codes "EXEC") (codes "P") ∷ [])
  pub marked_before_null : statements_of (cards "//J JOB A B                                                            X\n//\n//S EXEC P")
      ≡ Ok (statement (codes "J") (codes "JOB") (codes "A") ∷ [])
  pub marked_without_operand : statements_of (cards "//J JOB                                                                X\n//  EXEC P\n//S EXEC Q")
      ≡ Ok (statement (codes "J") (codes "JOB") [] ∷ statement (codes "S") (codes "EXEC") (codes "Q") ∷ [])
  pub marked_last_of_two : statements_of (cards "//J JOB A,\n// B C                                                                 X\n// EXEC P\n// EXEC Q")
      ≡ Ok (statement (codes "J") (codes "JOB") (codes "A,B") ∷ statement [] (codes "EXEC") (codes "Q") ∷ [])
  pub marked_last_without_continuation : statements_of (cards "//J JOB A,\n// B C                                                                 X\n//S EXEC P\n//T EXEC Q")
      ≡ Ok (statement (codes "J") (codes "JOB") (codes "A,B") ∷ statement (codes "S") (codes "EXEC") (codes "P") ∷ statement (codes "T") (codes "EXEC") (codes "Q") ∷ [])
  pub column_73 : statements_of (cards "//J JOB A B                                                             X\n// EXEC P")
      ≡ Ok (statement (codes "J") (codes "JOB") (codes "A") ∷ statement [] (codes "EXEC") (codes "P") ∷ [])

-- Fields to column 71, apostrophes and absent fields.
pub record ReadsFields : Type 0 where
  pub ends_in_71 : statements_of (cards "//J JOB AAAAAAAAAAAAAAAAAAAAAAAAAAAAAAAAAAAAAAAAAAAAAAAAAAAAAAAAAAAAAAA")
      ≡ Ok (statement (codes "J") (codes "JOB") (codes "AAAAAAAAAAAAAAAAAAAAAAAAAAAAAAAAAAAAAAAAAAAAAAAAAAAAAAAAAAAAAAA") ∷ [])
  pub text_in_72 : statements_of (cards "//J JOB AAAAAAAAAAAAAAAAAAAAAAAAAAAAAAAAAAAAAAAAAAAAAAAAAAAAAAAAAAAAAAAA")
      ≡ Ok (statement (codes "J") (codes "JOB") (codes "AAAAAAAAAAAAAAAAAAAAAAAAAAAAAAAAAAAAAAAAAAAAAAAAAAAAAAAAAAAAAAA") ∷ [])
  pub comma_in_71 : statements_of (cards "//J JOB AAAAAAAAAAAAAAAAAAAAAAAAAAAAAAAAAAAAAAAAAAAAAAAAAAAAAAAAAAAAAA,\n// B")
      ≡ Ok (statement (codes "J") (codes "JOB") (codes "AAAAAAAAAAAAAAAAAAAAAAAAAAAAAAAAAAAAAAAAAAAAAAAAAAAAAAAAAAAAAA,B") ∷ [])
  pub comma_in_72 : statements_of (cards "//J JOB AAAAAAAAAAAAAAAAAAAAAAAAAAAAAAAAAAAAAAAAAAAAAAAAAAAAAAAAAAAAAAA,\n// B")
      ≡ Ok (statement (codes "J") (codes "JOB") (codes "AAAAAAAAAAAAAAAAAAAAAAAAAAAAAAAAAAAAAAAAAAAAAAAAAAAAAAAAAAAAAAA") ∷ [])
  pub doubled_apostrophe : statements_of (cards "//J JOB 'A''B' C") ≡ Ok (statement (codes "J") (codes "JOB") (codes "'A''B'") ∷ [])
  pub blank_in_apostrophes : statements_of (cards "//J JOB 'A B',C D") ≡ Ok (statement (codes "J") (codes "JOB") (codes "'A B',C") ∷ [])
  pub left_open : statements_of (cards "//J JOB 'A B") ≡ Err OpenApostrophe
  pub doubled_and_open : statements_of (cards "//J JOB 'A''") ≡ Err OpenApostrophe
  pub closed_in_71 : statements_of (cards "//J JOB '                                                             '")
      ≡ Ok (statement (codes "J") (codes "JOB") (codes "'                                                             '") ∷ [])
  pub closed_in_72 : statements_of (cards "//J JOB '                                                              '") ≡ Err OpenApostrophe
  pub open_on_a_continuation : statements_of (cards "//J JOB A,\n// 'B") ≡ Err OpenApostrophe
  pub no_operation : statements_of (cards "//NAME") ≡ Err NoOperation
  pub no_operation_and_column_72 : statements_of (cards "//NAME                                                                 X") ≡ Err NoOperation
  pub operation_in_71 : statements_of (cards "//J                                                                   X")
      ≡ Ok (statement (codes "J") (codes "X") [] ∷ [])
  pub no_name : statements_of (cards "//  EXEC P") ≡ Ok (statement [] (codes "EXEC") (codes "P") ∷ [])
  pub pend : statements_of (cards "// PEND comment, more\n//S EXEC P")
      ≡ Ok (statement [] (codes "PEND") [] ∷ statement (codes "S") (codes "EXEC") (codes "P") ∷ [])
  pub apostrophe_behind_pend : statements_of (cards "//E PEND don't\n//S EXEC P")
      ≡ Ok (statement (codes "E") (codes "PEND") [] ∷ statement (codes "S") (codes "EXEC") (codes "P") ∷ [])

-- Data cards.
pub record ReadsData : Type 0 where
  pub data_keeps_statements : statements_of (cards "//S EXEC P\n//D DD DATA\n//X\n//\n//* C\n/*\n//E DD A")
      ≡ Ok (statement (codes "S") (codes "EXEC") (codes "P") ∷ with_cards (codes "D") (codes "DD") (codes "DATA") ((codes "//X") ∷ (codes "//") ∷ (codes "//* C") ∷ []) ∷ statement (codes "E") (codes "DD") (codes "A") ∷ [])
  pub asterisk_ends_at_a_statement : statements_of (cards "//S EXEC P\n//D DD *,DCB=A\n1\n2\n//E DD A")
      ≡ Ok (statement (codes "S") (codes "EXEC") (codes "P") ∷ with_cards (codes "D") (codes "DD") (codes "*,DCB=A") ((codes "1") ∷ (codes "2") ∷ []) ∷ statement (codes "E") (codes "DD") (codes "A") ∷ [])
  pub asterisk_ends_at_a_delimiter : statements_of (cards "//S EXEC P\n//D DD *\n1\n/*X\n//E DD A")
      ≡ Ok (statement (codes "S") (codes "EXEC") (codes "P") ∷ with_cards (codes "D") (codes "DD") (codes "*") ((codes "1") ∷ []) ∷ statement (codes "E") (codes "DD") (codes "A") ∷ [])
  pub blank_before_slashes : statements_of (cards "//S EXEC P\n//D DD *\n //E DD A")
      ≡ Ok (statement (codes "S") (codes "EXEC") (codes "P") ∷ with_cards (codes "D") (codes "DD") (codes "*") ((codes " //E DD A") ∷ []) ∷ [])
  pub data_to_the_end : statements_of (cards "//S EXEC P\n//D DD DATA,DLM=A\n//\n1")
      ≡ Ok (statement (codes "S") (codes "EXEC") (codes "P") ∷ with_cards (codes "D") (codes "DD") (codes "DATA,DLM=A") ((codes "//") ∷ (codes "1") ∷ []) ∷ [])
  pub null_ends_data : statements_of (cards "//S EXEC P\n//D DD *\n1\n//\n//E DD A")
      ≡ Ok (statement (codes "S") (codes "EXEC") (codes "P") ∷ with_cards (codes "D") (codes "DD") (codes "*") ((codes "1") ∷ []) ∷ [])
  pub other_words : statements_of (cards "//S EXEC P\n//D DD *A\n//D DD DATAX\n//D XX *")
      ≡ Ok (statement (codes "S") (codes "EXEC") (codes "P") ∷ statement (codes "D") (codes "DD") (codes "*A") ∷ statement (codes "D") (codes "DD") (codes "DATAX") ∷ statement (codes "D") (codes "XX") (codes "*") ∷ [])
  pub continued_asterisk : statements_of (cards "//S EXEC P\n//D DD *,\n// A\n1")
      ≡ Ok (statement (codes "S") (codes "EXEC") (codes "P") ∷ with_cards (codes "D") (codes "DD") (codes "*,A") ((codes "1") ∷ []) ∷ [])
  pub comment_of_an_asterisk : statements_of (cards "//S EXEC P\n//D DD * C                                                             X\n// D\n1")
      ≡ Ok (statement (codes "S") (codes "EXEC") (codes "P") ∷ with_cards (codes "D") (codes "DD") (codes "*") ((codes "1") ∷ []) ∷ [])
  pub loose : statements_of (cards "//S EXEC P\n1\n2\n/*\n3\n//E DD A\n4")
      ≡ Ok (statement (codes "S") (codes "EXEC") (codes "P") ∷ with_cards (codes "SYSIN") (codes "DD") (codes "*") ((codes "1") ∷ (codes "2") ∷ []) ∷ with_cards (codes "SYSIN") (codes "DD") (codes "*") ((codes "3") ∷ []) ∷ statement (codes "E") (codes "DD") (codes "A") ∷ with_cards (codes "SYSIN") (codes "DD") (codes "*") ((codes "4") ∷ []) ∷ [])
  pub delimiter_of_nothing : statements_of (cards "/*\n//J JOB\n/*\n//S EXEC P\n/*")
      ≡ Ok (statement (codes "J") (codes "JOB") [] ∷ statement (codes "S") (codes "EXEC") (codes "P") ∷ [])
  pub two_delimiters : statements_of (cards "//S EXEC P\n//D DD *\n1\n/*\n/*\n//E DD A")
      ≡ Ok (statement (codes "S") (codes "EXEC") (codes "P") ∷ with_cards (codes "D") (codes "DD") (codes "*") ((codes "1") ∷ []) ∷ statement (codes "E") (codes "DD") (codes "A") ∷ [])
  pub comment_cards : statements_of (cards "//* A\n//J JOB\n//*\n//S EXEC P")
      ≡ Ok (statement (codes "J") (codes "JOB") [] ∷ statement (codes "S") (codes "EXEC") (codes "P") ∷ [])
  pub empty_data_before_exec : statements_of (cards "//J JOB\n//D DD *\n//E DD DATA\n/*\n//S EXEC P")
      ≡ Ok (statement (codes "J") (codes "JOB") [] ∷ with_cards (codes "D") (codes "DD") (codes "*") ([]) ∷ with_cards (codes "E") (codes "DD") (codes "DATA") ([]) ∷ statement (codes "S") (codes "EXEC") (codes "P") ∷ [])
  pub data_before_exec : statements_of (cards "//J JOB\n//D DD *\n1") ≡ Err DataBeforeExec
  pub loose_before_exec : statements_of (cards "//J JOB\n1\n//S EXEC P") ≡ Err DataBeforeExec
  pub empty_line_before_exec : statements_of (cards "//J JOB\n\n//S EXEC P") ≡ Err DataBeforeExec
  pub empty_line_alone : statements_of (cards "") ≡ Err DataBeforeExec
  pub empty_line_is_data : statements_of (cards "//S EXEC P\n")
      ≡ Ok (statement (codes "S") (codes "EXEC") (codes "P") ∷ with_cards (codes "SYSIN") (codes "DD") (codes "*") ([] ∷ []) ∷ [])
  pub data_before_no_operation : statements_of (cards "//J JOB\n1\n//A") ≡ Err DataBeforeExec
  pub no_operation_before_data : statements_of (cards "//A\n1") ≡ Err NoOperation
  pub exec_before_job : statements_of (cards "//S EXEC P\n//J JOB\n1")
      ≡ Ok (statement (codes "S") (codes "EXEC") (codes "P") ∷ statement (codes "J") (codes "JOB") [] ∷ with_cards (codes "SYSIN") (codes "DD") (codes "*") ((codes "1") ∷ []) ∷ [])
  pub no_cards : statements_of [] ≡ Ok []
  pub whole_cards : statements_of (cards "//GO EXEC FORTG\n//SYSIN DD DATA,DCB=BLKSIZE=80  COMMENT\n  READ   (5,'(80A1)')                                                   00000010\n/*")
      ≡ Ok (statement (codes "GO") (codes "EXEC") (codes "FORTG")
      ∷ with_cards (codes "SYSIN") (codes "DD") (codes "DATA,DCB=BLKSIZE=80") (codes "  READ   (5,'(80A1)')                                                   00000010" ∷ []) ∷ [])
