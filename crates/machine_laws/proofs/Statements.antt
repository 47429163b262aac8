-- What each statement of a text says is printable.
use Rattle.std.proofs.Common.{◌+◌, ℕ, List, [], ◌∷◌, position, take, All, Option, Some, None}
use Rattle.std.proofs.lemmas.List.Elements.{All-cons, All-nil}
use Rattle.print_laws.proofs.GroupsPrintable.{either}
use Rattle.session_text.specs.declared.statement.Block.{Block}
use Rattle.session_text.specs.declared.statement.Ending.{Ending}
use Rattle.session_text.specs.declared.statement.Ending.TheVariants.{ReadFailed, TooLong, Whole}
use Rattle.session_text.specs.declared.statement.LineSays.{LineSays}
use Rattle.session_text.specs.declared.statement.LineSays.TheVariants as line
use Rattle.session_text.specs.declared.statement.Statement.{Statement}
use Rattle.session_text.specs.Blocks.{block_says, open_says}
use Rattle.session_text.specs.Lines.{lines_of}
use Rattle.session_text.specs.Statements.{at_end, behind_end, block_to, by_line, is_end, says_of, statement_at, statements_from, statements_of}
use Rattle.machine_laws.proofs.Blocks.{IsPrintableBlock, IsPrintableSays, block_printable, open_printable}
use Rattle.machine_laws.proofs.EventLines.{line_printable}
use Rattle.machine_laws.proofs.Lines.{IsPrintableLineSays}

abbrev pub IsPrintableStatement : Statement → Type 0
IsPrintableStatement s = IsPrintableSays s.says

abbrev pub ArePrintableStatements : List Statement → Type 0
ArePrintableStatements statements = All IsPrintableStatement statements

-- in the place of a statement that was cut
end_printable : (ending : Ending) (n : ℕ) → ArePrintableStatements (at_end ending n)
end_printable Whole n = All-nil IsPrintableStatement
end_printable TooLong n = All-cons IsPrintableStatement _ [] tt (All-nil IsPrintableStatement)
end_printable ReadFailed n = All-cons IsPrintableStatement _ [] tt (All-nil IsPrintableStatement)

-- a block, and what stands behind it
to_printable : (end : Option ℕ) (ending : Ending) (n : ℕ) (b : Block) (rows : List (List ℕ)) (behind : List Statement) → IsPrintableBlock b →
    ArePrintableStatements behind → ArePrintableStatements (block_to end ending n b rows behind)
to_printable None ending n b rows behind h k =
    All-cons IsPrintableStatement (statement_at n (open_says ending b rows)) [] (open_printable ending b rows h) (All-nil IsPrintableStatement)
to_printable (Some end) ending n b rows behind h k =
    All-cons IsPrintableStatement (statement_at n (block_says b (take end rows))) behind (block_printable b (take end rows) h) k

-- what begins with a line
by_line_printable : (l : LineSays) (ending : Ending) (n : ℕ) (rows : List (List ℕ)) (next behind : List Statement) → IsPrintableLineSays l →
    ArePrintableStatements next → ArePrintableStatements behind → ArePrintableStatements (by_line l ending n rows next behind)
by_line_printable line.Blank ending n rows next behind h k m = k
by_line_printable (line.One s) ending n rows next behind h k m = All-cons IsPrintableStatement (statement_at n s) next h k
by_line_printable (line.Opens b) ending n rows next behind h k m = to_printable (position is_end rows) ending n b rows behind h m

-- the statements of rows, and those behind an END
both_printable : (ending : Ending) (n : ℕ) (rows : List (List ℕ)) →
    ArePrintableStatements (statements_from ending n rows) × ArePrintableStatements (behind_end ending n rows)
both_printable ending n [] = (end_printable ending n, All-nil IsPrintableStatement)
both_printable ending n (row ∷ rows) =
    let rest : ArePrintableStatements (statements_from ending (n + 1) rows) × ArePrintableStatements (behind_end ending (n + 1) rows)
    = both_printable ending (n + 1) rows in (
      by_line_printable (says_of row) ending n rows (statements_from ending (n + 1) rows) (behind_end ending (n + 1) rows) (line_printable row) rest.0 rest.1,
      either ArePrintableStatements (is_end row) (statements_from ending (n + 1) rows) (behind_end ending (n + 1) rows) rest.0 rest.1,
    )

pub statements_printable : (ending : Ending) (text : List ℕ) → ArePrintableStatements (statements_of ending text)
statements_printable ending text = (both_printable ending 1 (lines_of ending text)).0
