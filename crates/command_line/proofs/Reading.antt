-- What is read of a parse, and where a command line is not taken.
use Rattle.std.proofs.Common.{◌≡◌, ◌∙◌, ◌||◌, ℕ, Bool, true, false, List, [], ◌∷◌, Option, Some, None, map, refl, sym, ap, inl, inr, codes, subst}
use Rattle.std.specs.Prelude.{Result, Ok, Err, IsErrAnd, option_map, option_and_then, slice_get, find}
use Rattle.std.specs.List.{list_any}
use Rattle.std.specs.Str.{bytes_eq}
use Rattle.std.specs.Borrow.{Bor}
use Rattle.clap.specs.Words.{App, Row, Text, Kinds, HasKind, IsAmong, fault_of, first_of, first_value, found_of, kind_of, rows_of}
use Rattle.clap.specs.Kinds.{or_else}
use Rattle.clap.specs.Facts.{Entry}
use Rattle.clap.specs.Walk.{row_of}
use Rattle.clap.specs.declared.error.Error.{Error}
use Rattle.clap.specs.declared.error.kind.ErrorKind.{ErrorKind}
use Rattle.clap.specs.declared.error.kind.ErrorKind.TheVariants as kind
use Rattle.clap.specs.declared.parser.matches.ArgMatches.{ArgMatches}
use Rattle.run_options.specs.declared.Options.{Options}
use Rattle.run_options.specs.declared.RiskChoice.{RiskChoice}
use Rattle.command_line.proofs.Examples.{choices_at}
use Rattle.command_line.specs.declared.options.Asked.{Asked}
use Rattle.command_line.specs.CommandLines.{IsProgram, IsRead, given_in, given_of, has_text, is_used, options_in, options_of, program_with, risk_in, texts, views_in}

first_text : (xs : List (Bor Text)) → slice_get (map (λ s. s.now) xs) 0 ≡ option_map (λ s. s.now) (slice_get xs 0)
first_text [] = refl
first_text (x ∷ xs) = refl

-- a value is that of its row
abbrev found_text : Text → List Entry → Option Text
found_text id es = option_and_then (λ a. option_map (λ s. s.now) (slice_get a.vals.items 0))
    (option_map (λ e. e.1) (find (λ e. bytes_eq e.0.now id) es))

row_value : (id : Text) (es : List Entry) → found_text id es ≡ first_of id (map row_of es)
row_value id [] = refl
row_value id (e ∷ es) = by (row_value id es) (bytes_eq e.0.now id) refl
  where
    by : found_text id es ≡ first_of id (map row_of es) → (same : Bool) → bytes_eq e.0.now id ≡ same
        → found_text id (e ∷ es) ≡ first_of id (map row_of (e ∷ es))
    by rest true s = rw s (sym (first_text e.1.vals.items))
    by rest false s = rw s rest

pub value_of_row : (m : ArgMatches) (id : Text) → first_value (found_of m) id ≡ first_of id (rows_of (found_of m))
value_of_row m id = row_value id (found_of m).entries.items

-- some program of a name and flags, wherever the choices stand
pub some_program : (name : Text) (flags : List Text) → IsProgram name flags (program_with name flags (choices_at (0, 0) (0, 0) (0, 0)))
some_program name flags = record { choices = _; choices_so = refl; app_so = refl }

module _ (name : Text) (flags words : List Text) where
  memory_fails : (e : Error) → kind_of e ≡ kind.OutOfMemory → IsRead name flags words (Err e)
  memory_fails e is = record { program = _; program_so = some_program name flags; options = tt; given = tt; kinds = inl is }

  pub memory_wants : (r : Result Asked Error) → IsErrAnd r (λ e. kind_of e ≡ kind.OutOfMemory) → IsRead name flags words r
  memory_wants (Ok o) h = absurd h
  memory_wants (Err e) h = memory_fails e h

  -- clap's own faults
  clap_fails : (app : App) (e : Error) → IsProgram name flags app → HasKind (fault_of app words) e → IsRead name flags words (Err e)
  clap_fails app e is (inl m) = memory_fails e m
  clap_fails app e is (inr h) = record {
    program = app;
    program_so = is;
    options = tt;
    given = tt;
    kinds = inr (or_else_first (kind_of e) (fault_of app words) _ h);
  }
    where
      or_else_first : (k : ErrorKind) (one two : Kinds) → IsAmong k one → IsAmong k (or_else one two)
      or_else_first k [] two h = absurd h
      or_else_first k (x ∷ one) two h = h

  pub clap_refuses : (app : App) (r : Result Asked Error) (e : Error) → IsProgram name flags app → HasKind (fault_of app words) e
      → IsErrAnd r (λ x. x ≡ e) → IsRead name flags words r
  clap_refuses app (Ok o) e is h same = absurd same
  clap_refuses app (Err x) e is h same = clap_fails app x is (subst (HasKind (fault_of app words)) (sym same) h)

  -- views that are none
  pub views_fail : (app : App) (e : Error) → IsProgram name flags app → fault_of app words ≡ [] → options_of app words ≡ None
      → kind_of e ≡ kind.ValueValidation → IsRead name flags words (Err e)
  views_fail app e is none unread k = record {
    program = app;
    program_so = is;
    options = tt;
    given = tt;
    kinds = inr (rw (none, unread) (inl k));
  }

  pub is_taken : (app : App) (asked : Asked) → IsProgram name flags app → fault_of app words ≡ [] → options_of app words ≡ Some asked.options
      → texts asked.given.items ≡ given_of app flags words → IsRead name flags words (Ok asked)
  is_taken app asked is none so given = record { program = app; program_so = is; options = so; given = given; kinds = rw (none, so) refl }

module _ (m : ArgMatches) (rows : List Row) (rows_so : rows_of (found_of m) ≡ rows) where
  value_in : (id : Text) → first_value (found_of m) id ≡ first_of id rows
  value_in id = value_of_row m id ∙ ap (first_of id) rows_so

  -- the options of the rows, with so many views
  abbrev with_views : ℕ → Options
  with_views n = record {
    risk = risk_in (first_of (codes "risk") rows);
    views = n;
    explains = is_used (first_of (codes "explain") rows);
  }

  pub options_read : (choice : RiskChoice) (views : ℕ) (explains : Bool) → choice ≡ risk_in (first_value (found_of m) (codes "risk"))
      → Some views ≡ views_in (first_value (found_of m) (codes "views")) → explains ≡ is_used (first_value (found_of m) (codes "explain"))
      → options_in rows ≡ Some (record { risk = choice; views = views; explains = explains })
  options_read choice views explains chosen viewed explained =
      ap (option_map with_views) (sym (viewed ∙ ap views_in (value_in (codes "views"))))
      ∙ ap (λ c. Some (record { risk = c; views = views; explains = is_used (first_of (codes "explain") rows) }))
      (sym (chosen ∙ ap risk_in (value_in (codes "risk"))))
      ∙ ap (λ x. Some (record { risk = choice; views = views; explains = x })) (sym (explained ∙ ap is_used (value_in (codes "explain"))))

  pub views_unread : None ≡ views_in (first_value (found_of m) (codes "views")) → options_in rows ≡ None
  views_unread viewed = ap (option_map with_views) (sym (viewed ∙ ap views_in (value_in (codes "views"))))

  pub given_read : (flags : List Text) → given_in (first_value (found_of m)) flags ≡ given_in (λ flag. first_of flag rows) flags
  given_read [] = refl
  given_read (flag ∷ flags) = rw (value_in flag, given_read flags) refl

-- a text stands among those behind references
pub has_named : (text : Text) (words : List (Bor Text)) → list_any (λ word. bytes_eq word.now text) words ≡ has_text text (texts words)
has_named text [] = refl
has_named text (word ∷ words) = ap (λ rest. bytes_eq word.now text || rest) (has_named text words)
