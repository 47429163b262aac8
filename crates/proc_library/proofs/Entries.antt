-- A procedure of the library, and what its cards are, by its place among the entries.
use Rattle.std.proofs.Common.{◌≡◌, ℕ, Bool, true, false, cond, List, [], ◌∷◌, ◌++◌, map, zero, suc, arith, Option, Some, Result, refl, sym, ap, ◌∙◌}
use Rattle.std.specs.Option.{option_map}
use Rattle.std.specs.Str.{bytes_eq}
use Rattle.std.proofs.lemmas.List.Elements.{All-append, All-same}
use Rattle.std.proofs.lemmas.List.{map-append}
use Rattle.name_places.proofs.Named.{first_named}
use Rattle.card_core.specs.declared.fault.CardFault.{CardFault}
use Rattle.card_core.specs.declared.statement.Statement.{Statement}
use Rattle.card_core.specs.Deck.{statements_of}
use Rattle.proc_library.specs.declared.library.Entry.{Entry}
use Rattle.proc_library.specs.declared.library.LibraryProcedure.{LibraryProcedure}
use Rattle.proc_library.specs.Entries.{AreRead}
use Rattle.proc_library.specs.Libraries.{in_library, reading_in}

pub named_is : (entries : List Entry) (name : List ℕ) →
    first_named (λ e. e.procedure.name) (λ e. e.procedure) entries name ≡ in_library (map (λ e. e.procedure) entries) name
named_is [] name = refl
named_is (e ∷ entries) name =
    ap (λ found. let r : Option LibraryProcedure = cond (bytes_eq e.procedure.name name) (Some e.procedure) found in r) (named_is entries name)

one_read : (e : Entry) (here : Bool) (found : Option (Result (List Statement) CardFault)) (next : Option LibraryProcedure) →
    e.reading ≡ statements_of e.procedure.lines → found ≡ option_map (λ p. statements_of p.lines) next →
    (let r : Option (Result (List Statement) CardFault) = cond here (Some e.reading) found in r) ≡
    option_map (λ p. statements_of p.lines) (cond here (Some e.procedure) next)
one_read e true found next is more = ap (λ (r : Result (List Statement) CardFault). Some r) is
one_read e false found next is more = more

pub reading_is : (entries : List Entry) (name : List ℕ) → AreRead entries →
    first_named (λ e. e.procedure.name) (λ e. e.reading) entries name ≡ reading_in (map (λ e. e.procedure) entries) name
reading_is [] name read = refl
reading_is (e ∷ entries) name read =
    one_read e (bytes_eq e.procedure.name name) (first_named (λ e. e.procedure.name) (λ e. e.reading) entries name)
    (in_library (map (λ e. e.procedure) entries) name) (read 0 e (omega arith)) (reading_is entries name (λ k d below. read (suc k) d (omega (arith, below))))

-- and of one more
pub read_more : (entries : List Entry) (e : Entry) → AreRead entries → e.reading ≡ statements_of e.procedure.lines → AreRead (entries ++ e ∷ [])
read_more entries e read is = All-append (λ e. e.reading ≡ statements_of e.procedure.lines) entries (e ∷ []) read (one e is)
  where
    one : (e : Entry) → e.reading ≡ statements_of e.procedure.lines → AreRead (e ∷ [])
    one e is zero d below = is
    one e is (suc k) d below = absurd (omega (arith, below))

pub kept_more : (entries new : List Entry) (names more : List (List ℕ)) (e : Entry) (name : List ℕ) → map (λ e. e.procedure.name) entries ≡ names → AreRead entries →
    new ≡ entries ++ e ∷ [] → more ≡ names ++ name ∷ [] → e.procedure.name ≡ name → e.reading ≡ statements_of e.procedure.lines →
    (map (λ e. e.procedure.name) new ≡ more) × AreRead new
kept_more entries new names more e name named read new_is more_is name_is is = (
  ap (λ all. map (λ e. e.procedure.name) all) new_is
      ∙ map-append (λ e. e.procedure.name) entries (e ∷ [])
      ∙ ap (λ all. all ++ e.procedure.name ∷ []) named
      ∙ ap (λ one. names ++ one ∷ []) name_is
      ∙ sym more_is,
  All-same (λ e. e.reading ≡ statements_of e.procedure.lines) new (entries ++ e ∷ []) new_is (read_more entries e read is),
)
