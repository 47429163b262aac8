-- A session as it is spelled, and that what is asked of its statements is met.
use Rattle.std.proofs.Common.{◌≡◌, ◌++◌, ℕ, Some, true, false, List, [], ◌∷◌, All, replicate, arith, refl}
use Rattle.std.specs.Prelude.{codes}
use Rattle.std.specs.Fmt.{digits}
use Rattle.std.proofs.lemmas.List.Elements.{All-cons, All-nil}
use Rattle.session_input.specs.declared.statement.ConfigStatement.TheVariants as config
use Rattle.jcl_meaning.specs.declared.program.Request.TheVariants.{Get, Put, End}
use Rattle.hex.specs.Hex.{encode_with}
use Rattle.session_input.specs.declared.event.Event.TheVariants as event
use Rattle.session_text.specs.declared.statement.Says.{Says}
use Rattle.session_text.specs.declared.statement.Says.TheVariants as says
use Rattle.reader_laws.specs.SpelledDates.{date_from}
use Rattle.reader_laws.specs.SpelledSessions.{IsSaid, Spelled, text_of}

abbrev in_form : Says → Spelled
in_form s = record { form = record { more_blanks = 0; blanks_behind = 0; zeros = 0; short = true; returns = false }; says = s }

abbrev wide : Says → Spelled
wide s = record { form = record { more_blanks = 1; blanks_behind = 2; zeros = 1; short = false; returns = true }; says = s }

abbrev cards : List (List ℕ)
cards = codes "//ONE JOB 1" ∷ codes "" ∷ codes "./ ENDED" ∷ []

abbrev volume : Spelled
volume = in_form (says.Config (config.Volume (codes "VOL001") 100 []) true)

abbrev unit : Spelled
unit = in_form (says.Config (config.Unit (codes "3330") (codes "VOL001" ∷ codes "VOL-2" ∷ [])) true)

abbrev initiator : Spelled
initiator = in_form (says.Config (config.Initiator 1 (codes "AB")) true)

abbrev procedure : Spelled
procedure = in_form (says.Config (config.Procedure (codes "COPY") (codes "//S EXEC PGM=COPY" ∷ codes "./" ∷ [])) true)

abbrev deck : Spelled
deck = in_form (says.Events (event.Read cards) 1)

abbrev turn : Spelled
turn = in_form (says.Events (event.Turn 15) 1)

abbrev write : Spelled
write = wide (says.Events (event.Write 65) 12)

abbrev session : List Spelled
session = volume ∷ unit ∷ initiator ∷ procedure ∷ deck ∷ turn ∷ write ∷ []

abbrev line : List ℕ → List ℕ → List ℕ
line text more = text ++ (10 ∷ more)

abbrev block : List ℕ → List ℕ
block more = line (codes "./ READ") (line (codes "//ONE JOB 1") (line [] (line (codes "./ ENDED") (line (codes "./ END") more))))

abbrev procedure_block : List ℕ → List ℕ
procedure_block more = line (codes "./ PROC COPY") (line (codes "//S EXEC PGM=COPY") (line (codes "./") (line (codes "./ END") more)))

spelled : text_of session ≡
    line (codes "./ VOLUME VOL001 100") (line (codes "./ UNIT 3330 VOL001,VOL-2") (line (codes "./ INIT 1 AB")
    (procedure_block (block (line (codes "./ TURN 15") (codes "./  WRITE  A*012  " ++ (13 ∷ 10 ∷ [])))))))
unfolding digits
spelled = refl

abbrev Sayable : Spelled → Type 0
Sayable s = IsSaid s.says

it_is_said : All Sayable session
it_is_said =
    All-cons Sayable volume (unit ∷ initiator ∷ procedure ∷ deck ∷ turn ∷ write ∷ []) (refl, omega arith, refl)
    (All-cons Sayable unit (initiator ∷ procedure ∷ deck ∷ turn ∷ write ∷ []) (refl, refl, refl)
    (All-cons Sayable initiator (procedure ∷ deck ∷ turn ∷ write ∷ []) (omega arith, refl)
    (All-cons Sayable procedure (deck ∷ turn ∷ write ∷ []) (refl, refl)
    (All-cons Sayable deck (turn ∷ write ∷ []) (refl, refl)
    (All-cons Sayable turn (write ∷ []) (omega arith, omega arith, omega arith, omega arith)
    (All-cons Sayable write [] (refl, omega arith, omega arith) (All-nil Sayable)))))))

-- stores, programs and devices
abbrev used : Spelled
used = in_form (says.Config (config.Volume (codes "VOL002") 20 (record { start = 0; tracks = 1 } ∷ record { start = 10; tracks = 3 } ∷ [])) true)

abbrev group : Spelled
group = wide (says.Config (config.Group (codes "PAY.MASTER") 3 true) true)

abbrev text : List ℕ
text = codes "ONE" ++ replicate 77 32

abbrev set : Spelled
set =
    in_form (says.Config (config.Set (record { name = codes "PAY.TAX"; serial = codes "VOL001"; tracks = 1; catalogued = true; expires = Some 27492; records = text ∷ [] })) true)

abbrev program : Spelled
program = in_form (says.Config (config.Program (codes "COPY") (Get (codes "IN") ∷ Put (codes "OUT") text ∷ End 4 ∷ [])) true)

abbrev device_end : Spelled
device_end = in_form (says.Events (event.DeviceEnd (codes "VOL001")) 1)

abbrev cancel : Spelled
cancel = in_form (says.Events (event.Cancel 12) 1)

abbrev zap : Spelled
zap = in_form (says.Events (event.Zap 4 8 (0 ∷ 7 ∷ [])) 1)

abbrev zap_last : Spelled
zap_last = wide (says.Events (event.Zap 65536 175 (171 ∷ [])) 1)

abbrev display : Spelled
display = in_form (says.Events event.Display 1)

abbrev date : Spelled
date = in_form (says.Events (event.Date 93501) 1)

abbrev stores : List Spelled
stores = used ∷ group ∷ set ∷ program ∷ device_end ∷ cancel ∷ zap ∷ zap_last ∷ display ∷ date ∷ []

abbrev set_block : List ℕ → List ℕ
set_block more = line (codes "./ SET PAY.TAX VOL001 1 CAT EXPDT 1975/100") (line text (line (codes "./ END") more))

abbrev program_block : List ℕ → List ℕ
program_block more =
    line (codes "./ PROGRAM COPY") (line (codes "GET IN") (line (codes "PUT OUT " ++ text) (line (codes "CODE 4") (line (codes "./ END") more))))

stores_spelled : text_of stores ≡
    line (codes "./ VOLUME VOL002 20 USED 0,10-12") (line (codes "./  GROUP  PAY.MASTER  03  SCRATCH  " ++ (13 ∷ []))
    (set_block (program_block (line (codes "./ DEV VOL001") (line (codes "./ CANCEL 12") (line (codes "./ ZAP 4,8,0007")
    (line (codes "./  ZAP  065536,0175,AB  " ++ (13 ∷ [])) (line (codes "./ DISPLAY") (line (codes "./ DATE 2155/365") [])))))))))
unfolding digits encode_with date_from
stores_spelled = refl

group_is_said : Sayable group
group_is_said = (
  record {
    first = codes "PAY";
    others = codes "MASTER" ∷ [];
    text_is = refl;
    components = refl;
    fits = omega arith;
    generation = refl;
  },
  omega arith,
)

set_is_said : Sayable set
set_is_said = (
  record {
    first = codes "PAY";
    others = codes "TAX" ∷ [];
    text_is = refl;
    components = refl;
    fits = omega arith;
    generation = refl;
  },
  refl,
  omega arith,
  refl,
  refl,
  omega arith,
)

they_are_said : All Sayable stores
they_are_said =
    All-cons Sayable used (group ∷ set ∷ program ∷ device_end ∷ cancel ∷ zap ∷ zap_last ∷ display ∷ date ∷ []) (refl, omega arith, refl)
    (All-cons Sayable group (set ∷ program ∷ device_end ∷ cancel ∷ zap ∷ zap_last ∷ display ∷ date ∷ []) group_is_said
    (All-cons Sayable set (program ∷ device_end ∷ cancel ∷ zap ∷ zap_last ∷ display ∷ date ∷ []) set_is_said
    (All-cons Sayable program (device_end ∷ cancel ∷ zap ∷ zap_last ∷ display ∷ date ∷ []) (refl, refl, refl)
    (All-cons Sayable device_end (cancel ∷ zap ∷ zap_last ∷ display ∷ date ∷ []) (refl, refl)
    (All-cons Sayable cancel (zap ∷ zap_last ∷ display ∷ date ∷ []) (omega arith, omega arith, refl)
    (All-cons Sayable zap (zap_last ∷ display ∷ date ∷ []) (omega arith, omega arith, omega arith, omega arith, refl, refl, refl)
    (All-cons Sayable zap_last (display ∷ date ∷ []) (omega arith, omega arith, omega arith, omega arith, refl, refl, refl)
    (All-cons Sayable display (date ∷ []) refl (All-cons Sayable date [] (omega arith, refl) (All-nil Sayable))))))))))
