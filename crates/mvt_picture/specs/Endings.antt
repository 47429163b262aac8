-- What the program ends with.
use Rattle.std.specs.Prelude.{◌≡◌, ℕ, List, Option, Result, Ok, Err}
use Rattle.std.specs.Io.KnownBytes.{Appends}
use Rattle.session_core.specs.declared.SessionEnd.{SessionEnd}
use Rattle.session_core.specs.declared.SessionFault.{SessionFault}
use Rattle.session_core.specs.declared.SessionFault.TheVariants.{Stopped, WriteFailed, Memory}
use Rattle.svg_text.specs.declared.shape.Picture.{Picture}
use Rattle.svg_text.specs.Pictures.{picture_text}

-- the status of a session's end
abbrev pub status_of : Result SessionEnd SessionFault → ℕ
status_of (Ok end) = 0
status_of (Err (Stopped fault line)) = 1
status_of (Err (WriteFailed line)) = 1
status_of (Err Memory) = 3

-- with status 0 a picture was written whole
abbrev pub WritesPicture : ℕ → Option (List ℕ) → Option (List ℕ) → Type 0
WritesPicture status output output_after = status ≡ 0 → (p : Picture) × Appends output output_after (picture_text p)
