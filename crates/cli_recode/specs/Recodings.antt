-- What a message is recoded to, and why it is left out.
use Rattle.std.specs.Prelude.{◌≡◌, ◌<◌, ◌+◌, ◌⊎◌, ⊤, ℕ, Bool, true, false, ◌||◌, List, [], ◌∷◌, ◌++◌, length, take, Err}
use Rattle.iso_codec.specs.Reads.{read}
use Rattle.iso_dialect.specs.Ascii.{IsAsciiOf}
use Rattle.iso_dialect.specs.Readings.{read_as}
use Rattle.iso_dialect.specs.Writings.{IsWriteFault, IsWrittenOf}
use Rattle.iso_dialect.specs.declared.profile.Draft.{Draft}
use Rattle.iso_dialect.specs.declared.error.WriteError.{WriteError}
use Rattle.iso_dialect.specs.declared.error.WriteError.TheVariants as write
use Rattle.dialect_toml.specs.declared.frame.Frame.{Frame}
use Rattle.dialect_toml.specs.declared.words.FrameLength.TheVariants.{Ascii4}
use Rattle.dialect_frame.specs.declared.error.FrameError.{FrameError}
use Rattle.dialect_frame.specs.declared.error.FrameError.TheVariants as frame
use Rattle.dialect_frame.specs.Forms.{beside}
use Rattle.dialect_frame.specs.Writings.{WrittenAs, greatest}
use Rattle.cli_recode.specs.declared.error.RecodeError.{RecodeError}
use Rattle.cli_recode.specs.declared.error.RecodeError.TheVariants.{NoHeader, OutOfMemory, Unframed, Unread, Unwritten}
use Rattle.cli_recode.specs.declared.message.Instead.{Instead}
use Rattle.cli_recode.specs.declared.message.Instead.TheVariants.{EmptyFrame, FormatError, Nothing}
use Rattle.cli_recode.specs.declared.message.Way.{Way}
use Rattle.cli_recode.specs.declared.message.Way.TheVariants.{FromOther, ToOther}
use Rattle.cli_recode.specs.declared.message.Recoding.{Recoding}
use Rattle.cli_recode.specs.FormatErrors.{HasNoMessage, IsFormatErrorText, IsHeaded}

-- the form of the switch's own frames: four digits, no header, at most 9,999 bytes
abbrev pub own_form : Frame
own_form = record { length = Ascii4; counts_itself = false; header = []; most = 9999 }

-- the bytes are recoded to these
abbrev pub IsRecoded : Way → Draft → List ℕ → List ℕ → Type 0
IsRecoded FromOther profile bytes text = IsAsciiOf profile bytes text
IsRecoded ToOther profile bytes text = IsWrittenOf profile bytes text

-- the fault of a message of the switch: it is none, or has a field that the profile cannot write
abbrev pub IsUnwritten : Draft → List ℕ → WriteError → Type 0
IsUnwritten profile text (write.NotAMessage e) = read text ≡ Err e
IsUnwritten profile text (write.NotWritable n) = IsWriteFault profile text (write.NotWritable n)
IsUnwritten profile text write.OutOfMemory = ⊥

-- the fault of the bytes of a message
abbrev pub IsSpelledFault : Way → Draft → List ℕ → RecodeError → Type 0
IsSpelledFault FromOther profile bytes (Unread e) = read_as profile bytes ≡ Err e
IsSpelledFault ToOther profile bytes (Unwritten e) = IsUnwritten profile bytes e
IsSpelledFault _ _ _ _ = ⊥

-- the same, or memory ran out
abbrev pub IsSpelledRefusal : Way → Draft → List ℕ → RecodeError → Type 0
IsSpelledRefusal way profile bytes OutOfMemory = ⊤
IsSpelledRefusal way profile bytes e = IsSpelledFault way profile bytes e

-- a message is too long for its frame
abbrev pub IsTooLong : Frame → ℕ → FrameError → Type 0
IsTooLong f n (frame.OverMost most) = f.most < n
IsTooLong f n frame.OverLength = greatest f.length < beside f + n
IsTooLong f n frame.OutOfMemory = ⊥

-- what follows a header is recoded to this; where nothing follows it, nothing does
abbrev pub IsRespelled : Recoding → List ℕ → List ℕ → Type 0
IsRespelled job body text = ((0 < job.header) × (body ≡ []) × (text ≡ [])) ⊎ IsRecoded job.way job.profile body text

-- the frame of what a message is recoded to, after its header
abbrev pub IsRecodedFrame : Recoding → List ℕ → List ℕ → Type 0
IsRecodedFrame job bytes out =
    (header body text : List ℕ) × IsHeaded job.header bytes header body × IsRespelled job body text × WrittenAs job.form out (header ++ text)

-- what follows the header of a message has a fault
abbrev pub IsBodyFault : Recoding → List ℕ → RecodeError → Type 0
IsBodyFault job bytes e = (header body : List ℕ) × IsHeaded job.header bytes header body × IsSpelledFault job.way job.profile body e

-- Why a message is not recoded: it has no header, or what follows that has a fault, or is recoded to more than a frame can hold.
abbrev pub IsFault : Recoding → List ℕ → RecodeError → Type 0
IsFault job bytes (NoHeader n) = (length bytes < job.header) × (n ≡ job.header)
IsFault job bytes (Unframed e) =
    (header body text : List ℕ) × IsHeaded job.header bytes header body × IsRespelled job body text
    × IsTooLong job.form (length (header ++ text)) e
IsFault job bytes e = IsBodyFault job bytes e

-- the same, or memory ran out
abbrev pub IsRefusal : Recoding → List ℕ → RecodeError → Type 0
IsRefusal job bytes OutOfMemory = ⊤
IsRefusal job bytes e = IsFault job bytes e

-- a message may be left out for this
abbrev pub IsReason : RecodeError → Type 0
IsReason OutOfMemory = ⊥
IsReason _ = ⊤

-- the frame of a response, or nothing where that has a fault
abbrev pub IsFramedOrNothing : Recoding → List ℕ → List ℕ → Type 0
IsFramedOrNothing job text out = IsRecodedFrame job text out ⊎ ((out ≡ []) × ((e : RecodeError) × IsFault job text e))

-- What is written for a message that is not recoded: nothing; or the frame of its header; or that of the response of format error
-- in its place, and nothing if it is no message or that response cannot be written either.
abbrev pub IsInstead : Instead → Recoding → List ℕ → List ℕ → Type 0
IsInstead Nothing job bytes out = out ≡ []
IsInstead EmptyFrame job bytes out = WrittenAs own_form out (take job.header bytes)
IsInstead FormatError job bytes out =
    ((text : List ℕ) × IsFormatErrorText job.header bytes text × IsFramedOrNothing job text out)
    ⊎ ((out ≡ []) × HasNoMessage job.header bytes)

-- what is written for a message: its frame, or what stands instead of it where it has a fault
abbrev pub IsWritten : Recoding → List ℕ → List ℕ → Bool → Type 0
IsWritten job bytes out false = IsRecodedFrame job bytes out
IsWritten job bytes out true = IsInstead job.instead job bytes out × ((e : RecodeError) × IsFault job bytes e)

-- what is written for messages, one after the other, and whether one of them has a fault
abbrev pub AreWritten : Recoding → List (List ℕ) → List ℕ → Bool → Type 0
AreWritten job [] out refused = (out ≡ []) × (refused ≡ false)
AreWritten job (m ∷ ms) out refused =
    (one rest : List ℕ) × (left more : Bool) × (out ≡ one ++ rest) × (refused ≡ (left || more)) × IsWritten job m one left × AreWritten job ms rest more
