-- What `decode` prints.
--
-- decode.
--
-- `headed_text` is the paragraph of one message with the header before it: `message_text` of the message that
-- its bytes read as, or `refused_text`. `stream_text` is that of all frames, numbered from 1, and of the end:
-- nothing, a bad length, or the bytes of a frame that the stream does not finish. The first bytes of each frame,
-- of the number that a `FrameStyle` gives, are its header, and its message comes after them.
use Rattle.std.specs.Prelude.{◌≡◌, ℕ, ◌+◌, ◌||◌, not, Bool, true, false, List, [], ◌∷◌, ◌++◌, length, take, drop, Option, Some, Result, Ok, Err, IfSome, codes}
use Rattle.std.specs.Prelude.{if◌then◌else◌, ◌==◌}
use Rattle.std.specs.Fmt.{decimal}
use Rattle.std.specs.List.{flat_map, list_any}
use Rattle.iso_msg.specs.declared.table.FieldForm.{FieldForm}
use Rattle.iso_msg.specs.declared.table.FieldForm.TheVariants.{Binary}
use Rattle.iso_msg.specs.Table.{form_of}
use Rattle.iso_msg.specs.Messages.{PlainMessage}
use Rattle.iso_codec.specs.declared.error.DecodeError.{DecodeError}
use Rattle.iso_codec.specs.declared.error.DecodeError.TheVariants as fault
use Rattle.iso_codec.specs.Reads.{read}
use Rattle.iso_codec.specs.Spelling.{hex}
use Rattle.std.specs.Io.KnownBytes.{Appends}
use Rattle.sw_frame.specs.Stream.{State, Stream}
use Rattle.cli_forms.specs.declared.masking.Masking.{Masking}
use Rattle.cli_forms.specs.declared.masking.Masking.TheVariants.{Off, On}
use Rattle.cli_decode.specs.declared.style.FrameStyle.{FrameStyle}
use Rattle.cli_decode.specs.Masks.{AgreeMessages, is_sensitive, masked_line}

-- a binary value is shown as upper case hexadecimal digits, every other as it is
abbrev pub shown : Option FieldForm → List ℕ → List ℕ
shown (Some Binary) value = flat_map hex value
shown _ value = value

-- `F VALUE`
abbrev pub line_of : Option FieldForm → ℕ → List ℕ → List ℕ
line_of form n value = decimal n ++ (codes " " ++ (shown form value ++ codes "\n"))

abbrev pub field_line : ℕ × List ℕ → List ℕ
field_line f = line_of (form_of f.0) f.0 f.1

-- `header HH..`: the header's bytes in upper case hexadecimal digits; a header without bytes has no line
abbrev pub header_line : List ℕ → List ℕ
header_line [] = []
header_line (byte ∷ more) = codes "header " ++ (flat_map hex (byte ∷ more) ++ codes "\n")

-- `message N`, the header's line, `mti MMMM`, and a line for each field, the numbers rising
abbrev pub message_text : ℕ → List ℕ → PlainMessage → List ℕ
message_text n header m =
    codes "message " ++ (decimal n ++ (codes "\n"
    ++ (header_line header ++ (codes "mti " ++ (m.mti ++ (codes "\n" ++ flat_map field_line m.fields))))))

-- the same, with sensitive fields masked where that is asked for
abbrev pub line_by : Masking → Option FieldForm → ℕ → List ℕ → List ℕ
line_by Off form n value = line_of form n value
line_by On form n value = if is_sensitive n then masked_line n value else line_of form n value

abbrev pub shown_line : Masking → ℕ × List ℕ → List ℕ
shown_line k f = line_by k (form_of f.0) f.0 f.1

abbrev pub view_text : Masking → ℕ → List ℕ → PlainMessage → List ℕ
view_text k n header m =
    codes "message " ++ (decimal n ++ (codes "\n"
    ++ (header_line header ++ (codes "mti " ++ (m.mti ++ (codes "\n" ++ flat_map (shown_line k) m.fields))))))

abbrev pub fault_name : DecodeError → List ℕ
fault_name fault.Short = codes "Short"
fault_name fault.BadMti = codes "BadMti"
fault_name fault.BadBitmap = codes "BadBitmap"
fault_name (fault.FieldNotInProfile n) = codes "FieldNotInProfile"
fault_name (fault.BadLength n) = codes "BadLength"
fault_name (fault.BadContent n) = codes "BadContent"
fault_name fault.Trailing = codes "Trailing"
fault_name fault.OutOfMemory = codes "OutOfMemory"

-- `message N refused NAME`, and the header's line
abbrev pub refused_text : ℕ → List ℕ → DecodeError → List ℕ
refused_text n header e =
    codes "message " ++ (decimal n ++ (codes " refused " ++ (fault_name e ++ (codes "\n" ++ header_line header))))

-- the text of the message of this number and its header, by what its bytes read as
abbrev pub outcome_text : Masking → ℕ → List ℕ → Result PlainMessage DecodeError → List ℕ
outcome_text k n header (Ok m) = view_text k n header m
outcome_text k n header (Err e) = refused_text n header e

-- the text of these bytes after this header
unfoldable pub headed_text : Masking → ℕ → List ℕ → List ℕ → List ℕ
headed_text k n header bytes = outcome_text k n header (read bytes)

-- the text of bytes without a header
abbrev pub frame_text : Masking → ℕ → List ℕ → List ℕ
frame_text k n bytes = headed_text k n [] bytes

-- the text of a frame; one that is shorter than its header has no bytes of a message
abbrev pub styled_text : FrameStyle → ℕ → List ℕ → List ℕ
styled_text s n frame = headed_text s.masking n (take s.header frame) (drop s.header frame)

abbrev pub is_err : Result PlainMessage DecodeError → Bool
is_err (Ok m) = false
is_err (Err e) = true

-- the bytes are not a message
unfoldable pub is_refused : List ℕ → Bool
is_refused bytes = is_err (read bytes)

-- the bytes of a frame after its header are not a message
abbrev pub is_refused_in : FrameStyle → List ℕ → Bool
is_refused_in s frame = is_refused (drop s.header frame)

-- the texts of frames, the first with this number
abbrev pub frames_text : FrameStyle → ℕ → List (List ℕ) → List ℕ
frames_text k n [] = []
frames_text k n (f ∷ fs) = styled_text k n f ++ frames_text k (n + 1) fs

-- the stream ends within a frame, after this many bytes of it
abbrev pub cut_text : ℕ → List ℕ
cut_text pending = codes "frame refused Truncated " ++ (decimal pending ++ codes "\n")

-- a bad length, or the bytes of a frame that the stream does not finish
abbrev pub end_text : State → List ℕ
end_text s =
    if s.failed then codes "frame refused BadLength\n"
    else if length s.pending == 0 then [] else cut_text (length s.pending)

-- the stream has a bad length, or ends within a frame
abbrev pub is_cut : State → Bool
is_cut s = s.failed || not (length s.pending == 0)

-- the text of a stream with these frames, and whether anything of it is refused
abbrev pub stream_text : FrameStyle → List (List ℕ) → State → List ℕ
stream_text k fs s = frames_text k 1 fs ++ end_text s

abbrev pub has_refusal : FrameStyle → List (List ℕ) → State → Bool
has_refusal k fs s = list_any (is_refused_in k) fs || is_cut s

-- What was decoded of a reader with these bytes: a stream of some frames, and its text is added to what a writer has.
abbrev pub IsDecodedStream : FrameStyle → Option (List ℕ) → Option (List ℕ) → Option (List ℕ) → Bool → Type 0
IsDecodedStream k unread written written_now refused =
    IfSome unread (λ bytes. (fs : List (List ℕ)) × (s : State) × Stream bytes fs s
    × Appends written written_now (stream_text k fs s) × (refused ≡ has_refusal k fs s))

-- After the same header, messages that differ only in what is masked have the same masked text.
abbrev pub MaskedTextsHide : Type 0
MaskedTextsHide =
    (n : ℕ) (header f g : List ℕ) (m k : PlainMessage) → read f ≡ Ok m → read g ≡ Ok k → AgreeMessages m k
    → headed_text On n header f ≡ headed_text On n header g
