-- What is written for a stream.
use Rattle.std.specs.Prelude.{◌≡◌, ◌==◌, ◌||◌, ℕ, Bool, not, List, [], length, Option, IfSome, unwrap_or}
use Rattle.std.specs.Io.KnownBytes.{Appends}
use Rattle.sw_frame.specs.Stream.{Framed as SwitchFramed, State}
use Rattle.dialect_toml.specs.declared.frame.Frame.{Frame}
use Rattle.dialect_toml.specs.declared.read.ProfileFile.{ProfileFile}
use Rattle.dialect_frame.specs.Forms.{Framed}
use Rattle.dialect_frame.specs.Stream.{Stream}
use Rattle.cli_recode.specs.declared.message.Instead.TheVariants.{Nothing}
use Rattle.cli_recode.specs.declared.message.Way.{Way}
use Rattle.cli_recode.specs.declared.message.Way.TheVariants.{FromOther, ToOther}
use Rattle.cli_recode.specs.declared.message.Recoding.{Recoding}
use Rattle.cli_recode.specs.Recodings.{AreWritten, own_form}

-- the form of the other system's frames; without a table `frame` it is that of the switch
abbrev pub other_form : ProfileFile → Frame
other_form file = unwrap_or file.frame own_form

-- the form of the frames that are read
abbrev pub read_form : Way → ProfileFile → Frame
read_form FromOther file = other_form file
read_form ToOther file = own_form

-- the form of those that are written
abbrev pub written_form : Way → ProfileFile → Frame
written_form FromOther file = own_form
written_form ToOther file = other_form file

abbrev pub recoding_of : Way → ProfileFile → Recoding
recoding_of way file = record {
  way = way;
  profile = file.profile;
  form = written_form way file;
  header = 0;
  instead = Nothing;
  place = [];
}

-- the stream has a bad length, or ends within a frame
abbrev pub is_cut : State → Bool
is_cut s = s.failed || not (length s.pending == 0)

-- What was recoded of a reader with these bytes: they are frames of this form of some messages, and what is written for these
-- is added to what a writer has.
abbrev pub IsRecodedBy : Frame → Recoding → Option (List ℕ) → Option (List ℕ) → Option (List ℕ) → Bool → Type 0
IsRecodedBy form job unread written written_now refused =
    IfSome unread (λ bytes. (ms : List (List ℕ)) × (s : State) × (out : List ℕ) × (left : Bool) × Stream form bytes ms s
    × AreWritten job ms out left × Appends written written_now out × (refused ≡ (left || is_cut s)))

-- the same by a profile file
abbrev pub IsRecodedStream : Way → ProfileFile → Option (List ℕ) → Option (List ℕ) → Option (List ℕ) → Bool → Type 0
IsRecodedStream way file unread written written_now refused =
    IsRecodedBy (read_form way file) (recoding_of way file) unread written written_now refused

-- a frame of the switch's own form is a frame of `sw_frame`, where its message is not too long for one
abbrev pub OwnFramesAreTheSwitchs : Type 0
OwnFramesAreTheSwitchs = (text message : List ℕ) → Framed own_form text message → SwitchFramed text message
