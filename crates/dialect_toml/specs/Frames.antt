-- The frame that a document states.
use Rattle.std.specs.Prelude.{ℕ, false, List, [], Option, option_map, unwrap_or}
use Rattle.std.specs.Result.{result_ok}
use Rattle.hex.specs.Hex.{decode_of}
use Rattle.toml.specs.Data.{Members}
use Rattle.toml_tables.specs.Tables.{flag_at, table_at, text_at}
use Rattle.dialect_toml.specs.declared.frame.Frame.{Frame}
use Rattle.dialect_toml.specs.declared.keys.Key.TheVariants as key
use Rattle.dialect_toml.specs.declared.words.FrameLength.{FrameLength}
use Rattle.dialect_toml.specs.declared.words.FrameLength.TheVariants as frame
use Rattle.dialect_toml.specs.Keys.{spelling}
use Rattle.dialect_toml.specs.Words.{frame_length, frame_lengths, word_in}
use Rattle.dialect_toml.specs.Tables.{number_at}

-- the bytes whose hexadecimal digits a text is; none of another text, which no header without a fault is
abbrev pub bytes_of : List ℕ → List ℕ
bytes_of text = unwrap_or (result_ok (decode_of text)) []

abbrev pub length_of : Members → FrameLength
length_of ms = unwrap_or (word_in frame_length frame_lengths (text_at (spelling key.FrameLength) ms)) frame.Ascii4

-- if the file does not say, the length does not count itself, there is no header, and a message has at most 9,999 bytes
abbrev pub frame_in : Members → Frame
frame_in ms = record {
  length = length_of ms;
  counts_itself = unwrap_or (flag_at (spelling key.CountsItself) ms) false;
  header = bytes_of (text_at (spelling key.Header) ms);
  most = unwrap_or (number_at 65535 key.Most ms) 9999;
}

unfoldable pub frame_of : Members → Option Frame
frame_of top = option_map frame_in (table_at (spelling key.Frame) top)
