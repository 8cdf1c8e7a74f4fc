-- How far a stream is decoded.
use Rattle.std.specs.Prelude.{◌≡◌, ℕ, ◌*◌, ◌≤◌, List, length, Option}
use Rattle.std.specs.List.{list_any}
use Rattle.std.specs.Io.KnownBytes.{Consumes, Appends}
use Rattle.sw_frame.specs.Stream.{Stream}
use Rattle.cli_decode.specs.declared.decoder.Decoder.{Decoder}
use Rattle.cli_decode.specs.declared.style.FrameStyle.{FrameStyle}
use Rattle.cli_decode.specs.Decoded.{frames_text, is_refused_in}

-- after these bytes, which begin with these frames
pub record IsDecoded (k : FrameStyle) (bytes : List ℕ) (fs : List (List ℕ)) (d : Decoder) : Type 0 where
  pub stream : Stream bytes fs d.framer
  pub counted : d.count ≡ length fs
  pub refused : d.refused ≡ list_any (is_refused_in k) fs

-- a reader and a writer before, both now, and what was done between: this many reads of at most 65,536 bytes
pub record IsSoFar (k : FrameStyle) (unread unread_now written written_now : Option (List ℕ)) (reads : ℕ) (d : Decoder) : Type 0 where
  pub bytes : List ℕ
  pub frames : List (List ℕ)
  pub consumed : Consumes unread unread_now bytes
  pub few : length bytes ≤ 65536 * reads
  pub decoded : IsDecoded k bytes frames d
  pub printed : Appends written written_now (frames_text k 1 frames)
