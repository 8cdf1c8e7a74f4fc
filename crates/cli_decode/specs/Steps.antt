-- What a piece of a stream adds, and a read of it.
use Rattle.std.specs.Prelude.{◌≡◌, ℕ, ◌+◌, ◌^◌, ◌<◌, ◌⊎◌, Bool, true, false, List, [], ◌++◌, length, Option}
use Rattle.std.specs.Io.KnownBytes.{IsAtEnd, Appends}
use Rattle.cli_decode.specs.declared.decoder.Decoder.{Decoder}
use Rattle.cli_decode.specs.declared.style.FrameStyle.{FrameStyle}
use Rattle.cli_decode.specs.Decoded.{frames_text}
use Rattle.cli_decode.specs.Progress.{IsDecoded, IsSoFar}

-- After the bytes of these frames, a piece gives further frames and adds their text. The stream has fewer
-- than 2^63 bytes, so that numbers stay below 2^64.
abbrev pub DecodesPiece : FrameStyle → Decoder → List ℕ → Decoder → List ℕ → List ℕ → Type 0
DecodesPiece k d piece e old new =
    (bytes : List ℕ) (fs : List (List ℕ)) → IsDecoded k bytes fs d → length (bytes ++ piece) < 2 ^ 63
    → (more : List (List ℕ)) × IsDecoded k (bytes ++ piece) (fs ++ more) e
    × (new ≡ old ++ frames_text k (length fs + 1) more)

-- a piece is decoded, and its text is written
abbrev pub PrintsPiece : FrameStyle → Decoder → List ℕ → Decoder → Option (List ℕ) → Option (List ℕ) → Type 0
PrintsPiece k d piece e written written_now =
    (text : List ℕ) × DecodesPiece k d piece e [] text × Appends written written_now text

-- a reader, a writer, the reads that were made and what is decoded
pub record Moment : Type 0 where
  pub unread : Option (List ℕ)
  pub written : Option (List ℕ)
  pub reads : ℕ
  pub decoder : Decoder

-- Decoding goes on from what was decoded so far; where no more comes, the reader is at its end or the stream has failed.
abbrev pub DecodingGoesOn : FrameStyle → Moment → Moment → Bool → Type 0
DecodingGoesOn k m n more =
    ((first start : Option (List ℕ)) → IsSoFar k first m.unread start m.written m.reads m.decoder
    → IsSoFar k first n.unread start n.written n.reads n.decoder)
    × (more ≡ false → IsAtEnd n.unread ⊎ (n.decoder.framer.failed ≡ true))
