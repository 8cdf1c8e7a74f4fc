use Rattle.std.proofs.Common.{◌≡◌, ◌+◌, ◌^◌, ◌<◌, ◌++◌, length, drop}
use Rattle.std.specs.Prelude.{◌||◌}
use Rattle.std.specs.List.{list_any}
use Rattle.sw_frame.specs.Feeds.{messages as messages_of}
use Rattle.cli_decode.specs.Decoded.{frames_text, is_refused_in}
use Rattle.cli_decode.proofs.decoder.push_frames.Given as goal

abbrev pub invariant-loop-message : goal.invariant-loop-message
invariant-loop-message l = record {
  number : l.first + length l.messages < 2 ^ 64 → l.number ≡ l.first + l.message-index;
  text : l.first + length l.messages < 2 ^ 64 → l.text.items ++ frames_text l.style l.number (messages_of (drop l.message-index l.messages))
      ≡ l.fn.text.items ++ frames_text l.style l.first (messages_of l.messages);
  refused : (l.refused || list_any (is_refused_in l.style) (messages_of (drop l.message-index l.messages)))
      ≡ list_any (is_refused_in l.style) (messages_of l.messages);
}
