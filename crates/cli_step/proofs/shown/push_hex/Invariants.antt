use Rattle.std.proofs.Common.{◌≡◌, ◌++◌, drop, string_bytes}
use Rattle.std.specs.List.{flat_map}
use Rattle.tx_trace.specs.Trace.{hex_text}
use Rattle.cli_step.proofs.shown.push_hex.Given as goal

abbrev pub invariant-loop-byte : goal.invariant-loop-byte
invariant-loop-byte l =
    string_bytes l.text ++ flat_map hex_text (drop l.byte-index l.bytes) ≡ string_bytes l.fn.text ++ flat_map hex_text l.bytes
