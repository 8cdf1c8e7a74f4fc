use Rattle.std.proofs.Common.{◌≡◌, ◌+◌, ◌<◌, ◌^◌, map, length}
use Rattle.std.specs.List.{flat_map}
use Rattle.sw_context.specs.Spelling.{bytes_of, entry_bytes}
use Rattle.sw_context.proofs.Entries.{seen}
use Rattle.sw_context.proofs.context.Context.bytes_len.Given as goal

abbrev pub invariant-loop-name : goal.invariant-loop-name
invariant-loop-name l = record {
  small : length (bytes_of l.self) < 2 ^ 23;
  counted : l.total + length (flat_map entry_bytes (map seen l.name-iterator)) ≡ length (bytes_of l.self);
}
