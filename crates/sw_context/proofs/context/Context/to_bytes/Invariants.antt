use Rattle.std.proofs.Common.{◌≡◌, ◌++◌, map}
use Rattle.std.specs.List.{flat_map}
use Rattle.sw_context.specs.Pairs.{AreEntries}
use Rattle.sw_context.specs.Spelling.{bytes_of, entry_bytes}
use Rattle.sw_context.proofs.Entries.{seen}
use Rattle.sw_context.proofs.context.Context.to_bytes.Given as goal

abbrev pub invariant-loop-name : goal.invariant-loop-name
invariant-loop-name l = record {
  left : AreEntries (map seen l.name-iterator);
  written : l.out.items ++ flat_map entry_bytes (map seen l.name-iterator) ≡ bytes_of l.self;
}
