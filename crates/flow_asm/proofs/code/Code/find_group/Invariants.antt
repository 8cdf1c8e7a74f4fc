use Rattle.std.proofs.Common.{◌≡◌, drop}
use Rattle.flow_model.specs.Check.{is_named}
use Rattle.flow_model.specs.Places.{named_from, parts_of, entries_named}
use Rattle.flow_asm.proofs.code.Code.find_group.Given as goal

abbrev pub invariant-loop-number : goal.invariant-loop-number
invariant-loop-number l = record {
  placed_entries : named_from (parts_of l.self) l.number (drop l.number l.self.groups) l.name ≡ entries_named l.self l.name;
  known : is_named l.name (drop l.number l.self.groups) ≡ is_named l.name l.self.groups;
}
