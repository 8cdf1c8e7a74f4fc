use Rattle.std.proofs.Common.{◌≡◌, drop}
use Rattle.sw_messages.specs.Placing.{copied}
use Rattle.sw_messages.proofs.build.copy_fields.Given as goal

abbrev pub invariant-loop-number : goal.invariant-loop-number
invariant-loop-number l = record {
  mti : l.to.mti ≡ l.fn.to.mti;
  fields : copied (drop l.number-index l.numbers) l.from.fields l.to.fields ≡ copied l.numbers l.from.fields l.fn.to.fields;
}
