use Rattle.std.proofs.Common.{◌≡◌, ◌<◌, ◌^◌, drop}
use Rattle.sw_base.specs.Digits.{number_after, number_of}
use Rattle.sw_messages.proofs.amount.amount_of.Given as goal

abbrev pub invariant-loop-digit : goal.invariant-loop-digit
invariant-loop-digit l = record {
  small : l.amount < 10 ^ l.digit-index;
  so_far : number_after l.amount (drop l.digit-index l.digits) ≡ number_of l.digits;
}
