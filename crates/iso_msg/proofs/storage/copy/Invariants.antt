use Rattle.std.proofs.Common.{◌≡◌, take}
use Rattle.iso_msg.specs.Storage.{pairs}
use Rattle.iso_msg.proofs.storage.copy.Given as goal

abbrev pub invariant-loop-field : goal.invariant-loop-field
invariant-loop-field l = pairs l.all.items ≡ pairs (take l.field-index l.fields)
