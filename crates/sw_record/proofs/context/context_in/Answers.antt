use Rattle.std.proofs.Common.{ap, sym, ◌∙◌, []}
use Rattle.std.specs.Prelude.{Option, unwrap_or}
use Rattle.sw_context.specs.Pairs.{Pairs}
use Rattle.sw_json.proofs.Contexts.{reads, reads_none}
use Rattle.sw_record.proofs.context.context_in.Goals as goal

pub returns-in-Ok : goal.returns-in-Ok
returns-in-Ok c =
    let read = c.in-Ok.ensures in
    sym (ap (λ (o : Option Pairs). unwrap_or o []) (reads c.in-Ok.context c.args.bytes.now read.0 read.1))

pub returns-in-Err-BadBytes : goal.returns-in-Err-BadBytes
returns-in-Err-BadBytes c =
    c.new.ensures ∙ sym (ap (λ (o : Option Pairs). unwrap_or o []) (reads_none c.args.bytes.now (rw c.in-Err-BadBytes.field-0-is at c.in-Err-BadBytes.ensures)))
