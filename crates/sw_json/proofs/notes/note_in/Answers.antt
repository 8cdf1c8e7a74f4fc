use Rattle.std.proofs.Common.{◌≡◌, ◌∙◌, ap, sym, List, ℕ, None, Option}
use Rattle.std.specs.Prelude.{option_and_then}
use Rattle.sw_context.specs.Pairs.{Pairs, find}
use Rattle.sw_json.proofs.Contexts.{reads, reads_none}
use Rattle.sw_json.proofs.notes.note_in.Goals as goal

pub returns-in-Ok : goal.returns-in-Ok
returns-in-Ok c =
    let read = c.in-Ok.ensures in
    rw (reads c.in-Ok.context c.args.bytes.now read.0 read.1) c.value_in.ensures

pub returns-in-Err-BadBytes : goal.returns-in-Err-BadBytes
returns-in-Err-BadBytes c =
    ap (option_and_then (find c.args.name.now)) (sym (reads_none c.args.bytes.now (rw c.in-Err-BadBytes.field-0-is at c.in-Err-BadBytes.ensures)))
