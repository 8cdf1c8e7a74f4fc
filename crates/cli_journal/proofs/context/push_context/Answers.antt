use Rattle.std.proofs.Common.{◌≡◌, ap, sym, subst, List, ℕ, ◌++◌}
use Rattle.std.specs.Prelude.{OnOk}
use Rattle.cli_journal.specs.Shown.{context_in, entries_in}
use Rattle.sw_json.proofs.Contexts.{reads, reads_none}
use Rattle.cli_journal.proofs.context.push_context.Goals as goal

pub returns-in-Ok : goal.returns-in-Ok
unfolding context_in
returns-in-Ok c =
    let read = c.in-Ok.ensures in
    subst (λ (xs : List ℕ). OnOk c.push_entries.result (c.push_entries.new.text.items ≡ c.args.text.now.items ++ xs))
    (sym (ap (entries_in c.args.style c.args.owner) (reads c.in-Ok.context c.args.bytes.now read.0 read.1)))
    c.push_entries.ensures

pub returns-in-Err-BadBytes : goal.returns-in-Err-BadBytes
unfolding context_in
returns-in-Err-BadBytes c =
    subst (λ (xs : List ℕ). OnOk c.push_refused.result (c.push_refused.new.text.items ≡ c.args.text.now.items ++ xs))
    (sym (ap (entries_in c.args.style c.args.owner) (reads_none c.args.bytes.now (rw c.in-Err-BadBytes.field-0-is at c.in-Err-BadBytes.ensures))))
    c.push_refused.ensures
