use Rattle.cli_journal.specs.Shown.{entry_in}
use Rattle.cli_journal.proofs.Listed.{entry_more}
use Rattle.cli_journal.proofs.context.push_entries.Goals as goal

pub loop-index-preserved : goal.loop-index-preserved
loop-index-preserved c = record {
  ends = c.loop-index.invariant.ends;
  texts = entry_more (entry_in c.args.style c.args.owner) c.args.context.now c.loop-index.index c.in-Some-Some.name.now c.in-Some-Some.value.now
      c.loop-index.text.items c.push_entry.new.text.items _ c.in-Some-Some.ensures c.in-Some-Some.ensures' c.loop-index.invariant.texts
      c.in_ok-push_entry.ensures;
}
