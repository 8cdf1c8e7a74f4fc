use Rattle.tx_history.proofs.RowCounts.{journal_ok}
use Rattle.tx_history.proofs.NextStarts.{cut_fits, opened_lawful, stopped_fits}
use Rattle.tx_history.proofs.laws.journals_are_sound.Goals as goal

pub returns : goal.returns
returns c = record {
  journal = λ f v past n flow start h. journal_ok f v past n flow start h.few h.sessions h.spelled h.lawful;
  stop = λ f v past n flow start h. stopped_fits f v past n flow start h.few h.sessions h.spelled h.lawful;
  cut = λ f v past breaks n flow start h. cut_fits f v past breaks n flow start h.few h.sessions h.spelled h.lawful;
  opening = opened_lawful;
}
