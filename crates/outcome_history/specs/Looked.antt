-- A journal by look-up, as the outcome law sees it: participants stand there by number.
use Rattle.std.specs.Prelude.{ℕ, List, [], ◌∷◌, map, Option, Some, None, option_map, if◌then◌else◌}
use Rattle.flow_model.specs.declared.flow.Flow.{Flow}
use Rattle.tx_machine.specs.Row.{Row as TxRow}
use Rattle.outcome_calls.specs.Core.{IdView}
use Rattle.tx_history.specs.declared.journal.Row.{Row}
use Rattle.tx_history.specs.declared.journal.JournalView.{JournalView}
use Rattle.tx_history.specs.Keys.{look, same_place}
use Rattle.tx_history.specs.History.{Start, number_of}
use Rattle.tx_history.specs.Journal.{to_close}

-- a row with its participants by number
abbrev pub numbered : Flow → Row → TxRow
numbered f r = record {
  phase = r.phase;
  joined = map (number_of f) r.joined;
  told = r.told;
  doing = option_map (number_of f) r.doing;
  tries =
      r.tries;
  saved = r.context;
}

-- the advice under a member's place
abbrev pub advice_at : ℕ × ℕ → List ((ℕ × ℕ) × List ℕ) → Option (List ℕ)
advice_at place [] = None
advice_at place (x ∷ xs) = if same_place x.0 place then Some x.1 else advice_at place xs

-- the view by look-up
abbrev pub id_view : Flow → JournalView → IdView
id_view f w = record { next_id = w.next_id; row = λ id. option_map (numbered f) (look id w.rows); advice = λ id n. advice_at (id, n) w.advices }

-- ids put one after the other on top of those that were there
abbrev pub stacked : List ℕ → List ℕ → List ℕ
stacked [] past = past
stacked (id ∷ ids) past = stacked ids (id ∷ past)

-- the transactions that an opening closes, the latest first
abbrev pub closings : Flow → Start → List ℕ
closings f v = stacked (to_close f v.view.rows) []
