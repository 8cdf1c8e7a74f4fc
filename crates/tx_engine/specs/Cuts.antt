-- Cuts: a history begins anew from where it has led.
use Rattle.std.specs.Prelude.{ℕ, Bool, List, [], ◌∷◌, length, filter, nat_lt, Option, is_some}
use Rattle.std.specs.List.{list_any, range_with_len}
use Rattle.sw_base.specs.Refusals.{refused_if, first_of}
use Rattle.flow_model.specs.declared.flow.Flow.{Flow}
use Rattle.flow_model.specs.Places.{parts_of}
use Rattle.tx_history.specs.declared.event.Event.{Event}
use Rattle.tx_history.specs.History.{Start, has_break}
use Rattle.tx_history.specs.Lives.{after_cut}
use Rattle.tx_engine.specs.declared.error.EngineError.{EngineError}
use Rattle.tx_engine.specs.declared.error.EngineError.TheVariants.{InUse, NotWritten}
use Rattle.tx_engine.specs.World.{World}
use Rattle.tx_engine.specs.Calls.{held_id}

-- a session holds a transaction, a recovered one too
abbrev pub is_in_use : World → Bool
is_in_use w = list_any (λ s. is_some (held_id w s)) (range_with_len 0 w.sessions)

abbrev pub cut_refusal : World → Option EngineError
cut_refusal w = first_of (refused_if (is_in_use w) InUse ∷ refused_if (nat_lt w.mark (length w.past)) NotWritten ∷ [])

-- the participants that have a breakpoint, numbers rising
abbrev pub breaks_of : Flow → Start → List Event → List ℕ
breaks_of f v past = filter (has_break v past) (range_with_len 0 (length (parts_of f)))

-- a participant has a breakpoint
abbrev pub is_broken : World → Bool
is_broken w = list_any (has_break w.start w.past) (range_with_len 0 (length (parts_of w.flow)))

-- the engine after a cut: an empty history, which begins from the journal, the queue and the breakpoints; no offer
-- has reserved memory
abbrev pub cut_world : World → World
cut_world w =
    record {
      flow = w.flow;
      sessions = w.sessions;
      start = after_cut w.flow w.start w.past (breaks_of w.flow w.start w.past);
      past = [];
      mark = 0;
      reserved = 0;
    }
