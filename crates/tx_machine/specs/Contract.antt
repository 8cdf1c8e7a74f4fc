-- What a machine represents, and when it is sound: the only words of the machine's contract that know how it is made.
use Rattle.std.specs.Prelude.{◌≡◌, ◌<◌, ◌≤◌, ◌⊎◌, true, false, [], length, Some, slice_get, Result, Err, OnOk, OnErr, IfErr}
use Rattle.std.specs.List.{All}
use Rattle.flow_model.specs.declared.flow.Flow.{Flow}
use Rattle.flow_model.specs.Places.{parts_of}
use Rattle.flow_asm.specs.Steps.{AtReturn, stages}
use Rattle.tx_machine.specs.declared.machine.Machine.{Machine}
use Rattle.tx_machine.specs.declared.values.Item.{Item}
use Rattle.tx_machine.specs.declared.error.MachineError.{MachineError}
use Rattle.tx_machine.specs.declared.error.MachineError.TheVariants.{NotDue}
use Rattle.tx_machine.specs.Position.{IsStackFrame, rest_of}
use Rattle.tx_machine.specs.Table.{TxState, is_due, next}

-- the state that a machine represents
abbrev pub state : Flow → Machine → TxState
state f m = record {
  phase = m.phase;
  rest = rest_of f m.step m.stack.items;
  retry = m.retry;
  bound = m.bound;
  calls = m.calls;
  joined =
      m.joined.items;
  told = m.told;
  saved = m.saved.items;
  tries = m.tries;
}

unfoldable pub tx_state : Flow → Machine → TxState
tx_state f m = state f m

-- the step, the stack and the members are of this flow
pub record Fits (f : Flow) (m : Machine) : Type 0 where
  pub within : m.step < length (stages f)
  pub frames : All (IsStackFrame f) m.stack.items
  pub few : m.calls ≤ 1000
  pub members : All (λ p. p < length (parts_of f)) m.joined.items

-- and a call is due, or nothing is to come
pub record IsAtCallOrEnd (f : Flow) (m : Machine) : Type 0 where
  pub fits : Fits f m
  pub rested : slice_get (stages f) m.step ≡ Some AtReturn → m.stack.items ≡ []

-- at most 1,000 answers and choices, and fewer if more is to come
pub record IsReady (f : Flow) (m : Machine) : Type 0 where
  pub at_call_or_end : IsAtCallOrEnd f m
  pub few : ((state f m).rest ≡ []) ⊎ (m.calls < 1000)

unfoldable pub IsSound : Flow → Machine → Type 0
IsSound f m = IsReady f m

-- What becomes of an item that a machine is given. It is taken exactly if it is due, memory aside; if it is not due, that
-- is the refusal, before any out of memory; and a refusal leaves the machine as it was.
pub record TakesItem (f : Flow) (old : Machine) (x : Item) (result : Result (Unit {0}) MachineError) (new : Machine) : Type 0 where
  pub sound : IsSound f new
  pub taken : OnOk result (tx_state f new ≡ next f (tx_state f old) x)
  pub due : OnOk result (is_due (tx_state f old) x ≡ true)
  pub not_due : IfErr result (λ e. e ≡ NotDue → is_due (tx_state f old) x ≡ false)
  pub first : is_due (tx_state f old) x ≡ false → result ≡ Err NotDue
  pub kept : OnErr result (tx_state f new ≡ tx_state f old)
