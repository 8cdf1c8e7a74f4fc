-- What is said of a refusal, without the participant that it may name.
use Rattle.std.specs.Prelude.{ℕ, List, codes}
use Rattle.tx_engine.specs.declared.error.EngineError.{EngineError}
use Rattle.tx_engine.specs.declared.error.EngineError.TheVariants as refusal

abbrev pub text_of : EngineError → List ℕ
text_of (refusal.UnknownParticipant id name) = codes "the flow lacks a participant of the journal"
text_of refusal.BadSessions = codes "bad number of sessions: expected 1 to 16"
text_of refusal.Busy = codes "the session holds a transaction"
text_of refusal.Empty = codes "the queue is empty"
text_of refusal.Recovering = codes "transactions of the journal are being recovered"
text_of refusal.IdsSpent =
    codes "all transaction ids are used: the next id would be 9223372036854775807; expected a lower one"
text_of refusal.NotDue = codes "no call of this kind is due"
text_of refusal.NoAdvice = codes "no advice is stored at this place"
text_of refusal.NoParticipant = codes "the flow has no participant of this name"
text_of refusal.NotHeld = codes "no call of the session is held"
text_of refusal.BadMark = codes "bad mark: expected the old mark to the number of entries"
text_of refusal.NoSession = codes "no session has this number"
text_of refusal.HistoryFull = codes "the history is full"
text_of refusal.OutOfMemory = codes "out of memory"
text_of refusal.InUse = codes "a session holds a transaction"
text_of refusal.NotWritten = codes "entries of the history are not written"
