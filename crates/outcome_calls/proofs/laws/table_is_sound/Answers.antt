use Rattle.outcome_calls.proofs.TableStates.{proper_begin, sound, leads, proper_reopen, reopen_ok, row_ok}
use Rattle.outcome_calls.proofs.laws.table_is_sound.Goals as goal

pub returns : goal.returns
returns c = record { begins = proper_begin; sound = sound; leads = leads; reopens = λ f r h. (proper_reopen r h, reopen_ok f r h); row = row_ok }
