-- What the law keeps of the call of a station.
use Rattle.std.specs.Prelude.{ℕ, Bool, true, false, List, Option, Some, None}
use Rattle.sw_participant.specs.declared.call.Act.{Act}
use Rattle.sw_participant.specs.declared.call.Act.TheVariants as act
use Rattle.sw_participant.specs.declared.call.Reply.{Reply}
use Rattle.sw_participant.specs.declared.call.Reply.TheVariants as station
use Rattle.sw_participant.specs.declared.call.Call.{Call}
use Rattle.flow_model.specs.declared.flow.Flow.{Flow}
use Rattle.tx_machine.specs.declared.values.Due.{Due}
use Rattle.tx_machine.specs.declared.values.Due.TheVariants.{Commit, Abort}
use Rattle.tx_machine.specs.Due.{act_of, call_by, participant_of}
use Rattle.outcome_calls.specs.Trail.{Deed, Answered, Chose, Told, Recovered}
use Rattle.outcome_calls.specs.One.{FullReply, Answer, Chosen, Advice, Restored}
use Rattle.outcome_calls.specs.States.{FullState, restores}

-- the deed of a call and its reply; its place is the number of members notified before it
abbrev pub deed_of : Act → ℕ → ℕ → Reply → Option Deed
deed_of act.Prepare p n (station.Answer b) = Some (Answered p b)
deed_of act.PrepareForAbort p n (station.Answer b) = Some (Answered p b)
deed_of act.Select p n (station.Chosen t) = Some (Chose p)
deed_of (act.Commit r) p n (station.Told a) = Some (Told true p n a)
deed_of (act.Abort r) p n (station.Told a) = Some (Told false p n a)
deed_of (act.Recover c) p n station.Recovered = Some (Recovered p n)
deed_of _ p n _ = None

-- the act of a station's due call where an outcome is due: the recover call, if one comes first, or the outcome
abbrev pub outcome_act : Bool → Bool → Bool → Act
outcome_act true commit again = act.Recover commit
outcome_act false true again = act.Commit again
outcome_act false false again = act.Abort again

-- the same of every due call; none where nothing is due
abbrev pub station_act : Flow → FullState → Due → Option Act
station_act f st (Commit p) = Some (outcome_act (restores f st p) true st.recovered)
station_act f st (Abort p) = Some (outcome_act (restores f st p) false st.recovered)
station_act f st d = act_of st.recovered d

-- the call that is due to the transaction `id`, as a station is called
abbrev pub station_call : Flow → ℕ → FullState → Due → Option Call
station_call f id st d = call_by id (participant_of d) (station_act f st d)

-- a station's reply with the context that it left
abbrev pub with_context : Reply → List ℕ → FullReply
with_context (station.Answer b) c = Answer b c
with_context (station.Chosen t) c = Chosen t
with_context (station.Told a) c = Advice a
with_context station.Recovered c = Restored
