-- What the station of the due call does is a deed of the law.
-- for: laws::station_calls
use Rattle.std.proofs.Common.{◌≡◌, ℕ, Bool, true, false, List, [], ◌∷◌, length, Some, refl, ◌∙◌, ap, arith}
use Rattle.std.specs.Prelude.{if◌then◌else◌, slice_index, nat_lt, ◌&&◌}
use Rattle.sw_participant.specs.declared.call.Act.{Act}
use Rattle.sw_participant.specs.declared.call.Act.TheVariants as act
use Rattle.sw_participant.specs.declared.call.Call.{Call}
use Rattle.sw_participant.specs.declared.call.Reply.{Reply}
use Rattle.sw_participant.specs.declared.call.Reply.TheVariants as station
use Rattle.flow_model.specs.declared.flow.Flow.{Flow}
use Rattle.tx_machine.specs.declared.values.Phase.{Phase}
use Rattle.tx_machine.specs.declared.values.Phase.TheVariants.{Preparing, Aborting, Committing, Undoing}
use Rattle.tx_machine.specs.declared.values.Due.{Due}
use Rattle.tx_machine.specs.declared.values.Due.TheVariants.{Prepare, PrepareForAbort, Select, Commit, Abort, Shelve, Done}
use Rattle.tx_machine.specs.Table as table
use Rattle.tx_machine.specs.Table.{Upcoming}
use Rattle.tx_machine.specs.Due.{due_at, due_of}
use Rattle.outcome_calls.specs.Trail.{Deed}
use Rattle.outcome_calls.specs.One.{Preparation, Selection, Standing, Made, commits}
use Rattle.outcome_calls.specs.States.{FullState, restores, outcome_due, seen, decision, standing}
use Rattle.outcome_calls.specs.Stations.{deed_of, outcome_act, station_call, with_context}

pub outcome_made : (q c : Bool) (p : ℕ) (again : Bool) (r : Reply) (w : List ℕ) (st : Standing) (m : Deed) → commits st.decision ≡ c →
    deed_of (outcome_act q c again) p st.told r ≡ Some m → Made (outcome_due q p) (with_context r w) st m
outcome_made true c p again (station.Answer b) w st m is h = absurd (grind (arith, h))
outcome_made true c p again (station.Chosen t) w st m is h = absurd (grind (arith, h))
outcome_made true c p again (station.Told a) w st m is h = absurd (grind (arith, h))
outcome_made true c p again station.Recovered w st m is h = grind (arith, h)
outcome_made false true p again (station.Told a) w st m is h = grind (arith, is, h)
outcome_made false false p again (station.Told a) w st m is h = grind (arith, is, h)
outcome_made false true p again (station.Answer b) w st m is h = absurd (grind (arith, h))
outcome_made false true p again (station.Chosen t) w st m is h = absurd (grind (arith, h))
outcome_made false true p again station.Recovered w st m is h = absurd (grind (arith, h))
outcome_made false false p again (station.Answer b) w st m is h = absurd (grind (arith, h))
outcome_made false false p again (station.Chosen t) w st m is h = absurd (grind (arith, h))
outcome_made false false p again station.Recovered w st m is h = absurd (grind (arith, h))

abbrev pub is_preparation : Act → Bool
is_preparation act.Prepare = true
is_preparation act.PrepareForAbort = true
is_preparation _ = false

-- the call of a station is the one that was made of its parts
abbrev pub call_from : ℕ → ℕ → Act → Call
call_from id p a = record { id = id; participant = p; act = a }

pub same_deed : (id p : ℕ) (a : Act) (call : Call) (n : ℕ) (r : Reply) (m : Deed) → Some (call_from id p a) ≡ Some call →
    deed_of call.act call.participant n r ≡ Some m → deed_of a p n r ≡ Some m
same_deed id p a call n r m is h =
    let same : call_from id p a ≡ call = some_call (call_from id p a) call is in ap (λ (k : Call). deed_of k.act k.participant n r) same ∙ h
  where
    some_call : (x y : Call) → Some x ≡ Some y → x ≡ y
    some_call x y e = grind (arith, e)

-- the reply to a preparation or a selection
pub answer_made : (p : ℕ) (a : Act) (r : Reply) (w : List ℕ) (to : Standing) (m : Deed) → is_preparation a ≡ true → deed_of a p to.told r ≡ Some m →
    Made (Preparation p) (with_context r w) to m
answer_made p act.Prepare (station.Answer b) w to m e k = grind (arith, k)
answer_made p act.Prepare (station.Chosen t) w to m e k = absurd (grind (arith, k))
answer_made p act.Prepare (station.Told v) w to m e k = absurd (grind (arith, k))
answer_made p act.Prepare station.Recovered w to m e k = absurd (grind (arith, k))
answer_made p act.PrepareForAbort (station.Answer b) w to m e k = grind (arith, k)
answer_made p act.PrepareForAbort (station.Chosen t) w to m e k = absurd (grind (arith, k))
answer_made p act.PrepareForAbort (station.Told v) w to m e k = absurd (grind (arith, k))
answer_made p act.PrepareForAbort station.Recovered w to m e k = absurd (grind (arith, k))
answer_made p act.Select r w to m e k = absurd (grind (arith, e))
answer_made p (act.Commit b) r w to m e k = absurd (grind (arith, e))
answer_made p (act.Abort b) r w to m e k = absurd (grind (arith, e))
answer_made p (act.Recover b) r w to m e k = absurd (grind (arith, e))

pub choice_made : (p : ℕ) (r : Reply) (w : List ℕ) (to : Standing) (m : Deed) → deed_of act.Select p to.told r ≡ Some m →
    Made (Selection p) (with_context r w) to m
choice_made p (station.Chosen t) w to m k = grind (arith, k)
choice_made p (station.Answer b) w to m k = absurd (grind (arith, k))
choice_made p (station.Told v) w to m k = absurd (grind (arith, k))
choice_made p station.Recovered w to m k = absurd (grind (arith, k))

-- of the machine's due call
pub due_made : (f : Flow) (id : ℕ) (st : FullState) (d : Due) (to : Standing) (call : Call) (r : Reply) (w : List ℕ) (m : Deed)
    → ((q : ℕ) → d ≡ Commit q → commits to.decision ≡ true) → ((q : ℕ) → d ≡ Abort q → commits to.decision ≡ false)
    → station_call f id st d ≡ Some call → deed_of call.act call.participant to.told r ≡ Some m → Made (seen f st d) (with_context r w) to m
due_made f id st Shelve to call r w m x y is h = absurd (grind (arith, is))
due_made f id st Done to call r w m x y is h = absurd (grind (arith, is))
due_made f id st (Commit q) to call r w m x y is h =
    outcome_made (restores f st q) true q st.recovered r w to m (x q refl) (same_deed id q (outcome_act (restores f st q) true st.recovered) call to.told r
    m is h)
due_made f id st (Abort q) to call r w m x y is h =
    outcome_made (restores f st q) false q st.recovered r w to m (y q refl) (same_deed id q (outcome_act (restores f st q) false st.recovered) call to.told
    r m is h)
due_made f id st (Prepare s) to call r w m x y is h = answer_made s.participant act.Prepare r w to m refl
    (same_deed id s.participant act.Prepare call to.told r m is h)
due_made f id st (PrepareForAbort s) to call r w m x y is h =
    answer_made s.participant act.PrepareForAbort r w to m refl (same_deed id s.participant act.PrepareForAbort call to.told r m is h)
due_made f id st (Select s) to call r w m x y is h = choice_made s.participant r w to m (same_deed id s.participant act.Select call to.told r m is h)

pub ended_not : (b : Bool) (q : ℕ) → (if b then Shelve else Done) ≡ Commit q → ⊥
ended_not true q h = grind (arith, h)
ended_not false q h = grind (arith, h)

pub commit_decision : (f : Flow) (st : FullState) (ph : Phase) (ms : List Upcoming) (q : ℕ) → due_at f st.state ph ms ≡ Commit q → commits (decision ph) ≡ true
commit_decision f st Preparing [] q h = absurd (grind (arith, h))
commit_decision f st Preparing (table.Prepare e ∷ ms) q h = absurd (grind (arith, h))
commit_decision f st Preparing (table.Select e ∷ ms) q h = absurd (grind (arith, h))
commit_decision f st Aborting [] q h = absurd (ended_not (st.state.retry && nat_lt 0 st.state.tries) q h)
commit_decision f st Aborting (table.Prepare e ∷ ms) q h = absurd (grind (arith, h))
commit_decision f st Aborting (table.Select e ∷ ms) q h = absurd (grind (arith, h))
commit_decision f st Committing ms q h = refl
commit_decision f st Undoing ms q h = absurd (no_commit (nat_lt st.state.told (length st.state.joined)) (st.state.retry && nat_lt 0 st.state.tries) h)
  where
    no_commit : (b c : Bool) → (if b then Abort (slice_index st.state.joined st.state.told) else (if c then Shelve else Done)) ≡ Commit q → ⊥
    no_commit true c k = grind (arith, k)
    no_commit false c k = ended_not c q k

pub abort_decision : (f : Flow) (st : FullState) (ph : Phase) (ms : List Upcoming) (q : ℕ) → due_at f st.state ph ms ≡ Abort q → commits (decision ph) ≡ false
abort_decision f st Preparing ms q h = refl
abort_decision f st Aborting ms q h = refl
abort_decision f st Undoing ms q h = refl
abort_decision f st Committing ms q h = absurd (no_abort (nat_lt st.state.told (length st.state.joined)) h)
  where
    no_abort : (b : Bool) → (if b then Commit (slice_index st.state.joined st.state.told) else Done) ≡ Abort q → ⊥
    no_abort true k = grind (arith, k)
    no_abort false k = grind (arith, k)

-- the call that is due, made by its station, is a call of the core
pub made : (f : Flow) (id : ℕ) (st : FullState) (call : Call) (r : Reply) (w : List ℕ) (m : Deed)
    → station_call f id st (due_of f st.state) ≡ Some call → deed_of call.act call.participant st.state.told r ≡ Some m →
    Made (standing f st).due (with_context r w) (standing f st) m
made f id st call r w m is h = due_made f id st (due_of f st.state) (standing f st) call r w m (commit_decision f st st.state.phase st.state.rest)
    (abort_decision f st st.state.phase st.state.rest) is h
