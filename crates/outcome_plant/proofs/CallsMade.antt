-- The due call that a session's step makes is one that the outcome law's plant may make.
-- for: laws::turns_are_moves
use Rattle.std.proofs.Common.{◌≡◌, ℕ, ◌≤◌, Bool, true, false, List, Option, Some, None, refl, sym, ◌∙◌, ap, subst, arith}
use Rattle.std.specs.Prelude.{nat_lt, unwrap_or}
use Rattle.std.proofs.lemmas.Bool.Decides.{nat_tests}
use Rattle.sw_participant.specs.declared.call.Act.{Act}
use Rattle.sw_participant.specs.declared.call.Act.TheVariants as act
use Rattle.sw_participant.specs.declared.call.Call.{Call}
use Rattle.sw_participant.specs.declared.call.Reply.{Reply}
use Rattle.sw_participant.specs.declared.call.Reply.TheVariants as reply
use Rattle.sw_participant.specs.Chains.{outcome_place}
use Rattle.tx_machine.specs.declared.values.Due.{Due}
use Rattle.tx_machine.specs.Due.{due_of}
use Rattle.tx_machine.specs.Table.{TxState}
use Rattle.outcome_calls.specs.Trail.{Deed}
use Rattle.outcome_calls.specs.Core as core
use Rattle.outcome_calls.specs.Core.{IdEvent}
use Rattle.outcome_calls.specs.Plant.{AbstractPlant, last_own, whole}
use Rattle.outcome_calls.specs.Runs.{Callable}
use Rattle.outcome_calls.specs.Stations.{deed_of, station_call, with_context}
use Rattle.outcome_calls.proofs.StationCalls.{made}
use Rattle.tx_history.specs.History.{last_of, restores, state_of}
use Rattle.tx_history.proofs.OwnItems.{holds_serves}
use Rattle.outcome_history.specs.Looked.{id_view}
use Rattle.outcome_history.specs.Calls.{call_or}
use Rattle.outcome_history.proofs.LastEntries.{last_same}
use Rattle.outcome_history.proofs.CallsAgree.{calls_agree}
use Rattle.tx_slots.specs.declared.next.Next.TheVariants as next
use Rattle.tx_engine.specs.World.{World}
use Rattle.tx_slots.specs.DueCalls.{asks_for, call_with}
use Rattle.tx_engine.specs.Calls.{due_call, held_id, is_unwritten, next_of}
use Rattle.tx_engine.specs.Replies.{kind_of}
use Rattle.tx_plant.specs.declared.seat.Seat.{Seat}
use Rattle.tx_plant.specs.Plant.{Seen}
use Rattle.outcome_plant.specs.Deeds.{deed_at}
use Rattle.outcome_plant.specs.Mirrors.{Mirrors}
use Rattle.outcome_plant.proofs.Sameness.{serves_same, state_there, whole_same}
use Rattle.tx_seats.proofs.DueCalls.{IsDue, is_due, due_id}

-- a call that is due

-- of the transaction that is served

with_or : (id : ℕ) (recovering : Bool) (d : Due) (o : Option (ℕ × Bool)) → call_or id recovering d o ≡ call_with id recovering d o
with_or id recovering d (Some r) = refl
with_or id recovering d None = refl

-- its reply and place

deed_there : (a : Act) (p n : ℕ) (r : Reply) → asks_for (kind_of r) a ≡ true → (d : Deed) × (deed_of a p n r ≡ Some d)
deed_there act.Prepare p n (reply.Answer b) h = (_, refl)
deed_there act.PrepareForAbort p n (reply.Answer b) h = (_, refl)
deed_there act.Select p n (reply.Chosen t) h = (_, refl)
deed_there (act.Commit c) p n (reply.Told a) h = (_, refl)
deed_there (act.Abort c) p n (reply.Told a) h = (_, refl)
deed_there (act.Recover c) p n reply.Recovered h = (_, refl)
deed_there act.Prepare p n (reply.Chosen t) h = absurd (cc)
deed_there act.Prepare p n (reply.Told t) h = absurd (cc)
deed_there act.Prepare p n reply.Recovered h = absurd (cc)
deed_there act.PrepareForAbort p n (reply.Chosen t) h = absurd (cc)
deed_there act.PrepareForAbort p n (reply.Told t) h = absurd (cc)
deed_there act.PrepareForAbort p n reply.Recovered h = absurd (cc)
deed_there act.Select p n (reply.Answer t) h = absurd (cc)
deed_there act.Select p n (reply.Told t) h = absurd (cc)
deed_there act.Select p n reply.Recovered h = absurd (cc)
deed_there (act.Commit c) p n (reply.Answer t) h = absurd (cc)
deed_there (act.Commit c) p n (reply.Chosen t) h = absurd (cc)
deed_there (act.Commit c) p n reply.Recovered h = absurd (cc)
deed_there (act.Abort c) p n (reply.Answer t) h = absurd (cc)
deed_there (act.Abort c) p n (reply.Chosen t) h = absurd (cc)
deed_there (act.Abort c) p n reply.Recovered h = absurd (cc)
deed_there (act.Recover c) p n (reply.Answer t) h = absurd (cc)
deed_there (act.Recover c) p n (reply.Chosen t) h = absurd (cc)
deed_there (act.Recover c) p n (reply.Told t) h = absurd (cc)

deed_placed : (a : Act) (p told : ℕ) (r : Reply) → asks_for (kind_of r) a ≡ true → deed_of a p (unwrap_or (outcome_place a told) 0) r ≡ deed_of a p told r
deed_placed act.Prepare p told (reply.Answer b) h = refl
deed_placed act.PrepareForAbort p told (reply.Answer b) h = refl
deed_placed act.Select p told (reply.Chosen t) h = refl
deed_placed (act.Commit c) p told r h = refl
deed_placed (act.Abort c) p told r h = refl
deed_placed (act.Recover c) p told r h = refl
deed_placed act.Prepare p told (reply.Chosen t) h = absurd (cc)
deed_placed act.Prepare p told (reply.Told t) h = absurd (cc)
deed_placed act.Prepare p told reply.Recovered h = absurd (cc)
deed_placed act.PrepareForAbort p told (reply.Chosen t) h = absurd (cc)
deed_placed act.PrepareForAbort p told (reply.Told t) h = absurd (cc)
deed_placed act.PrepareForAbort p told reply.Recovered h = absurd (cc)
deed_placed act.Select p told (reply.Answer t) h = absurd (cc)
deed_placed act.Select p told (reply.Told t) h = absurd (cc)
deed_placed act.Select p told reply.Recovered h = absurd (cc)

-- the call may be made, and this is its deed
pub record MayCall (w : World) (a : AbstractPlant) (s : ℕ) (call : Call) (r : Reply) (told : ℕ) (context : List ℕ) : Type 0 where
  pub deed : Deed
  pub is : deed_at call (outcome_place call.act told) r ≡ Some deed
  pub callable : Callable w.flow a s call.id (with_context r context) deed

last_written : (w : World) (seat : ℕ → Option Seat) (j : Seen) (a : AbstractPlant) (id : ℕ) → Mirrors w seat j a → is_unwritten w id ≡ false →
    last_own a.start (whole w.flow a) id ≤ a.mark
last_written w seat j a id m h =
    let same : last_own a.start (whole w.flow a) id ≡ last_of w.flow w.start w.past id =
    ap (λ (v : core.IdView). last_own v (whole w.flow a) id) m.start
    ∙ (ap (λ (l : List IdEvent). last_own (id_view w.flow w.start.view) l id) (whole_same w seat j a m)
    ∙ last_same w.flow w.start w.past id m.engine.start.view.ordered m.engine.lawful.lawful) in
    let mark : a.mark ≡ w.mark = m.marked in
    let low : last_of w.flow w.start w.past id ≤ w.mark = grind (arith, nat_tests, h) in
    omega (arith, same, mark, low)

call_made : (w : World) (seat : ℕ → Option Seat) (j : Seen) (a : AbstractPlant) (s id : ℕ) (call : Call) (r : Reply) (context : List ℕ) →
    Mirrors w seat j a → IsDue w s call → call.id ≡ id → held_id w s ≡ Some id → is_unwritten w id ≡ false → due_call w id ≡ Some call
    → a.kept s ≡ None → asks_for (kind_of r) call.act ≡ true → MayCall w a s call r (state_of w.flow w.start w.past call.id).told context
call_made w seat j a s id call r context m due is held written call_is none fits =
    let o = m.engine.start.view.ordered in
    let law = m.engine.lawful.lawful in
    let h = (holds_serves w.flow w.start w.past s id held).0 in
    let k = calls_agree w.flow w.start w.past s id o law h in
    let d = deed_there call.act call.participant (state_of w.flow w.start w.past id).told r fits in
    let told : (state_of w.flow w.start w.past call.id).told ≡ (state_of w.flow w.start w.past id).told =
    ap (λ (i : ℕ). (state_of w.flow w.start w.past i).told) is in
    let here : station_call w.flow id k.state (due_of w.flow k.state.state) ≡ Some call =
    k.call ∙ (with_or id (nat_lt id w.start.view.next_id) (due_of w.flow (state_of w.flow w.start w.past id)) (restores w.flow w.start w.past id) ∙ call_is) in
    let same : k.state.state.told ≡ (state_of w.flow w.start w.past id).told = ap (λ (t : TxState). t.told) k.same in
    record {
      deed = d.0;
      is = deed_placed call.act call.participant (state_of w.flow w.start w.past call.id).told r fits
          ∙ (ap (λ (n : ℕ). deed_of call.act call.participant n r) told ∙ d.1);
      callable = (
        k.state,
        serves_same w seat j a s m ∙ (h ∙ ap Some (sym is)),
        ap (core.at w.flow a.start (whole w.flow a)) is ∙ (state_there w seat j a id m ∙ k.stands),
        subst (λ (i : ℕ). last_own a.start (whole w.flow a) i ≤ a.mark) (sym is) (last_written w seat j a id m written),
        none,
        made w.flow id k.state call r context d.0 here (ap (λ (n : ℕ). deed_of call.act call.participant n r) same ∙ d.1),
      );
    }

pub may_call : (w : World) (seat : ℕ → Option Seat) (j : Seen) (a : AbstractPlant) (s : ℕ) (call : Call) (r : Reply) (context : List ℕ) →
    Mirrors w seat j a → next_of w s ≡ next.Due call → a.kept s ≡ None → asks_for (kind_of r) call.act ≡ true
    → MayCall w a s call r (state_of w.flow w.start w.past call.id).told context
may_call w seat j a s call r context m h none fits =
    let d = is_due w s call h in
    call_made w seat j a s d.id call r context m d (due_id w d.id call d.call_is) d.held d.written d.call_is none fits
