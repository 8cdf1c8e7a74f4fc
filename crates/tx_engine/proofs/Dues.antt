-- What a session is to do, by its slot.
-- for: engine::Engine::next
use Rattle.std.proofs.Common.{◌≡◌, ℕ, ◌<◌, Bool, false, List, Option, Some, None, Ok, refl, ◌∙◌, arith}
use Rattle.std.specs.Prelude.{nat_le}
use Rattle.std.proofs.lemmas.Bool.Decides.{nat_tests}
use Rattle.tx_machine.specs.Contract.{tx_state}
use Rattle.tx_machine.specs.Due.{due_of, participant_of}
use Rattle.tx_history.specs.declared.event.Event.{Event}
use Rattle.tx_history.specs.History.{Start, serves, state_of, holds, has_break, on_break, is_restored}
use Rattle.tx_slots.specs.declared.next.Next.{Next}
use Rattle.tx_slots.specs.declared.slot.Slot.{Slot}
use Rattle.tx_slots.specs.declared.slot.Slot.TheVariants.{Free, Holding}
use Rattle.tx_engine.specs.World.{World}
use Rattle.tx_engine.specs.Calls.{answers, next_of, next_refusal}
use Rattle.tx_slots.specs.Slots.{slot_next, flag, flag_of}
use Rattle.tx_engine.specs.Kept.{SlotIs}
use Rattle.std.proofs.Common.{subst, [], ◌∷◌, ap, true, false, sym}
use Rattle.tx_machine.specs.Due.{places_of}
use Rattle.std.specs.Prelude.{nat_lt, not, ◌&&◌, ◌==◌}
use Rattle.sw_context.specs.Spelling.{IsSpelled}
use Rattle.tx_machine.specs.declared.machine.Machine.{Machine}
use Rattle.tx_machine.specs.declared.values.Item.TheVariants.{Answer, Choice, Told as ToldOne}
use Rattle.tx_machine.specs.Contract.{IsSound}
use Rattle.tx_machine.specs.Table.{next as step}
use Rattle.tx_history.specs.declared.event.Event.TheVariants.{Answered, Chose, Told}
use Rattle.tx_history.specs.History.{put_advice}
use Rattle.tx_engine.specs.Items.{GivesEvent}
use Rattle.flow_model.specs.declared.flow.Flow.{Flow}
use Rattle.tx_history.specs.declared.event.Event.{Event}
use Rattle.tx_history.specs.History.{Start}
use Rattle.sw_base.specs.Refusals.{refused_if, first_of}
use Rattle.sw_participant.specs.declared.call.Act.{Act}
use Rattle.sw_participant.specs.declared.call.Act.TheVariants as act
use Rattle.sw_participant.specs.declared.call.Call.{Call}
use Rattle.tx_machine.specs.declared.values.Due.{Due}
use Rattle.tx_machine.specs.declared.values.Due.TheVariants as due
use Rattle.tx_machine.specs.Due.{IsReplyDue}
use Rattle.tx_machine.specs.Table.{TxState}
use Rattle.tx_machine.proofs.Dues.{reply_due}
use Rattle.tx_history.specs.History.{restores}
use Rattle.tx_engine.specs.declared.error.EngineError.TheVariants.{NoSession, NotDue, HistoryFull}
use Rattle.tx_slots.specs.declared.next.ReplyKind.{ReplyKind}
use Rattle.tx_slots.specs.declared.next.ReplyKind.TheVariants as kind
use Rattle.tx_slots.specs.declared.slot.Hold.{Hold}
use Rattle.tx_slots.specs.DueCalls.{asks_for, asked, call_with, next_by}
use Rattle.tx_engine.specs.Calls.{rest_of, no_session, reply_refusal, is_full}
use Rattle.tx_engine.specs.Items.{IsAsked, Allows}
use Rattle.tx_slots.specs.Slots.{restoring}
use Rattle.tx_engine.specs.Kept.{HoldIs}
use Rattle.tx_engine.proofs.Keeps.{holds_is, hold_holds, state_served}

pub flag_of_is : (v : Start) (past : List Event) (breaks : List Bool) → ((p : ℕ) → flag breaks p ≡ has_break v past p) → (o : Option ℕ) →
    flag_of breaks o ≡ on_break v past o
flag_of_is v past breaks h None = refl
flag_of_is v past breaks h (Some p) = h p

pub next_slot : (w : World) (breaks : List Bool) (restored : Bool) (s : ℕ) (x : Slot) → ((p : ℕ) → flag breaks p ≡ has_break w.start w.past p) →
    restored ≡ is_restored w.past → SlotIs w.flow w.start w.past s x
    → slot_next w.flow w.start.view.next_id restored breaks w.mark x ≡ next_of w s
next_slot w breaks restored s Free stops r k = let no : holds w.flow w.start w.past s ≡ None = holds_is w.flow w.start w.past s ∙ k in rw no refl
next_slot w breaks restored s (Holding h) stops r k =
    let yes : holds w.flow w.start w.past s ≡ Some h.id = hold_holds w.flow w.start w.past s h k in
    let st : state_of w.flow w.start w.past h.id ≡ tx_state w.flow h.machine =
    (state_served w.flow w.start w.past (serves w.flow w.start w.past s) h.id (tx_state w.flow h.machine) k.serves).1 in
    rw (yes, st, k.last, k.gone, r, flag_of_is w.start w.past breaks stops (participant_of (due_of w.flow (tx_state w.flow h.machine)))) refl

pub next_ok : (w : World) (s : ℕ) (r : Next) → s < w.sessions → r ≡ next_of w s → Ok r ≡ answers (next_refusal w s) (next_of w s)
next_ok w s r lt e = let there : nat_le w.sessions s ≡ false = grind (arith, nat_tests) in rw (there, e) refl

-- the kind of a call's reply

abbrev pub kind_of : Act → ReplyKind
kind_of act.Prepare = kind.Answer
kind_of act.PrepareForAbort = kind.Answer
kind_of act.Select = kind.Choice
kind_of (act.Commit b) = kind.Told
kind_of (act.Abort b) = kind.Told
kind_of (act.Recover b) = kind.Recovered

asks_is : (k : ReplyKind) (a : Act) → asks_for k a ≡ true → kind_of a ≡ k
asks_is kind.Answer act.Prepare h = refl
asks_is kind.Answer act.PrepareForAbort h = refl
asks_is kind.Answer act.Select h = absurd (cc)
asks_is kind.Answer (act.Commit b) h = absurd (cc)
asks_is kind.Answer (act.Abort b) h = absurd (cc)
asks_is kind.Answer (act.Recover b) h = absurd (cc)
asks_is kind.Choice act.Prepare h = absurd (cc)
asks_is kind.Choice act.PrepareForAbort h = absurd (cc)
asks_is kind.Choice act.Select h = refl
asks_is kind.Choice (act.Commit b) h = absurd (cc)
asks_is kind.Choice (act.Abort b) h = absurd (cc)
asks_is kind.Choice (act.Recover b) h = absurd (cc)
asks_is kind.Told act.Prepare h = absurd (cc)
asks_is kind.Told act.PrepareForAbort h = absurd (cc)
asks_is kind.Told act.Select h = absurd (cc)
asks_is kind.Told (act.Commit b) h = refl
asks_is kind.Told (act.Abort b) h = refl
asks_is kind.Told (act.Recover b) h = absurd (cc)
asks_is kind.Recovered act.Prepare h = absurd (cc)
asks_is kind.Recovered act.PrepareForAbort h = absurd (cc)
asks_is kind.Recovered act.Select h = absurd (cc)
asks_is kind.Recovered (act.Commit b) h = absurd (cc)
asks_is kind.Recovered (act.Abort b) h = absurd (cc)
asks_is kind.Recovered (act.Recover b) h = refl

act_in : Act → Option Call → Act
act_in a None = a
act_in a (Some c) = c.act

-- a due call's reply is due
asked_at : (id : ℕ) (recovering : Bool) (d : Due) (r : Option (ℕ × Bool)) (c : Call) (st : TxState) → call_with id recovering d r ≡ Some c →
    IsReplyDue d st → IsAsked (kind_of c.act) st r
unfolding act_in
asked_at id recovering d (Some q) c st e due = let a : act.Recover q.1 ≡ c.act = ap (act_in c.act) e in
    subst (λ (x : Act). IsAsked (kind_of x) st (Some q)) a (q, refl)
asked_at id recovering (due.Prepare s) None c st e h = let a : act.Prepare ≡ c.act = ap (act_in c.act) e in
    subst (λ (x : Act). IsAsked (kind_of x) st None) a ((λ b x. h), refl)
asked_at id recovering (due.PrepareForAbort s) None c st e h = let a : act.PrepareForAbort ≡ c.act = ap (act_in c.act) e in
    subst (λ (x : Act). IsAsked (kind_of x) st None) a ((λ b x. h), refl)
asked_at id recovering (due.Select s) None c st e h = let a : act.Select ≡ c.act = ap (act_in c.act) e in
    subst (λ (x : Act). IsAsked (kind_of x) st None) a ((λ t. h), refl)
asked_at id recovering (due.Commit p) None c st e h = let a : act.Commit recovering ≡ c.act = ap (act_in c.act) e in
    subst (λ (x : Act). IsAsked (kind_of x) st None) a ((λ t. h), refl)
asked_at id recovering (due.Abort p) None c st e h = let a : act.Abort recovering ≡ c.act = ap (act_in c.act) e in
    subst (λ (x : Act). IsAsked (kind_of x) st None) a ((λ t. h), refl)
asked_at id recovering due.Shelve None c st e h = absurd (cc)
asked_at id recovering due.Done None c st e h = absurd (cc)

asked_call : (k : ReplyKind) (a b : Bool) (o : Option Call) → asked k (next_by a b o) ≡ true → (c : Call) × (o ≡ Some c) × (asks_for k c.act ≡ true)
asked_call k a b None h = absurd (cc)
asked_call k true b (Some c) h = absurd (cc)
asked_call k false true (Some c) h = (c, refl, h)
asked_call k false false (Some c) h = (c, refl, h)

pub slot_asked : (f : Flow) (first : ℕ) (restored : Bool) (breaks : List Bool) (mark : ℕ) (h : Hold) (k : ReplyKind) →
    asked k (slot_next f first restored breaks mark (Holding h)) ≡ true
    → IsAsked k (tx_state f h.machine) (restoring f first restored h.id (due_of f (tx_state f h.machine)))
slot_asked f first restored breaks mark h k asks =
    let st : TxState = tx_state f h.machine in
    let w = asked_call k (nat_lt mark h.last) (flag_of breaks (participant_of (due_of f st)) && not h.let_go)
    (call_with h.id (nat_lt h.id first) (due_of f st) (restoring f first restored h.id (due_of f st))) asks in
    subst (λ (x : ReplyKind). IsAsked x st (restoring f first restored h.id (due_of f st))) (asks_is k (w.0).act w.2)
    (asked_at h.id (nat_lt h.id first) (due_of f st) (restoring f first restored h.id (due_of f st)) w.0 st w.1 (reply_due f st))

pub restores_is : (f : Flow) (v : Start) (past : List Event) (s : ℕ) (h : Hold) (restored : Bool) → HoldIs f v past s h → restored ≡ is_restored past →
    restoring f v.view.next_id restored h.id (due_of f (tx_state f h.machine)) ≡ restores f v past h.id
restores_is f v past s h restored k r =
    let st : state_of f v past h.id ≡ tx_state f h.machine = (state_served f v past (serves f v past s) h.id (tx_state f h.machine) k.serves).1 in
    rw (st, r) refl

-- refusals of a reply, by what the session is to do
pub reply_refused : (u w : World) (k : ReplyKind) (s : ℕ) (q : Next) → u ≡ w → s < u.sessions → q ≡ next_of u s →
    reply_refusal k w s ≡ first_of (refused_if (not (asked k q)) NotDue ∷ refused_if (is_full w) HistoryFull ∷ [])
reply_refused u w k s q same lt is =
    let P : World → Type 0 = λ z. reply_refusal k z s ≡ first_of (refused_if (not (asked k q)) NotDue ∷ refused_if (is_full z) HistoryFull ∷ []) in
    let there : nat_le u.sessions s ≡ false = grind (arith, nat_tests) in
    subst P same (rw (there, is) refl)

pub allows_at : (u w : World) (s : ℕ) (k : ReplyKind) (h : Hold) (restored : Bool) (breaks : List Bool) → u ≡ w → reply_refusal k w s ≡ None →
    s < u.sessions → HoldIs u.flow u.start u.past s h → restored ≡ is_restored u.past
    → asked k (slot_next u.flow u.start.view.next_id restored breaks u.mark (Holding h)) ≡ true → Allows w s k h
allows_at u w s k h restored breaks same none lt here renewed asks =
    let none' : reply_refusal k u s ≡ None = subst (λ (z : World). reply_refusal k z s ≡ None) (sym same) none in
    let is = slot_asked u.flow u.start.view.next_id restored breaks u.mark h k asks in
    subst (λ (z : World). Allows z s k h) same
    (record {
      allowed = none';
      session = lt;
      hold = here;
      asked = subst (λ (r : Option (ℕ × Bool)). IsAsked k (tx_state u.flow h.machine) r)
          (restores_is u.flow u.start u.past s h restored here renewed) is;
    })

-- what is allowed has room
pub has_room : (k : ReplyKind) (w : World) (s : ℕ) → reply_refusal k w s ≡ None → is_full w ≡ false
has_room k w s h = by (no_session w s) (asked k (next_of w s)) (is_full w) h
  where
    by : (a b c : Bool) → first_of (refused_if a NoSession ∷ refused_if (not b) NotDue ∷ refused_if c HistoryFull ∷ []) ≡ None → c ≡ false
    by true b c h = absurd (cc)
    by false false c h = absurd (cc)
    by false true true h = absurd (cc)
    by false true false h = refl

-- what an allowed reply gives

pub allows_of : (u w : World) (s : ℕ) (k : ReplyKind) (h : Hold) → u ≡ w → Allows w s k h → Allows u s k h
allows_of u w s k h same a = subst (λ (z : World). Allows z s k h) (sym same) a

pub gives_answer : (u w : World) (s b : ℕ) (c : List ℕ) (h : Hold) (m : Machine) (restored : Bool) → u ≡ w → Allows w s kind.Answer h → IsSpelled c →
    restored ≡ is_restored u.past → IsSound u.flow m
    → tx_state u.flow m ≡ step u.flow (tx_state u.flow h.machine) (Answer b c) → GivesEvent w s h.id m (Answered s b c) None restored
gives_answer u w s b c h m restored same allowed sp renewed sound went =
    let a = allows_of u w s kind.Answer h same allowed in
    subst (λ (z : World). GivesEvent z s h.id m (Answered s b c) None restored) same (record {
      before = tx_state u.flow h.machine;
      item = Answer b c;
      reply = (refl, refl);
      spelled = (sp, tt);
      serves = a.hold.serves;
      unfinished = a.hold.unfinished;
      due = a.asked.0 b c;
      unrestored = a.asked.1;
      session = a.session;
      room = has_room kind.Answer u s a.allowed;
      sound = sound;
      after = went;
      advice_is = refl;
      restored_is = renewed;
    })

pub gives_choice : (u w : World) (s : ℕ) (t : List ℕ) (h : Hold) (m : Machine) (restored : Bool) → u ≡ w → Allows w s kind.Choice h →
    restored ≡ is_restored u.past → IsSound u.flow m
    → tx_state u.flow m ≡ step u.flow (tx_state u.flow h.machine) (Choice t) → GivesEvent w s h.id m (Chose s t) None restored
gives_choice u w s t h m restored same allowed renewed sound went =
    let a = allows_of u w s kind.Choice h same allowed in
    subst (λ (z : World). GivesEvent z s h.id m (Chose s t) None restored) same (record {
      before = tx_state u.flow h.machine;
      item = Choice t;
      reply = (refl, refl);
      spelled = tt;
      serves = a.hold.serves;
      unfinished = a.hold.unfinished;
      due = a.asked.0 t;
      unrestored = a.asked.1;
      session = a.session;
      room = has_room kind.Choice u s a.allowed;
      sound = sound;
      after = went;
      advice_is = refl;
      restored_is = renewed;
    })

pub gives_told : (u w : World) (s place : ℕ) (a : Option (List ℕ)) (h : Hold) (m : Machine) (restored after : Bool) → u ≡ w → Allows w s kind.Told h →
    restored ≡ is_restored u.past → after ≡ (not (s == 0) && restored) → place ≡ (tx_state u.flow h.machine).told → IsSound u.flow m
    → tx_state u.flow m ≡ step u.flow (tx_state u.flow h.machine) (ToldOne None) → GivesEvent w s h.id m (Told s a) (put_advice (Some (h.id, place)) a) after
gives_told u w s place a h m restored after same allowed renewed goes at sound went =
    let al = allows_of u w s kind.Told h same allowed in
    subst (λ (z : World). GivesEvent z s h.id m (Told s a) (put_advice (Some (h.id, place)) a) after) same (record {
      before = tx_state u.flow h.machine;
      item = ToldOne a;
      reply = (refl, refl);
      spelled = tt;
      serves = al.hold.serves;
      unfinished = al.hold.unfinished;
      due = al.asked.0 a;
      unrestored = al.asked.1;
      session = al.session;
      room = has_room kind.Told u s al.allowed;
      sound = sound;
      after = went;
      advice_is = ap (λ (n : ℕ). put_advice (Some (h.id, n)) a) at;
      restored_is = goes ∙ ap (λ (b : Bool). not (s == 0) && b) renewed;
    })

-- what is to come, by the slot

pub free_rest : (u w : World) (s : ℕ) → u ≡ w → s < u.sessions → SlotIs u.flow u.start u.past s Free → [] ≡ rest_of w s
free_rest u w s same lt k =
    let there : nat_le u.sessions s ≡ false = grind (arith, nat_tests) in
    let none : holds u.flow u.start u.past s ≡ None = holds_is u.flow u.start u.past s ∙ k in
    subst (λ (z : World). [] ≡ rest_of z s) same (rw (there, none) refl)

pub held_rest : (u w : World) (s : ℕ) (h : Hold) → u ≡ w → s < u.sessions → HoldIs u.flow u.start u.past s h →
    places_of (tx_state u.flow h.machine).rest ≡ rest_of w s
held_rest u w s h same lt k =
    let there : nat_le u.sessions s ≡ false = grind (arith, nat_tests) in
    let some : holds u.flow u.start u.past s ≡ Some h.id = hold_holds u.flow u.start u.past s h k in
    let st : state_of u.flow u.start u.past h.id ≡ tx_state u.flow h.machine =
    (state_served u.flow u.start u.past (serves u.flow u.start u.past s) h.id (tx_state u.flow h.machine) k.serves).1 in
    subst (λ (z : World). places_of (tx_state u.flow h.machine).rest ≡ rest_of z s) same (rw (there, some, st) refl)
