-- Replies to a session's due call, as events.
use Rattle.std.specs.Prelude.{◌≡◌, ◌<◌, ℕ, Bool, true, false, List, [], ◌∷◌, Option, Some, None}
use Rattle.tx_machine.specs.declared.machine.Machine.{Machine}
use Rattle.tx_machine.specs.declared.values.Item.{Item}
use Rattle.tx_machine.specs.declared.values.Item.TheVariants.{Answer, Choice, Told as ToldOne}
use Rattle.tx_machine.specs.Contract.{IsSound, tx_state}
use Rattle.tx_machine.specs.Table.{TxState, is_due, next}
use Rattle.tx_history.specs.declared.event.Event.{Event}
use Rattle.tx_history.specs.declared.event.Event.TheVariants.{Answered, Chose, Told}
use Rattle.tx_history.specs.History.{is_ended, is_restored, put_advice, restores}
use Rattle.tx_history.specs.Views.{AreSpelled}
use Rattle.tx_history.specs.Held.{session_state}
use Rattle.tx_slots.specs.declared.next.ReplyKind.{ReplyKind}
use Rattle.tx_slots.specs.declared.next.ReplyKind.TheVariants as kind
use Rattle.tx_slots.specs.declared.slot.Hold.{Hold}
use Rattle.tx_engine.specs.World.{World}
use Rattle.tx_engine.specs.Calls.{is_full, reply_refusal}
use Rattle.tx_engine.specs.Kept.{HoldIs}

-- the event gives the session's transaction this item
abbrev pub IsReply : Event → ℕ → Item → Type 0
IsReply (Answered t b c) s x = (t ≡ s) × (x ≡ Answer b c)
IsReply (Chose t text) s x = (t ≡ s) × (x ≡ Choice text)
IsReply (Told t a) s x = (t ≡ s) × (x ≡ ToldOne a)
IsReply _ s x = ⊥

-- the change of the advices that the event makes, for the member at this place
abbrev pub advice_of : Event → ℕ × ℕ → Option ((ℕ × ℕ) × Option (List ℕ))
advice_of (Told t a) place = put_advice (Some place) a
advice_of _ place = None

-- a reply of the kind is due to a transaction in this state, and nothing is to be restored before it
abbrev pub IsAsked : ReplyKind → TxState → Option (ℕ × Bool) → Type 0
IsAsked kind.Answer st r = ((b : ℕ) (c : List ℕ) → is_due st (Answer b c) ≡ true) × (r ≡ None)
IsAsked kind.Choice st r = ((t : List ℕ) → is_due st (Choice t) ≡ true) × (r ≡ None)
IsAsked kind.Told st r = ((a : Option (List ℕ)) → is_due st (ToldOne a) ≡ true) × (r ≡ None)
IsAsked kind.Recovered st r = (call : ℕ × Bool) × (r ≡ Some call)

-- the session may give a reply of the kind for the transaction that it holds
pub record Allows (w : World) (s : ℕ) (kind : ReplyKind) (h : Hold) : Type 0 where
  pub allowed : reply_refusal kind w s ≡ None
  pub session : s < w.sessions
  pub hold : HoldIs w.flow w.start w.past s h
  pub asked : IsAsked kind (tx_state w.flow h.machine) (restores w.flow w.start w.past h.id)

-- the event gives an item that is due, and the machine is as the item leaves it
pub record GivesEvent (w : World) (s id : ℕ) (m : Machine) (e : Event) (advice : Option ((ℕ × ℕ) × Option (List ℕ))) (restored : Bool) : Type 0 where
  pub before : TxState
  pub item : Item
  pub reply : IsReply e s item
  pub spelled : AreSpelled (e ∷ [])
  pub serves : session_state w.flow w.start w.past s ≡ Some (id, before)
  pub unfinished : is_ended w.flow before ≡ false
  pub due : is_due before item ≡ true
  pub unrestored : restores w.flow w.start w.past id ≡ None
  pub session : s < w.sessions
  pub room : is_full w ≡ false
  pub sound : IsSound w.flow m
  pub after : tx_state w.flow m ≡ next w.flow before item
  pub advice_is : advice ≡ advice_of e (id, before.told)
  pub restored_is : restored ≡ is_restored (e ∷ w.past)
