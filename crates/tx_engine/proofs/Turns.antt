-- What an event that gives an item changes, and what it leaves.
-- for: engine::Engine::give
use Rattle.std.proofs.Common.{◌≡◌, ℕ, ◌+◌, Bool, true, false, List, [], ◌∷◌, length, Option, Some, None, refl, sym, ap, subst, rules}
use Rattle.std.specs.Prelude.{if◌then◌else◌, ◌==◌, nat_lt, not, ◌&&◌, option_map, IfSome}
use Rattle.flow_model.specs.declared.flow.Flow.{Flow}
use Rattle.tx_machine.specs.declared.values.Item.{Item}
use Rattle.tx_machine.specs.declared.values.Item.TheVariants.{Answer, Choice, Told as ToldOne}
use Rattle.tx_machine.specs.Table.{is_due}
use Rattle.tx_history.specs.declared.event.Event.{Event}
use Rattle.tx_history.specs.declared.event.Event.TheVariants.{Offered, Taken, Answered, Chose, Told, Recovered, Released, Acked, Broke, Cleared, LetGo, Closed}
use Rattle.tx_history.specs.declared.journal.Row.{Row}
use Rattle.tx_history.specs.declared.journal.WaitingContext.{WaitingContext}
use Rattle.tx_history.specs.Keys.{look, gather}
use Rattle.tx_history.specs.History.{Start, is_ended, taken, is_id, serves, state_of, last_of, is_let_go, has_break, restores, place_in, put_advice, holds}
use Rattle.tx_history.specs.History.{reopened, first_unfinished, shelf, shelved_at, arrivals, ids}
use Rattle.tx_history.specs.Journal.{IsAccepted, closes, change, touched, shelved_change}
use Rattle.tx_history.specs.Views.{IsOrdered, AreSessions, AreSpelled}
use Rattle.tx_history.proofs.GivenItems.{Gave, gave_answered, gave_chose, gave_told, unshelved_if}
use Rattle.tx_history.proofs.SoundJournals.{look_gather}
use Rattle.tx_history.proofs.RecoveryOrder.{rows_after, fresh_items}
use Rattle.tx_engine.specs.Items.{IsReply, advice_of}
use Rattle.tx_slots.specs.Rows.{next_row}

pub record Turn (f : Flow) (v : Start) (past : List Event) (e : Event) (s id : ℕ) (x : Item) (advice : Option ((ℕ × ℕ) × Option (List ℕ))) : Type 0 where
  pub accepted : IsAccepted f v past e
  pub usual : closes e ≡ false
  pub gave : Gave f v past e id x
  pub takers : (n : ℕ) → AreSessions n past → AreSessions n (e ∷ past)
  pub spelled : AreSpelled (e ∷ []) → AreSpelled past → AreSpelled (e ∷ past)
  pub took : (t : ℕ) → taken v (e ∷ past) t ≡ taken v past t
  pub change : change f v (e ∷ past) ≡ touched f v (e ∷ past) advice (serves f v past s)
  pub last : (j : ℕ) → last_of f v (e ∷ past) j ≡ (if is_id (serves f v past s) j then length past + 1 else last_of f v past j)
  pub let_go : (t : ℕ) → is_let_go (e ∷ past) t ≡ (not (s == t) && is_let_go past t)
  pub breaks : (p : ℕ) → has_break v (e ∷ past) p ≡ has_break v past p

-- the session holds it, and the item is due
pub record IsGiven (f : Flow) (v : Start) (past : List Event) (s id : ℕ) (x : Item) : Type 0 where
  pub serves : serves f v past s ≡ Some id
  pub holds : holds f v past s ≡ Some id
  pub due : is_due (state_of f v past id) x ≡ true
  pub unrestored : restores f v past id ≡ None

turn_answered : (f : Flow) (v : Start) (past : List Event) (s b : ℕ) (c : List ℕ) (id : ℕ) → IsGiven f v past s id (Answer b c) →
    Turn f v past (Answered s b c) s id (Answer b c) None
turn_answered f v past s b c id g = record {
  accepted = (id, g.holds, g.due, g.unrestored);
  usual = refl;
  gave = gave_answered f v past s b c id g.serves;
  takers = λ n h. h;
  spelled = λ sp h. (sp.0, h);
  took = λ t. refl;
  change = refl;
  last = λ j. refl;
  let_go = λ t. refl;
  breaks = λ p. refl;
}

turn_chose : (f : Flow) (v : Start) (past : List Event) (s : ℕ) (t : List ℕ) (id : ℕ) → IsGiven f v past s id (Choice t) →
    Turn f v past (Chose s t) s id (Choice t) None
turn_chose f v past s t id g = record {
  accepted = (id, g.holds, g.due, g.unrestored);
  usual = refl;
  gave = gave_chose f v past s t id g.serves;
  takers = λ n h. h;
  spelled = λ sp h. h;
  took = λ t. refl;
  change = refl;
  last = λ j. refl;
  let_go = λ t. refl;
  breaks = λ p. refl;
}

turn_told : (f : Flow) (v : Start) (past : List Event) (s : ℕ) (a : Option (List ℕ)) (id : ℕ) → IsGiven f v past s id (ToldOne a) →
    Turn f v past (Told s a) s id (ToldOne a) (put_advice (Some (id, (state_of f v past id).told)) a)
turn_told f v past s a id g = record {
  accepted = (id, g.holds, g.due, g.unrestored);
  usual = refl;
  gave = gave_told f v past s a id g.serves;
  takers = λ n h. h;
  spelled = λ sp h. h;
  took = λ t. refl;
  change = ap (λ (o : Option ℕ). touched f v (Told s a ∷ past) (put_advice (place_in f v past o) a) (serves f v past s)) g.serves;
  last = λ j. refl;
  let_go = λ t. refl;
  breaks = λ p. refl;
}

pub turn : (f : Flow) (v : Start) (past : List Event) (e : Event) (s id : ℕ) (x : Item) → IsReply e s x → IsGiven f v past s id x →
    Turn f v past e s id x (advice_of e (id, (state_of f v past id).told))
turn f v past (Answered t b c) s id x (same, is) g =
    subst (λ (u : ℕ). Turn f v past (Answered t b c) u id x None) same (subst (λ (y : Item). Turn f v past (Answered t b c) t id y None) (sym is)
    (turn_answered f v past t b c id (subst (λ (u : ℕ). IsGiven f v past u id (Answer b c)) (sym same) (subst (λ (y : Item). IsGiven f v past s id y) is g))))
turn f v past (Chose t text) s id x (same, is) g =
    subst (λ (u : ℕ). Turn f v past (Chose t text) u id x None) same (subst (λ (y : Item). Turn f v past (Chose t text) t id y None) (sym is)
    (turn_chose f v past t text id (subst (λ (u : ℕ). IsGiven f v past u id (Choice text)) (sym same) (subst (λ (y : Item). IsGiven f v past s id y) is g))))
turn f v past (Told t a) s id x (same, is) g =
    subst (λ (u : ℕ). Turn f v past (Told t a) u id x (put_advice (Some (id, (state_of f v past id).told)) a)) same
    (subst (λ (y : Item). Turn f v past (Told t a) t id y (put_advice (Some (id, (state_of f v past id).told)) a)) (sym is)
    (turn_told f v past t a id (subst (λ (u : ℕ). IsGiven f v past u id (ToldOne a)) (sym same) (subst (λ (y : Item). IsGiven f v past s id y) is g))))
turn f v past (Offered c) s id x r g = absurd r
turn f v past (Taken t) s id x r g = absurd r
turn f v past (Recovered t c) s id x r g = absurd r
turn f v past Released s id x r g = absurd r
turn f v past (Acked k n) s id x r g = absurd r
turn f v past (Broke p) s id x r g = absurd r
turn f v past (Cleared p) s id x r g = absurd r
turn f v past (LetGo t) s id x r g = absurd r
turn f v past (Closed k) s id x r g = absurd r

-- the shelf does not have what is held

look_apart : {A : Type 0} (h : ℕ → Option A) (n k id : ℕ) (o : Option A) → look id (gather h n k) ≡ o → h id ≡ None → look id (gather h n k) ≡ None
look_apart h n k id None e none = e
look_apart h n k id (Some x) e none = let g = look_gather h n k id x e in absurd (let i = g.is in cc)

pub shelf_lacks : (f : Flow) (v : Start) (past : List Event) (e : Event) (s id : ℕ) (x : Item) → IsOrdered v.view → Gave f v past e id x →
    serves f v past s ≡ Some id → is_ended f (state_of f v past id) ≡ false → look id (shelf f v past) ≡ None
shelf_lacks f v past e s id x o g h u =
    let w = unshelved_if f v past e id s x o g h u (nat_lt id v.view.next_id) refl in
    look_apart (shelved_at f v (arrivals f v past) past) 1 (ids v past) id (look id (shelf f v past)) refl w.before

pub lacks_change : (id : ℕ) (o : Option WaitingContext) (xs : List (ℕ × WaitingContext)) → look id xs ≡ None →
    IfSome (shelved_change id o) (λ (new : ℕ × WaitingContext). look new.0 xs ≡ None)
lacks_change id None xs h = search rules
lacks_change id (Some w) xs h = search rules

-- the next journalled transaction

next_if : (f : Flow) (r : ℕ × Row) (rows : List (ℕ × Row)) (id : ℕ) → first_unfinished f (rows_after id rows) fresh_items ≡ option_map (λ (r : ℕ × Row). r.0)
    (next_row f rows id) → (a b : Bool) → nat_lt id r.0 ≡ a → is_ended f (reopened f r.1) ≡ b
    → first_unfinished f (rows_after id (r ∷ rows)) fresh_items ≡ option_map (λ (r : ℕ × Row). r.0) (next_row f (r ∷ rows) id)
next_if f r rows id ih true true above over = rw (above, over) ih
next_if f r rows id ih true false above over = rw (above, over) refl
next_if f r rows id ih false b above over = rw above ih

pub next_is : (f : Flow) (rows : List (ℕ × Row)) (id : ℕ) → first_unfinished f (rows_after id rows) fresh_items ≡ option_map (λ (r : ℕ × Row). r.0)
    (next_row f rows id)
next_is f [] id = refl
next_is f (r ∷ rows) id = next_if f r rows id (next_is f rows id) (nat_lt id r.0) (is_ended f (reopened f r.1)) refl refl
