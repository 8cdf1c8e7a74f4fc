-- What a cut leaves an engine with.
-- for: engine::cuts
use Rattle.std.proofs.Common.{◌≡◌, ◌≢◌, ℕ, ◌+◌, ◌<◌, ◌≤◌, Bool, true, false, List, [], ◌∷◌, ◌++◌, length, Option, Some, None, Ok, refl, sym, ◌∙◌, ap, subst}
use Rattle.std.proofs.Common.{arith, suc, zero, get_or}
use Rattle.std.specs.Prelude.{if◌then◌else◌, slice_get, ◌==◌, nat_le, nat_lt, is_some, filter, ◌&&◌, ◌||◌}
use Rattle.std.specs.List.{list_any, range_with_len}
use Rattle.std.proofs.lemmas.Bool.Decides.{nat_tests}
use Rattle.sw_base.specs.Refusals.{Accepts, first_of, refused_if}
use Rattle.flow_model.specs.declared.flow.Flow.{Flow}
use Rattle.tx_history.specs.declared.event.Event.{Event}
use Rattle.tx_history.specs.declared.event.Entry.{Entry}
use Rattle.tx_history.specs.declared.journal.JournalView.{JournalView}
use Rattle.tx_history.specs.declared.journal.WaitingContext.{WaitingContext}
use Rattle.tx_history.specs.Keys.{gather, look}
use Rattle.tx_history.specs.History.{Start, has_break, holds, ids, is_among, is_ended, next_id, own_items, recovering, state_of}
use Rattle.tx_history.specs.Journal.{IsLawful, is_closed, old_row, row, row_at, to_close}
use Rattle.tx_history.specs.Held.{session_state}
use Rattle.tx_history.specs.Lives.{after_cut}
use Rattle.tx_history.specs.Views.{AreSessions, IsOrdered, StartFits}
use Rattle.tx_history.proofs.Changes.{journal_first}
use Rattle.tx_history.proofs.NextStarts.{cut_fits}
use Rattle.tx_history.proofs.RisingKeys.{filter_append, gather_none}
use Rattle.tx_history.proofs.RowCounts.{old_gone, taker, held_some}
use Rattle.tx_history.proofs.Rows.{as_row, row_unended}
use Rattle.tx_history.proofs.Sessions.{holds_recovered}
use Rattle.tx_engine.specs.declared.error.EngineError.{EngineError}
use Rattle.tx_engine.specs.declared.error.EngineError.TheVariants.{InUse, NotWritten, OutOfMemory}
use Rattle.tx_slots.specs.declared.slot.Slot.{Slot}
use Rattle.tx_slots.specs.declared.slot.Slot.TheVariants.{Free, Holding}
use Rattle.tx_engine.specs.World.{World}
use Rattle.tx_engine.specs.Cuts.{breaks_of, cut_refusal, cut_world, is_in_use}
use Rattle.tx_slots.specs.Slots.{flag, is_holding}
use Rattle.tx_engine.specs.Kept.{Kept, Running, SlotIs, going_on, past_of, world}
use Rattle.tx_engine.proofs.Keeps.{hold_holds, holds_is}

-- which slots are in use

slot_in_use : (f : Flow) (v : Start) (past : List Event) (s : ℕ) (x : Slot) → SlotIs f v past s x → is_holding x ≡ is_some (holds f v past s)
slot_in_use f v past s Free k = let none : holds f v past s ≡ None = holds_is f v past s ∙ k in rw none refl
slot_in_use f v past s (Holding h) k = let some : holds f v past s ≡ Some h.id = hold_holds f v past s h k in rw some refl

any_slot : (h : ℕ → Option ℕ) (slots : List Slot) (n : ℕ) → ((s : ℕ) (x : Slot) → slice_get slots s ≡ Some x → is_holding x ≡ is_some (h (n + s))) →
    list_any is_holding slots ≡ list_any (λ s. is_some (h s)) (range_with_len n (length slots))
any_slot h [] n all = refl
any_slot h (x ∷ xs) n all =
    let at : n + 0 ≡ n = omega arith in
    let here : is_holding x ≡ is_some (h n) = all 0 x refl ∙ ap (λ (i : ℕ). is_some (h i)) at in
    let later = any_slot h xs (n + 1) (λ s y e. (let same : n + suc s ≡ (n + 1) + s = omega arith in all (suc s) y e ∙ ap (λ (i : ℕ). is_some (h i)) same)) in
    rw (here, later) refl

pub slots_in_use : (f : Flow) (n : ℕ) (v : Start) (es : List Entry) (mark reserved : ℕ) (r : Running) → Kept (world f n v es mark reserved) es r →
    length r.slots ≡ n → list_any is_holding r.slots ≡ is_in_use (world f n v es mark reserved)
slots_in_use f n v es mark reserved r k same =
    any_slot (holds f v (past_of es)) r.slots 0 (λ s x e. (let at : s ≡ 0 + s = omega arith in slot_in_use f v (past_of es) s x (k.sessions s x e)
    ∙ ap (λ (i : ℕ). is_some (holds f v (past_of es) i)) at))
    ∙ ap (λ (m : ℕ). list_any (λ s. is_some (holds f v (past_of es) s)) (range_with_len 0 m)) same

none_holding : (slots : List Slot) (s : ℕ) (x : Slot) → list_any is_holding slots ≡ false → slice_get slots s ≡ Some x → x ≡ Free
none_holding [] s x free e = absurd (cc)
none_holding (Holding h ∷ xs) s x free e = absurd (cc)
none_holding (Free ∷ xs) zero x free e = grind (arith)
none_holding (Free ∷ xs) (suc s) x free e = none_holding xs s x free e

none_below : (P : ℕ → Bool) (a n s : ℕ) → list_any P (range_with_len a n) ≡ false → a ≤ s → s < a + n → P s ≡ false
none_below P a zero s free le lt = absurd (omega arith)
none_below P a (suc n) s free le lt = by (a == s) refl (P a) refl free (λ h l m. none_below P (a + 1) n s h l m)
  where
    by : (b : Bool) → (a == s) ≡ b → (c : Bool) → P a ≡ c → (c || list_any P (range_with_len (a + 1) n)) ≡ false
        → (list_any P (range_with_len (a + 1) n) ≡ false → a + 1 ≤ s → s < (a + 1) + n → P s ≡ false) → P s ≡ false
    by b e true z h ih = absurd (cc)
    by true e false z h ih = let same : a ≡ s = grind (arith, nat_tests) in ap P (sym same) ∙ z
    by false e false z h ih = let differ : a ≢ s = grind (arith, nat_tests) in ih h (omega arith) (omega arith)

-- no row is left

new_ended : (f : Flow) (v : Start) (past : List Event) (n j : ℕ) → IsOrdered v.view → AreSessions n past → IsLawful f v past → recovering f v past ≡ None →
    ((s : ℕ) → s < n → holds f v past s ≡ None) → v.view.next_id ≤ j → j < next_id v past
    → (b : Bool) → is_ended f (state_of f v past j) ≡ b → b ≡ true
new_ended f v past n j o ss law none free lo hi true u = refl
new_ended f v past n j o ss law none free lo hi false u =
    let t = taker f v past n j o ss law lo hi u in
    let some : holds f v past t.session ≡ Some j = held_some f v past t.session j none t.took u in
    absurd (let no = free t.session t.within in cc)

row_gone : (f : Flow) (v : Start) (past : List Event) (n j : ℕ) → IsOrdered v.view → AreSessions n past → IsLawful f v past → recovering f v past ≡ None →
    length (to_close f v.view.rows) ≤ length past
    → ((s : ℕ) → s < n → holds f v past s ≡ None) → j < next_id v past → (b : Bool) → nat_lt j v.view.next_id ≡ b → row_at f v past j ≡ None
row_gone f v past n j o ss law none closed free hi true e = let lt : j < v.view.next_id = grind (arith, nat_tests) in old_gone f v past j law none closed lt
row_gone f v past n j o ss law idle closed free hi false e =
    let lo : v.view.next_id ≤ j = grind (arith, nat_tests) in
    let over : is_ended f (state_of f v past j) ≡ true = new_ended f v past n j o ss law idle free lo hi (is_ended f (state_of f v past j)) refl in
    let none : row f (state_of f v past j) ≡ None = row_unended f (state_of f v past j)
    ∙ ap (λ (b : Bool). if b then None else Some (as_row f (state_of f v past j))) over in
    subst (λ (b : Bool). (if b then old_row f (look j v.view.rows) (is_closed past j) (own_items f v past j) else row f (state_of f v past j)) ≡ None)
    (sym e) none

rows_gone : (f : Flow) (v : Start) (past : List Event) (n : ℕ) → IsOrdered v.view → AreSessions n past → IsLawful f v past → recovering f v past ≡ None →
    length (to_close f v.view.rows) ≤ length past → ((s : ℕ) → s < n → holds f v past s ≡ None)
    → gather (row_at f v past) 1 (ids v past) ≡ []
rows_gone f v past n o ss law none closed free =
    let first = o.next in
    gather_none (row_at f v past) 1 (ids v past) (λ j a b. row_gone f v past n j o ss law none closed free (omega arith) (nat_lt j v.view.next_id) refl)

-- breakpoints

among : (P : ℕ → Bool) (a n p : ℕ) → is_among p (filter P (range_with_len a n)) ≡ ((nat_le a p && nat_lt p (a + n)) && P p)
among P a zero p = grind (arith, nat_tests)
among P a (suc n) p = by (P a) refl (among P (a + 1) n p)
  where
    by : (b : Bool) → P a ≡ b → is_among p (filter P (range_with_len (a + 1) n)) ≡ ((nat_le (a + 1) p && nat_lt p ((a + 1) + n)) && P p)
        → is_among p (if b then a ∷ filter P (range_with_len (a + 1) n) else filter P (range_with_len (a + 1) n))
        ≡ ((nat_le a p && nat_lt p (a + suc n)) && P p)
    by true e ih = grind (arith, nat_tests)
    by false e ih = grind (arith, nat_tests)

flag_within : (flags : List Bool) (p : ℕ) → flag flags p ≡ true → p < length flags
flag_within [] p h = absurd (cc)
flag_within (b ∷ flags) zero h = omega arith
flag_within (b ∷ flags) (suc p) h = let lt = flag_within flags p h in omega arith

and_false : (b : Bool) → false ≡ (b && false)
and_false true = refl
and_false false = refl

flags_among : (flags : List Bool) (p : ℕ) → flag flags p ≡ is_among p (filter (flag flags) (range_with_len 0 (length flags)))
flags_among flags p = by (flag flags p) refl ∙ sym (among (flag flags) 0 (length flags) p)
  where
    by : (b : Bool) → flag flags p ≡ b → flag flags p ≡ ((nat_le 0 p && nat_lt p (0 + length flags)) && flag flags p)
    by true e =
        let lt : p < length flags = flag_within flags p e in
        let low : nat_le 0 p ≡ true = grind (arith, nat_tests) in
        let high : nat_lt p (0 + length flags) ≡ true = grind (arith, nat_tests) in
        rw (low, high) refl
    by false e = rw e (and_false (nat_le 0 p && nat_lt p (0 + length flags)))

range_more : (a n : ℕ) → range_with_len a (suc n) ≡ range_with_len a n ++ (a + n) ∷ []
range_more a zero = let at : a + 0 ≡ a = omega arith in rw at refl
range_more a (suc n) =
    let at : (a + 1) + n ≡ a + suc n = omega arith in
    ap (λ (l : List ℕ). a ∷ l) (range_more (a + 1) n ∙ ap (λ (k : ℕ). range_with_len (a + 1) n ++ k ∷ []) at)

-- one number more
pub filter_next : (P : ℕ → Bool) (n : ℕ) (b : Bool) → P n ≡ b → filter P (range_with_len 0 (n + 1)) ≡ filter P (range_with_len 0 n)
    ++ (if b then n ∷ [] else [])
filter_next P n b e =
    let one : n + 1 ≡ suc n = omega arith in
    let at : 0 + n ≡ n = omega arith in
    let more : range_with_len 0 (n + 1) ≡ range_with_len 0 n ++ n ∷ [] =
    ap (range_with_len 0) one ∙ (range_more 0 n ∙ ap (λ (k : ℕ). range_with_len 0 n ++ k ∷ []) at) in
    ap (filter P) more ∙ (filter_append P (range_with_len 0 n) (n ∷ []) ∙ ap (λ (l : List ℕ). filter P (range_with_len 0 n) ++ l)
    (ap (λ (c : Bool). if c then n ∷ [] else []) e))

pub flag_get : (flags : List Bool) (p : ℕ) → flag flags p ≡ get_or flags p false
flag_get [] p = refl
flag_get (b ∷ flags) zero = refl
flag_get (b ∷ flags) (suc p) = flag_get flags p

filter_same : (P Q : ℕ → Bool) (xs : List ℕ) → ((p : ℕ) → P p ≡ Q p) → filter P xs ≡ filter Q xs
filter_same P Q [] same = refl
filter_same P Q (x ∷ xs) same = rw (same x, filter_same P Q xs same) refl

-- the start of the history after a cut

abbrev pub parts_start : Running → Start
parts_start r = record {
  view = record { next_id = r.next_id; rows = []; shelf = r.shelf; advices = r.advices };
  queue = r.queue;
  breaks =
      filter (flag r.breaks) (range_with_len 0 (length r.breaks));
}

abbrev pub parts_after : Running → Running
parts_after r = record r { restored = false; recovering = false }

free_sessions : (w : World) (s : ℕ) → is_in_use w ≡ false → s < w.sessions → holds w.flow w.start w.past s ≡ None
free_sessions w s free lt = by (holds w.flow w.start w.past s) (none_below (λ i. is_some (holds w.flow w.start w.past i)) 0 w.sessions s free (omega arith)
    (omega arith))
  where
    by : (o : Option ℕ) → is_some o ≡ false → o ≡ None
    by None e = refl
    by (Some id) e = absurd (cc)

not_recovering : (f : Flow) (v : Start) (past : List Event) (o : Option ℕ) → IsOrdered v.view → recovering f v past ≡ o → holds f v past 0 ≡ None →
    recovering f v past ≡ None
not_recovering f v past None or e free = e
not_recovering f v past (Some id) or e free = absurd (let some = holds_recovered f v past id or e in cc)

pub start_is : (f : Flow) (n : ℕ) (v : Start) (es : List Entry) (mark reserved : ℕ) (r : Running) → Kept (world f n v es mark reserved) es r →
    is_in_use (world f n v es mark reserved) ≡ false → parts_start r ≡ after_cut f v (past_of es) (breaks_of f v (past_of es))
start_is f n v es mark reserved r k free =
    let past : List Event = past_of es in
    let o = k.start.view.ordered in
    let some = k.seats in
    let idle : (s : ℕ) → s < n → holds f v past s ≡ None = λ s lt. free_sessions (world f n v es mark reserved) s free lt in
    let none : recovering f v past ≡ None = not_recovering f v past (recovering f v past) o refl (idle 0 (omega arith)) in
    let gone = rows_gone f v past n o k.past.sessions k.past.lawful none k.closed idle in
    let set : filter (flag r.breaks) (range_with_len 0 (length r.breaks)) ≡ breaks_of f v past =
    filter_same (flag r.breaks) (has_break v past) (range_with_len 0 (length r.breaks)) k.stops.1
    ∙ ap (λ (m : ℕ). filter (has_break v past) (range_with_len 0 m)) k.stops.0 in
    rw (gone, set, k.numbered, k.shelved, k.advised, k.queued) refl

no_session_state : (f : Flow) (r : Running) (s : ℕ) → going_on f (session_state f (parts_start r) [] s) ≡ None
no_session_state f r s = by (s == 0) refl
  where
    by : (b : Bool) → (s == 0) ≡ b → going_on f (session_state f (parts_start r) [] s) ≡ None
    by true e = rw e refl
    by false e = rw e refl

pub kept_cut : (f : Flow) (n : ℕ) (v : Start) (es : List Entry) (mark reserved : ℕ) (r : Running) → Kept (world f n v es mark reserved) es r →
    length r.slots ≡ n → is_in_use (world f n v es mark reserved) ≡ false
    → Kept (world f n (parts_start r) [] 0 0) [] (parts_after r)
kept_cut f n v es mark reserved r k same free =
    let is = start_is f n v es mark reserved r k free in
    let st : StartFits f (parts_start r) = subst (λ (s : Start). StartFits f s) (sym is)
    (cut_fits f v (past_of es) (breaks_of f v (past_of es)) n k.flow k.start k.past.few k.past.sessions k.past.spelled k.past.lawful) in
    let o = st.view.ordered in
    let unused : list_any is_holding r.slots ≡ false = slots_in_use f n v es mark reserved r k same ∙ free in
    let zero_more : r.next_id ≡ r.next_id + 0 = omega arith in
    record {
      seats = k.seats;
      flow = k.flow;
      start = st;
      past = record { few = k.past.few; sessions = tt; spelled = tt; lawful = tt };
      history = refl;
      sessions = λ s x e. subst (λ (z : Slot). SlotIs f (parts_start r) [] s z) (sym (none_holding r.slots s x unused e)) (no_session_state f r s);
      queued = refl;
      shelved = sym (ap (λ (j : JournalView). j.shelf) (journal_first f (parts_start r) o));
      advised = refl;
      stops = (k.stops.0, λ p. flags_among r.breaks p);
      numbered = zero_more;
      renewed = refl;
      recovers = refl;
      closed = omega arith;
      spent = k.spent;
      marked = omega arith;
    }

-- the refusals

pub may_cut : (w : World) → cut_refusal w ≡ None → is_in_use w ≡ false
may_cut w h = by (is_in_use w) (nat_lt w.mark (length w.past)) h
  where
    by : (a b : Bool) → first_of (refused_if a InUse ∷ refused_if b NotWritten ∷ []) ≡ None → a ≡ false
    by true b e = absurd (cc)
    by false b e = refl

idle_world : (u w : World) → u ≡ w → cut_refusal w ≡ None → is_in_use u ≡ false
idle_world u w same h = subst (λ (z : World). is_in_use z ≡ false) (sym same) (may_cut w h)

pub cut_kept : (f : Flow) (n : ℕ) (v : Start) (es : List Entry) (mark reserved : ℕ) (r : Running) (w : World) (view : JournalView) (waiting : List WaitingContext)
    (breaks : List ℕ) (left : List Entry)
    → Kept (world f n v es mark reserved) es r → world f n v es mark reserved ≡ w → length r.slots ≡ n → cut_refusal w ≡ None
    → view ≡ record { next_id = r.next_id; rows = []; shelf = r.shelf; advices = r.advices } → waiting ≡ r.queue →
    breaks ≡ filter (flag r.breaks) (range_with_len 0 (length r.breaks)) → left ≡ []
    → Kept (world f n (record { view = view; queue = waiting; breaks = breaks }) left 0 0) left (parts_after r)
cut_kept f n v es mark reserved r w view waiting breaks left k same many none ev ew eb el =
    rw (ev, ew, eb, el) (kept_cut f n v es mark reserved r k many (idle_world (world f n v es mark reserved) w same none))

-- what contracts see of it
pub cut_shown : (f : Flow) (n : ℕ) (v : Start) (es : List Entry) (mark reserved : ℕ) (r : Running) (w : World) (view : JournalView) (waiting : List WaitingContext)
    (breaks : List ℕ) (left : List Entry)
    → Kept (world f n v es mark reserved) es r → world f n v es mark reserved ≡ w → cut_refusal w ≡ None
    → view ≡ record { next_id = r.next_id; rows = []; shelf = r.shelf; advices = r.advices } → waiting ≡ r.queue →
    breaks ≡ filter (flag r.breaks) (range_with_len 0 (length r.breaks)) → left ≡ []
    → world f n (record { view = view; queue = waiting; breaks = breaks }) left 0 0 ≡ cut_world w
cut_shown f n v es mark reserved r w view waiting breaks left k same none ev ew eb el =
    let is : parts_start r ≡ after_cut f v (past_of es) (breaks_of f v (past_of es)) =
    start_is f n v es mark reserved r k (idle_world (world f n v es mark reserved) w same none) in
    let made : record { view = view; queue = waiting; breaks = breaks } ≡ parts_start r = rw (ev, ew, eb) refl in
    rw el (subst (λ (z : World). world f n (record { view = view; queue = waiting; breaks = breaks }) [] 0 0 ≡ cut_world z) same
    (ap (λ (s : Start). world f n s [] 0 0) (made ∙ is)))

pub accepts_cut : (w : World) (done : Unit {0} → Type 0) (same : Type 0) → cut_refusal w ≡ None → done tt →
    Accepts OutOfMemory (cut_refusal w) (Ok tt) done same
accepts_cut w done same h d = subst (λ (o : Option EngineError). Accepts OutOfMemory o (Ok tt) done same) (sym h) d

pub append_none : (xs : List ℕ) → xs ++ [] ≡ xs
append_none [] = refl
append_none (x ∷ xs) = ap (λ l. x ∷ l) (append_none xs)
