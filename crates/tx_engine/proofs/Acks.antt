-- How an acknowledgement keeps what the running parts say of the history.
-- for: engine::acks
use Rattle.std.proofs.Common.{◌≡◌, ℕ, ◌<◌, Bool, true, false, List, [], ◌∷◌, length, Option, Some, None, refl, sym, ◌∙◌, ap, subst, arith, suc, zero}
use Rattle.std.specs.Prelude.{slice_get, ◌==◌, not, ◌&&◌, is_some, nat_lt, cond}
use Rattle.std.specs.Ordering.{is_eq, nat_cmp, ordering_then}
use Rattle.std.specs.declared.cmp.Ordering.{Ordering}
use Rattle.std.specs.declared.cmp.Ordering.TheVariants.{Less, Equal, Greater}
use Rattle.std.specs.Map.{lookup}
use Rattle.std.specs.BTreeMap.{is_at}
use Rattle.std.proofs.lemmas.Bool.Decides.{nat_tests}
use Rattle.sw_base.specs.Refusals.{or_else, refused_if}
use Rattle.flow_model.specs.declared.flow.Flow.{Flow}
use Rattle.tx_history.specs.declared.event.Event.TheVariants.{Acked}
use Rattle.tx_history.specs.declared.event.Change.{Change}
use Rattle.tx_history.specs.declared.event.Entry.{Entry}
use Rattle.tx_history.specs.Keys.{same_place, put_by, place_lt, place_cmp}
use Rattle.tx_history.specs.History.{Start}
use Rattle.tx_history.specs.Journal.{advices}
use Rattle.tx_engine.specs.declared.error.EngineError.{EngineError}
use Rattle.tx_engine.specs.declared.error.EngineError.TheVariants.{NoAdvice}
use Rattle.tx_engine.specs.World.{World}
use Rattle.tx_engine.specs.Calls.{ack_refusal, advice_at, has_advice, offer_refusal}
use Rattle.tx_engine.specs.Kept.{Kept, Running, past_of, world}
use Rattle.tx_engine.proofs.Keeps.{Steps, slot_keep}
use Rattle.tx_engine.proofs.Breaks.{none_of}
use Rattle.tx_engine.proofs.LetGo.{or_none}
use Rattle.tx_engine.proofs.Offers.{entry_room}

-- a look-up of the map is one by place

nat_same : (a b : ℕ) → is_eq (nat_cmp a b) ≡ (a == b)
nat_same a b = by (nat_lt a b) refl (a == b) refl
  where
    by : (x : Bool) → nat_lt a b ≡ x → (y : Bool) → (a == b) ≡ y → is_eq (cond x Less (cond y Equal Greater)) ≡ y
    by true e true i = absurd (let same : a ≡ b = grind (arith, nat_tests) in let less : a < b = grind (arith, nat_tests) in omega arith)
    by true e false i = refl
    by false e true i = refl
    by false e false i = refl

then_same : (r s : Ordering) → is_eq (ordering_then r s) ≡ (is_eq r && is_eq s)
then_same Less s = refl
then_same Equal s = refl
then_same Greater s = refl

place_is : (a b : ℕ × ℕ) → is_eq (place_cmp a b) ≡ same_place a b
place_is a b =
    then_same (nat_cmp a.0 b.0) (nat_cmp a.1 b.1)
    ∙ (ap (λ (x : Bool). x && is_eq (nat_cmp a.1 b.1)) (nat_same a.0 b.0) ∙ ap (λ (y : Bool). (a.0 == b.0) && y) (nat_same a.1 b.1))

lookup_same : {K A : Type 0} (t u : K → Bool) → ((k : K) → t k ≡ u k) → (xs : List (K × A)) → lookup t xs ≡ lookup u xs
lookup_same t u same [] = refl
lookup_same t u same (x ∷ xs) = ap (λ (b : Bool). cond b (Some x.1) (lookup t xs)) (same x.0) ∙ ap (λ (o : Option _). cond (u x.0) (Some x.1) o)
    (lookup_same t u same xs)

pub advice_is : (place : ℕ × ℕ) (xs : List ((ℕ × ℕ) × List ℕ)) → lookup (is_at (place_cmp place)) xs ≡ advice_at place xs
advice_is place xs = lookup_same (is_at (place_cmp place)) (same_place place) (place_is place) xs

-- an advice that is found has an index

record IsListed (place : ℕ × ℕ) (xs : List ((ℕ × ℕ) × List ℕ)) : Type 0 where
  advice : List ℕ
  index : ℕ
  there : slice_get xs index ≡ Some (place, advice)

same_places : (a b : ℕ × ℕ) → same_place a b ≡ true → b ≡ a
same_places a b h = by (a.0 == b.0) refl (a.1 == b.1) refl h
  where
    by : (x : Bool) → (a.0 == b.0) ≡ x → (y : Bool) → (a.1 == b.1) ≡ y → (x && y) ≡ true → b ≡ a
    by true e true i h = let p : b.0 ≡ a.0 = grind (arith, nat_tests) in let q : b.1 ≡ a.1 = grind (arith, nat_tests) in
        ap (λ (x : ℕ). (x, b.1)) p ∙ ap (λ (y : ℕ). (a.0, y)) q
    by true e false i h = absurd (cc)
    by false e y i h = absurd (cc)

is_listed_at : (place : ℕ × ℕ) (x : (ℕ × ℕ) × List ℕ) (xs : List ((ℕ × ℕ) × List ℕ)) → (is_some (advice_at place xs) ≡ true → IsListed place xs) → (b : Bool) →
    same_place place x.0 ≡ b → is_some (cond b (Some x.1) (advice_at place xs)) ≡ true → IsListed place (x ∷ xs)
is_listed_at place x xs ih true e h = record { advice = x.1; index = zero; there = ap (λ (k : ℕ × ℕ). Some (k, x.1)) (same_places place x.0 e) }
is_listed_at place x xs ih false e h = let w = ih h in record { advice = w.advice; index = suc w.index; there = w.there }

is_listed : (place : ℕ × ℕ) (xs : List ((ℕ × ℕ) × List ℕ)) → is_some (advice_at place xs) ≡ true → IsListed place xs
is_listed place [] h = absurd (cc)
is_listed place (x ∷ xs) h = is_listed_at place x xs (is_listed place xs) (same_place place x.0) refl h

abbrev pub acked_change : ℕ → ℕ → Change
acked_change id place = record { next_id = None; row = None; shelved = None; emptied = false; advice = Some ((id, place), None) }

pub steps_acked : (f : Flow) (n : ℕ) (v : Start) (es : List Entry) (mark reserved : ℕ) (r : Running) (id place : ℕ) →
    is_some (advice_at (id, place) (advices f v (past_of es))) ≡ true → Kept (world f n v es mark reserved) es r
    → Steps f n v (past_of es) (Acked id place) (acked_change id place) r (record r { advices = put_by place_lt (id, place) None r.advices })
steps_acked f n v es mark reserved r id place here k =
    let w = is_listed (id, place) (advices f v (past_of es)) here in
    record {
      accepted = (w.advice, w.index, w.there);
      usual = refl;
      takers = λ h. h;
      spelled = λ h. h;
      change = refl;
      sessions = λ s x h. slot_keep f v (past_of es) (Acked id place) s x refl (λ id z. refl) refl (k.sessions s x h);
      queued = k.queued;
      shelved = refl;
      advised = refl;
      stops = k.stops;
      numbered = k.numbered;
      renewed = k.renewed;
      recovers = k.recovers;
      spent = k.spent;
    }

-- what an acknowledgement that is not refused has
pub record CanAck (u : World) (es : List Entry) (place : ℕ × ℕ) : Type 0 where
  pub here : is_some (advice_at place (advices u.flow u.start u.past)) ≡ true
  pub few : length es < 1048576

ack_if : (w : World) (place : ℕ × ℕ) (b : Bool) → has_advice w place ≡ b → or_else (refused_if (not b) NoAdvice) (or_else (offer_refusal w) None) ≡ None →
    (has_advice w place ≡ true) × (offer_refusal w ≡ None)
ack_if w place true e h = (e, (none_of (offer_refusal w) None h).0)
ack_if w place false e h = absurd (cc)

pub can_ack : (u w : World) (es : List Entry) (place : ℕ × ℕ) → u ≡ w → u.past ≡ past_of es → ack_refusal w place ≡ None → CanAck u es place
can_ack u w es place same is none =
    let none' : ack_refusal u place ≡ None = subst (λ (x : World). ack_refusal x place ≡ None) (sym same) none in
    let held = ack_if u place (has_advice u place) refl none' in
    record { here = held.0; few = entry_room u u es refl is held.1 }

-- the refusal by the map
pub ack_tested : (u w : World) (es : List Entry) (r : Running) (place : ℕ × ℕ) (b : Bool) → Kept u es r → u ≡ w →
    is_some (lookup (is_at (place_cmp place)) r.advices) ≡ b
    → ack_refusal w place ≡ or_else (refused_if (not b) NoAdvice) (offer_refusal w)
ack_tested u w es r place b k same found =
    let has : has_advice u place ≡ b = ap (λ (xs : List ((ℕ × ℕ) × List ℕ)). is_some (advice_at place xs)) (sym k.advised)
    ∙ (ap (λ (o : Option (List ℕ)). is_some o) (sym (advice_is place r.advices)) ∙ found) in
    subst (λ (w : World). ack_refusal w place ≡ or_else (refused_if (not b) NoAdvice) (offer_refusal w)) same
    (rw has (ap (λ (o : Option EngineError). or_else (refused_if (not b) NoAdvice) o) (or_none (offer_refusal u))))
