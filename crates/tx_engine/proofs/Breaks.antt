-- How a breakpoint that is set or cleared keeps what the running parts say of the history.
-- for: engine::breaks
use Rattle.std.proofs.Common.{◌≡◌, ◌≢◌, ℕ, ◌<◌, Bool, true, false, List, [], ◌∷◌, length, Option, Some, None, refl, sym, ◌∙◌, ap, subst, arith, suc, zero}
use Rattle.std.specs.Prelude.{◌+◌, if◌then◌else◌, slice_set, ◌==◌, not, ◌&&◌, ◌||◌}
use Rattle.std.specs.List.{list_any, range_with_len}
use Rattle.std.proofs.lemmas.Bool.Decides.{nat_tests}
use Rattle.flow_model.specs.declared.flow.Flow.{Flow}
use Rattle.flow_model.specs.Places.{parts_of}
use Rattle.tx_history.specs.declared.event.Event.{Event}
use Rattle.tx_history.specs.declared.event.Event.TheVariants.{Broke, Cleared}
use Rattle.tx_history.specs.declared.event.Entry.{Entry}
use Rattle.tx_history.specs.History.{Start, has_break}
use Rattle.tx_history.specs.Journal.{no_change}
use Rattle.tx_engine.specs.World.{World}
use Rattle.sw_base.specs.Refusals.{or_else, refused_if}
use Rattle.tx_engine.specs.declared.error.EngineError.TheVariants.{NoParticipant}
use Rattle.tx_engine.specs.Calls.{MayBreak, is_participant, offer_refusal}
use Rattle.tx_slots.specs.Slots.{flag, flag_in}
use Rattle.tx_engine.specs.Cuts.{is_broken}
use Rattle.tx_engine.specs.Kept.{AreBreaks, Kept, Running, past_of, world}
use Rattle.tx_engine.proofs.Keeps.{Steps, slot_keep, length_set, get_set_other}
use Rattle.tx_engine.proofs.Offers.{entry_room}

flag_here : (flags : List Bool) (p : ℕ) (b : Bool) → p < length flags → flag (slice_set flags p b) p ≡ b
flag_here [] p b lt = absurd (omega arith)
flag_here (x ∷ flags) zero b lt = refl
flag_here (x ∷ flags) (suc p) b lt = flag_here flags p b (omega arith)

flag_set : (flags : List Bool) (p q : ℕ) (b : Bool) → p < length flags → flag (slice_set flags p b) q ≡ (if p == q then b else flag flags q)
flag_set flags p q b lt = by (p == q) refl
  where
    by : (x : Bool) → (p == q) ≡ x → flag (slice_set flags p b) q ≡ (if x then b else flag flags q)
    by true e = let same : p ≡ q = grind (arith, nat_tests) in subst (λ (i : ℕ). flag (slice_set flags p b) i ≡ b) same (flag_here flags p b lt)
    by false e = let differ : p ≢ q = grind (arith, nat_tests) in ap flag_in (get_set_other flags p q b differ)

set_or : (b x : Bool) → (if b then true else x) ≡ (b || x)
set_or true x = refl
set_or false x = refl

cleared_and : (b x : Bool) → (if b then false else x) ≡ (not b && x)
cleared_and true x = refl
cleared_and false x = refl

broke : (f : Flow) (v : Start) (past : List Event) (flags : List Bool) (p : ℕ) → p < length (parts_of f) → AreBreaks f v past flags →
    AreBreaks f v (Broke p ∷ past) (slice_set flags p true)
broke f v past flags p lt are =
    let len = are.0 in
    (length_set flags p true ∙ len, λ q. flag_set flags p q true (omega arith) ∙ (rw (are.1 q) (set_or (p == q) (has_break v past q))))

cleared : (f : Flow) (v : Start) (past : List Event) (flags : List Bool) (p : ℕ) → p < length (parts_of f) → AreBreaks f v past flags →
    AreBreaks f v (Cleared p ∷ past) (slice_set flags p false)
cleared f v past flags p lt are =
    let len = are.0 in
    (length_set flags p false ∙ len, λ q. flag_set flags p q false (omega arith) ∙ (rw (are.1 q) (cleared_and (p == q) (has_break v past q))))

pub steps_broke : (f : Flow) (n : ℕ) (v : Start) (es : List Entry) (mark reserved : ℕ) (r : Running) (p : ℕ) → p < length (parts_of f) →
    Kept (world f n v es mark reserved) es r
    → Steps f n v (past_of es) (Broke p) no_change r (record r { breaks = slice_set r.breaks p true })
steps_broke f n v es mark reserved r p lt k = record {
  accepted = lt;
  usual = refl;
  takers = λ h. h;
  spelled = λ h. h;
  change = refl;
  sessions = λ s x h. slot_keep f v (past_of es) (Broke p) s x refl (λ id z. refl) refl (k.sessions s x h);
  queued = k.queued;
  shelved = refl;
  advised = refl;
  stops = broke f v (past_of es) r.breaks p lt k.stops;
  numbered = k.numbered;
  renewed = k.renewed;
  recovers = k.recovers;
  spent = k.spent;
}

pub steps_cleared : (f : Flow) (n : ℕ) (v : Start) (es : List Entry) (mark reserved : ℕ) (r : Running) (p : ℕ) → p < length (parts_of f) →
    Kept (world f n v es mark reserved) es r
    → Steps f n v (past_of es) (Cleared p) no_change r (record r { breaks = slice_set r.breaks p false })
steps_cleared f n v es mark reserved r p lt k = record {
  accepted = lt;
  usual = refl;
  takers = λ h. h;
  spelled = λ h. h;
  change = refl;
  sessions = λ s x h. slot_keep f v (past_of es) (Cleared p) s x refl (λ id z. refl) refl (k.sessions s x h);
  queued = k.queued;
  shelved = refl;
  advised = refl;
  stops = cleared f v (past_of es) r.breaks p lt k.stops;
  numbered = k.numbered;
  renewed = k.renewed;
  recovers = k.recovers;
  spent = k.spent;
}

-- where neither of two refusals holds
pub none_of : {E : Type 0} (a b : Option E) → or_else a b ≡ None → (a ≡ None) × (b ≡ None)
none_of None b h = (refl, h)
none_of (Some e) b h = absurd (cc)

-- what is allowed has room
pub break_room : (u w : World) (es : List Entry) (name : List ℕ) (p : ℕ) → u ≡ w → u.past ≡ past_of es → MayBreak w name p → length es < 1048576
break_room u w es name p same is may = entry_room u w es same is
    (none_of (offer_refusal w) None (none_of (refused_if (not (is_participant w name)) NoParticipant) (or_else (offer_refusal w) None) may.allowed).1).0

pub break_there : (u w : World) (name : List ℕ) (p : ℕ) → u ≡ w → MayBreak w name p → p < length (parts_of u.flow)
break_there u w name p same may = subst (λ (x : World). p < length (parts_of x.flow)) (sym same) may.there

-- whether one is set

any_flag : (h : ℕ → Bool) (bs : List Bool) (n : ℕ) → ((s : ℕ) → flag bs s ≡ h (n + s)) →
    list_any (λ (b : Bool). b) bs ≡ list_any h (range_with_len n (length bs))
any_flag h [] n all = refl
any_flag h (b ∷ bs) n all =
    let at : n + 0 ≡ n = omega arith in
    let here : b ≡ h n = all 0 ∙ ap h at in
    let later = any_flag h bs (n + 1) (λ s. (let same : n + suc s ≡ (n + 1) + s = omega arith in all (suc s) ∙ ap h same)) in
    rw (here, later) refl

pub flags_set : (f : Flow) (n : ℕ) (v : Start) (es : List Entry) (mark reserved : ℕ) (r : Running) → Kept (world f n v es mark reserved) es r →
    list_any (λ (b : Bool). b) r.breaks ≡ is_broken (world f n v es mark reserved)
flags_set f n v es mark reserved r k =
    any_flag (has_break v (past_of es)) r.breaks 0 (λ s. (let at : s ≡ 0 + s = omega arith in k.stops.1 s ∙ ap (has_break v (past_of es)) at))
    ∙ ap (λ (m : ℕ). list_any (has_break v (past_of es)) (range_with_len 0 m)) k.stops.0
