-- One more call of a station.
-- for: station::StationLog::call, open::Notes::add
use Rattle.std.proofs.Common.{◌≡◌, ◌+◌, ◌-◌, ◌^◌, min, ℕ, List, [], ◌∷◌, ◌++◌, refl, sym, subst, ap, ◌∙◌}
use Rattle.sw_participant.specs.Chains.{Rule}
use Rattle.sw_participant.specs.Callers.{Within}
use Rattle.tx_locked.specs.declared.station.MadeCall.{MadeCall}
use Rattle.tx_locked.specs.Linked.{AreNotes, IsBeside, IsStation, Linked, count_up}

pub linked_more : (rule : Rule) (o p q : List ℕ) (ms : List MadeCall) (m : MadeCall) → Linked rule o ms p →
    rule m.call.id m.call.act p m.before m.reply q m.after → Linked rule o (ms ++ m ∷ []) q
linked_more rule o p q [] m e r = (q, subst (λ (z : List ℕ). rule m.call.id m.call.act z m.before m.reply q m.after) e r, refl)
linked_more rule o p q (n ∷ ms) m (mid, a, l) r = (mid, a, linked_more rule mid p q ms m l r)

pub linked_less : (rule : Rule) (o q : List ℕ) (ms : List MadeCall) (m : MadeCall) → Linked rule o (ms ++ m ∷ []) q →
    (p : List ℕ) × Linked rule o ms p × rule m.call.id m.call.act p m.before m.reply q m.after
linked_less rule o q [] m (p, r, e) = (o, refl, subst (λ (z : List ℕ). rule m.call.id m.call.act o m.before m.reply z m.after) (sym e) r)
linked_less rule o q (n ∷ ms) m (mid, a, l) = let (p, k, r) = linked_less rule mid q ms m l in (p, (mid, a, k), r)

pub count_more : (c : ℕ) (ms : List MadeCall) (m : MadeCall) → count_up c (ms ++ m ∷ []) ≡ min (count_up c ms + 1) (2 ^ 64 - 1)
count_more c [] m = refl
count_more c (n ∷ ms) m = count_more (min (c + 1) (2 ^ 64 - 1)) ms m

pub station_more : (first : Rule) (o p q : List ℕ) (c d e : ℕ) (rule new : Rule) (log : List MadeCall) (m : MadeCall) → IsStation first o c rule p d log →
    Within new rule → rule m.call.id m.call.act p m.before m.reply q m.after → e ≡ min (d + 1) (2 ^ 64 - 1) → IsStation first o c new q e (log ++ m ∷ [])
station_more first o p q c d e rule new log m s w r n = record {
  within = λ id act a x reply b y h. s.within id act a x reply b y (w id act a x reply b y h);
  linked = linked_more first o p q log m s.linked (s.within m.call.id m.call.act p m.before m.reply q m.after r);
  counts = n ∙ (ap (λ z. min (z + 1) (2 ^ 64 - 1)) s.counts ∙ sym (count_more c log m));
}

pub station_still : (first : Rule) (o p q : List ℕ) (c d : ℕ) (rule new : Rule) (log : List MadeCall) → IsStation first o c rule p d log → Within new rule →
    q ≡ p → IsStation first o c new q d log
station_still first o p q c d rule new log s w e = record {
  within = λ id act a x reply b y h. s.within id act a x reply b y (w id act a x reply b y h);
  linked = subst (λ (z : List ℕ). Linked first o log z) (sym e) s.linked;
  counts = s.counts;
}

-- one more call beside others
pub notes_more : (rule : Rule) (o : List ℕ) (c d e : ℕ) (log : List MadeCall) (m : MadeCall) → AreNotes rule o c d log → IsBeside rule o m →
    e ≡ min (d + 1) (2 ^ 64 - 1) → AreNotes rule o c e (log ++ m ∷ [])
notes_more rule o c d e log m a b n = record {
  linked = linked_more rule o o o log m a.linked b;
  counts = n ∙ (ap (λ z. min (z + 1) (2 ^ 64 - 1)) a.counts ∙ sym (count_more c log m));
}
