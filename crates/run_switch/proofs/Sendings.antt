-- Advices sent one after the other.
-- for: advices::send_each, advices::send_advices, advices::oldest_advices
use Rattle.std.specs.Prelude.{OnOk}
use Rattle.std.proofs.Common.{Result, ◌≡◌, ◌<◌, ◌≤◌, ℕ, ◌+◌, List, [], ◌∷◌, ◌++◌, length, map, take, get_or, refl, sym, ap, subst, ◌∙◌}
use Rattle.std.proofs.lemmas.List.{map-append, take_all, take_more}
use Rattle.run_switch.specs.Points.{Point}
use Rattle.run_switch.specs.Advices.{AdviceStep, PlainAdvisor, Sends, SendsAll}
use Rattle.run_switch.specs.Stored.{plain}
use Rattle.run_switch.specs.declared.advices.Stored.{Stored}

pub sends_more : (step : AdviceStep) (bs : List ((ℕ × ℕ) × List ℕ)) (a : (ℕ × ℕ) × List ℕ) (s t u : PlainAdvisor) (p q r : Point)
    → SendsAll step bs s p t q → Sends step a t q u r → SendsAll step (bs ++ a ∷ []) s p u r
sends_more step [] a s t u p q r (sent, same) h =
    (u, r, subst (λ (z : Point). Sends step a s z u r) same (subst (λ (z : PlainAdvisor). Sends step a z q u r) sent h), (refl, refl))
sends_more step (b ∷ bs) a s t u p q r (v, w, first, more) h =
    (v, w, first, sends_more step bs a v t u w q r more h)

pub plain_next : (items : List Stored) (i : ℕ) (x : Stored) → i < length items → x ≡ get_or items i x →
    map plain (take (i + 1) items) ≡ map plain (take i items) ++ plain x ∷ []
plain_next items i x lt at =
    let more : take (i + 1) items ≡ take i items ++ x ∷ [] = take_more items i x lt ∙ ap (λ (y : Stored). take i items ++ y ∷ []) (sym at) in
    ap (map plain) more ∙ map-append plain (take i items) (x ∷ [])

pub sends_whole : (step : AdviceStep) (items : List Stored) (n : ℕ) (bs : List ((ℕ × ℕ) × List ℕ)) (s t : PlainAdvisor) (p q : Point) → length items ≤ n →
    map plain items ≡ bs
    → SendsAll step (map plain (take n items)) s p t q → SendsAll step bs s p t q
sends_whole step items n bs s t p q le are h =
    let all : map plain (take n items) ≡ bs = ap (map plain) (take_all n items le) ∙ are in
    subst (λ (l : List ((ℕ × ℕ) × List ℕ)). SendsAll step l s p t q) all h

-- these advices are those
pub sends_these : {T E : Type 0} (r : Result T E) (step : AdviceStep) (cs bs : List ((ℕ × ℕ) × List ℕ)) (s t : PlainAdvisor) (p q : Point) → cs ≡ bs →
    OnOk r (SendsAll step cs s p t q) → OnOk r (SendsAll step bs s p t q)
sends_these r step cs bs s t p q is h = subst (λ (l : List ((ℕ × ℕ) × List ℕ)). OnOk r (SendsAll step l s p t q)) is h
