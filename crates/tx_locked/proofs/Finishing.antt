-- The transactions that ended, one entry after the other.
-- for: finished::finished_in, finished::are_kept, locked::finished, locked::Locked::finished
use Rattle.std.proofs.Common.{Result, Ok, Err, IfOk, ◌≡◌, ◌<◌, ◌+◌, ◌∙◌, ℕ, zero, suc, List, [], ◌∷◌, ◌++◌, length, map, take, get_or, Some, refl, sym, ap, append_assoc, arith}
use Rattle.std.proofs.Math.Seq.{take-suc}
use Rattle.std.proofs.lemmas.List.{map-append}
use Rattle.tx_history.specs.declared.event.Entry.{Entry}
use Rattle.tx_plant.specs.Core.{Core, find}
use Rattle.tx_locked.specs.declared.finished.Finished.{Finished}
use Rattle.tx_locked.specs.declared.station.MadeCall.{MadeCall}
use Rattle.tx_locked.specs.Finished.{AreKept, WereKept, finished_by, finished_in}
use Rattle.tx_locked.specs.Since.{Since}

nil_end : (l : List ℕ) → l ++ [] ≡ l
nil_end [] = refl
nil_end (x ∷ l) = ap (λ z. x ∷ z) (nil_end l)

pub finished_more : (es : List Entry) (e : Entry) → finished_in (es ++ e ∷ []) ≡ finished_in es ++ finished_by e.change.row e.change.shelved
finished_more [] e = nil_end (finished_by e.change.row e.change.shelved)
finished_more (x ∷ es) e = ap (λ l. finished_by x.change.row x.change.shelved ++ l) (finished_more es e)
    ∙ sym (append_assoc (finished_by x.change.row x.change.shelved) (finished_in es) (finished_by e.change.row e.change.shelved))

pub finished_append : (es fs : List Entry) → finished_in (es ++ fs) ≡ finished_in es ++ finished_in fs
finished_append [] fs = refl
finished_append (x ∷ es) fs = ap (λ l. finished_by x.change.row x.change.shelved ++ l) (finished_append es fs)
    ∙ sym (append_assoc (finished_by x.change.row x.change.shelved) (finished_in es) (finished_in fs))

pub kept_more : (p : Core) (fs : List Finished) (f : Finished) → AreKept p fs → find f.id p.ended ≡ Some f.context → AreKept p (fs ++ f ∷ [])
kept_more p [] f h k = (k, tt)
kept_more p (x ∷ fs) f h k = (h.0, kept_more p fs f h.1 k)

-- the ids, one after the other
pub ids_more : (fs : List Finished) (ids : List ℕ) (n : ℕ) (f : Finished) → map (λ (x : Finished). x.id) fs ≡ take n ids → n < length ids
    → f.id ≡ get_or ids n 0 → map (λ (x : Finished). x.id) (fs ++ f ∷ []) ≡ take (n + 1) ids
ids_more fs ids n f same within is =
    let more : n + 1 ≡ suc n = omega arith in
    map-append (λ (x : Finished). x.id) fs (f ∷ []) ∙ (ap (λ l. l ++ f.id ∷ []) same ∙ (ap (λ x. take n ids ++ x ∷ []) is
    ∙ (sym (take-suc ids n 0 within) ∙ ap (λ m. take m ids) (sym more))))

-- at this moment
pub were_kept : (start now : Core) (got : List (List ℕ)) (total : ℕ) (made : List MadeCall) (fs : List Finished) → Since start now got total made
    → AreKept now fs → WereKept start fs
were_kept start now got total made [] since k = tt
were_kept start now got total made (f ∷ fs) since k = (
  record { now = now; got = got; total = total; made = made; since = since; kept = k.0 },
  were_kept start now got total made fs since k.1,
)

pub were_append : (start : Core) (fs gs : List Finished) → WereKept start fs → WereKept start gs → WereKept start (fs ++ gs)
were_append start [] gs h k = k
were_append start (f ∷ fs) gs h k = (h.0, were_append start fs gs h.1 k)

pub were_taken : (start : Core) (fs : List Finished) (n : ℕ) → WereKept start fs → WereKept start (take n fs)
were_taken start [] zero h = tt
were_taken start [] (suc n) h = tt
were_taken start (f ∷ fs) zero h = tt
were_taken start (f ∷ fs) (suc n) h = (h.0, were_taken start fs n h.1)

-- of what a call answers, in other words
pub ok_with : {A E : Type 0} (P Q : A → Type 0) (r : Result A E) → IfOk r P → ((a : A) → P a → Q a) → IfOk r Q
ok_with P Q (Ok a) h k = k a h
ok_with P Q (Err e) h k = tt
