-- What a sink of responses gave of all that it took.
-- for: sink::Responses
use Rattle.std.proofs.Common.{◌≡◌, ℕ, Bool, true, false, List, [], ◌∷◌, map, refl, sym, ap, subst, ◌∙◌, inl, inr}
use Rattle.std.proofs.Common.{append-nil}
use Rattle.sw_context.specs.Pairs.{Pairs}
use Rattle.tx_plant.specs.Core.{Core}
use Rattle.tx_locked.specs.declared.finished.Finished.{Finished}
use Rattle.tx_locked.specs.Finished.{AreKept, WasKept, WereKept}
use Rattle.tx_pool.specs.Sinks.{TakesAll}
use Rattle.run_responses.specs.Giving.{AreAmong, AreFound, Giving, Gives, IsAmong, TakesOne}
use Rattle.run_responses.proofs.Among.{first_or_later, one_found}
use Rattle.run_responses.proofs.Giving.{gives_more, gives_none, gives_then}

-- ---- all that it took

-- after a fault it stays as it is
stays : {Z : Type 0} (view : Z → Giving) (takes : Z → ℕ → Pairs → Z → Type 0)
    → ((z : Z) (id : ℕ) (x : Pairs) (y : Z) → takes z id x y → TakesOne (view z) id x (view y))
    → (z y : Z) (fs : List Finished) → TakesAll takes z fs y → (view z).failed ≡ true → view y ≡ view z
stays view takes each z y [] took bad = ap view took
stays view takes each z y (f ∷ fs) (w, one, rest) bad = elim (each z f.id f.context w one) [
  | inl (_, same) ↦ stays view takes each w y fs rest (ap (λ v. v.failed) same ∙ bad) ∙ same
  | inr (ok, _) ↦ absurd (cc)
]

-- what it gave of all
pub gave : {Z : Type 0} (view : Z → Giving) (takes : Z → ℕ → Pairs → Z → Type 0)
    → ((z : Z) (id : ℕ) (x : Pairs) (y : Z) → takes z id x y → TakesOne (view z) id x (view y))
    → (z y : Z) (fs : List Finished) → TakesAll takes z fs y → (view z).failed ≡ false → Gives (view z) (map (λ f. (f.id, f.context)) fs) (view y)
gave view takes each z y [] took ok = subst (λ v. Gives (view z) [] (view v)) (sym took) (gives_none (view z))
gave view takes each z y (f ∷ fs) (w, one, rest) ok = elim (each z f.id f.context w one) [
  | inl (bad, _) ↦ absurd (cc)
  | inr (_, gives) ↦ by_fault (view w).failed refl gives (gave view takes each w y fs rest)
] where
  by_fault : (b : Bool) → (view w).failed ≡ b → Gives (view z) ((f.id, f.context) ∷ []) (view w)
      → ((view w).failed ≡ false → Gives (view w) (map (λ f. (f.id, f.context)) fs) (view y))
      → Gives (view z) ((f.id, f.context) ∷ map (λ f. (f.id, f.context)) fs) (view y)
  by_fault false fine gives more =
      gives_then (view z) ((f.id, f.context) ∷ []) (view w) (map (λ f. (f.id, f.context)) fs) (view y) gives fine (more fine)
  by_fault true bad gives more =
      let all = gives_more (view z) ((f.id, f.context) ∷ []) (map (λ f. (f.id, f.context)) fs) (view w) gives bad in
      subst (Gives (view z) ((f.id, f.context) ∷ map (λ f. (f.id, f.context)) fs)) (sym (stays view takes each w y fs rest bad)) all

-- what each step keeps, all keep
pub same_output : {Z : Type 0} {N : Type 0} (name : Z → N) (takes : Z → ℕ → Pairs → Z → Type 0)
    → ((z : Z) (id : ℕ) (x : Pairs) (y : Z) → takes z id x y → name y ≡ name z) → (z y : Z) (fs : List Finished) → TakesAll takes z fs y → name y ≡ name z
same_output name takes each z y [] took = ap name took
same_output name takes each z y (f ∷ fs) (w, one, rest) = same_output name takes each w y fs rest ∙ each z f.id f.context w one

-- ---- and then the flush

pub gave_flushed : (z : Giving) (taken : List (ℕ × Pairs)) (y w : Giving) → Gives z taken y → y.failed ≡ false → Gives y [] w → Gives z taken w
gave_flushed z taken y w g ok h = subst (λ l. Gives z l w) (append-nil taken) (gives_then z taken y [] w g ok h)

-- with or without a fault before
pub gave_in_all : (z : Giving) (taken : List (ℕ × Pairs)) (y w : Giving) → Gives z taken y → (y.failed ≡ false → Gives y [] w) → (y.failed ≡ true → w ≡ y)
    → Gives z taken w
gave_in_all z taken y w g flushes keeps = by_fault y.failed refl where
  by_fault : (b : Bool) → y.failed ≡ b → Gives z taken w
  by_fault false ok = gave_flushed z taken y w g ok (flushes ok)
  by_fault true bad = subst (Gives z taken) (sym (keeps bad)) g

-- ---- with the contexts that they ended with

pub found_among : (ended : List (ℕ × Pairs)) (list all : List (ℕ × Pairs)) → AreAmong list all → AreFound ended all → AreFound ended list
found_among ended [] all h k = tt
found_among ended (e ∷ list) all (here, rest) k = (one_found ended e all k here, found_among ended list all rest k)

pub kept_found : (p : Core) (fs : List Finished) → AreKept p fs → AreFound p.ended (map (λ f. (f.id, f.context)) fs)
kept_found p [] h = tt
kept_found p (f ∷ fs) (here, rest) = (here, kept_found p fs rest)

one_was : (start : Core) (e : ℕ × Pairs) (fs : List Finished) → WereKept start fs → IsAmong e (map (λ f. (f.id, f.context)) fs)
    → WasKept start (record { id = e.0; context = e.1 })
one_was start e [] h ([], after, is) = absurd (cc)
one_was start e [] h (b ∷ before, after, is) = absurd (cc)
one_was start e (f ∷ fs) (here, rest) is = elim (first_or_later e (f.id, f.context) (map (λ f. (f.id, f.context)) fs) is) [
  | inl same ↦ subst (λ (z : ℕ × Pairs). WasKept start (record { id = z.0; context = z.1 })) (sym same) here
  | inr later ↦ one_was start e fs rest later
]

pub were_among : (start : Core) (fs : List Finished) (list : List (ℕ × Pairs)) → WereKept start fs → AreAmong list (map (λ f. (f.id, f.context)) fs)
    → WereKept start (map (λ e. record { id = e.0; context = e.1 }) list)
were_among start fs [] h k = tt
were_among start fs (e ∷ list) h (here, rest) = (one_was start e fs h here, were_among start fs list h rest)
