-- What the sink takes, one after the other.
-- for: sink::hand_over, keeper::Kept::keep_batch, keeper::keep, running::run_in
use Rattle.std.proofs.Common.{◌≡◌, ◌⊎◌, ◌∙◌, inl, inr, arith, ℕ, List, [], ◌∷◌, ◌++◌, take, drop, map, refl, sym, ap, subst, append_assoc}
use Rattle.std.proofs.lemmas.List.{map-append, take-append-drop}
use Rattle.sw_context.specs.Pairs.{Pairs}
use Rattle.tx_history.specs.declared.event.Entry.{Entry}
use Rattle.sqlite_trees.specs.View.{doubt}
use Rattle.journal_rows.specs.Tables.{Tables, all_made}
use Rattle.journal_rows.specs.Law.{changes_of}
use Rattle.journal_store.specs.Kept.{IsCleanJournal, JournalState}
use Rattle.tx_plant.specs.Plant.{Seen}
use Rattle.tx_engine.specs.World.{World}
use Rattle.tx_plant.specs.Core.{Core}
use Rattle.tx_locked.specs.declared.finished.Finished.{Finished}
use Rattle.tx_locked.specs.Finished.{AreKept, WereKept, finished_in}
use Rattle.tx_locked.specs.Receipts.{all_of}
use Rattle.tx_locked.proofs.Finishing.{finished_append, were_append, were_taken}
use Rattle.tx_pool.specs.Sinks.{KeptAll, KeptBatch, KeptPart, SinkTook, SinkTookSome, TakesAll, TookPart}
use Rattle.tx_pool.specs.Wrote.{LeavesWith, MayHaveWritten, Wrote}
use Rattle.tx_pool.proofs.Keeping.{made_more, wrote_more, wrote_none}

pub takes_more : {Z : Type 0} (takes : Z → ℕ → Pairs → Z → Type 0) (z : Z) (fs : List Finished) (f : Finished) (w y : Z) → TakesAll takes z fs w
    → takes w f.id f.context y → TakesAll takes z (fs ++ f ∷ []) y
takes_more takes z [] f w y e t = (y, subst (λ v. takes v f.id f.context y) e t, refl)
takes_more takes z (x ∷ fs) f w y (m, h, r) t = (m, h, takes_more takes m fs f w y r t)

takes_append : {Z : Type 0} (takes : Z → ℕ → Pairs → Z → Type 0) (z : Z) (fs gs : List Finished) (w y : Z) → TakesAll takes z fs w
    → TakesAll takes w gs y → TakesAll takes z (fs ++ gs) y
takes_append takes z [] gs w y e t = subst (λ v. TakesAll takes v gs y) e t
takes_append takes z (x ∷ fs) gs w y (m, h, r) t = (m, h, takes_append takes m fs gs w y r t)

abbrev ids : List Finished → List ℕ
ids fs = map (λ (f : Finished). f.id) fs

pub kept_none : {Z : Type 0} (takes : Z → ℕ → Pairs → Z → Type 0) (start : Core) (j : JournalState) (z : Z) → KeptAll takes start j j [] z z []
kept_none takes start j z = record { wrote = wrote_none j; took = refl; ids = refl; were = tt }

pub kept_batch : {Z : Type 0} (takes : Z → ℕ → Pairs → Z → Type 0) (start : Core) (j k l : JournalState) (es es' b : List Entry) (z w y : Z) (fs fs' : List Finished) →
    KeptAll takes start j k es z w fs → KeptBatch takes start k l b es es' w y fs fs' → KeptAll takes start j l es' z y fs'
kept_batch takes start j k l es es' b z w y fs fs' h m = record {
  wrote = subst (λ x. Wrote j x l) (sym m.written) (wrote_more j k l es b h.wrote m.kept.wrote m.some);
  took = subst (λ x. TakesAll takes z x y) (sym m.taken) (takes_append takes z fs m.more w y h.took m.kept.took);
  ids = ap ids m.taken ∙ (map-append (λ (f : Finished). f.id) fs m.more ∙ (ap (λ l. l ++ ids m.more) h.ids
      ∙ (ap (λ l. finished_in es ++ l) m.kept.ids ∙ (sym (finished_append es b) ∙ ap finished_in (sym m.written)))));
  were = subst (WereKept start) (sym m.taken) (were_append start fs m.more h.were m.kept.were);
}

-- where less was taken
nil_end : (l : List ℕ) → l ++ [] ≡ l
nil_end [] = refl
nil_end (x ∷ l) = ap (λ z. x ∷ z) (nil_end l)

made_whole : (es : List Entry) (t : Tables) → all_made (changes_of es) t ≡ all_made (changes_of (es ++ [])) t
made_whole es t = sym (made_more es [] t)

left_all : (j k : JournalState) (es : List Entry) → Wrote j es k → (es ≡ []) ⊎ (IsCleanJournal k → LeavesWith j es k)
left_all j k es w = elim w.left [
  | inl a ↦ inl a.0
  | inr a ↦ inr (λ clean t h. ([], a.1 clean t h ∙ (w.tables clean a.0 ∙ made_whole es j.tables)))
]

pub some_of : {Z : Type 0} (takes : Z → ℕ → Pairs → Z → Type 0) (start : Core) (j k : JournalState) (es : List Entry) (z y : Z) (fs : List Finished) →
    KeptAll takes start j k es z y fs → SinkTookSome takes start j k z y
some_of takes start j k es z y fs h = record {
  entries = es;
  some = fs;
  took = h.took;
  rest = [];
  ids = sym h.ids ∙ sym (nil_end (ids fs));
  were = h.were;
  left = left_all j k es h.wrote;
}

-- where the last write was refused
left_refused : (j k l : JournalState) (es b : List Entry) → Wrote j es k → MayHaveWritten k b l → (es ≡ []) ⊎ (IsCleanJournal l → LeavesWith j es l)
left_refused j k l es b w (inl (same, less)) = elim (left_all j k es w) [
  | inl e ↦ inl e
  | inr a ↦ inr (λ clean t h. a (subst (λ (s : Seen). doubt s.is_clean ≡ 0) same clean) t (less t h))
]
left_refused j k l es b w (inr (doubts, stop)) = elim w.left [
  | inl a ↦ inl a.0
  | inr a ↦ inr (λ clean t h.
      let before : IsCleanJournal k = omega (arith, doubts, clean) in
      let tables = w.tables before a.0 in
      elim (stop clean a.0 t h) [
        | inl e ↦ ([], e ∙ (tables ∙ made_whole es j.tables))
        | inr e ↦ (b, e ∙ (ap (all_made (changes_of b)) tables ∙ sym (made_more es b j.tables)))
      ])
]

pub some_refused : {Z : Type 0} (takes : Z → ℕ → Pairs → Z → Type 0) (start : Core) (j k l : JournalState) (es b : List Entry) (z y : Z) (fs : List Finished) →
    KeptAll takes start j k es z y fs → MayHaveWritten k b l → SinkTookSome takes start j l z y
some_refused takes start j k l es b z y fs h refused = record {
  entries = es;
  some = fs;
  took = h.took;
  rest = [];
  ids = sym h.ids ∙ sym (nil_end (ids fs));
  were = h.were;
  left = left_refused j k l es b h.wrote refused;
}

pub some_part : {Z : Type 0} (takes : Z → ℕ → Pairs → Z → Type 0) (start : Core) (j k l : JournalState) (es b : List Entry) (z w y : Z) (fs : List Finished) →
    KeptAll takes start j k es z w fs → KeptPart takes start k l b w y → SinkTookSome takes start j l z y
some_part takes start j k l es b z w y fs h (inl (refused, same)) =
    subst (λ v. SinkTookSome takes start j l z v) (sym same) (some_refused takes start j k l es b z w fs h refused)
some_part takes start j k l es b z w y fs h (inr (wrote, some, part)) = record {
  entries = es ++ b;
  some = fs ++ part.some;
  took = takes_append takes z fs part.some w y h.took part.took;
  rest = part.rest;
  ids = finished_append es b ∙ (ap (λ l. l ++ finished_in b) (sym h.ids) ∙ (ap (λ l. ids fs ++ l) part.ids
      ∙ (sym (append_assoc (ids fs) (ids part.some) part.rest) ∙ ap (λ l. l ++ part.rest)
      (sym (map-append (λ (f : Finished). f.id) fs part.some)))));
  were = were_append start fs part.some h.were part.were;
  left = left_all j l (es ++ b) (wrote_more j k l es b h.wrote wrote some);
}

-- of the transactions that a batch ended the sink took none, or the first ones
pub part_none : {Z : Type 0} (takes : Z → ℕ → Pairs → Z → Type 0) (start : Core) (b : List Entry) (z : Z) → TookPart takes start b z z
part_none takes start b z = record { some = []; took = refl; rest = finished_in b; ids = refl; were = tt }

pub part_taken : {Z : Type 0} (takes : Z → ℕ → Pairs → Z → Type 0) (start : Core) (b : List Entry) (z y : Z) (gs : List Finished) (n : ℕ) →
    TakesAll takes z (take n gs) y → ids gs ≡ finished_in b → WereKept start gs → TookPart takes start b z y
part_taken takes start b z y gs n took is were = record {
  some = take n gs;
  took = took;
  rest = ids (drop n gs);
  ids = sym is ∙ (ap ids (sym (take-append-drop n gs)) ∙ map-append (λ (f : Finished). f.id) (take n gs) (drop n gs));
  were = were_taken start gs n were;
}

-- of a run that ended well
pub took_all : {Z : Type 0} (takes : Z → ℕ → Pairs → Z → Type 0) (from : Core) (start : World) (now : Core) (j k : JournalState) (es : List Entry) (z y : Z)
    (fs : List Finished) → KeptAll takes from j k es z y fs → es ≡ drop start.mark (all_of now.world) → AreKept now fs → SinkTook takes start now z y
took_all takes from start now j k es z y fs h is kept = record {
  all = fs;
  took = h.took;
  ids = h.ids ∙ ap finished_in is;
  contexts = kept;
}
