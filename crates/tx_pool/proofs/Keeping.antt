-- Writes, one after the other.
-- for: keeper::keep
use Rattle.std.proofs.Common.{◌≡◌, ◌⊎◌, ◌≤◌, ◌<◌, false, List, [], ◌∷◌, ◌++◌, length, refl, sym, ap, arith, ◌∙◌, inl, inr}
use Rattle.sqlite_trees.specs.View.{doubt}
use Rattle.journal_rows.specs.Tables.{Tables, all_made}
use Rattle.journal_rows.specs.Law.{changes_of}
use Rattle.tx_history.specs.declared.event.Entry.{Entry}
use Rattle.journal_store.specs.Kept.{IsCleanJournal, JournalState}
use Rattle.tx_pool.specs.Wrote.{LeavesLess, LeavesThese, Wrote}

pub wrote_none : (j : JournalState) → Wrote j [] j
wrote_none j = record { clean = omega arith; fresh = λ h. h; none = λ e. refl; tables = λ a b. refl; left = inl (refl, λ t h. h) }

pub made_more : (es b : List Entry) (t : Tables) → all_made (changes_of (es ++ b)) t ≡ all_made (changes_of b) (all_made (changes_of es) t)
made_more [] b t = refl
made_more (e ∷ es) b t = made_more es b _

pub not_empty : (es b : List Entry) → 0 < length b → es ++ b ≡ [] → ⊥
not_empty [] [] h e = omega (arith, h)
not_empty [] (x ∷ b) h e = cc
not_empty (x ∷ es) b h e = cc

pub wrote_more : (j k l : JournalState) (es b : List Entry) → Wrote j es k → Wrote k b l → 0 < length b → Wrote j (es ++ b) l
wrote_more j k l es b v w h = record {
  clean = omega (arith, v.clean, w.clean);
  fresh = λ f. v.fresh (w.fresh f);
  none = λ e. absurd (not_empty es b h e);
  tables = λ c f.
      let before : IsCleanJournal k = omega (arith, w.clean, c) in
      w.tables c f ∙ (ap (all_made (changes_of b)) (v.tables before (w.fresh f)) ∙ sym (made_more es b j.tables));
  left = inr (last w.left);
}
  where
    last : ((b ≡ []) × LeavesLess k l) ⊎ ((l.failed ≡ false) × (IsCleanJournal l → LeavesThese l)) → (l.failed ≡ false) × (IsCleanJournal l → LeavesThese l)
    last (inl (e, a)) = absurd (not_empty [] b h e)
    last (inr a) = a

-- one write
pub wrote_one : (j k : JournalState) (b : List Entry) → 0 < length b → doubt j.is_clean ≤ doubt k.is_clean → j.failed ≡ false → k.failed ≡ false →
    (IsCleanJournal k → k.tables ≡ all_made (changes_of b) j.tables) → (IsCleanJournal k → LeavesThese k) → Wrote j b k
wrote_one j k b some clean fresh ok tables these = record {
  clean = clean;
  fresh = λ f. fresh;
  none = λ e. absurd (not_empty [] b some e);
  tables =
      λ c f. tables c;
  left = inr (ok, these);
}
