-- The journal's writes in a run: what was written is what is between the marks.
-- for: running::run_in
use Rattle.std.proofs.Common.{drop_of_length-le, ◌≡◌, ◌⊎◌, ◌≤◌, ◌<◌, ◌+◌, ℕ, zero, suc, false, List, [], ◌∷◌, ◌++◌, length, take, drop, refl, sym, ap, subst}
use Rattle.std.proofs.Common.{arith, ◌∙◌, inl, inr}
use Rattle.std.proofs.lemmas.List.{take-append-le, drop-append-le, length-take-le, length-drop, length-append}
use Rattle.sqlite_trees.specs.View.{doubt}
use Rattle.journal_rows.specs.Tables.{all_made}
use Rattle.journal_rows.specs.Law.{changes_of}
use Rattle.tx_history.specs.declared.event.Event.{Event}
use Rattle.tx_history.specs.declared.event.Event.TheVariants as event
use Rattle.tx_history.specs.declared.event.Entry.{Entry}
use Rattle.tx_history.specs.Journal.{change}
use Rattle.tx_engine.specs.World.{World, happened}
use Rattle.tx_plant.specs.Core.{Core}
use Rattle.tx_plant.specs.Steps.{event_of}
use Rattle.tx_plant.specs.Plant.{IsClean, Seen}
use Rattle.tx_locked.specs.RunSteps.{RunStep, Offers, Takes, Replies, Writes, DoesAll, Marks, written_of}
use Rattle.tx_locked.specs.Receipts.{all_of}
use Rattle.tx_pool.proofs.Keeping.{made_more, not_empty}
use Rattle.tx_pool.proofs.Drove.{Leads, WritesTo}

-- the same as Wrote, of what contracts see of journals
pub record WroteSeen (j : Seen) (es : List Entry) (k : Seen) : Type 0 where
  pub clean : doubt j.is_clean ≤ doubt k.is_clean
  pub fresh : k.failed ≡ false → j.failed ≡ false
  pub none : es ≡ [] → k ≡ j
  pub ok : (es ≡ []) ⊎ (k.failed ≡ false)
  pub tables : IsClean k → k.failed ≡ false → k.tables ≡ all_made (changes_of es) j.tables

none_seen : (j : Seen) → WroteSeen j [] j
none_seen j = record { clean = omega arith; fresh = λ h. h; none = λ e. refl; ok = inl refl; tables = λ a b. refl }

-- between the journal before all writes and the one after the last are those after the writes before it

some_written : (es b : List Entry) (k : Seen) → 0 < length b → (es ++ b ≡ []) ⊎ (k.failed ≡ false) → k.failed ≡ false
some_written es b k some (inl e) = absurd (not_empty es b some e)
some_written es b k some (inr f) = f

pub leads_of : (ss : List RunStep) (p q : Core) (j k : Seen) → DoesAll ss p q → WroteSeen j (written_of ss) k → Leads ss j k
leads_of [] p q j k ran w = w.none refl
leads_of (Offers x n ∷ ss) p q j k (c, ran, does, engine) w = leads_of ss p c j k ran w
leads_of (Takes s n id x ∷ ss) p q j k (c, ran, does, engine) w = leads_of ss p c j k ran w
leads_of (Replies s n m ∷ ss) p q j k (c, ran, does, engine) w = leads_of ss p c j k ran w
leads_of (Writes b ∷ ss) p q j k (c, ran, marks, engine) w = by (written_of ss) refl (λ i v. leads_of ss p c j i ran v) where
  ok : k.failed ≡ false
  ok = some_written (written_of ss) b k marks.some w.ok

  by : (es : List Entry) → es ≡ written_of ss → ((i : Seen) → WroteSeen j (written_of ss) i → Leads ss j i) → (i : Seen) × Leads ss j i × WritesTo i b k
  by [] h leads = (
    j,
    leads j (subst (λ z. WroteSeen j z j) h (none_seen j)),
    record {
      clean = w.clean;
      fresh = w.fresh;
      ok = ok;
      tables = λ clean. subst (λ z. k.tables ≡ all_made (changes_of (z ++ b)) j.tables) (sym h)
          (w.tables clean ok);
    },
  )
  by (e ∷ es) h leads =
      let i : Seen = record { tables = all_made (changes_of (written_of ss)) j.tables; failed = false; is_clean = k.is_clean } in (
        i,
        leads i (record { clean = w.clean; fresh = λ f. w.fresh ok; none = λ n. absurd (cons_not_nil e es (h ∙ n)); ok = inr refl; tables = λ a f. refl }),
        record { clean = omega arith; fresh = λ f. refl; ok = ok; tables = λ clean. w.tables clean ok ∙ made_more (written_of ss) b j.tables },
      )
    where
      cons_not_nil : (e : Entry) (es : List Entry) → e ∷ es ≡ [] → ⊥
      cons_not_nil e es n = cc

-- the history grows

take_nil : {A : Type 0} (n : ℕ) → ◌≡◌ {A = List A} (take n []) []
take_nil zero = refl
take_nil (suc n) = refl

take_more : {A : Type 0} (a n : ℕ) (xs : List A) → take (a + n) xs ≡ take a xs ++ take n (drop a xs)
take_more zero n xs = let e : zero + n ≡ n = omega arith in rw e refl
take_more {A = A} (suc a) n [] = let e : suc a + n ≡ suc (a + n) = omega arith in rw e (sym (take_nil {A = A} n))
take_more (suc a) n (x ∷ xs) = let e : suc a + n ≡ suc (a + n) = omega arith in rw e (ap (λ l. x ∷ l) (take_more a n xs))

pub record Between (ss : List RunStep) (p q : Core) : Type 0 where
  pub rises : p.world.mark ≤ q.world.mark
  pub few : q.world.mark ≤ length (all_of q.world)
  pub is : written_of ss ≡ drop p.world.mark (take q.world.mark (all_of q.world))

-- one more entry
more : (ss tt2 : List RunStep) (p w q : Core) (e : Event) → written_of tt2 ≡ written_of ss → q.world ≡ happened w.world e → Between ss p w → Between tt2 p q
more ss tt2 p w q e same h b =
    let xs = all_of w.world in
    let new : Entry = record { number = length w.world.past + 1; event = e; change = change w.world.flow w.world.start (e ∷ w.world.past) } in
    let mark : q.world.mark ≡ w.world.mark = ap (λ (z : World). z.mark) h in
    let grown : all_of q.world ≡ xs ++ new ∷ [] = ap all_of h in
    let long : length (all_of q.world) ≡ length (xs ++ new ∷ []) = ap length grown in
    record {
      rises = omega (arith, mark, b.rises);
      few = omega (arith, mark, b.few, long, length-append xs (new ∷ []));
      is = same ∙ (b.is ∙ sym (ap (λ z. drop p.world.mark (take z (all_of q.world))) mark
          ∙ (ap (λ z. drop p.world.mark (take w.world.mark z)) grown ∙ ap (drop p.world.mark) (take-append-le w.world.mark xs (new ∷ []) b.few))));
    }

-- a write moves the mark
write_more : (ss : List RunStep) (p w q : Core) (b : List Entry) → Marks b w q → Between ss p w → Between (Writes b ∷ ss) p q
write_more ss p w q b m t = subst (λ (z : Core). Between (Writes b ∷ ss) p z) (sym m.core) (record {
  rises = omega (arith, t.rises);
  few = omega (arith, m.few, t.few, length-drop w.world.mark xs);
  is = whole;
})
  where
    xs : List Entry
    xs = all_of w.world

    whole : written_of ss ++ b ≡ drop p.world.mark (take (w.world.mark + length b) xs)
    whole =
        let n : length (take w.world.mark xs) ≡ w.world.mark = length-take-le w.world.mark xs t.few in
        ap (λ z. z ++ b) t.is ∙ (ap (λ z. drop p.world.mark (take w.world.mark xs) ++ z) m.batch
        ∙ (sym (drop-append-le p.world.mark (take w.world.mark xs) (take (length b) (drop w.world.mark xs)) (omega (arith, n, t.rises)))
        ∙ ap (drop p.world.mark) (sym (take_more w.world.mark (length b) xs))))

pub between : (ss : List RunStep) (p q : Core) → p.world.mark ≤ length (all_of p.world) → DoesAll ss p q → Between ss p q
between [] p q h e = subst (λ (z : Core). Between [] p z) (sym e) (record {
  rises = omega arith;
  few = h;
  is = sym (drop_of_length-le (take p.world.mark (all_of p.world)) (let n = length-take-le p.world.mark (all_of p.world) h in omega (arith, n)));
})
between (Offers x n ∷ ss) p q h (w, ran, (allowed, recorded, e), engine) = more ss (Offers x n ∷ ss) p w q (event.Offered x) refl recorded.history
    (between ss p w h ran)
between (Takes s n id x ∷ ss) p q h (w, ran, taken, engine) = more ss (Takes s n id x ∷ ss) p w q (event.Taken s) refl taken.recorded.history
    (between ss p w h ran)
between (Replies s n m ∷ ss) p q h (w, ran, entered, engine) = more ss (Replies s n m ∷ ss) p w q (event_of s m.reply m.after) refl entered.recorded.history
    (between ss p w h ran)
between (Writes b ∷ ss) p q h (w, ran, marks, engine) = write_more ss p w q b marks (between ss p w h ran)
