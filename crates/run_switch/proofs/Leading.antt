-- What the sink of a leg took, and gave.
-- for: leg::note_leg, switch::Switch::run_leg
use Rattle.std.proofs.Common.{◌≡◌, ℕ, true, false, List, [], ◌++◌, drop, map, Option, Result, Ok, Err, IfOk, OnOk, MatchResult, refl, sym, ap, subst, ◌∙◌, inl, inr}
use Rattle.sqlite_trees.specs.declared.store.Store.{Ghosts}
use Rattle.sw_context.specs.Pairs.{Pairs}
use Rattle.journal_store.specs.Kept.{JournalState}
use Rattle.tx_plant.specs.Core.{Core}
use Rattle.tx_pool.specs.declared.refusal.PoolError.{PoolError}
use Rattle.tx_pool.specs.declared.refusal.PoolError.TheVariants as pool
use Rattle.run_input.specs.declared.arrival.Arrival.{Arrival}
use Rattle.run_input.specs.Arrivals.{requests_of}
use Rattle.tx_locked.specs.declared.finished.Finished.{Finished}
use Rattle.tx_locked.specs.Finished.{AreKept, WereKept, finished_in}
use Rattle.tx_locked.specs.Receipts.{all_of, run_entries}
use Rattle.run_responses.specs.declared.sink.ResponseOrder.{ResponseOrder}
use Rattle.run_responses.specs.declared.sink.ResponseOrder.TheVariants.{ByEnd, ById}
use Rattle.tx_pool.specs.Sinks.{SinkAfter, TakesAll}
use Rattle.run_responses.specs.Giving.{AreAmong, AreFound, Giving, Gives, IfByEnd, TakesOne}
use Rattle.run_responses.proofs.Among.{map_twice}
use Rattle.run_responses.proofs.Gave.{found_among, gave, gave_in_all, kept_found, were_among}
use Rattle.run_switch.specs.declared.error.ServeError.{ServeError}
use Rattle.run_switch.specs.Led.{Led, TookSome}
use Rattle.run_switch.specs.Points.{IsAtRest, Point, ended_at, unanswered, world_at}
use Rattle.run_switch.specs.Rounds.{AreOrdered, Together}
use Rattle.run_switch.specs.Stopped.{GivesEnded}

-- the transactions that a sink took, with their contexts
abbrev pub pairs_of : List Finished → List (ℕ × Pairs)
pairs_of fs = map (λ f. (f.id, f.context)) fs

-- what a sink gave of all that it took, once it is flushed
pub gave_all : {Z : Type 0} (view : Z → Giving) (takes : Z → ℕ → Pairs → Z → Type 0)
    → ((z : Z) (id : ℕ) (x : Pairs) (y : Z) → takes z id x y → TakesOne (view z) id x (view y)) → (z y w : Z) (fs : List Finished) → TakesAll takes z fs y
    → (view z).failed ≡ false → ((view y).failed ≡ false → Gives (view y) [] (view w)) → ((view y).failed ≡ true → view w ≡ view y)
    → Gives (view z) (pairs_of fs) (view w)
gave_all view takes each z y w fs took ok flushes keeps =
    gave_in_all (view z) (pairs_of fs) (view y) (view w) (gave view takes each z y fs took ok) flushes keeps

among_taken : (held taken list : List (ℕ × Pairs)) → held ≡ [] → AreAmong list (held ++ taken) → AreAmong list taken
among_taken held taken list none h = subst (λ (l : List (ℕ × Pairs)). AreAmong list (l ++ taken)) none h

-- of a leg that did not end well
pub ended_some : (p : Point) (z w : Giving) (fs : List Finished) → z.held ≡ [] → WereKept p.plant.core fs → Gives z (pairs_of fs) w → GivesEnded p z.out w.out
ended_some p z w fs none were g = (
  g.text,
  inr (record {
    list = g.list;
    had_ended = inl (were_among p.plant.core fs g.list were (among_taken z.held (pairs_of fs) g.list none g.among));
    framed = g.framed;
  }),
  g.some,
)

-- of one that did, but whose responses were not all given
pub ended_led : (xs : List Pairs) (p e : Point) (z w : Giving) (fs : List Finished) → z.held ≡ [] → Together xs p e → AreKept e.plant.core fs
    → Gives z (pairs_of fs) w → GivesEnded p z.out w.out
ended_led xs p e z w fs none together kept g = (
  g.text,
  inr (record {
    list = g.list;
    had_ended = inr (
      xs,
      e,
      together,
      found_among (ended_at e) g.list (pairs_of fs) (among_taken z.held (pairs_of fs) g.list none g.among) (kept_found e.plant.core fs kept),
    );
    framed = g.framed;
  }),
  g.some,
)

-- what the sink took of a leg that was given up
pub took_some : {S Z : Type 0} {I : Type 0} {D : I → Type 0} (store : Ghosts S) (takes : Z → ℕ → Pairs → Z → Type 0) (start : Core) (j : JournalState)
    (z y : Z) (e : PoolError S I D) → SinkAfter store takes start j z e y → TookSome takes start z y
took_some store takes start j z y (pool.Early p e) same = record { some = []; took = same; were = tt }
took_some store takes start j z y (pool.Late l) h = record { some = h.some; took = h.took; were = h.were }

-- the entries that a leg wrote are those that it added
pub ids_of_run : (p e : Point) (fs : List Finished) → IsAtRest p → map (λ f. f.id) fs ≡ finished_in (drop (world_at p).mark (all_of (world_at e)))
    → map (λ f. f.id) fs ≡ finished_in (run_entries (world_at p) (world_at e))
ids_of_run p e fs rest ids = ids ∙ ap (λ (n : ℕ). finished_in (drop n (all_of (world_at e)))) rest.written

-- the responses are those of the leg, in their order
pub led_whole : (gs hs xs : List Pairs) (p e : Point) (z w : Giving) (fs : List Finished) → z.held ≡ [] → z.given ≡ [] → hs ≡ gs ++ xs → Together xs p e
    → map (λ f. f.id) fs ≡ finished_in (run_entries (world_at p) (world_at e)) → AreKept e.plant.core fs → Gives z (pairs_of fs) w → w.failed ≡ false
    → (w.order ≡ ById → (list : List (ℕ × Pairs)) → map (λ e. e.0) list ≡ w.given → AreFound (ended_at e) list → list ≡ unanswered e)
    → Led z.order gs hs p e z.out w.out
led_whole gs hs xs p e z w fs none fresh heard together ids kept g fine checked = record {
  requests = xs;
  heard = heard;
  together = together;
  list = g.list;
  ordered = by_order z.order refl g.by_end;
  text = g.text;
  framed = g.framed;
  gives = g.all fine;
} where
  found : AreFound (ended_at e) g.list
  found = found_among (ended_at e) g.list (pairs_of fs) (among_taken z.held (pairs_of fs) g.list none g.among) (kept_found e.plant.core fs kept)

  given : map (λ e. e.0) g.list ≡ w.given
  given = sym (g.ids fine ∙ ap (λ (l : List ℕ). l ++ map (λ e. e.0) g.list) fresh)

  by_order : (o : ResponseOrder) → z.order ≡ o → IfByEnd o (w.failed ≡ false → (g.list ≡ pairs_of fs) × (w.held ≡ z.held)) → AreOrdered o p e g.list
  by_order ById is h = checked (g.order ∙ is) g.list given found
  by_order ByEnd is h = (
    ap (map (λ (x : ℕ × Pairs). x.0)) (h fine).0 ∙ (map_twice (λ (f : Finished). (f.id, f.context)) (λ (x : ℕ × Pairs). x.0) fs ∙ ids),
    found,
  )

-- of a check that passed
passed : {P : Type 0} (checked : Result (Unit {0}) ServeError) → checked ≡ Ok tt → OnOk checked P → P
passed {P} checked is h = subst (λ (r : Result (Unit {0}) ServeError). OnOk r P) is h

-- what a leg left, by what its check found
pub leg_ends : {A : Type 0} (at : A → Point) (got : A → List Arrival) (r : Result A ServeError) (checked : Result (Unit {0}) ServeError) (gs xs : List Pairs)
    (then : List Arrival) (p e : Point) (z w : Giving) (b : Option (List ℕ)) (fs : List Finished)
    → IfOk r (λ d. at d ≡ e) → IfOk r (λ d. got d ≡ then) → OnOk r (checked ≡ Ok tt) → b ≡ w.out
    → z.held ≡ [] → z.given ≡ [] → requests_of then ≡ gs ++ xs → Together xs p e → IsAtRest p
    → map (λ f. f.id) fs ≡ finished_in (drop (world_at p).mark (all_of (world_at e))) → AreKept e.plant.core fs → Gives z (pairs_of fs) w
    → OnOk checked (w.failed ≡ false)
    → OnOk checked (w.order ≡ ById → (list : List (ℕ × Pairs)) → map (λ e. e.0) list ≡ w.given → AreFound (ended_at e) list → list ≡ unanswered e)
    → MatchResult r (λ d. Led z.order gs (requests_of (got d)) p (at d) z.out b) (λ _. GivesEnded p z.out b)
leg_ends at got (Err x) checked gs xs then p e z w b fs same source whole is none fresh heard together rest ids kept g fine compared =
    subst (λ (o : Option (List ℕ)). GivesEnded p z.out o) (sym is) (ended_led xs p e z w fs none together kept g)
leg_ends at got (Ok d) checked gs xs then p e z w b fs same source whole is none fresh heard together rest ids kept g fine compared =
    let led = led_whole gs (requests_of then) xs p e z w fs none fresh heard together (ids_of_run p e fs rest ids) kept g (passed checked whole fine)
    (passed checked whole compared) in
    subst (λ (o : Option (List ℕ)). Led z.order gs (requests_of (got d)) p (at d) z.out o) (sym is)
    (subst (λ (q : Point). Led z.order gs (requests_of (got d)) p q z.out w.out) (sym same)
    (subst (λ (l : List Arrival). Led z.order gs (requests_of l) p e z.out w.out) (sym source) led))
