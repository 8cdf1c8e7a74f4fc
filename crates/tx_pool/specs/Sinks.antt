-- What a sink took in a run.
use Rattle.std.specs.Prelude.{◌≡◌, ◌⊎◌, ◌<◌, ℕ, List, [], ◌∷◌, ◌++◌, drop, length, map}
use Rattle.sqlite_trees.specs.declared.store.Store.{Ghosts}
use Rattle.sw_context.specs.Pairs.{Pairs}
use Rattle.tx_history.specs.declared.event.Entry.{Entry}
use Rattle.journal_store.specs.Kept.{IsCleanJournal, JournalState, kept}
use Rattle.tx_engine.specs.World.{World}
use Rattle.tx_plant.specs.Core.{Core}
use Rattle.tx_locked.specs.declared.finished.Finished.{Finished}
use Rattle.tx_locked.specs.Finished.{AreKept, WereKept, finished_in}
use Rattle.tx_locked.specs.Receipts.{all_of}
use Rattle.tx_pool.specs.Wrote.{LeavesWith, MayHaveWritten, Wrote}
use Rattle.tx_pool.specs.declared.refusal.PoolError.{PoolError}
use Rattle.tx_pool.specs.declared.refusal.PoolError.TheVariants as refused

-- one after the other
abbrev pub TakesAll : {Z : Type 0} → (Z → ℕ → Pairs → Z → Type 0) → Z → List Finished → Z → Type 0
TakesAll takes z [] y = y ≡ z
TakesAll {Z} takes z (f ∷ fs) y = (w : Z) × takes z f.id f.context w × TakesAll takes w fs y

-- What the keeper did: these entries were written, and the sink took the transactions that they ended by done, each once, in the order of
-- their ends.
pub record KeptAll {Z : Type 0} (takes : Z → ℕ → Pairs → Z → Type 0) (start : Core) (j k : JournalState) (es : List Entry) (z y : Z) (fs : List Finished) : Type 0 where
  pub wrote : Wrote j es k
  pub took : TakesAll takes z fs y
  pub ids : map (λ f. f.id) fs ≡ finished_in es
  pub were : WereKept start fs

-- The keeper went on with a batch: these entries were written too, and the sink took what they ended.
pub record KeptBatch {Z : Type 0} (takes : Z → ℕ → Pairs → Z → Type 0) (start : Core) (j k : JournalState) (b es es' : List Entry) (z y : Z) (fs fs' : List Finished) : Type 0 where
  pub some : 0 < length b
  pub more : List Finished
  pub kept : KeptAll takes start j k b z y more
  pub written : es' ≡ es ++ b
  pub taken : fs' ≡ fs ++ more

-- the sink took a beginning of what these entries ended
pub record TookPart {Z : Type 0} (takes : Z → ℕ → Pairs → Z → Type 0) (start : Core) (b : List Entry) (z y : Z) : Type 0 where
  pub some : List Finished
  pub took : TakesAll takes z some y
  pub rest : List ℕ
  pub ids : finished_in b ≡ map (λ f. f.id) some ++ rest
  pub were : WereKept start some

-- the keeper did not go on: the write was refused, and the sink is as it was; or these entries were written
abbrev pub KeptPart : {Z : Type 0} → (Z → ℕ → Pairs → Z → Type 0) → Core → JournalState → JournalState → List Entry → Z → Z → Type 0
KeptPart takes start j k b z y = (MayHaveWritten j b k × (y ≡ z)) ⊎ (Wrote j b k × (0 < length b) × TookPart takes start b z y)

-- Of a run that ended well: the sink took the transactions that the entries written in it ended by done, each once, in the order of
-- their ends, and with the contexts that they ended with.
pub record SinkTook {Z : Type 0} (takes : Z → ℕ → Pairs → Z → Type 0) (start : World) (now : Core) (z y : Z) : Type 0 where
  pub all : List Finished
  pub took : TakesAll takes z all y
  pub ids : map (λ f. f.id) all ≡ finished_in (drop start.mark (all_of now.world))
  pub contexts : AreKept now all

-- Of any run: these entries were written, and the sink took a beginning of the transactions that they ended by done, in the order of
-- their ends, each with a context that it had ended with at a moment of the run. A stop leaves these entries in the journal that is handed
-- back, and perhaps more.
pub record SinkTookSome {Z : Type 0} (takes : Z → ℕ → Pairs → Z → Type 0) (start : Core) (j k : JournalState) (z y : Z) : Type 0 where
  pub entries : List Entry
  pub some : List Finished
  pub took : TakesAll takes z some y
  pub rest : List ℕ
  pub ids : finished_in entries ≡ map (λ f. f.id) some ++ rest
  pub were : WereKept start some
  pub left : (entries ≡ []) ⊎ (IsCleanJournal k → LeavesWith j entries k)

-- a run that did not begin hands its sink back as it was
abbrev pub SinkAfter : {S Z : Type 0} {I : Type 0} {D : I → Type 0} → Ghosts S → (Z → ℕ → Pairs → Z → Type 0) → Core → JournalState → Z → PoolError S I D → Z
    → Type 0
SinkAfter g takes start j z (refused.Early p e) y = y ≡ z
SinkAfter g takes start j z (refused.Late l) y = SinkTookSome takes start j (kept g l.journal) z y
