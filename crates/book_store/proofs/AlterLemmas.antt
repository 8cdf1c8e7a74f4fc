-- A reading, and then perhaps a change.
-- for: changes::reverse, changes::forget
use Rattle.std.proofs.Common.{◌≡◌, arith, List, sym, ap, ◌∙◌}
use Rattle.sqlite.specs.Effect.{Database}
use Rattle.sqlite.specs.State.{State, HasCleanDisk, Survives, IsUnchanged}
use Rattle.sqlite.proofs.StateLemmas.{survives_weaker, survives_then}
use Rattle.store_base.specs.Tables.{Changed, IsCommitted, LeavesChange, OnlyReads}
use Rattle.store_base.proofs.RestLemmas.{read_committed}
use Rattle.book_store.specs.Changes.{LeavesAltered}
use Rattle.book_store.specs.Lines.{Line, lines_of}
use Rattle.book_store.specs.Schema.{book_schema}
use Rattle.book_store.specs.Steps.{Edits, IsBook}

abbrev lines : State → List Line
lines s = lines_of s.now.trees

module _ (f : List Line → List Line) (a b : State) where
  -- what is read leaves the items as they were
  pub none_altered : IsCommitted book_schema a → IsUnchanged a b → f (lines a) ≡ lines a → Changed book_schema (Edits f) a b
  none_altered ready same is = record {
    all = read_committed book_schema a b same ready;
    made = record {
      lines = ap (λ (d : Database). lines_of d.trees) same.0.now_is ∙ sym is;
      salt = ap (λ (d : Database). d.trees 0) same.0.now_is;
    };
  }

  pub reads_left : OnlyReads book_schema a b → Survives a b (LeavesAltered f a)
  reads_left h = survives_weaker a b _ (LeavesAltered f a) (λ _ db none ready. absurd (none ready.now)) h

  module _ (c : State) (g : List Line → List Line) where
    -- a change that comes after it is one of what was read
    pub then_altered : IsUnchanged a b → f (lines a) ≡ g (lines a) → Changed book_schema (Edits g) b c → Changed book_schema (Edits f) a c
    then_altered same is two =
        let kept : lines b ≡ lines a = ap (λ (d : Database). lines_of d.trees) same.0.now_is in
        record {
          all = two.all;
          made = record {
            lines = two.made.lines ∙ ap g kept ∙ sym is;
            salt = two.made.salt ∙ ap (λ (d : Database). d.trees 0) same.0.now_is;
          };
        }

    pub then_left : (HasCleanDisk b → IsBook a.now → IsUnchanged a b) → (HasCleanDisk b → IsBook a.now → f (lines a) ≡ g (lines a)) → OnlyReads book_schema a b
        → Survives b c (LeavesAltered g b) → Survives a c (LeavesAltered f a)
    then_left same is one two = survives_then a b c _ _ (LeavesAltered f a) (λ _ db none ready. absurd (none ready.now))
        (λ clean db made ready.
        let early : HasCleanDisk b = omega (arith, two.clean) in
        let still = same early ready.now in
        let kept : lines b ≡ lines a = ap (λ (d : Database). lines_of d.trees) still.0.now_is in
        let left = made (read_committed book_schema a b still ready) in (
          left.0,
          record {
            lines = left.1.lines ∙ ap g kept ∙ sym (is early ready.now);
            salt = left.1.salt ∙ ap (λ (d : Database). d.trees 0) still.0.now_is;
          },
        )) one two

-- a change that reads nothing
pub as_altered : (g : List Line → List Line) (b c : State) → Survives b c (LeavesChange book_schema (Edits g) b) → Survives b c (LeavesAltered g b)
as_altered g b c h = survives_weaker b c _ (LeavesAltered g b) (λ _ db left ready. left ready.now) h
