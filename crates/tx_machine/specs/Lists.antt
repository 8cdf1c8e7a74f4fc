-- What whole lists of items lead to, without the table's states.
--
-- Whole lists.
--
-- These do without the table's phases:
--
-- - `saved_in` is the context of the last answer without READONLY, or the starting one.
-- - `told_in` is the number of tolds, `calls_in` the number of answers and choices.
-- - `joined_in` are the participants of the answers without NO_JOIN, in order, once per answer.
--
-- Only the table says whose preparation was due at an answer, so `joined_in` walks along it.
-- `IsProper` has the bounds of every state that a lawful list leads to.
use Rattle.std.specs.Prelude.{◌≡◌, ℕ, ◌+◌, ◌≤◌, List, [], ◌∷◌, ◌++◌, length, Bool, true, ◌&&◌, if◌then◌else◌}
use Rattle.sw_participant.specs.Answers.{stays_out}
use Rattle.flow_model.specs.declared.flow.Flow.{Flow}
use Rattle.tx_machine.specs.declared.values.Item.{Item}
use Rattle.tx_machine.specs.declared.values.Item.TheVariants.{Answer, Choice, Told}
use Rattle.tx_machine.specs.Table.{TxState, Upcoming, Prepare, Select, next, after, is_due, saved_after}

-- each item is of the kind that was due
abbrev pub is_lawful : Flow → TxState → List Item → Bool
is_lawful f s [] = true
is_lawful f s (x ∷ xs) = is_due s x && is_lawful f (next f s x) xs

-- the context of the last answer that is not read-only, otherwise the starting one
abbrev pub saved_in : List ℕ → List Item → List ℕ
saved_in c [] = c
saved_in c (Answer b d ∷ xs) = saved_in (saved_after b d c) xs
saved_in c (Choice t ∷ xs) = saved_in c xs
saved_in c (Told a ∷ xs) = saved_in c xs

abbrev pub told_in : List Item → ℕ
told_in [] = 0
told_in (Answer b d ∷ xs) = told_in xs
told_in (Choice t ∷ xs) = told_in xs
told_in (Told a ∷ xs) = told_in xs + 1

-- answers and choices together
abbrev pub calls_in : List Item → ℕ
calls_in [] = 0
calls_in (Answer b d ∷ xs) = calls_in xs + 1
calls_in (Choice t ∷ xs) = calls_in xs + 1
calls_in (Told a ∷ xs) = calls_in xs

-- the participant whose preparation is due
abbrev pub preparing : List Upcoming → List ℕ
preparing [] = []
preparing (Prepare e ∷ tail) = e.participant ∷ []
preparing (Select e ∷ tail) = []

-- the participants of the answers without NO_JOIN, in order, once per answer
abbrev pub joined_in : Flow → TxState → List Item → List ℕ
joined_in f s [] = []
joined_in f s (Answer b d ∷ xs) = (if stays_out b then [] else preparing s.rest) ++ joined_in f (next f s (Answer b d)) xs
joined_in f s (Choice t ∷ xs) = joined_in f (next f s (Choice t)) xs
joined_in f s (Told a ∷ xs) = joined_in f (next f s (Told a)) xs

-- what a whole list of items leads to
pub record IsWhole (f : Flow) (s : TxState) (xs : List Item) : Type 0 where
  pub saved : (after f s xs).saved ≡ saved_in s.saved xs
  pub told : (after f s xs).told ≡ s.told + told_in xs
  pub joined : (after f s xs).joined ≡ s.joined ++ joined_in f s xs
  pub calls : (after f s xs).calls ≡ s.calls + calls_in xs
  pub tries : (after f s xs).tries ≡ s.tries

-- the bound on one transaction's items
pub record IsBounded (f : Flow) (s : TxState) (xs : List Item) : Type 0 where
  pub calls : calls_in xs ≤ 1000
  pub members : length (after f s xs).joined ≤ 1000
  pub told : told_in xs ≤ 1000
