-- What a sink of responses gives of the transactions that it takes.
use Rattle.std.specs.Prelude.{◌≡◌, ◌⊎◌, ℕ, ⊤, Bool, true, false, List, [], ◌∷◌, ◌++◌, map, Option, Some, is_some}
use Rattle.std.specs.Io.KnownBytes.{Appends}
use Rattle.cli_io.specs.Written.{AppendsBeginning}
use Rattle.sw_context.specs.Pairs.{Pairs}
use Rattle.sw_frame.specs.Stream.{AreFramed}
use Rattle.tx_plant.specs.Core.{find}
use Rattle.run_responses.specs.Responses.{responses}
use Rattle.run_responses.specs.declared.sink.ResponseOrder.{ResponseOrder}
use Rattle.run_responses.specs.declared.sink.ResponseOrder.TheVariants.{ByEnd, ById}
use Rattle.run_responses.specs.declared.sink.Progress.{Progress}
use Rattle.run_responses.specs.declared.sink.Responses.{Responses}

-- What contracts see of it: in which order it gives responses, what its output holds, where that is known, the transactions whose
-- responses it holds back, the ids of those whose responses were given, and whether it met a fault.
pub record Giving : Type 0 where
  pub order : ResponseOrder
  pub out : Option (List ℕ)
  pub held : List (ℕ × Pairs)
  pub given : List ℕ
  pub failed : Bool

-- the same of a sink; `contents` says what an output holds, where that is known
abbrev pub giving_of : {O T : Type 0} → (O → Option (List ℕ)) → Responses O T Progress → Giving
giving_of contents r = record {
  order = r.kept.order;
  out = contents r.out.now;
  held = r.kept.held.entries;
  given = r.kept.given.items;
  failed = is_some r.kept.fault;
}

-- it is one of these
abbrev pub IsAmong : ℕ × Pairs → List (ℕ × Pairs) → Type 0
IsAmong e all = (before after : List (ℕ × Pairs)) × (all ≡ before ++ e ∷ after)

-- each is one of those
abbrev pub AreAmong : List (ℕ × Pairs) → List (ℕ × Pairs) → Type 0
AreAmong [] all = ⊤
AreAmong (e ∷ es) all = IsAmong e all × AreAmong es all

-- each is found under its id
abbrev pub AreFound : List (ℕ × Pairs) → List (ℕ × Pairs) → Type 0
AreFound ended [] = ⊤
AreFound ended (e ∷ es) = (find e.0 ended ≡ Some e.1) × AreFound ended es

-- in the order of ends, nothing is held back
abbrev pub IfByEnd : ResponseOrder → Type 0 → Type 0
IfByEnd ByEnd fact = fact
IfByEnd ById fact = ⊤

-- These transactions were taken, in the order of their ends. The responses of some are given, of these and of those that were held back,
-- all of them or, once a fault was met, a beginning of their text; others are held back.
pub record Gives (z : Giving) (taken : List (ℕ × Pairs)) (y : Giving) : Type 0 where
  pub list : List (ℕ × Pairs)
  pub text : List ℕ
  pub framed : AreFramed text (responses list)
  pub some : AppendsBeginning z.out y.out text
  pub all : y.failed ≡ false → Appends z.out y.out text
  pub ids : y.failed ≡ false → y.given ≡ z.given ++ map (λ e. e.0) list
  pub among : AreAmong list (z.held ++ taken)
  pub held : AreAmong y.held (z.held ++ taken)
  pub order : y.order ≡ z.order
  pub by_end : IfByEnd z.order (y.failed ≡ false → (list ≡ taken) × (y.held ≡ z.held))

-- a sink that met a fault takes no more notice of what it takes
abbrev pub TakesOne : Giving → ℕ → Pairs → Giving → Type 0
TakesOne z id x y = ((z.failed ≡ true) × (y ≡ z)) ⊎ ((z.failed ≡ false) × Gives z ((id, x) ∷ []) y)
