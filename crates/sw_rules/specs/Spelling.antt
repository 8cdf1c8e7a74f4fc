-- The rules, and how a configuration spells them.
use Rattle.std.specs.Prelude.{ℕ, ◌+◌, Bool, List, [], ◌∷◌, Option, Some, None, codes, if◌then◌else◌}
use Rattle.std.specs.List.{list_any}
use Rattle.std.specs.Str.{bytes_eq}
use Rattle.sw_rules.specs.declared.rule.Rule.{Rule}
use Rattle.sw_rules.specs.declared.rule.Rule.TheVariants as rule

-- all rules, in the order in which a place is tested
abbrev pub rules : List Rule
rules =
    rule.UnknownParticipant ∷ rule.NoSelector ∷ rule.NotAbortAware ∷ rule.PlacedTwice ∷ rule.AfterRespond ∷ rule.NoCheck ∷ rule.NoReverse
    ∷ rule.NoStandIn ∷ rule.NoQuery ∷ rule.NoForward ∷ rule.NoRespond ∷ rule.UnknownGroup ∷ rule.PicksMain ∷ []

abbrev pub spelling : Rule → List ℕ
spelling rule.UnknownParticipant = codes "unknown-participant"
spelling rule.NoSelector = codes "no-selector"
spelling rule.NotAbortAware = codes "not-abort-aware"
spelling rule.PlacedTwice = codes "placed-twice"
spelling rule.AfterRespond = codes "after-respond"
spelling rule.NoCheck = codes "no-check"
spelling rule.NoReverse = codes "no-reverse"
spelling rule.NoStandIn = codes "no-stand-in"
spelling rule.NoQuery = codes "no-query"
spelling rule.NoForward = codes "no-forward"
spelling rule.NoRespond = codes "no-respond"
spelling rule.UnknownGroup = codes "unknown-group"
spelling rule.PicksMain = codes "picks-main"

-- a name that some rule has
abbrev pub is_rule : List ℕ → Bool
is_rule name = list_any (λ r. bytes_eq (spelling r) name) rules

-- the rule is one of these names
abbrev pub is_among : List (List ℕ) → Rule → Bool
is_among names r = list_any (λ name. bytes_eq name (spelling r)) names

-- the index of the first name that no rule has, where the first of the names has this index
abbrev pub unknown_from : ℕ → List (List ℕ) → Option ℕ
unknown_from n [] = None
unknown_from n (name ∷ names) = if is_rule name then unknown_from (n + 1) names else Some n
