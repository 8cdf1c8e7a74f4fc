-- The line of the numbers of a run: each member as NAME=NUMBER, in a fixed order.
use Rattle.std.specs.Prelude.{ℕ, ◌*◌, ◌/◌, ◌%◌, List, [], ◌∷◌, ◌++◌, codes, max}
use Rattle.std.specs.Fmt.{decimal}
use Rattle.sw_stats.specs.Tallies.{Declined, Tally}

-- the counts; how many messages were passed over; how many advices were stored
pub record Numbers : Type 0 where
  pub tally : Tally
  pub passed : ℕ
  pub stored : ℕ

-- ` declined-CODE=COUNT` of each code
abbrev pub declined_member : List ℕ × ℕ → List ℕ
declined_member e = codes " declined-" ++ e.0 ++ codes "=" ++ decimal e.1

abbrev pub declined_text : Declined → List ℕ
declined_text [] = []
declined_text (e ∷ es) = declined_member e ++ declined_text es

-- requests a second; less than a millisecond counts as one
abbrev pub per_second : ℕ → ℕ → ℕ
per_second requests milliseconds = requests * 1000 / max 1 milliseconds

-- the parts of the line, in their order
abbrev pub answered_text : ℕ → ℕ → List ℕ
answered_text requests approved = codes "cardswitch: stats: requests=" ++ decimal requests ++ codes " approved=" ++ decimal approved

abbrev pub others_text : ℕ → ℕ → ℕ → List ℕ
others_text passed stand_ins reversals = codes " passed-over=" ++ decimal passed ++ codes " stand-ins=" ++ decimal stand_ins ++ codes " reversals="
    ++ decimal reversals

abbrev pub advices_text : ℕ → ℕ → List ℕ
advices_text stored delivered = codes " advices-stored=" ++ decimal stored ++ codes " advices-delivered=" ++ decimal delivered

-- seconds with three digits after the point, and requests a second
abbrev pub time_text : ℕ → ℕ → List ℕ
time_text milliseconds rate =
    codes " seconds=" ++ decimal (milliseconds / 1000) ++ codes "." ++ decimal (milliseconds / 100 % 10) ++ decimal (milliseconds / 10 % 10)
    ++ decimal (milliseconds % 10)
    ++ codes " per-second=" ++ decimal rate ++ 10 ∷ []

abbrev pub stats_line : Numbers → ℕ → List ℕ
stats_line n milliseconds =
    answered_text n.tally.requests n.tally.approved ++ declined_text n.tally.declined
    ++ others_text n.passed n.tally.stand_ins n.tally.reversals ++ advices_text n.stored n.tally.delivered
    ++ time_text milliseconds (per_second n.tally.requests milliseconds)
