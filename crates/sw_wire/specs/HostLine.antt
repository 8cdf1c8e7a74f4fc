-- The line of a host's counts: each member as NAME=NUMBER, in a fixed order.
use Rattle.std.specs.Prelude.{ℕ, List, [], ◌∷◌, ◌++◌, codes}
use Rattle.std.specs.Fmt.{decimal}
use Rattle.sw_wire.specs.declared.counts.Counts.{Counts}

-- the members of what was asked, and those of what was lost
abbrev pub asked_text : List ℕ → Counts → List ℕ
asked_text name c =
    codes "cardswitch: host " ++ name ++ codes ": not-asked=" ++ decimal c.unasked ++ codes " echo-tests=" ++ decimal c.tests
    ++ codes " unanswered=" ++ decimal c.unanswered

abbrev pub lost_text : Counts → List ℕ
lost_text c =
    codes " late=" ++ decimal c.late ++ codes " unreadable=" ++ decimal c.unreadable ++ codes " dropped=" ++ decimal c.dropped ++ 10 ∷ []

abbrev pub host_line : List ℕ → Counts → List ℕ
host_line name c = asked_text name c ++ lost_text c
