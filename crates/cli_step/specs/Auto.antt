-- What `auto` does, and prints.
use Rattle.std.specs.Prelude.{◌≡◌, ◌⊎◌, ⊤, Bool, true, false, List, [], ◌∷◌, ◌++◌, length, None, if◌then◌else◌}
use Rattle.tx_engine.specs.World.{World}
use Rattle.tx_plant.specs.declared.turn.Outcome.{Outcome}
use Rattle.tx_plant.specs.declared.turn.Outcome.TheVariants as outcome
use Rattle.tx_plant.specs.declared.turn.Turn.{Turn}
use Rattle.tx_plant.specs.declared.turn.Turn.TheVariants as turn
use Rattle.tx_trace.specs.Trace.{Text}
use Rattle.cli_step.specs.Doing.{Does, Point, world_of}
use Rattle.cli_step.specs.TurnLines.{turn_line, whole_line}

abbrev pub is_refused : Outcome → Bool
is_refused (outcome.Refused e) = true
is_refused _ = false

abbrev pub is_accepted : Outcome → Bool
is_accepted (outcome.Accepted n) = true
is_accepted _ = false

abbrev pub is_idle : Outcome → Bool
is_idle outcome.Idle = true
is_idle _ = false

-- the lines of a step: one for every outcome except that the session is idle
abbrev pub step_text : World → Outcome → Text
step_text w o = if is_idle o then [] else whole_line (turn_line w 0 o)

-- the lines of every other turn: only one for a refusal
abbrev pub quiet_text : World → Outcome → Text
quiet_text w o = if is_refused o then whole_line (turn_line w 0 o) else []

-- a turn that is not a step was done, with its lines
abbrev pub Quietly : Turn → Point → Text → Point → Type 0
Quietly t p text q = (o : Outcome) × Does t o p q × (text ≡ quiet_text (world_of q) o)

-- one after the other, with the text of both
abbrev pub Then : (Point → Text → Point → Type 0) → (Point → Text → Point → Type 0) → Point → Text → Point → Type 0
Then First Second p text q = (w : Point) × (one : Text) × (other : Text) × First p one w × Second w other q × (text ≡ one ++ other)

-- session 0 steps, with this outcome
abbrev pub Steps : Outcome → Point → Text → Point → Type 0
Steps o p text q = Does (turn.Step 0) o p q × (text ≡ step_text (world_of q) o)

-- all is written, and session 0 steps
abbrev pub Round : Outcome → Point → Text → Point → Type 0
Round o = Then (Quietly (turn.Write None)) (Steps o)

-- rounds one after the other, of steps with these outcomes
abbrev pub Rounds : List Outcome → Point → Text → Point → Type 0
Rounds [] p text q = (text ≡ []) × (q ≡ p)
Rounds (o ∷ os) p text q = Then (Round o) (Rounds os) p text q

abbrev pub AreAccepted : List Outcome → Type 0
AreAccepted [] = ⊤
AreAccepted (o ∷ os) = (is_accepted o ≡ true) × AreAccepted os

-- the outcomes of steps until one is not accepted, or of more accepted steps than a history can have entries
abbrev pub IsToEnd : List Outcome → Type 0
IsToEnd os =
    ((ns : List Outcome) × (o : Outcome) × AreAccepted ns × (is_accepted o ≡ false) × (os ≡ ns ++ o ∷ []))
    ⊎ (AreAccepted os × (length os ≡ 1048577))

-- session 0 steps, all written before each step, until it does not go on
abbrev pub ToEnd : Point → Text → Point → Type 0
ToEnd p text q = (os : List Outcome) × IsToEnd os × Rounds os p text q

-- an empty context is offered, session 0 takes, and steps, all written before each, until it does not go on; then all is
-- written
abbrev pub Autos : Point → Text → Point → Type 0
Autos = Then (Quietly (turn.Offer [])) (Then (Quietly (turn.Take 0)) (Then ToEnd (Quietly (turn.Write None))))
