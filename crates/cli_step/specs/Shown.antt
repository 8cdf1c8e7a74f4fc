-- The lines that show something.
use Rattle.std.specs.Prelude.{◌≡◌, ℕ, List, [], ◌∷◌, ◌++◌, codes, Option, Some, None, if◌then◌else◌}
use Rattle.std.specs.Fmt.{decimal}
use Rattle.std.specs.Str.{bytes_eq}
use Rattle.sw_context.specs.Pairs.{Pairs}
use Rattle.sw_context.specs.Spelling.{bytes_of}
use Rattle.cli_script.specs.declared.line.Action.{Action}
use Rattle.cli_script.specs.declared.line.Action.TheVariants as action
use Rattle.tx_engine.specs.Calls.{next_refusal, rest_of, saved_of}
use Rattle.tx_engine.specs.World.{World}
use Rattle.tx_engine.specs.declared.error.EngineError.{EngineError}
use Rattle.tx_trace.specs.Trace.{Text}
use Rattle.cli_step.specs.Doing.{Point, world_of}
use Rattle.cli_step.specs.Places.{calls_text, put_text, readable_put, rest_text, saved_text}
use Rattle.cli_step.specs.TurnLines.{refusal_name, where_line, whole_line}

-- how an entry of a context is shown
abbrev pub Put : Type 0
Put = List ℕ × List ℕ → Text

-- the line of `saved S`, by what the engine keeps of the session's transaction: the bytes of a context, whose entries
-- are shown
abbrev pub IsSavedText : Put → ℕ → Option EngineError → Option (ℕ × List ℕ) → Text → Type 0
IsSavedText put s (Some e) saved text = text ≡ codes "refused " ++ refusal_name e
IsSavedText put s None None text = text ≡ codes "idle " ++ decimal s
IsSavedText put s None (Some held) text = (x : Pairs) × (bytes_of x ≡ held.1) × (text ≡ saved_text put held.0 x)

abbrev pub IsSavedLine : Put → World → ℕ → Text → Type 0
IsSavedLine put w s text = IsSavedText put s (next_refusal w s) (saved_of w s) text

-- what it prints at a prompt: values are shown as text where they are printable
abbrev pub IsReadableLine : World → ℕ → Text → Type 0
IsReadableLine w s text = (line : Text) × IsSavedLine readable_put w s line × (text ≡ line ++ 10 ∷ [])

-- how many calls were made of the first station of this name, none where there is no such station
abbrev pub calls_made : List Text → List ℕ → Text → ℕ
calls_made (n ∷ names) (c ∷ calls) name = if bytes_eq n name then c else calls_made names calls name
calls_made _ _ name = 0

-- the line of an action that only shows something; any other action has none
abbrev pub IsShown : Action → Point → Option Text → Type 0
IsShown (action.Where s) p line = line ≡ Some (where_line (world_of p) s)
IsShown (action.Rest s) p line = line ≡ Some (rest_text (world_of p).flow (rest_of (world_of p) s))
IsShown (action.Saved s) p line = (text : Text) × (line ≡ Some text) × IsSavedLine put_text (world_of p) s text
IsShown (action.Calls name) p line = line ≡ Some (calls_text name (calls_made p.names p.calls name))
IsShown _ p line = line ≡ None

-- the text of such a line
abbrev pub ShowsAction : Action → Point → Text → Type 0
ShowsAction a p text = (line : Option Text) × IsShown a p line × (text ≡ whole_line line)
