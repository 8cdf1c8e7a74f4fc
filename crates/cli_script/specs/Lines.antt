-- The lines of a script.
use Rattle.std.specs.Prelude.{◌≡◌, ◌≢◌, ℕ, List, []}
use Rattle.std.specs.Borrow.{Bor}
use Rattle.std.specs.List.{after_first, before_first}
use Rattle.cli_lines.specs.Feeds.{is_line_feed}

-- a line, and what follows its line feed; an empty script has no line
abbrev pub IsFirstLine : List ℕ → Bor (List ℕ) × Bor (List ℕ) → Type 0
IsFirstLine script p = (script ≢ []) × (p.0.now ≡ before_first is_line_feed script)
    × (p.1.now ≡ after_first is_line_feed script)
