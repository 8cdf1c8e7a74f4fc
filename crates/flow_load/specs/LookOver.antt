-- The same reading of lines without what they say, for looking bytes over.
use Rattle.std.specs.Prelude.{ℕ, ◌+◌, Bool, false, Option, Result, Ok}
use Rattle.flow_load.specs.declared.error.LoadError.{LoadError}
use Rattle.flow_load.specs.Image.{Text}
use Rattle.flow_load.specs.Reads.{◌>>=◌}
use Rattle.flow_load.specs.Forms.{ended, group_form, header_at, items_at, line_at, part_form, step_form}
use Rattle.flow_load.specs.Load.{first_marked, misversioned}
use Rattle.sw_base.specs.Refusals.{refused}

-- the line's own number, and whether what it says has this mark
abbrev pub form_over : {A : Type 0} → (LoadError → Text → Result (ℕ × A) LoadError) → (A → Bool) → LoadError → Text → Result (ℕ × Bool) LoadError
form_over form mark e text = form e text >>= λ x. Ok (x.0, mark x.1)

-- whether the item has this mark, and the text after it
abbrev pub line_over : {A : Type 0} → (LoadError → Text → Result (ℕ × A) LoadError) → (A → Bool) → ℕ → ℕ → Text → Result (Bool × Text) LoadError
line_over form mark n at text = line_at form n at text >>= λ x. Ok (mark x.0, x.1)

-- the line of the first item with this mark, and the text after the items
abbrev pub items_over : {A : Type 0} → (LoadError → Text → Result (ℕ × A) LoadError) → (A → Bool) → ℕ → ℕ → Text → Result (Option ℕ × Text) LoadError
items_over form mark count at text = items_at form count 0 at text >>= λ xs. Ok (first_marked mark at xs.0, xs.1)

-- all lines, and then the version
unfoldable pub lines_over : Text → Result (Unit {0}) LoadError
lines_over text = do
  h ← header_at text
  ps ← items_over part_form (λ p. p.kind.recovers) h.0.parts 2 h.1
  gs ← items_over group_form (λ _. false) h.0.groups (2 + h.0.parts) ps.1
  ss ← items_over step_form (λ _. false) h.0.steps (2 + h.0.parts + h.0.groups) gs.1
  whole ← ended h.0 ss.1
  refused (misversioned h.0.version ps.0)
