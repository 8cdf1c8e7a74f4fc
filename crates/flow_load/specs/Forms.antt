-- The lines of an image, and the first line that is not of its form.
use Rattle.std.specs.Prelude.{ℕ, zero, suc, ◌+◌, Bool, ◌&&◌, ◌==◌, nat_le, List, [], ◌∷◌, length, Result, Ok, Err, codes, if◌then◌else◌}
use Rattle.std.specs.Str.{bytes_eq}
use Rattle.flow_model.specs.declared.numbering.Part.{Part}
use Rattle.flow_asm.specs.declared.code.GroupStart.{GroupStart}
use Rattle.flow_asm.specs.declared.code.Step.{Step}
use Rattle.flow_asm.specs.declared.code.Step.TheVariants.{Call, Pick, Return}
use Rattle.flow_load.specs.declared.error.LoadError.{LoadError}
use Rattle.flow_load.specs.declared.error.LoadError.TheVariants.{BadHeader, BadLine, BadNumber}
use Rattle.flow_load.specs.declared.lines.ImageHeader.{ImageHeader}
use Rattle.flow_load.specs.declared.lines.PartWords.{PartWords}
use Rattle.flow_load.specs.declared.lines.GroupWords.{GroupWords}
use Rattle.flow_load.specs.declared.lines.Lines.{Lines}
use Rattle.flow_load.specs.Image.{Text}
use Rattle.flow_load.specs.Reads.{◌>>=◌, found}
use Rattle.flow_load.specs.Words.{cut, kind_of, name_at, number_at, number_of, word_at, word_is}

-- what a line says that was read without memory
abbrev pub part_said : PartWords → ℕ × Part
part_said p = (p.number, record { name = p.name.now; kind = p.kind })

abbrev pub group_said : GroupWords → ℕ × GroupStart
group_said g = (g.number, record { name = g.name.now; first = g.first })

-- `part N NAME KIND`. Each form has the fault of the line that it stands on.
unfoldable pub part_form : LoadError → Text → Result (ℕ × Part) LoadError
part_form e text = do
  rest ← word_is e (codes "part") text
  n ← number_at e rest
  name ← name_at e n.1
  k ← found e (kind_of name.1)
  Ok (n.0, record { name = name.0; kind = k })

-- `group N NAME START`
unfoldable pub group_form : LoadError → Text → Result (ℕ × GroupStart) LoadError
group_form e text = do
  rest ← word_is e (codes "group") text
  n ← number_at e rest
  name ← name_at e n.1
  first ← number_of e name.1
  Ok (n.0, record { name = name.0; first = first })

-- a call or a pick of participant p, by its word
abbrev pub step_named : LoadError → Text → ℕ → Result Step LoadError
step_named e w p =
    if bytes_eq w (codes "call") then Ok (Call p)
    else if bytes_eq w (codes "pick") then Ok (Pick p)
    else Err e

-- `call P`, `pick P` or `return`
unfoldable pub step_of : LoadError → Text → Result Step LoadError
step_of e text =
    if bytes_eq text (codes "return") then Ok Return
    else (word_at e text >>= λ w. number_of e w.1 >>= λ p. step_named e w.0 p)

-- `N call P`, `N pick P` or `N return`
unfoldable pub step_form : LoadError → Text → Result (ℕ × Step) LoadError
step_form e text = do
  n ← number_at e text
  s ← step_of e n.1
  Ok (n.0, s)

-- version 1 or 2, and the limits of an image
abbrev pub is_header : ImageHeader → Bool
is_header h = (nat_le 1 h.version && nat_le h.version 2) && ((nat_le h.retries 100 && nat_le h.parts 16384) && (nat_le h.groups 256 && nat_le h.steps 33024))

-- `image V R P G S`
unfoldable pub header_form : Text → Result ImageHeader LoadError
header_form text = do
  rest ← word_is BadHeader (codes "image") text
  v ← number_at BadHeader rest
  r ← number_at BadHeader v.1
  p ← number_at BadHeader r.1
  g ← number_at BadHeader p.1
  s ← number_of BadHeader g.1
  Ok (record { version = v.0; retries = r.0; parts = p.0; groups = g.0; steps = s })

-- the first line, and the text after it
unfoldable pub header_at : Text → Result (ImageHeader × Text) LoadError
header_at text = do
  line ← found BadHeader (cut 10 text)
  h ← header_form line.0
  if is_header h then Ok (h, line.1) else Err BadHeader

-- a line's own number is its index among the lines of its kind
abbrev pub in_place : ℕ → ℕ → ℕ → Result (Unit {0}) LoadError
in_place own n at = if own == n then Ok tt else Err (BadNumber at)

module _ {A : Type 0} (form : LoadError → Text → Result (ℕ × A) LoadError) where
  -- the item of number n, on the line of number `at`, and the text after it
  abbrev pub line_at : ℕ → ℕ → Text → Result (A × Text) LoadError
  line_at n at text =
      found (BadLine at) (cut 10 text) >>= λ line. form (BadLine at) line.0 >>= λ x. in_place x.0 n at >>= λ u. Ok (x.1, line.1)

  -- this many items, from that number and line on
  unfoldable pub items_at : ℕ → ℕ → ℕ → Text → Result (List A × Text) LoadError
  items_at zero n at text = Ok ([], text)
  items_at (suc left) n at text = line_at n at text >>= λ x. items_at left (n + 1) (at + 1) x.1 >>= λ xs. Ok (x.0 ∷ xs.0, xs.1)

-- nothing stands after the lines that the header counts
abbrev pub ended : ImageHeader → Text → Result (Unit {0}) LoadError
ended h text = if length text == 0 then Ok tt else Err (BadLine (2 + h.parts + h.groups + h.steps))

-- what the lines say: the header, then as many participants, groups and steps as it counts, and nothing more
unfoldable pub lines_in : Text → Result Lines LoadError
lines_in text = do
  h ← header_at text
  ps ← items_at part_form h.0.parts 0 2 h.1
  gs ← items_at group_form h.0.groups 0 (2 + h.0.parts) ps.1
  ss ← items_at step_form h.0.steps 0 (2 + h.0.parts + h.0.groups) gs.1
  whole ← ended h.0 ss.1
  Ok (record { version = h.0.version; retries = h.0.retries; parts = ps.0; starts = gs.0; steps = ss.0 })
