-- What turning the bytes of another system into those of the ASCII profile gives.
use Rattle.std.specs.Prelude.{◌≡◌, ◌≤◌, ℕ, List, length, Result, Ok, Err}
use Rattle.iso_msg.specs.Messages.{PlainMessage}
use Rattle.iso_codec.specs.declared.error.DecodeError.{DecodeError}
use Rattle.iso_codec.specs.Reads.{Answers, read}
use Rattle.iso_codec.specs.Spelling.{spelling}
use Rattle.iso_dialect.specs.declared.profile.Draft.{Draft}
use Rattle.iso_dialect.specs.Messages.{SpellsAs}

-- the one spelling of the message that the bytes spell
abbrev pub IsAsciiOf : Draft → List ℕ → List ℕ → Type 0
IsAsciiOf profile bytes text = (m : PlainMessage) × SpellsAs profile bytes m × (text ≡ spelling m)

-- the spelling of what was read, seen by view, or its first fault, or out of memory where there is none
abbrev pub GivesText : {X : Type 0} → (X → List ℕ) → Result X DecodeError → Result PlainMessage DecodeError → Type 0
GivesText view (Ok x) reading =
    (m : PlainMessage) × (reading ≡ Ok m) × (view x ≡ spelling m) × (read (view x) ≡ Ok m) × (length (view x) ≤ 9999)
GivesText view (Err e) reading = Answers (Err e) reading
