-- Messages that are cut off.
use Rattle.std.specs.Prelude.{◌≡◌, ◌<◌, ℕ, List, ◌++◌, length, None, Err}
use Rattle.iso_msg.specs.Messages.{PlainMessage}
use Rattle.iso_codec.specs.declared.error.DecodeError.TheVariants.{Short}
use Rattle.iso_dialect.specs.declared.profile.Draft.{Draft}
use Rattle.iso_dialect.specs.Messages.{SpellsAs}
use Rattle.iso_dialect.specs.Profiles.{refusal_in}
use Rattle.iso_dialect.specs.Readings.{read_as}

-- A message without its end is Short, wherever it is cut.
abbrev pub CutIsShort : Type 0
CutIsShort = (profile : Draft) (front rest : List ℕ) (m : PlainMessage) → refusal_in profile ≡ None → 0 < length rest
    → SpellsAs profile (front ++ rest) m → read_as profile front ≡ Err Short
