-- What a participant that is timed adds to a context.
use Rattle.std.specs.Prelude.{◌≡◌, ◌⊎◌, ℕ, List, codes}
use Rattle.sw_context.specs.Pairs.{Pairs}
use Rattle.sw_messages.specs.Requests.{noted}

-- nothing, or a number under `ms`
abbrev pub MayNote : Pairs → Pairs → Type 0
MayNote z y = (y ≡ z) ⊎ ((number : List ℕ) × (y ≡ noted z (codes "ms") number))
