-- What is looked for in a box.
use Rattle.std.specs.Prelude.{ℕ, Bool, List, not, nat_le}
use Rattle.std.specs.Str.{bytes_eq}
use Rattle.sw_wire.specs.declared.frame.Frame.{Frame}
use Rattle.sw_wire.specs.declared.received.Received.{Received}

-- a message with this key
abbrev pub has_key : List ℕ → Received → Bool
has_key k received = bytes_eq received.key.bytes k

-- a frame whose deadline has not come
abbrev pub is_timely : ℕ → Frame → Bool
is_timely now frame = not (nat_le frame.deadline.micros now)
