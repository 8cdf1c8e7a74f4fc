-- What groups are made of.
use Rattle.std.specs.Prelude.{ℕ, List}
use Rattle.sw_participant.specs.declared.kind.Kind.{Kind}
use Rattle.flow_model.specs.declared.flow.Entry.{Entry}

-- an entry of a participant of this name with these marks
abbrev pub entry_of : List ℕ → Kind → Entry
entry_of name kind = record { participant = name; kind = kind }
