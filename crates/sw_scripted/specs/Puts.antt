-- Entries that are put into a context.
use Rattle.std.specs.Prelude.{Bool, List, [], ◌∷◌, is_none, if◌then◌else◌}
use Rattle.std.specs.List.{list_any}
use Rattle.sw_context.specs.Pairs.{Pairs, find, refusal, with_value}
use Rattle.sw_scripted.specs.declared.puts.Put.{Put}

-- the context with an entry; one that does not take it, for instance because it is full, stays as it is
abbrev pub put_one : Pairs → Put → Pairs
put_one x p = if is_none (refusal x p.name p.value) then with_value x p.name p.value else x

-- with entries, one after the other
abbrev pub put_all : Pairs → List Put → Pairs
put_all x [] = x
put_all x (p ∷ ps) = put_all (put_one x p) ps

-- the context lacks the name of one of the entries
abbrev pub lacks_one : Pairs → List Put → Bool
lacks_one x ps = list_any (λ (p : Put). is_none (find p.name x)) ps

-- a context without entries does not take all of these
abbrev pub is_crowded : List Put → Bool
is_crowded ps = lacks_one (put_all [] ps) ps
