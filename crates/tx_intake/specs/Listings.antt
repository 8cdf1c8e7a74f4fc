-- What contracts see of a list that is given one by one.
use Rattle.std.specs.Prelude.{◌≡◌, ℕ, ◌+◌, Bool, ◌||◌, List, length, take, slice_get, Option, is_none, option_to_list}
use Rattle.sw_context.specs.Pairs.{Pairs}

-- the list, how many of it were given, and whether it was answered that there is none left
pub record Listing : Type 0 where
  pub list : List Pairs
  pub count : ℕ
  pub ended : Bool

abbrev pub listing : List Pairs → ℕ → Bool → Listing
listing list count ended = record { list = list; count = count; ended = ended }

-- those that were given
abbrev pub given_of : Listing → List Pairs
given_of l = take l.count l.list

-- the answer is the next of the list, or that there is none after its last
pub record GivesListed (old : Listing) (answer : Option Pairs) (new : Listing) : Type 0 where
  pub next : answer ≡ slice_get old.list old.count
  pub same : new.list ≡ old.list
  pub counted : new.count ≡ old.count + length (option_to_list answer)
  pub told : new.ended ≡ (is_none answer || old.ended)
