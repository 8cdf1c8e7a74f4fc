-- What a feeder has put.
use Rattle.std.specs.Prelude.{◌≡◌, ℕ, List, ◌++◌, map, Option, option_to_list, Bool, true}
use Rattle.tx_intake.specs.Ends.{IntakeId}
use Rattle.sw_context.specs.Pairs.{Pairs}
use Rattle.sw_context.specs.Spelling.{bytes_of}

-- what a source gave since, and its bytes
pub record Feeds (before after : List Pairs) (passed : List (List ℕ)) : Type 0 where
  pub given : List Pairs
  pub all : after ≡ before ++ given
  pub bytes : passed ≡ map bytes_of given

-- one more, or none
pub record FeedsOne (before after : List Pairs) (offer : Option (List ℕ)) : Type 0 where
  pub given : Option Pairs
  pub all : after ≡ before ++ option_to_list given
  pub bytes : option_to_list offer ≡ map bytes_of (option_to_list given)

-- all that the source has
pub record HasFed (before after : List Pairs) (ended : Bool) (passed : List (List ℕ)) : Type 0 where
  pub feeds : Feeds before after passed
  pub ends : ended ≡ true

-- what a feeder leaves: the putter is one of the run's intake; and where all was put, it is all that the source has
pub record IsFed (own : IntakeId) (before : List Pairs) (may_end_with : List Pairs → Type 0) (after : List Pairs) (ended : Bool) (intake : IntakeId)
    (passed : List (List ℕ)) (all_put : Bool) : Type 0 where
  pub of : intake ≡ own
  pub fed : all_put ≡ true → HasFed before after ended passed
  pub whole : all_put ≡ true → may_end_with after
