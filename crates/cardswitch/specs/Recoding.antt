-- What `recode` has done, and why it ends early.
use Rattle.std.specs.Prelude.{⊤, ℕ, false, List, Option}
use Rattle.cli_options.specs.declared.choice.RecodeOptions.{RecodeOptions}
use Rattle.cli_options.specs.declared.choice.RecodeWay.{RecodeWay}
use Rattle.cli_options.specs.declared.choice.RecodeWay.TheVariants.{From, To}
use Rattle.cli_recode.specs.Inputs.{IsInputRefusal, IsRecodedInput}
use Rattle.cli_recode.specs.declared.message.Way.{Way}
use Rattle.cli_recode.specs.declared.message.Way.TheVariants.{FromOther, ToOther}
use Rattle.cardswitch.specs.declared.error.RunError.{RunError}
use Rattle.cardswitch.specs.declared.error.RunError.TheVariants as error

abbrev pub way_of : RecodeWay → Way
way_of From = FromOther
way_of To = ToOther

-- by the profile of some file all messages that were to be read are recoded, and their frames are written
abbrev pub IsRecoded : RecodeOptions → Option (List ℕ) → Option (List ℕ) → Option (List ℕ) → Type 0
IsRecoded o unread written written_now = IsRecodedInput (way_of o.way) unread written written_now false

-- why it ends early: the profile file is refused, and nothing is written; or something of the input is, and what can be recoded is
-- written
abbrev pub IsRecodeFault : RecodeOptions → Option (List ℕ) → Option (List ℕ) → Option (List ℕ) → RunError → Type 0
IsRecodeFault o unread written written_now (error.Recode r) = IsInputRefusal o.profile.now (way_of o.way) unread written written_now r
IsRecodeFault o unread written written_now (error.Read e) = ⊤
IsRecodeFault o unread written written_now (error.Write e) = ⊤
IsRecodeFault o unread written written_now error.OutOfMemory = ⊤
IsRecodeFault o unread written written_now _ = ⊥
