-- Runs that were served to their end.
-- for: requests::run_over
use Rattle.std.proofs.Common.{◌≡◌, ℕ, List, Option, Some, None, Ok, IfSome}
use Rattle.flow_model.specs.declared.flow.Flow.{Flow}
use Rattle.sw_issuers.specs.Sending.{PlainSender}
use Rattle.tx_plant.specs.Plant.{Seen}
use Rattle.run_responses.specs.declared.sink.ResponseOrder.{ResponseOrder}
use Rattle.run_switch.specs.Errors.{result_of}
use Rattle.run_switch.specs.Ran.{Ran, all_lines}
use Rattle.run_reports.specs.declared.Words.{Words}
use Rattle.run_switch.specs.Shown.{TellsRun, unfinished_in}
use Rattle.run_switch.specs.Traces.{Log}
use Rattle.run_input.specs.Requests.{ReadTo, passed_over, readings}
use Rattle.run_switch.specs.Rounds.{Round, RoundsFor}
use Rattle.run_input.specs.declared.frames.StreamEnd.{StreamEnd}
use Rattle.run_input.specs.declared.frames.StreamEnd.TheVariants.{Whole, BadLength, Truncated, Unread}
use Rattle.cardswitch.specs.Runs.{Served, link_step}

-- what a run has read, done and written, as `run_switch` has it
abbrev RanTo : ℕ → Option ResponseOrder → Flow → ℕ → Seen → PlainSender → ℕ → Option (List ℕ) → Option (List ℕ) → Option (List ℕ) → Option Words → Log → Log →
    StreamEnd → Type 0
RanTo header threads f n j sender most unread before after words k l end =
    (frames : List (List ℕ)) × ReadTo end unread frames × (rounds : List Round) × RoundsFor threads (readings header frames) rounds
    × (ran : Ran f n j link_step sender most rounds before after)
    × TellsRun words (unfinished_in ran.begins.view) (all_lines ran.serves) (passed_over header frames) ran.serves.end k l

-- an end that is no error is that of a whole input
whole : (P : StreamEnd → Type 0) (end : StreamEnd) → Ok tt ≡ result_of end → P end → P Whole
whole P Whole no_error h = h
whole P (BadLength n) no_error h = cc
whole P (Truncated k) no_error h = cc
whole P (Unread e) no_error h = cc

served_of : (header : ℕ) (threads : Option ResponseOrder) (f : Flow) (n : ℕ) (j : Seen) (sender : PlainSender) (most : ℕ) (unread before after : Option (List ℕ))
    (words : Option Words) (k l : Log) → RanTo header threads f n j sender most unread before after words k l Whole → Served header threads f n j sender most unread before after
served_of header threads f n j sender most unread before after words k l h = record { frames = h.0; reads = h.1; rounds = h.2; answers = h.3; ran = h.4 }

pub served : {R : Type 0} (header : ℕ) (threads : Option ResponseOrder) (f : Flow) (n : ℕ) (j : Seen) (sender : PlainSender) (most : ℕ) (remaining : R → Option (List ℕ))
    (before after : Option (List ℕ)) (words : Option Words) (k l : Log) (end : StreamEnd) (input : Option R)
    → Ok tt ≡ result_of end
    → IfSome input (λ reader. RanTo header threads f n j sender most (remaining reader) before after words k l end)
    → IfSome input (λ reader. Served header threads f n j sender most (remaining reader) before after)
served header threads f n j sender most remaining before after words k l end None no_error h = h
served header threads f n j sender most remaining before after words k l end (Some reader) no_error h =
    served_of header threads f n j sender most (remaining reader) before after words k l
    (whole (λ (e : StreamEnd). RanTo header threads f n j sender most (remaining reader) before after words k l e) end no_error h)
