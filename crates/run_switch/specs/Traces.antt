-- What a run writes to standard error: the lines of the trace, and between them a line for each message that is passed over, lines of
-- numbers, and lines in words, where they are wanted.
use Rattle.std.specs.Prelude.{◌≡◌, ◌<◌, ℕ, ◌+◌, ◌^◌, Bool, true, false, ◌||◌, List, [], ◌∷◌, ◌++◌, length, Option, Some, None, is_some, codes}
use Rattle.std.specs.Fmt.{decimal}
use Rattle.std.specs.Io.KnownBytes.{Appends}
use Rattle.sw_stats.specs.Line.{Numbers, stats_line}
use Rattle.tx_engine.specs.World.{World}
use Rattle.sw_context.specs.Pairs.{Pairs}
use Rattle.run_input.specs.declared.arrival.Arrival.{Arrival}
use Rattle.run_input.specs.Arrivals.{readings_of}
use Rattle.run_input.specs.Requests.{Reading, headers_in}
use Rattle.run_responses.specs.declared.sink.ResponseOrder.{ResponseOrder}
use Rattle.run_switch.specs.declared.reporter.LineForm.{LineForm}
use Rattle.run_switch.specs.declared.reporter.Reporter.{Reporter}
use Rattle.run_switch.specs.Lines.{Line, written_as}
use Rattle.run_switch.specs.Points.{Point, all_answered}
use Rattle.run_switch.specs.Records.{Recording, Records, recording_of}
use Rattle.run_switch.specs.Rounds.{Drains, MayCut, Round, RoundsFor, Serves, offering, returning}

-- lines of the trace; or the line of a message that is passed over: its number, and why; or the line of a run's numbers; or lines in
-- words
pub data Piece : Type 0 where
  Traced : (lines : List ℕ) → Piece
  Passed : (number : ℕ) → (cause : List ℕ) → Piece
  Counted : (numbers : Numbers) → (milliseconds : ℕ) → Piece
  Said : (lines : List ℕ) → Piece

abbrev pub passed_line : ℕ → List ℕ → List ℕ
passed_line number cause = codes "cardswitch: message " ++ decimal number ++ codes " is passed over: " ++ cause ++ 10 ∷ []

abbrev pub piece_text : Piece → List ℕ
piece_text (Traced lines) = lines
piece_text (Passed number cause) = passed_line number cause
piece_text (Counted numbers milliseconds) = stats_line numbers milliseconds
piece_text (Said lines) = lines

abbrev pub text_of : List Piece → List ℕ
text_of [] = []
text_of (p ∷ ps) = piece_text p ++ text_of ps

-- a beginning of each piece, one after the other
abbrev pub AreBegun : List Piece → List ℕ → Type 0
AreBegun [] text = text ≡ []
AreBegun (p ∷ ps) text = (first rest more : List ℕ) × (piece_text p ≡ first ++ rest) × AreBegun ps more × (text ≡ first ++ more)

-- the lines of the trace among them
abbrev pub traced_in : List Piece → List ℕ
traced_in [] = []
traced_in (Traced lines ∷ ps) = lines ++ traced_in ps
traced_in (Passed number cause ∷ ps) = traced_in ps
traced_in (Counted numbers milliseconds ∷ ps) = traced_in ps
traced_in (Said lines ∷ ps) = traced_in ps

-- how many messages are passed over
abbrev pub passed_in : List Piece → ℕ
passed_in [] = 0
passed_in (Traced lines ∷ ps) = passed_in ps
passed_in (Passed number cause ∷ ps) = 1 + passed_in ps
passed_in (Counted numbers milliseconds ∷ ps) = passed_in ps
passed_in (Said lines ∷ ps) = passed_in ps

-- how many lines of numbers
abbrev pub counted_in : List Piece → ℕ
counted_in [] = 0
counted_in (Traced lines ∷ ps) = counted_in ps
counted_in (Passed number cause ∷ ps) = counted_in ps
counted_in (Counted numbers milliseconds ∷ ps) = 1 + counted_in ps
counted_in (Said lines ∷ ps) = counted_in ps

-- how many times lines in words
abbrev pub said_in : List Piece → ℕ
said_in [] = 0
said_in (Traced lines ∷ ps) = said_in ps
said_in (Passed number cause ∷ ps) = said_in ps
said_in (Counted numbers milliseconds ∷ ps) = said_in ps
said_in (Said lines ∷ ps) = 1 + said_in ps

-- what is wanted besides the trace: lines of numbers, and lines in words
pub record Wants : Type 0 where
  pub stats : Bool
  pub words : Bool

-- there are none where they are not wanted
pub record IsQuiet (wants : Wants) (ps : List Piece) : Type 0 where
  pub numbers : wants.stats ≡ false → counted_in ps ≡ 0
  pub words : wants.words ≡ false → said_in ps ≡ 0

-- these lines of the trace were added, all and in this order, the lines of this many messages that are passed over, and lines of
-- numbers and in words where they are wanted
pub record Adds (wants : Wants) (lines : List ℕ) (passed : ℕ) (before after : Option (List ℕ)) : Type 0 where
  pub pieces : List Piece
  pub traced : traced_in pieces ≡ lines
  pub count : passed_in pieces ≡ passed
  pub quiet : IsQuiet wants pieces
  pub written : Appends before after (text_of pieces)

-- of each of these a beginning was added, all of it, or none, and nothing else
pub record AddsSome (wants : Wants) (lines : List ℕ) (passed : ℕ) (before after : Option (List ℕ)) : Type 0 where
  pub pieces : List Piece
  pub traced : traced_in pieces ≡ lines
  pub count : passed_in pieces ≡ passed
  pub quiet : IsQuiet wants pieces
  pub text : List ℕ
  pub begun : AreBegun pieces text
  pub written : Appends before after text

-- standard error as a run sees it: in which form the trace is wanted, if it is, what is wanted besides, how many messages were passed
-- over, whether a write failed, and what is written, where that is known; and beside it the log
pub record Log : Type 0 where
  pub wanted : Option LineForm
  pub wants : Wants
  pub passed : ℕ
  pub lost : Bool
  pub text : Option (List ℕ)
  pub recording : Recording

-- what contracts see of a reporter; `contents` says what an output holds, where that is known
abbrev pub log_of : {E K : Type 0} → (E → Option (List ℕ)) → Reporter E K → Log
log_of contents stderr = record {
  wanted = stderr.trace;
  wants = record { stats = is_some stderr.stats; words = is_some stderr.words };
  passed = stderr.passed;
  lost = stderr.lost;
  text = contents stderr.err.now;
  recording = recording_of contents stderr.log;
}

-- the lines in the form in which they are wanted, or nothing
abbrev pub if_wanted : Option LineForm → List Line → List ℕ
if_wanted (Some form) lines = written_as form lines
if_wanted None lines = []

-- these lines of the trace were written, in the form in which it is wanted, if it is, and those of this many messages that are passed
-- over, which are counted: all is written, or, where a write failed, beginnings of these pieces; and the records of the transactions
-- that end in these lines were written to the log
pub record Tells (lines : List Line) (passed : ℕ) (a b : Log) : Type 0 where
  pub wanted : b.wanted ≡ a.wanted
  pub wants : b.wants ≡ a.wants
  pub count : a.passed + passed < 2 ^ 64 → b.passed ≡ a.passed + passed
  pub before : b.lost ≡ false → a.lost ≡ false
  pub adds : b.lost ≡ false → Adds a.wants (if_wanted a.wanted lines) passed a.text b.text
  pub some : AddsSome a.wants (if_wanted a.wanted lines) passed a.text b.text
  pub records : Records lines a.recording b.recording

-- whether lines are written after each transaction: those of the trace, or of the log
abbrev pub is_live : Log → Bool
is_live a = is_some a.wanted || a.recording.wanted

-- no entry is left then whose line is not written
abbrev pub IsLive : Log → World → Type 0
IsLive a w = is_live a ≡ true → w.past ≡ []

-- no line of the trace or of the log is wanted any more
pub record IsOver (a : Log) : Type 0 where
  pub trace : a.wanted ≡ None
  pub log : a.recording.wanted ≡ false

-- the history may be cut, and the lines of the entries that are cut were written
pub record Cuts (p : Point) (a : Log) (q : Point) (b : Log) : Type 0 where
  pub lines : List Line
  pub cuts : MayCut p lines q
  pub tells : Tells lines 0 a b

-- rounds were done, and the lines of the entries that were cut were written, and those of this many messages that are passed over
pub record Reports (rounds : List Round) (passed : ℕ) (p : Point) (before : Option (List ℕ)) (a : Log) (q : Point) (after : Option (List ℕ))
    (b : Log) : Type 0 where
  pub serves : Serves rounds p before q after
  pub tells : Tells serves.lines passed a b

-- what was read was answered, or passed over
pub record ReportsWith (threads : Option ResponseOrder) (read : List Reading) (p : Point) (before : Option (List ℕ)) (a : Log) (q : Point)
    (after : Option (List ℕ)) (b : Log) : Type 0 where
  pub rounds : List Round
  pub answers : RoundsFor threads read rounds
  pub reports : Reports rounds (length (headers_in read)) p before a q after b

-- messages with these headers are passed over: each has its line, and its header is given back
abbrev pub PassesOver : List (List ℕ) → Option (List ℕ) → Log → Option (List ℕ) → Log → Type 0
PassesOver headers before a after b = (p : Point) → Reports (returning headers) (length headers) p before a p after b

-- the queue and the shelf were emptied
pub record DrainsAll (p : Point) (before : Option (List ℕ)) (a : Log) (q : Point) (after : Option (List ℕ)) (b : Log) : Type 0 where
  pub drains : Drains p before q after
  pub tells : Tells drains.serves.lines 0 a b

-- The queue and the shelf are emptied, and the history may be cut.
pub record Settles (p : Point) (before : Option (List ℕ)) (a : Log) (q : Point) (after : Option (List ℕ)) (b : Log) : Type 0 where
  pub drained : Point
  pub then : Log
  pub drains : DrainsAll p before a drained after then
  pub cuts : Cuts drained then q b

-- After a leg: the responses of all transactions that ended are given, and messages with these headers are passed over; then what comes at
-- its end.
pub record Finishes (headers : List (List ℕ)) (p : Point) (before : Option (List ℕ)) (a : Log) (q : Point) (after : Option (List ℕ)) (b : Log) :
    Type 0 where
  pub given : Option (List ℕ)
  pub noted : Log
  pub passes : PassesOver headers before a given noted
  pub ends : Settles (all_answered p) given noted q after b

-- What came alone: messages with these headers are passed over, and these requests are answered in turn; then what comes at the end of a
-- leg.
pub record InTurn (requests : List Pairs) (headers : List (List ℕ)) (p : Point) (before : Option (List ℕ)) (a : Log) (q : Point)
    (after : Option (List ℕ)) (b : Log) : Type 0 where
  pub given : Option (List ℕ)
  pub noted : Log
  pub passes : PassesOver headers before a given noted
  pub answered : Point
  pub between : Option (List ℕ)
  pub then : Log
  pub reports : Reports (offering requests) 0 p given noted answered between then
  pub ends : Settles answered between then q after b

-- A leg, or what came alone: what came since was answered, or passed over.
pub record Answered (order : ResponseOrder) (before : List Arrival) (p : Point) (from : Option (List ℕ)) (a : Log) (after : List Arrival) (q : Point)
    (to : Option (List ℕ)) (b : Log) : Type 0 where
  pub came : List Reading
  pub came_are : readings_of after ≡ readings_of before ++ came
  pub reports : ReportsWith (Some order) came p from a q to b
