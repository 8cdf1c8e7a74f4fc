-- What the errors of the parts become.
use Rattle.std.specs.Prelude.{◌≡◌, ⊤, ℕ, List, Some, None, Result, Ok, Err, option_map, slice_get}
use Rattle.flow_model.specs.declared.flow.Flow.{Flow}
use Rattle.flow_model.specs.declared.numbering.Part.{Part}
use Rattle.flow_model.specs.Places.{parts_of}
use Rattle.sw_seating.specs.declared.seating.SeatingError.TheVariants as seating
use Rattle.cli_io.specs.declared.error.IoError.{IoError}
use Rattle.cli_io.specs.declared.error.IoError.TheVariants as io
use Rattle.tx_engine.specs.declared.error.EngineError.{EngineError}
use Rattle.tx_engine.specs.declared.error.EngineError.TheVariants as engine
use Rattle.tx_plant.specs.declared.turn.PlantError.{PlantError}
use Rattle.tx_plant.specs.declared.turn.PlantError.TheVariants as plant
use Rattle.tx_locked.specs.declared.fault.Fault.{Fault}
use Rattle.tx_locked.specs.declared.fault.Fault.TheVariants as fault
use Rattle.tx_pool.specs.declared.refusal.Early.{Early}
use Rattle.tx_pool.specs.declared.refusal.Early.TheVariants as early
use Rattle.tx_pool.specs.declared.refusal.PoolError.{PoolError}
use Rattle.tx_pool.specs.declared.refusal.PoolError.TheVariants as pool
use Rattle.run_switch.specs.declared.error.ServeError.{ServeError}
use Rattle.run_switch.specs.declared.error.ServeError.TheVariants.{BadLength as BadFrameLength, BadSessions, DoubleStation, Engine, Io, Journal, Mismatch}
use Rattle.run_switch.specs.declared.error.ServeError.TheVariants.{NoStation, OutOfMemory, Pool, Seating, Truncated as TruncatedFrame}
use Rattle.run_input.specs.declared.frames.StreamEnd.{StreamEnd}
use Rattle.run_input.specs.declared.frames.StreamEnd.TheVariants.{Whole, BadLength, Truncated, Unread}

-- out of memory is an error of its own, and every other error is carried over
abbrev pub error_of_engine : EngineError → ServeError
error_of_engine engine.OutOfMemory = OutOfMemory
error_of_engine e = Engine e

abbrev pub error_of_io : IoError → ServeError
error_of_io io.OutOfMemory = OutOfMemory
error_of_io e = Io e

-- a journal's out of memory is carried over too: it is the journal that refused
abbrev pub error_of_plant : PlantError → ServeError
error_of_plant (plant.Engine e) = error_of_engine e
error_of_plant (plant.Journal e) = Journal e
error_of_plant (plant.Seating e) = Seating e
error_of_plant plant.OutOfMemory = OutOfMemory

-- the participant of this number has no station, or there was no memory for its name; or the flow has no such number
abbrev pub IsNoStation : Flow → ℕ → ServeError → Type 0
IsNoStation f n (NoStation name) = option_map (λ (x : Part). x.name) (slice_get (parts_of f) n) ≡ Some name
IsNoStation f n OutOfMemory = ⊤
IsNoStation f n (Seating e) = slice_get (parts_of f) n ≡ None
IsNoStation f n _ = ⊥

-- the station at this index has the name of an earlier one, or there was no memory to say so; or there is no such index
abbrev pub IsDouble : List (List ℕ) → ℕ → ServeError → Type 0
IsDouble names index (DoubleStation name) = slice_get names index ≡ Some name
IsDouble names index OutOfMemory = ⊤
IsDouble names index (Seating e) = slice_get names index ≡ None
IsDouble names index _ = ⊥

-- why no plant was made of stations with these names, and this many sessions
abbrev pub IsCause : Flow → List (List ℕ) → ℕ → PlantError → ServeError → Type 0
IsCause f names sessions (plant.Seating (seating.NoStation n)) e = IsNoStation f n e
IsCause f names sessions (plant.Seating (seating.DoubleStation index)) e = IsDouble names index e
IsCause f names sessions (plant.Engine engine.BadSessions) e = e ≡ BadSessions sessions
IsCause f names sessions cause e = e ≡ error_of_plant cause

-- a stream that was refused is an error
abbrev pub result_of : StreamEnd → Result (Unit {0}) ServeError
result_of Whole = Ok tt
result_of (BadLength n) = Err (BadFrameLength n)
result_of (Truncated n) = Err (TruncatedFrame n)
result_of (Unread e) = Err (error_of_io e)

-- why a leg was not run, or was given up
abbrev pub error_of_fault : Fault → ServeError
error_of_fault (fault.Journal e) = Journal e
error_of_fault (fault.Engine e) = error_of_engine e
error_of_fault (fault.ReceiptMismatch n) = Mismatch n
error_of_fault fault.OutOfMemory = OutOfMemory

abbrev pub error_of_early : Early → ServeError
error_of_early early.OutOfMemory = OutOfMemory
error_of_early e = Pool e

-- the error of a run whose pool did not begin, or was given up
abbrev pub IsOfPool : {S : Type 0} {I : Type 0} {D : I → Type 0} → PoolError S I D → ServeError → Type 0
IsOfPool (pool.Early p e) r = r ≡ error_of_early e
IsOfPool (pool.Late l) r = r ≡ error_of_fault l.cause
