-- A core with nothing in it, and the name of no intake.
use Rattle.std.specs.Prelude.{[]}
use Rattle.tx_intake.specs.Ends.{IntakeId}
use Rattle.tx_plant.specs.Core.{Core}

abbrev pub no_core : Core
no_core =
    record {
      world = record {
        flow = record { retries = 0; groups = [] };
        sessions = 0;
        start = record { view = record { next_id = 1; rows = []; shelf = []; advices = [] }; queue = []; breaks = [] };
        past = [];
        mark = 0;
        reserved = 0;
      };
      seats = [];
      waiting = [];
      ended = [];
    }

abbrev pub no_intake : IntakeId
no_intake = record { words = 0; slots = 0; views_name = 0; atom = 0; block = 0; offset = 0; slot_names = [] }
