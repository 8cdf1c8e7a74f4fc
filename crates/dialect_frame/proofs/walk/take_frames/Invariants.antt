use Rattle.std.proofs.Common.{◌≡◌, ◌≤◌, ◌++◌, List, ℕ, false, take, drop, length}
use Rattle.dialect_frame.specs.Forms.{start}
use Rattle.dialect_frame.specs.Stream.{AreFramed}
use Rattle.sw_frame.specs.Feeds.{messages}
use Rattle.dialect_frame.proofs.walk.take_frames.Given as goal

abbrev pub invariant-loop-rest : goal.invariant-loop-rest
invariant-loop-rest l = record {
  within : l.walk.taken ≤ length l.bytes;
  rest : l.rest ≡ drop l.walk.taken l.bytes;
  good : l.walk.bad ≡ false;
  before : l.start ≡ start l.form;
  framed : (text : List ℕ) → AreFramed l.form text (messages l.fn.earlier.items)
      → AreFramed l.form (text ++ take l.walk.taken l.bytes) (messages l.walk.messages.items);
}

abbrev pub decreases-loop-rest : goal.decreases-loop-rest
decreases-loop-rest l = length l.rest
