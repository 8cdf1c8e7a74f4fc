-- What is known where all that the threads left agrees.
-- for: ending::conclude
use Rattle.std.proofs.Common.{◌≡◌, ◌∙◌, ℕ, Bool, List, length, map, drop, sym, ap, subst}
use Rattle.sw_context.specs.Pairs.{Pairs}
use Rattle.sw_participant.specs.Chains.{Rule}
use Rattle.tx_history.specs.declared.event.Entry.{Entry}
use Rattle.tx_engine.specs.World.{World}
use Rattle.tx_plant.specs.Core.{Core}
use Rattle.tx_plant.specs.Plant.{IsEngine}
use Rattle.tx_locked.specs.declared.station.MadeCall.{MadeCall}
use Rattle.tx_locked.specs.AllStations.{AllBack, AreCalls}
use Rattle.tx_pool.specs.Ended.{Ended, IsSettledSince}
use Rattle.tx_pool.specs.Feeding.{HasFed}
use Rattle.tx_locked.specs.Receipts.{AllOwn, all_of, count_done, count_shelved, run_entries}
use Rattle.tx_pool.specs.Went.{Agrees, Reports}
use Rattle.tx_locked.proofs.Stations.{linked_by}

pub concluded : {S L V : Type 0} (rule : ℕ → Rule) (os : List (List ℕ)) (cs : List ℕ) (ns : List (List ℕ)) (object : S → List ℕ) (count : S → ℕ) (name : S →
    List ℕ) (calls : L → List MadeCall) (items : V → List ℕ) (start now : Core) (given after : List Pairs) (ended : Bool) (mark from : ℕ)
    (made made2 : List MadeCall) (logs logs2 : List L) (receipts : List V) (written written2 : List Entry) (ss : List S)
    → made2 ≡ made → logs2 ≡ logs → written2 ≡ written → mark ≡ start.world.mark → length cs ≡ length os
    → IsSettledSince start now given after ended made → Agrees calls items now.world mark from made2 logs2 receipts written2 →
    AllBack rule os cs ns object count name calls ss logs → IsEngine now.world
    → (got : List (List ℕ)) × Ended rule os cs start now got written (map object ss) (map count ss) × HasFed given after ended got
concluded rule os cs ns object count name calls items start now given after ended mark from made made2 logs logs2 receipts written written2 ss e f h m c s a
    back engine = (
      s.got,
      record {
        total = s.total;
        made = made;
        since = s.since;
        linked = linked_by rule os cs ns object count name calls ss logs made c back
            (subst (λ z. AreCalls calls made z) f (subst (λ z. AreCalls calls z logs2) e a.calls_are));
        copies = sym h ∙ (a.copies ∙ ap (λ z. drop z (all_of now.world)) m);
        settled = a.settled;
        engine = engine;
      },
      s.fed,
    )

pub reported : {L V : Type 0} (calls : L → List MadeCall) (items : V → List ℕ) (start w : World) (mark from : ℕ) (made : List MadeCall) (logs : List L)
    (receipts receipts2 : List V) (written : List Entry) (done kept : ℕ)
    → receipts2 ≡ receipts → from ≡ length start.past → length receipts ≡ start.sessions → Agrees calls items w mark from made logs receipts2 written →
    done ≡ count_done (drop from (all_of w)) → kept ≡ count_shelved (drop from (all_of w)) → Reports items start w receipts done kept
reported calls items start w mark from made logs receipts receipts2 written done kept e f n a d k = record {
  sessions = n;
  own = subst (λ z. AllOwn items (run_entries start w) z) e (subst (λ z. AllOwn items (drop z (all_of w)) receipts2) f a.own);
  finished = d ∙ ap (λ z. count_done (drop z (all_of w))) f;
  shelved = k ∙ ap (λ z. count_shelved (drop z (all_of w))) f;
}
