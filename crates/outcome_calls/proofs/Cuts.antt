-- A history begins anew from what is written.
-- for: laws::clauses
use Rattle.std.proofs.Common.{◌≡◌, ℕ, Bool, true, false, List, [], Option, Some, None, refl, sym, ap, subst, arith}
use Rattle.std.specs.Prelude.{nat_lt}
use Rattle.flow_model.specs.declared.flow.Flow.{Flow}
use Rattle.outcome_calls.specs.Trail.{Deed}
use Rattle.outcome_calls.specs.One.{FullReply, Standing, IsLive, IsOver, IdFits, standing_row}
use Rattle.outcome_calls.specs.States.{FullState}
use Rattle.outcome_calls.specs.Core.{AbstractCore, at, reopened, standing_of, next_id, first, given, trail_of, advice, written, Stuck, StateFitsAt, CoreFits}
use Rattle.outcome_calls.specs.Plant.{unfinished}
use Rattle.outcome_calls.specs.Words.{cut_of}
use Rattle.outcome_calls.proofs.Trails.{way_one, good_told}
use Rattle.outcome_calls.proofs.CoreMoves.{none_of, waits_unfinished}

-- a cut
pub good_ended : (t : List Deed) (st : Standing) (adv : ℕ → Option (List ℕ)) → IsLive t st adv → st.row ≡ None → IsOver t adv
good_ended t st adv g none = record {
  one_way = way_one st.decision t g.way;
  all_told = good_told t st adv g (g.sound.ended none).0;
  ordered = g.ordered;
  advised = g.advised;
  decided = g.decided;
}

pub cut_holds : (known : Bool) (s : Option Standing) (x : Option FullReply) (t : List Deed) (adv : ℕ → Option (List ℕ)) → IdFits known s x t adv →
    standing_row s ≡ None → x ≡ None → IdFits known None None t adv
cut_holds false None None t adv h none is = h
cut_holds true None None t adv h none is = h
cut_holds true (Some st) None t adv h none is = good_ended t st adv h none
cut_holds known s (Some x) t adv h none is = absurd (grind (arith, is))
cut_holds false (Some st) x t adv h none is = absurd h

pub cut_good : (f : Flow) (c : AbstractCore) → CoreFits f c → c.late ≡ [] →
    ((id : ℕ) → (standing_row (standing_of f (at f c.start c.gone id)) ≡ None) × (unfinished f (at f c.start c.gone id) ≡ false)) → CoreFits f (cut_of f c)
cut_good f c k none idle =
    let may_tell : (id : ℕ) → first (c.kept id) (given c.late id) ≡ None =
    λ id. none_of (first (c.kept id) (given c.late id)) (λ y h. grind (
      arith,
      waits_unfinished f (at f c.start c.gone id) y (k.alive id y h),
      (idle id).1,
    )) in
    let gone : (id : ℕ) → reopened ((written f c).row id) ≡ None = λ id. ap reopened (idle id).0 in
    record {
      ones = λ id.
          let old : IdFits (nat_lt id (next_id c.start c.gone)) None None (trail_of id c.calls) (advice f c.start c.gone id) =
          cut_holds (nat_lt id (next_id c.start c.gone)) (standing_of f (at f c.start c.gone id)) (first (c.kept id) (given c.late id))
          (trail_of id c.calls) (advice f c.start c.gone id) (k.ones id) (idle id).0 (may_tell id) in
          subst (λ (n : ℕ). IdFits (nat_lt id n) (standing_of f (reopened ((written f c).row id))) None (trail_of id c.calls) (advice f c.start c.gone id))
          (omega arith)
          (subst (λ (o : Option FullState). IdFits (nat_lt id (next_id c.start c.gone)) (standing_of f o) None (trail_of id c.calls)
          (advice f c.start c.gone id)) (sym (gone id)) old);
      once = tt;
      apart = λ id x h. refl;
      alive = λ id x h. absurd (grind (arith, h));
      closes = λ id h. absurd (grind (arith, h));
      shut = λ id h. absurd (subst Stuck (gone id) h);
      proper = λ id. subst StateFitsAt (sym (gone id)) tt;
    }
