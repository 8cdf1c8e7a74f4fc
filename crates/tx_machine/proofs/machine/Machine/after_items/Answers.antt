-- The items, one by one: a search through the table's states takes many seconds.
use Rattle.std.proofs.Common.{◌≡◌, ℕ, suc, ◌+◌, ◌<◌, Bool, true, false, List, ◌∷◌, drop, get_or, length, sym, ap, arith, ◌∙◌, drop-cons, drop_of_length-le}
use Rattle.std.proofs.lemmas.Result.{err_from_is_err_and}
use Rattle.std.specs.Prelude.{◌&&◌}
use Rattle.flow_model.specs.declared.flow.Flow.{Flow}
use Rattle.tx_machine.specs.Contract.{tx_state}
use Rattle.tx_machine.specs.Lists.{is_lawful}
use Rattle.tx_machine.specs.Table.{TxState, after, is_due, next}
use Rattle.tx_machine.specs.declared.values.Item.{Item}
use Rattle.tx_machine.proofs.machine.Machine.after_items.Goals as goal

at_item : (xs : List Item) (i : ℕ) (x : Item) → i < length xs → x ≡ get_or xs i x → drop i xs ≡ x ∷ drop (i + 1) xs
at_item xs i x within is =
    let one : suc i ≡ i + 1 = omega arith in
    drop-cons xs i x within ∙ (ap (λ (y : Item). y ∷ drop (suc i) xs) (sym is) ∙ ap (λ (n : ℕ). x ∷ drop n xs) one)

after_next : (f : Flow) (s t all : TxState) (xs : List Item) (i : ℕ) (x : Item) → drop i xs ≡ x ∷ drop (i + 1) xs → t ≡ next f s x →
    after f s (drop i xs) ≡ all → after f t (drop (i + 1) xs) ≡ all
after_next f s t all xs i x there taken before = ap (λ (u : TxState). after f u (drop (i + 1) xs)) taken ∙ (sym (ap (after f s) there) ∙ before)

lawful_next : (f : Flow) (s t : TxState) (all : Bool) (xs : List Item) (i : ℕ) (x : Item) → drop i xs ≡ x ∷ drop (i + 1) xs → t ≡ next f s x →
    is_due s x ≡ true → is_lawful f s (drop i xs) ≡ all → is_lawful f t (drop (i + 1) xs) ≡ all
lawful_next f s t all xs i x there taken due before =
    ap (λ (u : TxState). is_lawful f u (drop (i + 1) xs)) taken
    ∙ (sym (ap (λ (b : Bool). b && is_lawful f (next f s x) (drop (i + 1) xs)) due) ∙ (sym (ap (is_lawful f s) there) ∙ before))

lawful_never : (f : Flow) (s : TxState) (all : Bool) (xs : List Item) (i : ℕ) (x : Item) → drop i xs ≡ x ∷ drop (i + 1) xs → is_due s x ≡ false →
    is_lawful f s (drop i xs) ≡ all → all ≡ false
lawful_never f s all xs i x there due before =
    sym before ∙ (ap (is_lawful f s) there ∙ ap (λ (b : Bool). b && is_lawful f (next f s x) (drop (i + 1) xs)) due)

pub loop-item-init : goal.loop-item-init
loop-item-init c = record {
  sound = c.start-machine.ensures.sound;
  stands = ap (λ (s : TxState). after c.args.code.now s c.args.items.now) c.start-machine.ensures.state;
  laws = ap (λ (s : TxState). is_lawful c.args.code.now s c.args.items.now) c.start-machine.ensures.state;
}

pub apply-requires : goal.apply-requires
apply-requires c = c.loop-item.invariant.sound

pub loop-item-preserved : goal.loop-item-preserved
loop-item-preserved c =
    let there = at_item c.args.items.now c.loop-item.item-index c.item-item.result c.loop-item-test.true c.item-item.is in
    let took = c.in_ok-apply.ensures in
    record {
      sound = took.sound;
      stands = after_next c.args.code.now (tx_state c.args.code.now c.loop-item.machine) (tx_state c.args.code.now c.apply.new.self) _ c.args.items.now
          c.loop-item.item-index c.item-item.result there took.taken c.loop-item.invariant.stands;
      laws = lawful_next c.args.code.now (tx_state c.args.code.now c.loop-item.machine) (tx_state c.args.code.now c.apply.new.self) _ c.args.items.now
          c.loop-item.item-index c.item-item.result there took.taken took.due c.loop-item.invariant.laws;
    }

pub returns-clause-sound : goal.returns-clause-sound
returns-clause-sound c = c.loop-item.invariant.sound

pub returns-clause-state : goal.returns-clause-state
returns-clause-state c = sym (ap (after c.args.code.now (tx_state c.args.code.now c.loop-item.machine))
    (drop_of_length-le c.args.items.now c.loop-item-test.false)) ∙ c.loop-item.invariant.stands

pub returns-clause-lawful : goal.returns-clause-lawful
returns-clause-lawful c = sym c.loop-item.invariant.laws ∙ ap (is_lawful c.args.code.now (tx_state c.args.code.now c.loop-item.machine))
    (drop_of_length-le c.args.items.now c.loop-item-test.false)

pub returns-in_err-apply-clause-not_due : goal.returns-in_err-apply-clause-not_due
returns-in_err-apply-clause-not_due c =
    let p = err_from_is_err_and c.from_residual.result c.from_residual.ensures.1 in
    let there = at_item c.args.items.now c.loop-item.item-index c.item-item.result c.loop-item-test.true c.item-item.is in
    rw p.1 (λ told. lawful_never c.args.code.now (tx_state c.args.code.now c.loop-item.machine) _ c.args.items.now c.loop-item.item-index c.item-item.result
    there (c.in_err-apply.ensures.not_due (sym p.2 ∙ told)) c.loop-item.invariant.laws)
