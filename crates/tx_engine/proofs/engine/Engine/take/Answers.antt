use Rattle.std.proofs.Common.{◌≡◌, ◌+◌, ℕ, length, arith, List, Option, Ok, None, Some, ap, subst, sym, ◌∙◌}
use Rattle.tx_machine.specs.Contract.{tx_state}
use Rattle.tx_machine.specs.Table.{opening}
use Rattle.tx_engine.proofs.Keeps.{kept_step, length_past, length_set, past_snoc}
use Rattle.tx_engine.proofs.SavedContexts.{first_spelled}
use Rattle.tx_engine.proofs.Takes.{can_take, steps_taken}
use Rattle.sw_base.specs.Refusals.{Accepts}
use Rattle.sw_context.specs.Spelling.{IsSpelled}
use Rattle.std.specs.Option.{option_map}
use Rattle.tx_history.specs.History.{next_id}
use Rattle.tx_history.specs.declared.event.Event.TheVariants.{Taken}
use Rattle.tx_history.specs.declared.journal.WaitingContext.{WaitingContext}
use Rattle.tx_engine.specs.Kept.{past_of}
use Rattle.tx_engine.specs.World.{World, happened}
use Rattle.tx_engine.specs.contracts.engine.Engine.{the_view}
use Rattle.tx_engine.proofs.engine.Engine.take.Goals as goal

accepted : {A E : Type 0} (m : E) (o : Option E) (x : A) (D : A → Type 0) (S : Type 0) → o ≡ None → D x → Accepts m o (Ok x) D S
accepted m o x D S none done = subst (λ o. Accepts m o (Ok x) D S) (sym none) done

pub context_of-requires : goal.context_of-requires
context_of-requires c =
    let can = can_take c.self.inside.code _ _ c.self.inside.lists.entries.items c.self.inside.mark _ _ c.args.s _ c.self.view_is c.in_ok-first.ensures in
    subst IsSpelled (sym c.as_slice.ensures) (first_spelled (the_view c.self.inside) _ _ c.in_ok-first.first.now c.self.invariant can.first)

pub taken_change-requires : goal.taken_change-requires
taken_change-requires c =
    let can = can_take c.self.inside.code _ _ c.self.inside.lists.entries.items c.self.inside.mark _ _ c.args.s _ c.self.view_is c.in_ok-first.ensures in
    let more = can.more in
    let spent = c.self.invariant.spent in
    let numbered = c.self.invariant.numbered in
    omega arith

pub invariant_of-self-2 : goal.invariant_of-self-2
invariant_of-self-2 c =
    let can = can_take c.self.inside.code _ _ c.self.inside.lists.entries.items c.self.inside.mark _ _ c.args.s _ c.self.view_is c.in_ok-first.ensures in
    let n : c.len-number.result + 1 ≡ length c.self.inside.lists.entries.items + 1 = omega arith in
    let context : c.into_vec.result.items ≡ c.in_ok-first.first.now.context = c.into_vec.ensures ∙ c.in_ok-saved.ensures in
    let began : tx_state c.self.inside.code c.start-machine.result ≡ opening c.self.inside.code c.in_ok-first.first.now.tries c.in_ok-first.first.now.context =
    c.start-machine.ensures.state ∙ ap (λ (x : List ℕ). opening c.self.inside.code c.in_ok-first.first.now.tries x) context in
    rw (
      c.pop_first.ensures.entries,
      c.pop_first.ensures.queue,
      c.pop_first.ensures.reserved,
      c.in_ok-push.ensures.entries,
      c.in_ok-push.ensures.queue,
      c.in_ok-push.ensures.reserved,
      c.taken_change.ensures,
      c.in_ok-row.ensures,
    )
    (kept_step _ _ _ _ _ _ _ _ _ _ _ _ c.self.invariant can.few n (length_set c.self.inside.slots.items c.args.s _)
    (steps_taken _ _ _ _ _ _ _ c.args.s _ c.in_ok-first.first.now c.start-machine.result _ c.self.invariant can n c.start-machine.ensures.sound began
    c.slot_for.ensures))

pub returns : goal.returns
returns c =
    let view : the_view c.self.inside ≡ c.args.self.now = c.self.view_is in
    let entries = c.pop_first.ensures.entries ∙ c.in_ok-push.ensures.entries in
    let past = ap past_of entries ∙ past_snoc c.self.inside.lists.entries.items _ in
    let reserved = c.pop_first.ensures.reserved ∙ c.in_ok-push.ensures.reserved in
    let long = length_set c.self.inside.slots.items c.args.s c.slot_for.result in
    let counted : c.len-number.result + 1 ≡ length c.self.inside.lists.entries.items + 1 = omega arith in
    let number : c.len-number.result + 1 ≡ length (past_of c.self.inside.lists.entries.items) + 1 =
    counted ∙ ap (λ (n : ℕ). n + 1) (sym (length_past c.self.inside.lists.entries.items)) in
    accepted _ _ _ _ _ c.in_ok-first.ensures.allowed (record {
      recorded = record {
        number_is = number ∙ ap (λ (w : World). length w.past + 1) view;
        history = (λ i. record (the_view c.self.inside) { sessions = long i; past = past i; reserved = reserved i }) ∙ ap (λ w. happened w (Taken c.args.s))
            view;
      };
      id_is = c.self.invariant.numbered ∙ ap (λ (w : World). next_id w.start w.past) view;
      context_is = ap (option_map (λ (w : WaitingContext). w.context)) c.in_ok-first.ensures.first_is ∙ ap Some (sym c.as_slice.ensures ∙ c.in_ok-context.ensures);
    })
