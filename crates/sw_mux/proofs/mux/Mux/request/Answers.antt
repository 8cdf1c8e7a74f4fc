use Rattle.std.proofs.Common.{arith, ◌≡◌, ℕ, ◌+◌, ◌++◌, ◌∷◌, [], cond, is_some, Option, Some, None, refl, sym, ap, subst, ◌∙◌}
use Rattle.std.specs.BTreeMap.{is_at, get as key_at}
use Rattle.std.specs.HashMap.{get}
use Rattle.std.specs.Map.{lookup, values_of}
use Rattle.std.specs.Ordering.{is_eq}
use Rattle.sw_mux.specs.declared.key.Key.{Key}
use Rattle.sw_mux.specs.Waiting.{waits}
use Rattle.sw_mux.specs.Numbered.{Numbered, IsNumbered, Rise, HaveOwnKeys, key_eq, number_of, pair_cmp, request_at, key_by}
use Rattle.sw_mux.proofs.Numbers.{put_last, rise_last, own_last, number_last, values_last, waits_numbered}
use Rattle.sw_mux.proofs.Refusing.{free, taken}
use Rattle.sw_mux.proofs.Times.{timed_put, timed_back, none_at}
use Rattle.sw_mux.proofs.mux.Mux.request.Goals as goal
use Rattle.sw_base.proofs.Options.{none_from}

nothing : (es : Numbered) → values_of es ≡ [] → es ≡ []
nothing [] h = refl
nothing (e ∷ es) h = absurd cc

pub returns-then-contains_key-clause-refused : goal.returns-then-contains_key-clause-refused
returns-then-contains_key-clause-refused c =
    let k = c.in-Some.key in
    let es = c.self.inside.requests.entries in
    taken c.args.message.now k.bytes c.args.self.now c.in-Some.ensures
    (sym (ap (waits k.bytes) c.self.view_is) ∙ sym (waits_numbered k es) ∙ ap is_some (sym (c.self.invariant.found k)) ∙ sym c.if-contains_key.ensures)

pub returns-in_default-checked_add-clause-refused : goal.returns-in_default-checked_add-clause-refused
returns-in_default-checked_add-clause-refused c =
    let k = c.in-Some.key in
    let es = c.self.inside.requests.entries in
    free c.args.message.now k.bytes c.args.self.now c.in-Some.ensures
    (sym (ap (waits k.bytes) c.self.view_is) ∙ sym (waits_numbered k es) ∙ ap is_some (sym (c.self.invariant.found k)) ∙ sym c.if-contains_key.ensures)

pub returns-in_default-checked_add-clause-unspent : goal.returns-in_default-checked_add-clause-unspent
returns-in_default-checked_add-clause-unspent c = λ none.
    let first : c.number_after-number.result ≡ 0
    = c.number_after-number.ensures.first (nothing c.self.inside.requests.entries (c.self.view_is ∙ none)) in
    omega (arith, first, c.in_default-checked_add.ensures)

pub returns-then-is_err-clause-refused : goal.returns-then-is_err-clause-refused
returns-then-is_err-clause-refused c =
    let k = c.in-Some.key in
    let es = c.self.inside.requests.entries in
    free c.args.message.now k.bytes c.args.self.now c.in-Some.ensures
    (sym (ap (waits k.bytes) c.self.view_is) ∙ sym (waits_numbered k es) ∙ ap is_some (sym (c.self.invariant.found k)) ∙ sym c.if-contains_key.ensures)

pub invariant_of-self-in_default-insert : goal.invariant_of-self-in_default-insert
invariant_of-self-in_default-insert c =
    record {
      rising = c.self.invariant.rising;
      own = c.self.invariant.own;
      found = λ q. c.room.ensures.same q ∙ c.self.invariant.found q;
      timed = λ q. ap (lookup (is_at (pair_cmp q))) c.in_default-insert.ensures.err ∙ c.self.invariant.timed q;
      small = c.self.invariant.small;
    }

pub returns-in_default-insert-clause-refused : goal.returns-in_default-insert-clause-refused
returns-in_default-insert-clause-refused c =
    let k = c.in-Some.key in
    let es = c.self.inside.requests.entries in
    free c.args.message.now k.bytes c.args.self.now c.in-Some.ensures
    (sym (ap (waits k.bytes) c.self.view_is) ∙ sym (waits_numbered k es) ∙ ap is_some (sym (c.self.invariant.found k)) ∙ sym c.if-contains_key.ensures)

pub invariant_of-self-2 : goal.invariant_of-self-2
invariant_of-self-2 c =
    let k = c.in-Some.key in
    let n = c.number_after-number.result in
    let d = c.args.deadline in
    let v : Key × ℕ = (k, d) in
    let es = c.self.inside.requests.entries in
    let none : number_of k es ≡ None = none_from _ (c.if-contains_key.ensures ∙ ap is_some (c.self.invariant.found k)) in
    let next : c.in-Some-checked_add.next ≡ n + 1 = c.in-Some-checked_add.ensures.1 in
    let after : c.insert-2.new.self.entries ≡ es ++ (n, v) ∷ [] = c.in-Ok-insert.ensures.entries ∙ put_last 0 n v es c.number_after-number.ensures.rise in
    record {
      rising = subst (λ (z : Numbered). Rise 0 z c.in-Some-checked_add.next) (sym after)
          (subst (λ z. Rise 0 (es ++ (n, v) ∷ []) z) (sym next) (rise_last 0 n v es c.number_after-number.ensures.rise));
      own = subst (λ (z : Numbered). HaveOwnKeys z) (sym after) (own_last n v es none c.self.invariant.own);
      found = λ q. c.in-Ok-insert-2.ensures.updates.0 q
          ∙ ap (λ z. cond (key_eq k q) (Some n) z) (c.room.ensures.same q ∙ c.self.invariant.found q)
          ∙ sym (number_last q n v es none) ∙ ap (number_of q) (sym after);
      timed = λ q. c.in-Ok.ensures.updates.0 q
          ∙ ap (λ z. cond (is_eq (pair_cmp (d, n) q)) (Some k) z) (c.self.invariant.timed q)
          ∙ timed_put d n k q (request_at q.1 es) (none_at n q.1 es c.number_after-number.ensures.rise)
          ∙ ap (key_by q.0) (sym (c.in-Ok-insert.ensures.updates.0 q.1));
      small = omega (arith, c.in-Some-checked_add.ensures.0, c.in-Some-checked_add.ensures.1);
    }

pub returns-clause-waits : goal.returns-clause-waits
returns-clause-waits c =
    let k = c.in-Some.key in
    let n = c.number_after-number.result in
    let v : Key × ℕ = (k, c.args.deadline) in
    let es = c.self.inside.requests.entries in
    ap values_of (c.in-Ok-insert.ensures.entries ∙ put_last 0 n v es c.number_after-number.ensures.rise) ∙ values_last n v es
    ∙ ap (λ z. z ++ v ∷ []) c.self.view_is

pub returns-clause-taken : goal.returns-clause-taken
returns-clause-taken c =
    let k = c.in-Some.key in
    let es = c.self.inside.requests.entries in
    free c.args.message.now k.bytes c.args.self.now c.in-Some.ensures
    (sym (ap (waits k.bytes) c.self.view_is) ∙ sym (waits_numbered k es) ∙ ap is_some (sym (c.self.invariant.found k)) ∙ sym c.if-contains_key.ensures)

pub invariant_of-self-in_default-insert-2 : goal.invariant_of-self-in_default-insert-2
invariant_of-self-in_default-insert-2 c =
    let k = c.in-Some.key in
    let n = c.number_after-number.result in
    let d = c.args.deadline in
    let es = c.self.inside.requests.entries in
    let none : Option Key = None in
    subst (λ (z : Numbered). IsNumbered z (get key_eq c.room.new.numbers) (key_at pair_cmp c.remove.new.self) c.self.inside.next)
    (sym c.in_default-insert-2.ensures.err)
    (record {
      rising = c.self.invariant.rising;
      own = c.self.invariant.own;
      found = λ q. c.room.ensures.same q ∙ c.self.invariant.found q;
      timed = λ q. c.remove.ensures.updates.0 q
          ∙ ap (λ z. cond (is_eq (pair_cmp (d, n) q)) none z)
          (c.in-Ok.ensures.updates.0 q ∙ ap (λ z. cond (is_eq (pair_cmp (d, n) q)) (Some k) z) (c.self.invariant.timed q))
          ∙ timed_back d n k q (request_at q.1 es) (none_at n q.1 es c.number_after-number.ensures.rise);
      small = c.self.invariant.small;
    })

pub returns-in_default-insert-2-clause-refused : goal.returns-in_default-insert-2-clause-refused
returns-in_default-insert-2-clause-refused c =
    let k = c.in-Some.key in
    let es = c.self.inside.requests.entries in
    free c.args.message.now k.bytes c.args.self.now c.in-Some.ensures
    (sym (ap (waits k.bytes) c.self.view_is) ∙ sym (waits_numbered k es) ∙ ap is_some (sym (c.self.invariant.found k)) ∙ sym c.if-contains_key.ensures)
