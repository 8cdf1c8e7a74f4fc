use Rattle.std.proofs.Common.{◌≡◌, is_some, Option, Some, None, true≢false, is_eq, sym, ap, subst, ◌∙◌, cond}
use Rattle.std.specs.Map.{values_of}
use Rattle.sw_mux.specs.Waiting.{waits, without}
use Rattle.sw_mux.specs.declared.key.Key.{Key}
use Rattle.sw_mux.specs.Numbered.{Numbered, Rise, HaveOwnKeys, key_eq, number_of, pair_cmp, request_at, key_by}
use Rattle.sw_mux.proofs.Times.{timed_out, same_at, has_request}
use Rattle.sw_mux.proofs.Numbers.{out, out_number, rise_out, own_out, number_out, values_out, absent_stays, waits_numbered}
use Rattle.sw_mux.proofs.mux.Mux.take.Goals as goal

-- where the map of keys has nothing, no request has the key
pub returns-in_default-clause-waited : goal.returns-in_default-clause-waited
returns-in_default-clause-waited c =
    let es = c.self.inside.requests.entries in
    let none : number_of c.args.key.now es ≡ None = sym (c.self.invariant.found c.args.key.now) ∙ sym c.in_default.ensures.value in
    sym (ap is_some none) ∙ waits_numbered c.args.key.now es ∙ ap (waits c.args.key.now.bytes) c.self.view_is

pub returns-in_default-clause-left : goal.returns-in_default-clause-left
returns-in_default-clause-left c =
    let es = c.self.inside.requests.entries in
    let none : number_of c.args.key.now es ≡ None = sym (c.self.invariant.found c.args.key.now) ∙ sym c.in_default.ensures.value in
    sym (absent_stays c.args.key.now es none) ∙ ap (without c.args.key.now.bytes) c.self.view_is

pub unreachable-requires : goal.unreachable-requires
unreachable-requires c =
    let es = c.self.inside.requests.entries in
    let k = c.args.key.now in
    let is : number_of k es ≡ Some c.in-Some.number = sym (c.self.invariant.found k) ∙ sym c.in-Some.ensures.value in
    true≢false (sym (has_request k c.in-Some.number es is) ∙ ap is_some (sym c.remove-2.ensures.value ∙ c.in_default-remove.is))

pub invariant_of-self-2 : goal.invariant_of-self-2
invariant_of-self-2 c =
    let es = c.self.inside.requests.entries in
    let k = c.args.key.now in
    let n = c.in-Some.number in
    let d = c.in-Some-remove.deadline in
    let w = c.in-Some-remove.field-0-0 in
    let none : Option Key = None in
    let is : number_of k es ≡ Some n = sym (c.self.invariant.found k) ∙ sym c.in-Some.ensures.value in
    let at : request_at n es ≡ Some (w, d) = sym c.remove-2.ensures.value ∙ c.in-Some-remove.is in
    let after : c.remove-2.new.self.entries ≡ out k es = c.remove-2.ensures.entries ∙ out_number 0 n c.self.inside.next k es c.self.invariant.rising is in
    record {
      rising = subst (λ (z : Numbered). Rise 0 z c.self.inside.next) (sym after) (rise_out 0 c.self.inside.next k es c.self.invariant.rising);
      own = subst (λ (z : Numbered). HaveOwnKeys z) (sym after) (own_out k es c.self.invariant.own);
      found = λ q. c.in-Some.ensures.updates.0 q ∙ ap (λ z. cond (key_eq k q) None z) (c.self.invariant.found q) ∙ sym (number_out q k es c.self.invariant.own)
          ∙ ap (number_of q) (sym after);
      timed = λ q. c.remove-3.ensures.updates.0 q
          ∙ ap (λ z. cond (is_eq (pair_cmp (d, n) q)) none z) (c.self.invariant.timed q)
          ∙ timed_out d n w q (request_at q.1 es) (same_at n q.1 (w, d) es at)
          ∙ ap (key_by q.0) (sym (c.remove-2.ensures.updates.0 q.1));
      small = c.self.invariant.small;
    }

pub returns-clause-waited : goal.returns-clause-waited
returns-clause-waited c =
    let es = c.self.inside.requests.entries in
    let k = c.args.key.now in
    let is : number_of k es ≡ Some c.in-Some.number = sym (c.self.invariant.found k) ∙ sym c.in-Some.ensures.value in
    sym (ap is_some is) ∙ waits_numbered k es ∙ ap (waits k.bytes) c.self.view_is

pub returns-clause-left : goal.returns-clause-left
returns-clause-left c =
    let es = c.self.inside.requests.entries in
    let k = c.args.key.now in
    let is : number_of k es ≡ Some c.in-Some.number = sym (c.self.invariant.found k) ∙ sym c.in-Some.ensures.value in
    ap values_of (c.remove-2.ensures.entries ∙ out_number 0 c.in-Some.number c.self.inside.next k es c.self.invariant.rising is)
    ∙ values_out k es ∙ ap (without k.bytes) c.self.view_is
