use Rattle.std.proofs.Common.{◌≡◌, List, ℕ, Ok, Some, sym, ap, subst, ◌∙◌}
use Rattle.iso_codec.specs.Reads.{read}
use Rattle.sw_mux.specs.Keys.{key}
use Rattle.sw_parts.specs.Routes.{route_of}
use Rattle.sw_issuers.specs.Delivery.{Delivers}
use Rattle.sw_issuers.specs.Sending.{DeliversTo, link_states, repeated, PlainSender}
use Rattle.sw_issuers.proofs.Links.{if_ok, sends_ok}
use Rattle.sw_issuers.proofs.sender.Sender.send.Goals as goal

pub returns-clause-sent : goal.returns-clause-sent
returns-clause-sent g c =
    let L = g.L.Link in
    let M = g.M.Memory in
    let m = c.in-Ok.message in
    let r = c.in-Some.routing.now in
    let s : PlainSender = c.args.self.now in
    let after : PlainSender = record { routes = c.self.inside.routes; links = link_states L.state c.deliver_to.new.links.items } in
    let is : read c.args.advice.now ≡ Ok m = c.in-Ok.ensures.first_fault in
    let route : route_of m s.routes ≡ Some r = ap (route_of m) (sym (c.as_slice.ensures ∙ ap (λ (v : PlainSender). v.routes) c.self.view_is))
    ∙ sym c.in-Some.ensures in
    let sent : c.deref.result.now ≡ repeated c.args.repeat c.args.advice.now = c.deref.ensures.value ∙ c.in_ok-bytes.ensures in
    if_ok c.deliver_to.result _ _
    (λ accepted d.
    sends_ok L.sends L.receives L.starves M.refused c.args.advice.now c.args.repeat s accepted after m r is route
    (subst (λ (z : List ℕ). DeliversTo (Delivers L.sends L.receives L.starves M.refused z (key m)) r.group s.links accepted after.links) sent
    (subst (λ (z : List ℕ). DeliversTo (Delivers L.sends L.receives L.starves M.refused c.deref.result.now (key m)) z s.links accepted after.links)
    c.as_str-group.ensures
    (subst (λ (z : List (List ℕ × List ℕ)). DeliversTo (Delivers L.sends L.receives L.starves M.refused c.deref.result.now (key m))
    c.as_str-group.result.now z accepted after.links)
    (ap (λ (v : PlainSender). v.links) c.self.view_is) d)))
    (ap (λ (v : PlainSender). v.routes) c.self.view_is))
    c.deliver_to.ensures.delivered
