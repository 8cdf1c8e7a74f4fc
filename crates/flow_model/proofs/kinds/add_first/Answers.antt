use Rattle.std.proofs.lemmas.Map.Text.{btree_map_updates_str}
use Rattle.flow_model.proofs.FirstKinds.{added}
use Rattle.flow_model.proofs.kinds.add_first.Goals as goal

pub returns : goal.returns
returns c = λ q. rw (← c.as_str-name.ensures) (added c.args.kinds.now _ c.as_str-name.result.now q c.args.entry.now.kind
    (rw (← c.contains_key.ensures) c.if-contains_key.false) (btree_map_updates_str c.as_str-name.result.now c.args.kinds.now c.insert.new.self _
    c.in_ok-insert.ensures.updates q))
