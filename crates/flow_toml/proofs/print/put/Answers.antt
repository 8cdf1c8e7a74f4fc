use Rattle.std.proofs.Common.{◌∙◌, ap}
use Rattle.toml.specs.View.{view, table_view}
use Rattle.flow_toml.specs.Document.{insert_member}
use Rattle.flow_toml.proofs.TableInserts.{members_view-insert}
use Rattle.flow_toml.proofs.print.put.Goals as goal

pub returns : goal.returns
returns c =
    rw c.in_ok-insert.ensures.entries (members_view-insert c.args.table.now.entries c.in_ok-name.name c.args.value
    ∙ ap (λ k. insert_member k (view c.args.value) (table_view c.args.table.now)) (c.in_ok-name.ensures.ok ∙ c.as_str.ensures))
