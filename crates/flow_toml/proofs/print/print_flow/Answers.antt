use Rattle.std.proofs.Common.{string_bytes}
use Rattle.std.proofs.lemmas.Result.{IfOk-weaker}
use Rattle.flow_toml.proofs.DocumentOfFlow.{document_dates, document_depth, file_again}
use Rattle.flow_toml.proofs.print.print_flow.Goals as goal

pub print_table-requires : goal.print_table-requires
print_table-requires c = rw c.in_ok-table.ensures (document_dates c.args.flow.now)

pub returns : goal.returns
returns c =
    let again = rw c.in_ok-table.ensures at c.print_table.ensures in
    IfOk-weaker c.print_table.result _ _ (λ s h. file_again (string_bytes s) c.args.flow.now c.requires (h (document_depth c.args.flow.now))) again
