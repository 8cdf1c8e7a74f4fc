use Rattle.std.proofs.Common.{◌∙◌, ◌++◌, ap, List, ℕ, codes}
use Rattle.cli_decode.specs.Printing.{opening_of}
use Rattle.cli_decode.proofs.MessageText.{paragraph_by}
use Rattle.cli_decode.proofs.text.write_paragraph.Goals as goal

pub returns : goal.returns
returns c =
    let first = c.in_ok-push_opening.ensures ∙ ap (λ (t : List ℕ). t ++ opening_of c.args.number c.args.header.now) c.clear.ensures.items in
    let second = c.in_ok-extend_from_slice.ensures.items ∙ ap (λ (t : List ℕ). t ++ codes "mti ") first in
    paragraph_by c.args.masking c.extend_from_slice.new.self.items c.push_message.new.text.items c.args.header.now c.args.bytes.now c.args.number
    c.push_message.result
    second c.push_message.ensures
