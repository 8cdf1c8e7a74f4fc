use Rattle.std.proofs.Common.{◌∙◌, sym, subst, Result}
use Rattle.iso_msg.specs.Messages.{PlainMessage}
use Rattle.iso_codec.specs.declared.error.DecodeError.{DecodeError}
use Rattle.iso_codec.specs.Reads.{Fails}
use Rattle.iso_dialect.proofs.MessageReads.{read_grown_is}
use Rattle.iso_dialect.proofs.decode.decode_as.Goals as goal

pub to_report-requires : goal.to_report-requires
to_report-requires c =
    subst (λ (r : Result PlainMessage DecodeError). Fails c.in-Err.e r) (read_grown_is c.args.profile.now c.args.bytes.now) c.in-Err.ensures

pub returns-in-Ok : goal.returns-in-Ok
returns-in-Ok c = sym (read_grown_is c.args.profile.now c.args.bytes.now) ∙ c.in-Ok.ensures
