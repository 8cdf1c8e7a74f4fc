use Rattle.std.proofs.Common.{◌∙◌, ap}
use Rattle.iso_dialect.specs.Profiles.{takes_hex}
use Rattle.iso_dialect.proofs.CheckedRows.{codings_checked}
use Rattle.iso_dialect.proofs.KeptFields.{assembled, mti_writable}
use Rattle.iso_dialect.proofs.write_message.write_message.Goals as goal

pub push_coded-requires-clause-can : goal.push_coded-requires-clause-can
push_coded-requires-clause-can c =
    mti_writable c.args.profile.now c.mti.result c.digits.result.now c.mti-2.result c.is_checked.ensures c.mti.ensures c.digits.ensures.digits c.digits.ensures.valid

pub push_bitmaps-requires-clause-hex : goal.push_bitmaps-requires-clause-hex
push_bitmaps-requires-clause-hex c = ap takes_hex c.bitmap.ensures ∙ (codings_checked c.args.profile.now c.is_checked.ensures).hex

pub returns : goal.returns
returns c =
    assembled c.args.profile.now c.args.message.now c.in_ok-out.out.items c.push_coded.new.out.items c.push_bitmaps.new.out.items c.push_fields.new.out.items
    c.numbers_in.result c.mti.result c.bitmap.result c.digits.result.now c.is_message.ensures c.numbers_in.ensures c.in_ok-out.ensures.items c.mti.ensures
    c.bitmap.ensures (c.digits.ensures.digits ∙ c.mti-2.ensures.mti) c.in_ok-push_coded.ensures c.in_ok-push_bitmaps.ensures c.in_ok-push_fields.ensures
