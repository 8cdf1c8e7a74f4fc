use Rattle.iso_codec.proofs.Encoding.{spelled_by, again_by, spelling_by}
use Rattle.iso_codec.proofs.EncodedLength.{short_by}
use Rattle.iso_codec.proofs.write.encode.Goals as goal

pub returns-clause-spelled : goal.returns-clause-spelled
returns-clause-spelled c = spelling_by c.write_message.result c.args.message.now c.is_message.ensures c.write_message.ensures

pub returns-clause-related : goal.returns-clause-related
returns-clause-related c = spelled_by c.write_message.result c.args.message.now c.is_message.ensures c.write_message.ensures

pub returns-clause-read_back : goal.returns-clause-read_back
returns-clause-read_back c = again_by c.write_message.result c.args.message.now c.is_message.ensures c.write_message.ensures

pub returns-clause-short : goal.returns-clause-short
returns-clause-short c = short_by c.write_message.result c.args.message.now c.is_message.ensures c.write_message.ensures
