use Rattle.std.proofs.Common.{List, ℕ, Option, subst, sym}
use Rattle.std.specs.Io.KnownBytes.{Appends}
use Rattle.cli_encode.specs.Errors.{IsEncodeError}
use Rattle.cli_encode.specs.Reading.{IsReadUpTo, IsReadWhole, IsReading}
use Rattle.cli_encode.specs.declared.error.TextError.{TextError}
use Rattle.cli_encode.proofs.Readings.{encoded, if_known, refused_at}
use Rattle.cli_encode.proofs.stream.encode_stream.Goals as goal

pub returns-in-None-clause-encoded : goal.returns-in-None-clause-encoded
returns-in-None-clause-encoded g c =
    let size = c.args.header in
    let e = c.in_ok-encoder.encoder in
    let whole = subst (λ (r : Option TextError). IsReading size c.deref.result.now e r) c.in-None.is c.in_ok-encoder.ensures.read in
    let wrote = subst (Appends (g.W.Write.contents c.args.out.now) (g.W.Write.contents c.write_out.new.out)) c.deref-2.ensures.value
    c.in_ok-write_out.ensures.written in
    if_known (g.R.Read.remaining c.args.input.now.reader) (λ bytes same. encoded size bytes e _ _
    (subst (λ (t : List ℕ). IsReadWhole size t e) same (subst (λ (t : List ℕ). IsReadWhole size t e) c.deref.ensures.value whole)) wrote)
    c.in_ok-text.ensures.bytes

pub returns-clause-refused : goal.returns-clause-refused
returns-clause-refused g c =
    let size = c.args.header in
    let e = c.in_ok-encoder.encoder in
    let read = subst (λ (r : Option TextError). IsReading size c.deref.result.now e r) c.in-Some.is c.in_ok-encoder.ensures.read in
    let wrote = subst (Appends (g.W.Write.contents c.args.out.now) (g.W.Write.contents c.write_out.new.out)) c.deref-2.ensures.value
    c.in_ok-write_out.ensures.written in
    if_known (g.R.Read.remaining c.args.input.now.reader) (λ bytes same.
    subst (IsEncodeError size bytes (g.W.Write.contents c.args.out.now) (g.W.Write.contents c.write_out.new.out)) (sym c.from.ensures)
    (refused_at size bytes read.0 c.in-Some.error.line e _ _
    (subst (λ (t : List ℕ). IsReadUpTo size t read.0 e) same (subst (λ (t : List ℕ). IsReadUpTo size t read.0 e) c.deref.ensures.value read.2)) read.1 wrote))
    c.in_ok-text.ensures.bytes
