use Rattle.std.proofs.Common.{◌≡◌, true, subst}
use Rattle.std.specs.Io.KnownBytes.{Appends}
use Rattle.cli_io.specs.Written.{AppendsBeginning}
use Rattle.sw_wire.proofs.Writing.{writes_none, writes_test}
use Rattle.sw_hosts.proofs.threads.HostThread.write_test.Goals as goal

pub returns-in_default : goal.returns-in_default
returns-in_default g c = writes_none (g.W.Write.contents c.args.writer.now) true

pub returns : goal.returns
returns g c =
    let old = g.W.Write.contents c.args.writer.now in
    let new = g.W.Write.contents c.write_noted-is_written.new.writer in
    let same : c.deref.result.now ≡ c.in-Ok.frame.items = c.deref.ensures.value in
    writes_test c.seconds.result c.next_stan.result c.in-Ok.frame.items old new c.write_noted-is_written.result c.in-Ok.ensures
    (λ e. subst (Appends old new) same (c.write_noted-is_written.ensures.whole e))
    (subst (AppendsBeginning old new) same c.write_noted-is_written.ensures.beginning)
