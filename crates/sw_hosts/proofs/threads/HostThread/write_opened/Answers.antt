use Rattle.std.proofs.Common.{inl, inr, refl}
use Rattle.sw_hosts.proofs.threads.HostThread.write_opened.Goals as goal

pub returns-in-Err : goal.returns-in-Err
returns-in-Err g c = inl refl

pub returns : goal.returns
returns g c = inr (c.in-Ok.writer, c.write_frames.new.writer, c.write_frames.ensures)
