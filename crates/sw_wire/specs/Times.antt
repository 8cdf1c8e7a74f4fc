-- The times of a host.
use Rattle.std.specs.Prelude.{◌==◌, ◌&&◌, Bool, not}
use Rattle.std.specs.Duration.{as_nanos}
use Rattle.sw_wire.specs.declared.times.HostTimes.{HostTimes}

-- A silent host is asked again only once something was read from it: where it has a pause, and gets echo tests.
abbrev pub tests_silence : HostTimes → Bool
tests_silence times = not (as_nanos times.retry == 0) && not (as_nanos times.echo == 0)
