use Rattle.std.proofs.Common.{◌∙◌, ◌<◌, ℕ, ap, ◌++◌, string_bytes, subst, sym}
use Rattle.run_reports.specs.Hosts.{names_in}
use Rattle.run_reports.proofs.LinesOfHosts.{names_kept, next_news}
use Rattle.run_reports.proofs.hosts.Hosts.news.Goals as goal

pub loop-host-preserved : goal.loop-host-preserved
loop-host-preserved c = next_news c.loop-host.host-items c.loop-host.host-index c.host-item.result c.news.new.self (names_in c.args.self.now)
    (string_bytes c.loop-host.text) (string_bytes c.in_ok-line.line) _
    (subst (λ (k : ℕ). c.loop-host.host-index < k) (sym c.loop-host.auto.host-items) c.loop-host-test.true)
    c.news.ensures.name c.in_ok-line.ensures.news
    (c.in_ok-push_str.ensures.bytes ∙ ap (λ l. string_bytes c.loop-host.text ++ l) c.as_str.ensures.value) c.loop-host.invariant

pub returns-in_err-line-clause-names : goal.returns-in_err-line-clause-names
returns-in_err-line-clause-names c =
    names_kept c.args.self.now.hosts c.loop-host.host-items c.loop-host.host-index c.host-item.result c.news.new.self (names_in c.args.self.now)
    (c.loop-host.auto.host-items ∙ c.deref_mut-host-items.ensures.len) c.news.ensures.name c.loop-host.invariant.0

pub returns-in_err-push_str-clause-names : goal.returns-in_err-push_str-clause-names
returns-in_err-push_str-clause-names c =
    names_kept c.args.self.now.hosts c.loop-host.host-items c.loop-host.host-index c.host-item.result c.news.new.self (names_in c.args.self.now)
    (c.loop-host.auto.host-items ∙ c.deref_mut-host-items.ensures.len) c.news.ensures.name c.loop-host.invariant.0
