use Rattle.std.proofs.Common.{◌∙◌, ap}
use Rattle.run_switch.specs.Numbers.{numbers_at}
use Rattle.run_switch.specs.Points.{point_of}
use Rattle.run_switch.specs.Shown.{every_of, hosts_of}
use Rattle.run_switch.proofs.Sayings.{due_is, says_tells, since_due, tells_both}
use Rattle.run_switch.proofs.Shown.{shown_tells}
use Rattle.run_switch.proofs.switch.Switch.show_since.Goals as goal

pub returns-then-is_due-clause-since : goal.returns-then-is_due-clause-since
returns-then-is_due-clause-since g c =
    since_due (every_of c.args.edge.now.stderr.stats) c.args.before (numbers_at (point_of g.S.Store c.args.self.now) c.args.edge.now.stderr.passed)
    (numbers_at (point_of g.S.Store c.args.self.now) c.say_news.new.self.passed) _ _ _ _ _ _
    (due_is (every_of c.args.edge.now.stderr.stats) (every_of c.say_news.new.self.stats) c.args.before c.requests.result _ c.is_due.result c.is_due.ensures
    c.if-is_due.true (ap every_of c.say_news.ensures.stats) c.requests.ensures)
    (ap (numbers_at (point_of g.S.Store c.args.self.now)) c.say_news.ensures.says.writes.passed)
    (ap hosts_of c.show.ensures.words ∙ c.say_news.ensures.hosts) c.say_news.ensures.says c.show.ensures.shows c.say_counts.ensures

pub returns-then-is_due-clause-tells : goal.returns-then-is_due-clause-tells
returns-then-is_due-clause-tells g c = tells_both _ _ _ (says_tells _ _ _ c.say_news.ensures.says)
    (tells_both _ _ _ (shown_tells _ _ _ c.show.ensures.shows) (says_tells _ _ _ c.say_counts.ensures))

pub returns-else-is_due-clause-tells : goal.returns-else-is_due-clause-tells
returns-else-is_due-clause-tells g c = says_tells _ _ _ c.say_news.ensures.says
