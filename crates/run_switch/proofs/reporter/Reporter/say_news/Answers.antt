use Rattle.std.proofs.Common.{◌∙◌, ap, string_bytes, sym}
use Rattle.run_switch.specs.Shown.{hosts_of}
use Rattle.run_switch.proofs.Sayings.{hosts_is, no_news, says_news}
use Rattle.run_switch.proofs.reporter.Reporter.say_news.Goals as goal

pub returns-clause-says : goal.returns-clause-says
returns-clause-says g c = says_news string_bytes c.news-lines.result c.args.self.now.words c.in-Some.words _ _ _ _ _ _ _
    (sym c.take.ensures.value ∙ c.in-Some.is) c.news-lines.ensures.news c.write_words.ensures.written c.write_words.ensures.lost

pub returns-clause-hosts : goal.returns-clause-hosts
returns-clause-hosts g c =
    ap hosts_of c.write_words.ensures.words
    ∙ (c.news-lines.ensures.names ∙ sym (hosts_is c.args.self.now.words c.in-Some.words (sym c.take.ensures.value ∙ c.in-Some.is)))

pub returns-in_default-clause-says : goal.returns-in_default-clause-says
returns-in_default-clause-says g c = no_news c.args.self.now.words c.take.new.self _ _ _ _ _ _ (sym c.take.ensures.value ∙ c.in_default.is)
    c.take.ensures.after
