use Rattle.journal_copy.proofs.Founding.{bad_viewed, found_view, layout_is}
use Rattle.journal_copy.proofs.found.found_by.Goals as goal

pub returns-in-Ok-clause-found : goal.returns-in-Ok-clause-found
returns-in-Ok-clause-found g c =
    found_view g.S.Store c.args.conn c.in_ok-journal.journal c.view.new.self c.in-Some.layout c.in-Ok.view
    (layout_is c.len.result c.in-Some.layout c.layout_by.result c.schema.result.now _ c.layout_by.ensures c.len.ensures c.schema.ensures.value c.in-Some.is)
    c.schema.ensures.live c.in_ok-journal.ensures.opened c.view.ensures.clean c.in-Ok.ensures.means

pub returns-in-Err-clause-bad : goal.returns-in-Err-clause-bad
returns-in-Err-clause-bad g c =
    bad_viewed g.S.Store c.args.conn c.in_ok-journal.journal c.view.new.self c.in-Err.error c.unread.result c.unread.ensures
    c.in_ok-journal.ensures.opened c.view.ensures.clean c.in-Err.ensures.means
