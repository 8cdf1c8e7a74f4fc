use Rattle.std.proofs.Common.{◌≡◌, ◌+◌, ◌++◌, ◌∷◌, [], true, ap, sym, subst, ◌∙◌, arith}
use Rattle.book_store.specs.Lines.{Line}
use Rattle.day_book.specs.declared.item.DayItem.{DayItem}
use Rattle.day_book.specs.Items.{PlainDays}
use Rattle.lasting_book.specs.Tied.{AreBelow, AreKept, is_kept, line_at, lines_in}
use Rattle.lasting_book.proofs.LastItems.{below_last, below_more, kept_more, kept_shown, line_shown, lines_last}
use Rattle.lasting_book.proofs.opening.take_row.Goals as goal

pub returns-in-Ok-restore-clause-below : goal.returns-in-Ok-restore-clause-below
returns-in-Ok-restore-clause-below c =
    let id = c.in-Ok.item.id in
    let es = c.args.days.now.items in
    subst (λ (d : PlainDays). AreBelow (id + 1) d.items) (sym c.in-Ok-restore.ensures.put)
    (below_last id (id + 1) c.day_item.result es (omega arith) (below_more c.args.next id es c.if-item-next.false c.requires.below))

pub returns-in-Ok-restore-clause-taken : goal.returns-in-Ok-restore-clause-taken
returns-in-Ok-restore-clause-taken c l is =
    let item = c.in-Ok.item in
    let es = c.args.days.now.items in
    let kept : is_kept c.args.reach c.day_item.result ≡ true =
    ap (λ (v : DayItem). is_kept c.args.reach v) c.day_item.ensures ∙ kept_shown c.args.reach item c.if-item-reach.false in
    let line : line_at (item.id, c.day_item.result) ≡ l =
    ap (λ (v : DayItem). line_at (item.id, v)) c.day_item.ensures ∙ line_shown c.args.row.now l item is c.in-Ok.ensures.ok in
    ap (λ (d : PlainDays). lines_in c.args.reach d.items) c.in-Ok-restore.ensures.put
    ∙ lines_last c.args.reach item.id c.day_item.result es (below_more c.args.next item.id es c.if-item-next.false c.requires.below) kept
    ∙ ap (λ (z : Line). lines_in c.args.reach es ++ z ∷ []) line

pub returns-in-Ok-restore-clause-kept : goal.returns-in-Ok-restore-clause-kept
returns-in-Ok-restore-clause-kept c all =
    let item = c.in-Ok.item in
    let kept : is_kept c.args.reach c.day_item.result ≡ true =
    ap (λ (v : DayItem). is_kept c.args.reach v) c.day_item.ensures ∙ kept_shown c.args.reach item c.if-item-reach.false in
    subst (λ (d : PlainDays). AreKept c.args.reach d.items) (sym c.in-Ok-restore.ensures.put)
    (kept_more c.args.reach item.id c.day_item.result c.args.days.now.items kept all)
