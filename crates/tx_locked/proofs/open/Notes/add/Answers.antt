use Rattle.std.proofs.Common.{[], ◌∷◌, ◌++◌, get_or, sym, ap, subst, ◌∙◌}
use Rattle.tx_locked.specs.Linked.{AreNotes, IsBeside}
use Rattle.tx_locked.proofs.Linking.{notes_more}
use Rattle.tx_locked.proofs.open.Notes.add.Goals as goal

pub invariant_of-self-2 : goal.invariant_of-self-2
invariant_of-self-2 g c =
    let i = c.self.inside in
    let rule = g.K.Run.rule i.index in
    let o = get_or g.K.Run.objects i.index [] in
    let n = get_or g.K.Run.counts i.index 0 in
    let m = c.args.made in
    let calls = c.saturating_add-self-inside.result in
    let log = c.push_reserved.ensures.items ∙ ap (λ l. l ++ m ∷ []) c.in_ok-reserve.ensures.items in
    let beside = subst (λ k. IsBeside (g.K.Run.rule k) (get_or g.K.Run.objects k []) m) (sym (ap (λ z. z.index) c.self.view_is)) c.requires.beside in
    subst (λ l. AreNotes rule o n calls l) (sym log) (notes_more rule o n i.calls calls i.log.items m c.self.invariant beside c.saturating_add-self-inside.ensures)
