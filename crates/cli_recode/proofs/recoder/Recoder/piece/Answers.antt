use Rattle.std.proofs.Common.{subst, refl, List, ℕ, [], Err}
use Rattle.std.specs.Global.{Vec}
use Rattle.sw_frame.specs.Feeds.{messages}
use Rattle.dialect_frame.specs.Feeds.{StreamGoesOn}
use Rattle.cli_recode.specs.Recodings.{AreWritten}
use Rattle.cli_recode.proofs.Pieces.{stayed, went}
use Rattle.cli_recode.proofs.recoder.Recoder.piece.Goals as goal

pub returns-in_ok-recoded-in-Ok-clause-recoded : goal.returns-in_ok-recoded-in-Ok-clause-recoded
returns-in_ok-recoded-in-Ok-clause-recoded g c =
    let job = c.args.recoding.now in
    let recoded = c.in_ok-recoded-in-Ok.recoded in
    let ns = messages c.in-Ok.messages.items in
    let written : AreWritten job ns recoded.frames.items recoded.refused =
    subst (λ (vs : List (Vec ℕ)). AreWritten job (messages vs) recoded.frames.items recoded.refused) c.deref.ensures.value
    c.in_ok-recoded-in-Ok.ensures.written in
    λ form bytes out ms h. (
      ns,
      went form job bytes out c.args.piece.now recoded.frames.items ms ns c.args.self.now _ recoded.refused h (λ p. c.in-Ok.ensures.so_far bytes ms p)
          c.in-Ok.ensures.answer.1 written c.either-self.ensures,
    )

pub returns-in-Err-BadLength-clause-recoded : goal.returns-in-Err-BadLength-clause-recoded
returns-in-Err-BadLength-clause-recoded g c =
    let job = c.args.recoding.now in
    let r = c.args.self.now in
    let piece = c.args.piece.now in
    λ form bytes out ms h. (
      [],
      stayed form job bytes out piece c.new.result.items ms r _ h
          (λ p. subst (λ e. StreamGoesOn r.framer.form bytes ms piece (Err e) r.framer.has c.feed.new.self.has) c.in-Err-BadLength.field-0-is
          (c.in-Err-BadLength.ensures.so_far bytes ms p))
          c.in-Err-BadLength.ensures.answer.1 c.new.ensures.items refl,
    )
