use Rattle.std.proofs.Common.{◌≡◌, ◌∙◌, ℕ, List, ap, subst}
use Rattle.iso_codec.specs.Spelling.{spelling}
use Rattle.sw_frame.specs.Stream.{Framed}
use Rattle.sw_wire.specs.Echoes.{echo_message}
use Rattle.sw_wire.proofs.echo.echo_frame.Goals as goal

pub returns-in-Ok : goal.returns-in-Ok
returns-in-Ok c =
    let stamp : List ℕ = c.stamp_of-stamp.result in
    let digits : List ℕ = c.stan_digits.result in
    let same : c.deref.result.now ≡ spelling (echo_message stamp digits) = c.deref.ensures.value ∙ c.in_ok-text.ensures.spelled
    ∙ ap spelling c.in_ok-message.ensures in (
      stamp,
      digits,
      (c.date_of.result, c.date_of.ensures, c.stamp_of-stamp.ensures.shown),
      c.stan_digits.ensures.shown,
      subst (λ (text : List ℕ). Framed c.in-Ok.bytes.items text) same c.in-Ok.ensures.1,
    )
