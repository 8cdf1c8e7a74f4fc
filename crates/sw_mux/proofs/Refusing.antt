-- When a request is refused, and what a response answers.
-- for: mux::Mux::request, mux::Mux::response
use Rattle.std.proofs.Common.{◌≡◌, ℕ, true, false, List, Some, None, sym, ap, ◌∙◌}
use Rattle.iso_msg.specs.Messages.{PlainMessage}
use Rattle.sw_base.specs.Refusals.{refused_if}
use Rattle.sw_mux.specs.Keys.{key}
use Rattle.sw_mux.specs.Waiting.{WaitingKeys, waits, refusal, refusal_of, answers}
use Rattle.sw_mux.specs.declared.error.MuxError.TheVariants.{DuplicateKey}

pub free : (m : PlainMessage) (k : List ℕ) (es : WaitingKeys) → Some k ≡ key m → waits k es ≡ false → refusal m es ≡ None
free m k es is h = ap (λ z. refusal_of z es) (sym is) ∙ ap (λ b. refused_if b DuplicateKey) h

pub taken : (m : PlainMessage) (k : List ℕ) (es : WaitingKeys) → Some k ≡ key m → waits k es ≡ true → refusal m es ≡ Some DuplicateKey
taken m k es is h = ap (λ z. refusal_of z es) (sym is) ∙ ap (λ b. refused_if b DuplicateKey) h

pub answered : (m : PlainMessage) (k : List ℕ) (es : WaitingKeys) → Some k ≡ key m → answers (key m) es ≡ waits k es
answered m k es is = ap (λ z. answers z es) (sym is)
