-- What stands at the front of bytes where a length is expected.
-- for: lead::lead_at
use Rattle.std.proofs.Common.{◌≡◌, ◌∙◌, sym, ap, ℕ, ◌+◌, ◌≤◌, List, length, Some, arith}
use Rattle.std.proofs.lemmas.List.{length-take}
use Rattle.dialect_toml.specs.declared.frame.Frame.{Frame}
use Rattle.dialect_frame.specs.declared.lead.Lead.{Lead}
use Rattle.dialect_frame.specs.declared.lead.Lead.TheVariants.{Short, Bad, Message}
use Rattle.dialect_frame.specs.Forms.{beside, lead_in, number_in, width}
use Rattle.dialect_frame.specs.Feeds.{IsLead, IsLeadFor}

some-same : (x y : ℕ) → Some x ≡ Some y → x ≡ y
some-same x y e = cc

pub lead-for : (f : Frame) (bytes : List ℕ) (number : ℕ) (r : Lead) → width f.length ≤ length bytes → number_in f.length (lead_in f bytes) ≡ Some number
    → IsLeadFor (beside f) f.most number r → IsLead f bytes r
lead-for f bytes number Short long e h = absurd h
lead-for f bytes number Bad long e h = (long, λ n is. h n (some-same number (beside f + n) (sym e ∙ is.1)) is.2)
lead-for f bytes number (Message n) long e h = (long, (omega (arith, long, length-take (width f.length) bytes), e ∙ ap Some h.0, h.1))
