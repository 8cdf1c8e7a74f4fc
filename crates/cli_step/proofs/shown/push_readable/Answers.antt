use Rattle.std.proofs.Common.{◌≡◌, ◌∙◌, ◌<◌, ◌++◌, ◌∷◌, [], List, ℕ, ap, append_assoc, get_or, string_bytes, sym, take}
use Rattle.std.proofs.lemmas.List.{take_more}
use Rattle.cli_step.proofs.Puts.{readable_byte}
use Rattle.cli_step.proofs.shown.push_readable.Goals as goal

pub loop-byte-preserved : goal.loop-byte-preserved
loop-byte-preserved c =
    let value = c.args.value.now in
    let index = c.loop-byte.byte-index in
    let before = string_bytes c.args.text.now in
    let small = readable_byte value index c.requires c.loop-byte-test.true in
    let byte : c.from.result ≡ get_or value index 0 = c.from.ensures in
    let ascii : c.from.result < 128 = rw byte small in
    c.in_ok-push.ensures.bytes ∙ ap (λ (t : List ℕ). string_bytes c.loop-byte.text ++ t) (c.in_ok-push.ensures.ascii ascii ∙ ap (λ n. n ∷ []) byte)
    ∙ ap (λ (t : List ℕ). t ++ get_or value index 0 ∷ []) c.loop-byte.invariant
    ∙ append_assoc before (take index value) (get_or value index 0 ∷ [])
    ∙ ap (λ (t : List ℕ). before ++ t) (sym (take_more value index 0 c.loop-byte-test.true))
