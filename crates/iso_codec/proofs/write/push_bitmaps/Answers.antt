use Rattle.std.proofs.Common.{◌∙◌, sym, ap, List, ℕ, ◌++◌, ◌∷◌, [], append_assoc}
use Rattle.std.proofs.lemmas.Result.{on_ok_weaker}
use Rattle.iso_codec.proofs.BitmapWrites.{wide_bitmaps, narrow_bitmaps}
use Rattle.iso_codec.proofs.write.push_bitmaps.Goals as goal
use Rattle.iso_codec.specs.Spelling.{upper}
use Rattle.iso_codec.specs.RisingBitmaps.{bits_of, bitmaps_of}

pub returns-in_ok-push : goal.returns-in_ok-push
returns-in_ok-push c =
    let d = c.take_digit_1-one.result.0 in
    let after = c.take_digit_1-one.result.1.now in
    let ns = c.as_slice-numbers.result.now in
    let out = c.args.out.now.items in
    let e = wide_bitmaps ns after d (sym c.is_wide.ensures ∙ c.if-is_wide.true) c.take_digit_1-one.ensures.digit in
    let f = c.in_ok-push.ensures.items ∙ ap (λ (x : ℕ). out ++ x ∷ []) c.upper_digit.ensures in
    on_ok_weaker c.push_bits.result (λ h. h ∙ ap (λ (x : List ℕ). x ++ bits_of 5 31 after) f ∙ append_assoc out (upper d ∷ []) (bits_of 5 31 after)
    ∙ ap (λ (x : List ℕ). out ++ x) e ∙ ap (λ (x : List ℕ). out ++ bitmaps_of x) c.as_slice-numbers.ensures) c.push_bits.ensures

pub returns-else-is_wide : goal.returns-else-is_wide
returns-else-is_wide c =
    let ns = c.as_slice-numbers.result.now in
    let out = c.args.out.now.items in
    let e = narrow_bitmaps ns (sym c.is_wide.ensures ∙ c.if-is_wide.false) in
    on_ok_weaker c.push_bits-else-is_wide.result (λ h. h ∙ ap (λ (x : List ℕ). out ++ x) e ∙ ap (λ (x : List ℕ). out ++ bitmaps_of x)
    c.as_slice-numbers.ensures) c.push_bits-else-is_wide.ensures
