-- A masked text depends only on what is not masked.
-- for: laws::masked_texts_hide
use Rattle.std.proofs.Common.{◌≡◌, ◌∙◌, ◌||◌, ◌==◌, ℕ, Bool, true, false, cond, List, [], ◌∷◌, ◌++◌, refl, sym, ap}
use Rattle.std.specs.Prelude.{codes}
use Rattle.std.specs.Fmt.{decimal}
use Rattle.std.specs.List.{flat_map}
use Rattle.iso_mask.proofs.Masks.{number_same}
use Rattle.iso_mask.specs.Masks.{masked_number}
use Rattle.iso_msg.specs.Table.{form_of}
use Rattle.iso_msg.specs.Messages.{Fields, PlainMessage}
use Rattle.cli_forms.specs.declared.masking.Masking.TheVariants.{On}
use Rattle.cli_decode.specs.Decoded.{MaskedTextsHide, header_line, headed_text, line_of, outcome_text, shown_line, view_text}
use Rattle.cli_decode.specs.Masks.{AgreeFields, AgreeMessages, AgreesAs, is_hidden, masked_length}

-- a field's line, by whether it is field 2 and whether it is hidden
abbrev line_for : Bool → Bool → ℕ → List ℕ → List ℕ
line_for two hidden n v =
    cond (two || hidden) (decimal n ++ (codes "* " ++ (cond two (masked_number v) (masked_length v) ++ codes "\n"))) (line_of (form_of n) n v)

line_same : (two hidden : Bool) (n : ℕ) (v w : List ℕ) → AgreesAs two hidden v w → line_for two hidden n v ≡ line_for two hidden n w
line_same true hidden n v w h = ap (λ (l : List ℕ). decimal n ++ (codes "* " ++ (l ++ codes "\n"))) (number_same v w h)
line_same false true n v w h = ap (λ k. decimal n ++ (codes "* " ++ ((decimal k ++ codes " bytes") ++ codes "\n"))) h
line_same false false n v w h = ap (λ (l : List ℕ). line_of (form_of n) n l) h

fields_same : (fs gs : Fields) → AgreeFields fs gs → flat_map (shown_line On) fs ≡ flat_map (shown_line On) gs
fields_same [] [] h = refl
fields_same [] (g ∷ gs) h = absurd h
fields_same (f ∷ fs) [] h = absurd h
fields_same (f ∷ fs) (g ∷ gs) h =
    ap (λ (l : List ℕ). l ++ flat_map (shown_line On) fs)
    (line_same (f.0 == 2) (is_hidden f.0) f.0 f.1 g.1 h.1 ∙ ap (λ n. shown_line On (n, g.1)) h.0)
    ∙ ap (λ (l : List ℕ). shown_line On g ++ l) (fields_same fs gs h.2)

view_same : (n : ℕ) (header : List ℕ) (m k : PlainMessage) → AgreeMessages m k → view_text On n header m ≡ view_text On n header k
view_same n header m k h =
    ap (λ (d : List ℕ). codes "message " ++ (decimal n ++ (codes "\n"
    ++ (header_line header ++ (codes "mti " ++ (d ++ (codes "\n" ++ flat_map (shown_line On) m.fields))))))) h.0
    ∙ ap (λ (t : List ℕ). codes "message " ++ (decimal n ++ (codes "\n" ++ (header_line header ++ (codes "mti " ++ (k.mti ++ (codes "\n" ++ t)))))))
    (fields_same m.fields k.fields h.1)

pub texts_hide : MaskedTextsHide
unfolding headed_text
texts_hide n header f g m k rf rg h = ap (outcome_text On n header) rf ∙ view_same n header m k h ∙ sym (ap (outcome_text On n header) rg)
