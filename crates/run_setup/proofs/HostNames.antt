-- The hosts of a run, one after the other.
-- for: words::hosts_of
use Rattle.std.proofs.Common.{◌≡◌, ◌∙◌, ℕ, ◌+◌, ◌<◌, List, [], ◌∷◌, ◌++◌, Option, Some, None, ap, filter_map, get_or, length, option_to_list, refl, sym, take}
use Rattle.std.proofs.lemmas.List.{take_more}
use Rattle.std.proofs.lemmas.List.Elements.{filter_map-append}
use Rattle.std.specs.List.{cons_option}
use Rattle.sw_hosts.specs.declared.issuer_link.IssuerLink.{IssuerLink}
use Rattle.run_switch.specs.declared.setup.NamedLink.{NamedLink}
use Rattle.run_setup.specs.Words.{host_name}

one_or_none : {A : Type 0} → (o : Option A) → cons_option o [] ≡ option_to_list o
one_or_none (Some x) = refl
one_or_none None = refl

pub next_hosts : {C : Type 0} → (links : List (NamedLink (IssuerLink C))) (i : ℕ) (l : NamedLink (IssuerLink C)) → i < length links
    → l ≡ get_or links i l → filter_map host_name (take (i + 1) links) ≡ filter_map host_name (take i links) ++ option_to_list (host_name l)
next_hosts links i l lt at =
    ap (filter_map host_name) (take_more links i l lt ∙ ap (λ x. take i links ++ x ∷ []) (sym at))
    ∙ filter_map-append host_name (take i links) (l ∷ []) ∙ ap (λ ls. filter_map host_name (take i links) ++ ls) (one_or_none (host_name l))
