-- The links to hosts, one after the other.
-- for: links::links_to_hosts
use Rattle.std.proofs.Common.{◌≡◌, ◌∙◌, ℕ, ◌+◌, ◌<◌, ◌≤◌, List, [], ◌∷◌, ◌++◌, Some, ap, get_or, length, map, sym, subst, take}
use Rattle.std.proofs.lemmas.List.{map_more, take_all}
use Rattle.cli_config.specs.declared.config.Config.{Config}
use Rattle.cli_config.specs.declared.config.Host.{Host}
use Rattle.run_setup.specs.Links.{AddsLink, AreLinksOf, host_link, host_query}
use Rattle.run_setup.specs.Plans.{links_of, queries_of}
use Rattle.run_setup.specs.Profiles.{IsHostsFault, IsProfileFault, wire_profile}
use Rattle.run_setup.specs.declared.error.SetupError.{SetupError}
use Rattle.run_setup.specs.declared.error.SetupError.TheVariants.{BadLimit, OutOfMemory, Profile}
use Rattle.run_setup.specs.declared.links.Links.{Links}

next : {A : Type 0} (shown : Host → A) (hosts : List Host) (i : ℕ) (h : Host) → i < length hosts → h ≡ get_or hosts i h
    → map shown (take i hosts) ++ shown h ∷ [] ≡ map shown (take (i + 1) hosts)
next shown hosts i h lt at = subst (λ (x : Host). map shown (take i hosts) ++ shown x ∷ [] ≡ map shown (take (i + 1) hosts)) (sym at)
    (sym (map_more shown hosts i h lt))

pub link_more : (hosts : List Host) (i : ℕ) (h : Host) (before after : Links) → i < length hosts → h ≡ get_or hosts i h
    → AreLinksOf (map host_query (take i hosts)) (map host_link (take i hosts)) before → AddsLink (host_query h) (host_link h) before after
    → AreLinksOf (map host_query (take (i + 1) hosts)) (map host_link (take (i + 1) hosts)) after
link_more hosts i h before after lt at so_far more = record {
  queried = more.queried ∙ ap (λ ls. ls ++ host_query h ∷ []) so_far.queried ∙ next host_query hosts i h lt at;
  advised = more.advised ∙ ap (λ ls. ls ++ host_link h ∷ []) so_far.advised ∙ next host_link hosts i h lt at;
}

pub links_of_all : (c : Config) (stated hosts : List Host) (i : ℕ) (links : Links) → c.hosts ≡ Some stated → hosts ≡ stated → length hosts ≤ i
    → AreLinksOf (map host_query (take i hosts)) (map host_link (take i hosts)) links → AreLinksOf (queries_of c) (links_of c) links
links_of_all c stated hosts i links is same all so_far =
    rw (is, sym same, sym (take_all i hosts all)) so_far

-- a host whose profile file is not taken
pub host_refused : (c : Config) (stated hosts : List Host) (i : ℕ) (h : Host) (e : SetupError) → c.hosts ≡ Some stated → hosts ≡ stated → i < length hosts
    → h ≡ get_or hosts i h → IsProfileFault (wire_profile h.wire) e → IsHostsFault c e
host_refused c stated hosts i h (Profile p cause) is same lt at fault =
    (hosts, is ∙ ap (λ (x : List Host). Some x) (sym same), record { index = i; host = h; within = lt; at = at; profile = fault })
host_refused c stated hosts i h OutOfMemory is same lt at fault = tt
host_refused c stated hosts i h (BadLimit n) is same lt at fault = absurd fault
