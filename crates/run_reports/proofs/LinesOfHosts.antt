-- The lines of hosts, one after the other.
-- for: hosts::Hosts::counts, hosts::Hosts::news
use Rattle.std.proofs.Common.{◌≡◌, ◌∙◌, ℕ, ◌+◌, ◌<◌, List, [], ◌∷◌, ◌++◌, ap, append-nil, append_assoc, flat_map, get_or, inl, inr, length, map, refl, set, sym, take}
use Rattle.std.proofs.lemmas.Grind.{flat_map-append}
use Rattle.std.proofs.Math.Seq.{map-set_same}
use Rattle.std.proofs.lemmas.List.{length-set, map-append, map_more, take_more_set, with_items_is}
use Rattle.std.specs.Vec.{with_items}
use Rattle.std.specs.Global.{Vec}
use Rattle.sw_wire.specs.HostLine.{host_line}
use Rattle.sw_wire.specs.declared.counts.Counts.{Counts}
use Rattle.sw_wire.specs.declared.state.HostState.{HostState}
use Rattle.run_reports.specs.Hosts.{AreHostLines, AreNews, IsNewsOf, Reports, line_of}
use Rattle.run_reports.specs.declared.hosts.NamedHost.{NamedHost}

-- one more host has its line
line_more : (names : List (List ℕ)) (text : List ℕ) (name : List ℕ) (counts : Counts) → AreHostLines names text
    → AreHostLines (names ++ name ∷ []) (text ++ host_line name counts)
line_more names text name counts lines = record {
  rows = lines.rows ++ (name, counts) ∷ [];
  named = map-append (λ row. row.0) lines.rows ((name, counts) ∷ []) ∙ ap (λ ns. ns ++ name ∷ []) lines.named;
  written =
      sym (flat_map-append line_of lines.rows ((name, counts) ∷ []) ∙ ap (λ ls. flat_map line_of lines.rows ++ ls) (append-nil (host_line name counts))
      ∙ ap (λ ls. ls ++ host_line name counts) (sym lines.written));
}

pub next_line : (hosts : List NamedHost) (i : ℕ) (h : NamedHost) (text line after : List ℕ) (counts : Counts) → i < length hosts
    → h ≡ get_or hosts i h → line ≡ host_line h.name counts → after ≡ text ++ line → AreHostLines (map (λ n. n.name) (take i hosts)) text
    → AreHostLines (map (λ n. n.name) (take (i + 1) hosts)) after
next_line hosts i h text line after counts lt at is added lines =
    let names = map_more (λ n. n.name) hosts i h lt ∙ ap (λ n. map (λ m. m.name) (take i hosts) ++ n.name ∷ []) (sym at) in
    rw (names, added, is) (line_more (map (λ n. n.name) (take i hosts)) text h.name counts lines)

-- one more host has its news
news_more : (names : List (List ℕ)) (text name line : List ℕ) → AreNews names text → IsNewsOf name line → AreNews (names ++ name ∷ []) (text ++ line)
news_more [] text name line none news = (line, [], news, refl, ap (λ l. l ++ line) none ∙ sym (append-nil line))
news_more (n ∷ ns) text name line (first, more, is, others, all) news =
    (first, more ++ line, is, news_more ns more name line others news, ap (λ l. l ++ line) all ∙ append_assoc first more line)

news_of : (name line : List ℕ) (before after : HostState) → Reports name before after line → IsNewsOf name line
news_of name line before after (inl (same, none)) = inl none
news_of name line before after (inr (other, times, is)) = inr (times, after, is)

pub next_news : (hosts : List NamedHost) (i : ℕ) (d new : NamedHost) (names : List (List ℕ)) (text line after : List ℕ) → i < length hosts
    → new.name ≡ (get_or hosts i d).name → Reports (get_or hosts i d).name (get_or hosts i d).reported new.reported line → after ≡ text ++ line
    → (map (λ n. n.name) hosts ≡ names) × AreNews (map (λ n. n.name) (take i hosts)) text
    → (map (λ n. n.name) (set hosts i new) ≡ names) × AreNews (map (λ n. n.name) (take (i + 1) (set hosts i new))) after
next_news hosts i d new names text line after lt same news added (all, so_far) =
    let h : NamedHost = get_or hosts i d in
    let more : map (λ n. n.name) (take (i + 1) (set hosts i new)) ≡ map (λ n. n.name) (take i hosts) ++ h.name ∷ [] =
    ap (map (λ n. n.name)) (take_more_set hosts i new lt) ∙ map-append (λ n. n.name) (take i hosts) (new ∷ [])
    ∙ ap (λ n. map (λ m. m.name) (take i hosts) ++ n ∷ []) same in (
      map-set_same (λ n. n.name) hosts i new d same ∙ all,
      rw (more, added) (news_more (map (λ n. n.name) (take i hosts)) text h.name line so_far (news_of h.name line h.reported new.reported news)),
    )

-- the names stay
pub names_kept : (v : Vec NamedHost) (hosts : List NamedHost) (i : ℕ) (d new : NamedHost) (names : List (List ℕ)) → length hosts ≡ v.len
    → new.name ≡ (get_or hosts i d).name → map (λ n. n.name) hosts ≡ names → map (λ n. n.name) (with_items v (set hosts i new)).items ≡ names
names_kept v hosts i d new names long same all =
    ap (map (λ n. n.name)) (with_items_is v (set hosts i new) (length-set hosts i new ∙ long)) ∙ (map-set_same (λ n. n.name) hosts i new d same ∙ all)
