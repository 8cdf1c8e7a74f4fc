-- That a run is ready, and what it recovered.
use Rattle.std.specs.Prelude.{◌==◌, ◌&&◌, ℕ, List, [], ◌∷◌, ◌++◌, flat_map, Option, Some, None, codes, if◌then◌else◌}
use Rattle.std.specs.Fmt.{decimal}
use Rattle.run_reports.specs.declared.ready.Ready.{Ready}
use Rattle.run_reports.specs.declared.ready.Recovered.{Recovered}

abbrev pub journal_text : Option (List ℕ) → List ℕ
journal_text None = codes "in memory"
journal_text (Some path) = path

-- each name after a space
abbrev pub hosts_text : List (List ℕ) → List ℕ
hosts_text names = flat_map (λ name. 32 ∷ name) names

abbrev pub ready_line : Ready → List ℕ
ready_line r =
    codes "cardswitch: ready: flow " ++ r.flow ++ codes ", hosts" ++ hosts_text r.hosts ++ codes ", journal " ++ journal_text r.journal
    ++ codes ", sessions " ++ decimal r.sessions ++ 10 ∷ []

abbrev pub recovered_line : Ready → Recovered → List ℕ
recovered_line r c =
    codes "cardswitch: journal " ++ journal_text r.journal ++ codes ": recovered " ++ decimal c.committed ++ codes " committed, "
    ++ decimal c.aborted ++ codes " aborted" ++ 10 ∷ []

-- nothing is recovered of a journal that had no unfinished transaction
abbrev pub ready_lines : Ready → Recovered → List ℕ
ready_lines r c = if c.committed == 0 && c.aborted == 0 then ready_line r else (recovered_line r c ++ ready_line r)
