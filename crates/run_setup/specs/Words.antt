-- What a run reports in words.
use Rattle.std.specs.Prelude.{◌≡◌, ℕ, List, Option, Some, None, cond, filter_map, map}
use Rattle.sw_hosts.specs.Issuers.{has_host}
use Rattle.sw_hosts.specs.declared.issuer_link.IssuerLink.{IssuerLink}
use Rattle.run_switch.specs.declared.setup.NamedLink.{NamedLink}
use Rattle.run_switch.specs.declared.setup.Setup.{Setup}
use Rattle.run_reports.specs.Hosts.{names_in}
use Rattle.run_reports.specs.declared.Words.{Words}

-- the name of a link that goes to a host
abbrev pub host_name : {C : Type 0} → NamedLink (IssuerLink C) → Option (List ℕ)
host_name l = cond (has_host l.link) (Some l.name) None

-- the flow, the names of all hosts, the journal and the sessions; and of those hosts the ones that are reached by streams
pub record IsWordsOf {C : Type 0} {g : _} (flow : List ℕ) (journal : Option (List ℕ)) (setup : Setup (IssuerLink C) g) (words : Words) : Type 0 where
  pub ready : words.ready ≡ record {
    flow = flow;
    hosts = map (λ l. l.name) setup.queried.items;
    journal = journal;
    sessions = setup.sessions;
  }
  pub hosts : names_in words.hosts ≡ filter_map host_name setup.queried.items
