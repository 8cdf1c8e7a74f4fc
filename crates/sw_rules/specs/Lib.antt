-- - *Comes before, comes after, placed before* (`sw_rules/specs/Flows.antt`): on the way through
--   main and one group. *What breaks a rule* (`Rules.antt`); *breaches* (`Breaches.antt`);
--   *checked set-up* (`Checked.antt`).
pub mod Spelling
pub mod Flows
pub mod Rules
pub mod Breaches
pub mod Checked
pub mod Named
