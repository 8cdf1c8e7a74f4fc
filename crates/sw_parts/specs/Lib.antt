-- - *Advice of a commit, of an abort* (`sw_parts/specs/Reversals.antt`); *forwarded*
--   (`Forwards.antt`); *stand-in* (`StandIns.antt`: up to its amount; approval code SI and the
--   last four digits of the STAN); *responded* (`Responses.antt`); *answer of the simulated
--   issuer* (`sw_issuers/specs/Issuing.antt`).
pub mod Quiet
pub mod Checks
pub mod Asking
pub mod Holding
pub mod ShownBooks
pub mod Responses
pub mod Queries
pub mod Reversals
pub mod Forwards
pub mod StandIns
pub mod Routes
pub mod Staying
