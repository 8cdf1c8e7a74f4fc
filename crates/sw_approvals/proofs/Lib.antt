mod Notes
mod Outcomes
mod Codes
mod Chains
mod Checked
