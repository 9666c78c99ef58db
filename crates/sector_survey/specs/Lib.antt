pub mod Journals
pub mod Findings
pub mod Steps
pub mod Verdicts
pub mod Summaries
pub mod Cleanness
pub mod Reports
