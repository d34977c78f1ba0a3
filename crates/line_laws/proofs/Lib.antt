pub mod EventWords
pub mod EventRuleLemmas
pub mod NetworkRuleLemmas
