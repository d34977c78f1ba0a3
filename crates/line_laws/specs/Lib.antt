pub mod FirstRule
pub mod EventRules
pub mod NetworkRules
