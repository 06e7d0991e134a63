pub mod LineRules
pub mod RuleOrder
pub mod Saying
pub mod Tables
pub mod Texts
