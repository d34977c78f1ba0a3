pub mod BlamedLemmas
pub mod MarginsListed
