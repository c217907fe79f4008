pub mod NumeralLemmas
pub mod CheckLemmas
pub mod CommandLemmas
pub mod CommandExamples
