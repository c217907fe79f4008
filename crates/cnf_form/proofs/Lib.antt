pub mod PieceLaws
pub mod LitLaws
pub mod ClauseLaws
pub mod LineLaws
pub mod SolutionLaws
pub mod JoinLaws
pub mod DerivationLaws
pub mod NewsLaws
pub mod ChainLaws
pub mod SoundLaws
pub mod CountLaws
pub mod LeanLaws
mod Examples
pub mod EncodingLaws
pub mod InputLaws
