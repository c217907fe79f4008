pub mod SiteLine
pub mod SiteKinds
