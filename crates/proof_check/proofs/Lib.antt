pub mod OlderLaws
