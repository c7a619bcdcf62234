pub mod Plainly
pub mod Searches
pub mod FirstChoice
pub mod MissingOne
pub mod Recognised
pub mod NotedLemmas
