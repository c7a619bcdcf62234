pub mod SealedTie
pub mod CommandLists
pub mod EventLists
pub mod FreshWorld
pub mod WholeEvents
pub mod Growth
pub mod SteadySessions
