pub mod NoneJoined
pub mod PlanFound
pub mod SomeJoined
