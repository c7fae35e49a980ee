-- Values that nothing needs, removed.
pub mod RemovalBehaviour
pub mod DeadMayGo
pub mod RemovalScopes
pub mod NoneDeadByName
pub mod DeadByPlace
pub mod NoneDeadByPlace
pub mod NamedRemoval
pub mod RemovalRules
pub mod SecondRemoval
pub mod DeadExists
