pub mod TableLemmas
pub mod FollowedLemmas
pub mod FollowingLemmas
pub mod ForwardedLemmas
pub mod ForwardingLemmas
pub mod StandInLemmas
