mod Descending
mod LocalEdges
mod Named
mod NamedOrders
mod NamedParts
mod NamedSccs
mod NamedSinks
mod Numbers
mod Parts
mod Paths
pub mod Places
mod RegionEdges
mod Rows
mod Sinking
pub mod Walks
