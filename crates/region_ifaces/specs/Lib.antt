pub mod RegionEdges
