pub mod ReadTrees
