-- What makes a map a tree, its bays, the words for what lies below a node, and document 01's example maps.
pub mod Treelike
pub mod Flat
pub mod Under
pub mod Smallest
pub mod Examples
