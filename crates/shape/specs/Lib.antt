-- What a tree is, as functions from links: read in this order.
pub mod Shape
pub mod Tally
pub mod Change
pub mod Trie
-- The laws: of siblings, of rows, of the unfolded tree and the search, of the node count, of the rules that hang.
pub mod Basics
pub mod Tallies
pub mod Order
pub mod Rows
pub mod Unfolded
pub mod Search
pub mod NodeCount
pub mod Leaves
-- .. of changes, one node at a time ..
pub mod Effects
pub mod Keeping
pub mod Link
pub mod Unlink
pub mod Partly
-- .. and of the walk down from the root.
pub mod Down
pub mod Stops
