pub use Rattle.gix_traverse_commit.specs.Awaited
pub use Rattle.gix_traverse_commit.specs.Giving
pub use Rattle.gix_traverse_commit.specs.Simply
pub use Rattle.gix_traverse_topo.specs.Asking
pub use Rattle.gix_traverse_topo.specs.Faults
pub use Rattle.gix_traverse_topo.specs.Giving as TopoGiving
pub use Rattle.gix_traverse_topo.specs.Nodes
pub use Rattle.gix_traverse_topo.specs.Standing
pub use Rattle.gix_traverse_topo.specs.Waiting
pub use Rattle.gix_traverse_topo.specs.Walking
pub use Rattle.gix_traverse_tree.specs.AtPaths
pub use Rattle.gix_traverse_tree.specs.Breadth
pub use Rattle.gix_traverse_tree.specs.Calls
pub use Rattle.gix_traverse_tree.specs.Depth
pub use Rattle.gix_traverse_tree.specs.Nodes as TreeNodes
pub use Rattle.gix_traverse_tree.specs.Opened
pub use Rattle.gix_traverse_tree.specs.Orders
pub use Rattle.gix_traverse_tree.specs.Recorder
pub use Rattle.gix_traverse_tree.specs.Trees
