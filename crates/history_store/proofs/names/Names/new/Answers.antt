use Rattle.history_store.proofs.RootStores.{rooted}
use Rattle.history_store.proofs.names.Names.new.Goals as goal

pub invariant_of-result : goal.invariant_of-result
invariant_of-result g c = record { root = rooted c.args.files c.args.kind c.at_root.result c.at_root.ensures }
