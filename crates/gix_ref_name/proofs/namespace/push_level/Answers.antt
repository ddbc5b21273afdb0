use Rattle.std.specs.Prelude.{codes}
use Rattle.gix_ref_name.proofs.NamespaceLemmas.{pushed}
use Rattle.gix_ref_name.proofs.namespace.push_level.Goals as goal

pub returns : goal.returns
returns c =
    pushed c.args.out.now.items c.extend_from_slice.new.self.items c.extend_from_slice-2.new.self.items c.push.new.self.items c.args.component.now
    (codes "refs/namespaces/") c.in_ok-extend_from_slice.ensures.items c.in_ok-extend_from_slice-2.ensures.items c.in_ok-push.ensures.items
