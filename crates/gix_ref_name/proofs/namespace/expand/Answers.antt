use Rattle.std.proofs.Common.{◌∙◌}
use Rattle.gix_ref_name.specs.Names.{part_of}
use Rattle.gix_ref_name.specs.Namespaces.{expanded}
use Rattle.gix_ref_name.proofs.NamespaceLemmas.{level_on, level_last}
use Rattle.gix_ref_name.proofs.namespace.expand.Goals as goal

pub loop-component-preserved : goal.loop-component-preserved
loop-component-preserved c =
    level_on (expanded (part_of c.args.name)) c.loop-component.out.items c.loop-component.left.now c.push_level.new.out.items c.in-Some.component.now c.in-Some.rest.now
    c.loop-component.invariant c.in-Some.ensures.0 c.in-Some.ensures.1 c.in_ok-push_level.ensures

pub returns : goal.returns
returns c =
    c.new-bytes.ensures
    ∙ level_last (expanded (part_of c.args.name)) c.loop-component.out.items c.loop-component.left.now c.push_level-2.new.out.items
    c.loop-component.invariant c.in_default.ensures c.in_ok-push_level-2.ensures
