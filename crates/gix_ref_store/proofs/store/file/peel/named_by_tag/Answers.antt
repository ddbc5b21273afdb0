use Rattle.std.proofs.Common.{◌≡◌, ◌≢◌, ◌∙◌, refl, sym, ap, rules, Option, Some, None}
use Rattle.std.specs.Prelude.{option_map}
use Rattle.gix_object_lines.specs.declared.kind.Kind.{Kind}
use Rattle.gix_object_lines.specs.declared.kind.Kind.TheVariants as kinds
use Rattle.gix_object_lookup.specs.Table.{Object}
use Rattle.gix_ref_store.proofs.store.file.peel.named_by_tag.Goals as goal

-- what has a kind is there
found : (o : Option Object) (kind : Kind) → Some kind ≡ option_map (λ (object : Object). object.kind) o → (object : Object) × (o ≡ Some object) × (object.kind ≡ kind)
found None kind is = absurd (cc is)
found (Some object) kind is = (object, refl, cc)

pub returns-then-ne-clause-named : goal.returns-then-ne-clause-named
returns-then-ne-clause-named g c = λ honest.
    let table = g.T.Lookup.table c.args.objects.now in
    let told = rw c.in-Some.is at (c.in_ok-kind.ensures.kind honest) in
    let at = found (table _) c.in-Some.kind told in
    let other : c.in-Some.kind ≢ kinds.Tag = search rules in
    (at.0, sym (ap table c.as_oid.ensures) ∙ at.1, λ same. other (sym at.2 ∙ same))
