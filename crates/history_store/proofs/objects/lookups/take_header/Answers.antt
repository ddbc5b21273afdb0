use Rattle.std.proofs.Common.{◌∙◌, sym, ap, subst, arith}
use Rattle.std.specs.Option.{option_map}
use Rattle.gix_object_lookup.specs.Table.{content_or_none}
use Rattle.history_texts.specs.ObjectTexts.{IsNoObject}
use Rattle.history_texts.proofs.TextObjects.{object_in-none, object_in-read}
use Rattle.history_store.proofs.objects.lookups.take_header.Goals as goal

pub returns-in-Some-clause-kind : goal.returns-in-Some-clause-kind
returns-in-Some-clause-kind c =
    sym (ap (option_map (λ object. object.kind)) (object_in-read c.args.text.now.items c.deref.result.now c.in-Some.kind c.in-Some.start c.deref.ensures.value c.in-Some.ensures.text (omega (arith, c.len-length.ensures, c.len-length.type_inv))))

pub returns-in-Some-clause-content : goal.returns-in-Some-clause-content
returns-in-Some-clause-content c =
    c.cut_front.ensures
    ∙ sym (ap content_or_none (object_in-read c.args.text.now.items c.deref.result.now c.in-Some.kind c.in-Some.start c.deref.ensures.value c.in-Some.ensures.text (omega (arith, c.len-length.ensures, c.len-length.type_inv))))

pub returns-in-None-clause-kind : goal.returns-in-None-clause-kind
returns-in-None-clause-kind c =
    sym (ap (option_map (λ object. object.kind)) (object_in-none c.args.text.now.items (subst IsNoObject c.deref.ensures.value c.in-None.ensures.none)))

pub returns-in-None-clause-content : goal.returns-in-None-clause-content
returns-in-None-clause-content c =
    c.clear.ensures.items
    ∙ sym (ap content_or_none (object_in-none c.args.text.now.items (subst IsNoObject c.deref.ensures.value c.in-None.ensures.none)))
