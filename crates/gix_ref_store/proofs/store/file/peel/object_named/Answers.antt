use Rattle.std.proofs.Common.{◌∙◌, inr, sym, ap, subst, ◌-◌, ◌<◌, List, length, map, refl}
use Rattle.std.specs.Prelude.{is_some}
use Rattle.gix_hash.specs.Id.{Id, id_of}
use Rattle.gix_hash.specs.declared.object_id.ObjectId.{ObjectId}
use Rattle.gix_ref_store.specs.Peels.{LeadsOver}
use Rattle.gix_ref_store.proofs.PeelLemmas.{AreApart, none_apart, apart_more, fewer, leads_on, ids_more, among_test}
use Rattle.gix_ref_store.proofs.store.file.peel.object_named.Goals as goal

pub tags-init : goal.tags-init
tags-init g c =
    let table = g.T.Lookup.table c.args.objects.now in
    let ids = g.T.Lookup.ids c.args.objects.now in
    let id = id_of c.args.id in (
      λ honest. subst (λ (ts : List ObjectId). LeadsOver table id (map id_of ts) id) (sym c.new-tags.ensures.items) refl,
      subst (λ (ts : List ObjectId). AreApart ids (map id_of ts)) (sym c.new-tags.ensures.items) (none_apart ids),
    )

pub returns-then-is_among-clause-refused : goal.returns-then-is_among-clause-refused
returns-then-is_among-clause-refused g c = λ honest. (
  map id_of c.tags.tags.items,
  c.tags.invariant.0 honest,
  inr (inr (among_test c.tags.tags.items c.as_slice.result.now (id_of c.tags.end) c.is_among.result c.as_slice.ensures.value c.is_among.ensures ∙ c.if-is_among.true)),
)

pub tags-smaller : goal.tags-smaller
tags-smaller g c =
    let ids = g.T.Lookup.ids c.args.objects.now in
    let tags = map id_of c.tags.tags.items in
    let end = id_of c.tags.end in
    let same = ap (map id_of) c.in_ok-push.ensures.items ∙ ids_more c.tags.tags.items c.tags.end in
    let new = among_test c.tags.tags.items c.as_slice.result.now end c.is_among.result c.as_slice.ensures.value c.is_among.ensures ∙ c.if-is_among.false in
    let apart = apart_more ids tags end c.tags.invariant.1 new (c.in_ok-next.ensures.listed (ap is_some c.in-Some.is)) in
    subst (λ (ts : List Id). length ids - length ts < length ids - length tags) (sym same) (fewer ids tags end apart)

pub tags-preserved : goal.tags-preserved
tags-preserved g c =
    let table = g.T.Lookup.table c.args.objects.now in
    let ids = g.T.Lookup.ids c.args.objects.now in
    let tags = map id_of c.tags.tags.items in
    let end = id_of c.tags.end in
    let next = id_of c.in-Some.next in
    let same = ap (map id_of) c.in_ok-push.ensures.items ∙ ids_more c.tags.tags.items c.tags.end in
    let new = among_test c.tags.tags.items c.as_slice.result.now end c.is_among.result c.as_slice.ensures.value c.is_among.ensures ∙ c.if-is_among.false in (
      λ honest. subst (λ (ts : List Id). LeadsOver table (id_of c.args.id) ts next) (sym same)
          (leads_on table tags (id_of c.args.id) end next (c.tags.invariant.0 honest) (rw c.in-Some.is at (c.in_ok-next.ensures.named honest))),
      subst (λ (ts : List Id). AreApart ids ts) (sym same) (apart_more ids tags end c.tags.invariant.1 new (c.in_ok-next.ensures.listed (ap is_some c.in-Some.is))),
    )
