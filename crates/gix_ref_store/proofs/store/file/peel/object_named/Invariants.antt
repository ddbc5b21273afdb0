use Rattle.std.specs.Prelude.{◌-◌, length, map}
use Rattle.gix_hash.specs.Id.{id_of}
use Rattle.gix_ref_store.specs.Peels.{LeadsOver}
use Rattle.gix_ref_store.proofs.PeelLemmas.{AreApart}
use Rattle.gix_ref_store.proofs.store.file.peel.object_named.Given as goal

-- tags lead to where the walk is, and no two of them have one id
abbrev pub invariant-tags : goal.invariant-tags
invariant-tags g l =
    (g.T.Lookup.is_honest l.objects → LeadsOver (g.T.Lookup.table l.objects) (id_of l.fn.id) (map id_of l.tags.items) (id_of l.end))
    × AreApart (g.T.Lookup.ids l.objects) (map id_of l.tags.items)

-- an id of the store's fewer may come
abbrev pub decreases-tags : goal.decreases-tags
decreases-tags g l = length (g.T.Lookup.ids l.objects) - length (map id_of l.tags.items)
