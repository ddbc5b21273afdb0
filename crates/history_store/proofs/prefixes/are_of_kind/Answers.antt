use Rattle.std.proofs.Common.{◌≡◌, ◌-◌, ◌<◌, arith, length, []}
use Rattle.std.specs.List.{slice_index_or}
use Rattle.gix_hash.specs.declared.object_id.ObjectId.TheVariants.{Sha1}
use Rattle.history_store.proofs.IdLists.{default_beyond}
use Rattle.history_store.proofs.PrefixLists.{between}
use Rattle.history_store.proofs.prefixes.are_of_kind.Goals as goal

pub returns-then-is_of_kind : goal.returns-then-is_of_kind
returns-then-is_of_kind c =
    let ids = c.args.ids.now in
    let some : 0 < length ids = c.in-Some.ensures.item.3.0 in
    let top : length ids - 1 < length ids = omega (arith, some) in
    let last = slice_index_or ids (length ids - 1) (Sha1 []) in (
      λ yes. between ids c.requires c.args.kind c.in-Some.first.now last c.in-Some.ensures.item.1 (default_beyond ids (length ids - 1) (Sha1 []) last top)
          (c.is_of_kind.ensures.0 c.if-is_of_kind.true) (c.is_of_kind-then-is_of_kind.ensures.0 yes),
      λ all. c.is_of_kind-then-is_of_kind.ensures.1 (all (length ids - 1) (Sha1 []) top),
    )
