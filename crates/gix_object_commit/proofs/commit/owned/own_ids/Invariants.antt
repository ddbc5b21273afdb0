use Rattle.std.proofs.Common.{map, take}
use Rattle.std.specs.List.{AllZip}
use Rattle.bstr.specs.BStr.{bstr_bytes}
use Rattle.gix_object_commit.specs.Owned.{IsOwnId}
use Rattle.gix_object_commit.proofs.commit.owned.own_ids.Given as goal

abbrev pub invariant-loop-text : goal.invariant-loop-text
invariant-loop-text l = AllZip IsOwnId (map bstr_bytes (take l.text-index l.texts)) l.ids.items
