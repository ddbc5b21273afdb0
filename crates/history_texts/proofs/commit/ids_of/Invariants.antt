use Rattle.std.proofs.Common.{◌≡◌, map, take}
use Rattle.std.specs.Prelude.{IsTrue}
use Rattle.std.specs.List.{list_all}
use Rattle.bstr.specs.BStr.{bstr_bytes}
use Rattle.gix_hash.specs.Id.{id_of}
use Rattle.history_model.specs.Forms.{is_id}
use Rattle.history_model.specs.Objects.{hex}
use Rattle.history_texts.proofs.commit.ids_of.Given as goal

-- the ids of the texts so far
abbrev pub invariant-loop-text : goal.invariant-loop-text
invariant-loop-text l = record {
  are : IsTrue (list_all (is_id l.fn.kind) (map id_of l.ids.items));
  told : map bstr_bytes (take l.text-index l.texts) ≡ map hex (map id_of l.ids.items);
}
