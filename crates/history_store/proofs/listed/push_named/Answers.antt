use Rattle.std.proofs.Common.{◌∙◌, ap, map, option_map, sym}
use Rattle.gix_hash.specs.Id.{id_of}
use Rattle.gix_ref_name.specs.Targets.{id_in, target_view}
use Rattle.history_model.specs.Forms.{is_name}
use Rattle.history_store.specs.AllNames.{name_entry}
use Rattle.history_store.proofs.NamesListed.{none_added}
use Rattle.history_store.proofs.listed.push_named.Goals as goal

pub returns-in_default : goal.returns-in_default
returns-in_default c = none_added (map name_entry c.args.names.now.items) c.args.found.name (is_name c.args.found.name) (id_in (target_view c.args.found.target)) (ap (option_map id_of) (sym c.in_default.is) ∙ c.id_of_target.ensures)
