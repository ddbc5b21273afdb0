use Rattle.std.proofs.Common.{◌∙◌, ap, ◌-◌, take, drop, length, rules}
use Rattle.std.proofs.lemmas.List.{take_rest}
use Rattle.gix_ref_format.specs.Lookup.{behind_slash}
use Rattle.gix_ref_store.specs.Stores.{base_of}
use Rattle.gix_ref_store.proofs.Homes.{main_is, linked_is}
use Rattle.gix_ref_store.proofs.store.file.Store.home.Goals as goal

pub returns-then-starts_with : goal.returns-then-starts_with
returns-then-starts_with g c = c.home_in_main.ensures ∙ main_is (base_of c.args.self.now) c.args.name.now (take (length c.args.name.now - 14) (drop 14 c.args.name.now)) (search rules) (search rules) (take_rest c.args.name.now 14)

pub returns-then-starts_with-2 : goal.returns-then-starts_with-2
returns-then-starts_with-2 g c = c.home_in_linked.ensures ∙ linked_is (base_of c.args.self.now) c.args.name.now _ (search rules) (search rules) (search rules) (c.behind_slash.ensures ∙ ap behind_slash (take_rest c.args.name.now 10))
