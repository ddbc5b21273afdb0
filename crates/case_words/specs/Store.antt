-- The objects of a store, the first of an id before others.
use Rattle.std.specs.Prelude.{List, find, map, option_map}
use Rattle.gix_hash.specs.Id.{Id, id_of}
use Rattle.gix_hash.specs.Order.{id_eq}
use Rattle.gix_object_lookup.specs.Table.{Table}
use Rattle.case_words.specs.declared.stored.Stored.{Stored}

abbrev pub ids_of : List Stored → List Id
ids_of objects = map (λ (stored : Stored). id_of stored.id) objects

abbrev pub table_of : List Stored → Table
table_of objects =
    λ id. option_map
    (λ (stored : Stored). record { kind = stored.kind; content = stored.content.items })
    (find (λ (stored : Stored). id_eq (id_of stored.id) id) objects)
