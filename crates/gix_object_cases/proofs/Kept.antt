-- A store with one object more before the others.
use Rattle.std.proofs.Common.{◌≡◌, ap, refl, sym, subst, ℕ, Bool, true, false, cond, List, ◌∷◌, Some, option_map}
use Rattle.std.specs.Prelude.{◌≢◌, find}
use Rattle.gix_hash.specs.Id.{Id, id_of}
use Rattle.gix_hash.specs.Order.{id_eq}
use Rattle.gix_hash.specs.OrderLaws.{id_eq-same, id_eq-itself}
use Rattle.gix_object_lookup.specs.Table.{Object}
use Rattle.gix_object_write.specs.Keeping.{Puts}
use Rattle.case_words.specs.Store.{table_of}
use Rattle.case_words.specs.declared.stored.Stored.{Stored}

abbrev object_of : Stored → Object
object_of stored = record { kind = stored.kind; content = stored.content.items }

module _ (stored : Stored) (objects : List Stored) where
  unlike : (other : Id) (b : Bool) → id_eq (id_of stored.id) other ≡ b → other ≢ id_of stored.id
      → option_map object_of (cond b (Some stored) (find (λ (s : Stored). id_eq (id_of s.id) other) objects)) ≡ table_of objects other
  unlike other true told differs = absurd (differs (sym (id_eq-same (id_of stored.id) other told)))
  unlike other false told differs = refl

  pub puts_first : Puts (table_of objects) (table_of (stored ∷ objects)) (id_of stored.id) (object_of stored)
  puts_first = record {
    stands = ap (λ b. option_map object_of (cond b (Some stored) (find (λ (s : Stored). id_eq (id_of s.id) (id_of stored.id)) objects))) (id_eq-itself (id_of stored.id));
    others = λ other differs. unlike other (id_eq (id_of stored.id) other) refl differs;
  }

  pub kept : (all : List Stored) (content : List ℕ) → all ≡ stored ∷ objects → stored.content.items ≡ content
      → Puts (table_of objects) (table_of all) (id_of stored.id) (record { kind = stored.kind; content = content })
  kept all content is same =
      subst (λ xs. Puts (table_of objects) (table_of xs) (id_of stored.id) (record { kind = stored.kind; content = content })) (sym is)
      (subst (λ bytes. Puts (table_of objects) (table_of (stored ∷ objects)) (id_of stored.id) (record { kind = stored.kind; content = bytes })) same puts_first)
