use Rattle.std.proofs.Common.{◌≡◌, ◌∙◌, ap, refl, sym, map, Bool, ◌||◌, List, [], ◌∷◌}
use Rattle.std.specs.List.{list_any}
use Rattle.gix_hash.specs.Id.{Id, id_of}
use Rattle.gix_hash.specs.Order.{id_eq}
use Rattle.gix_hash.specs.declared.object_id.ObjectId.{ObjectId}
use Rattle.history_model.specs.Bytes.{has_twice}
use Rattle.history_texts.specs.IdLists.{is_one_of}
use Rattle.history_texts.proofs.written.commits.has_twice.Goals as goal

any_mapped : (id : Id) (ids : List ObjectId) → list_any (id_eq id) (map id_of ids) ≡ is_one_of ids id
any_mapped id [] = refl
any_mapped id (other ∷ ids) = ap (λ b. id_eq id (id_of other) || b) (any_mapped id ids)

-- the first of those that are left
first_told : (ids rest others : List ObjectId) (id : ObjectId) (among : Bool) → has_twice id_eq (map id_of ids) ≡ has_twice id_eq (map id_of rest) → rest ≡ id ∷ others → among ≡ is_one_of others (id_of id)
    → has_twice id_eq (map id_of ids) ≡ (among || has_twice id_eq (map id_of others))
first_told ids rest others id among so_far cut is =
    so_far ∙ ap (λ l. has_twice id_eq (map id_of l)) cut ∙ ap (λ b. b || has_twice id_eq (map id_of others)) (any_mapped (id_of id) others ∙ sym is)

pub returns-then-is_among : goal.returns-then-is_among
returns-then-is_among c =
    sym (first_told c.args.ids.now c.ids.rest.now c.in-Some.others.now c.in-Some.id.now c.is_among.result c.ids.invariant c.in-Some.ensures.cases.0 c.is_among.ensures ∙ ap (λ b. b || has_twice id_eq (map id_of c.in-Some.others.now)) c.if-is_among.true)

pub ids-preserved : goal.ids-preserved
ids-preserved c =
    first_told c.args.ids.now c.ids.rest.now c.in-Some.others.now c.in-Some.id.now c.is_among.result c.ids.invariant c.in-Some.ensures.cases.0 c.is_among.ensures ∙ ap (λ b. b || has_twice id_eq (map id_of c.in-Some.others.now)) c.if-is_among.false
