use Rattle.std.proofs.Common.{◌∙◌, subst}
use Rattle.gix_hash.specs.Id.{id_of}
use Rattle.gix_hash.specs.declared.kind.Kind.{Kind}
use Rattle.history_store.specs.Prefixes.{CanName, IsHit}
use Rattle.history_repository.specs.Face.{known_ids}
use Rattle.history_repository.specs.Meanings.{SpellsPrefix}
use Rattle.history_repository.proofs.ShortIds.{absent_told, can_name, kinds_known, no_short_id, one_stored, one_told, several_told}
use Rattle.history_repository.proofs.words.look_up_id.Goals as goal

pub lookup_prefix-requires : goal.lookup_prefix-requires
lookup_prefix-requires g c = subst (λ (kind : Kind). CanName kind c.in-Some.prefix) c.kind.ensures (can_name c.kind.result c.args.word.now c.in-Some.prefix c.in-Some.ensures)

pub returns-in_default : goal.returns-in_default
returns-in_default g c = λ r s. no_short_id r c.kind.result c.args.word.now (c.kind.ensures ∙ s.objects_kind) c.in_default.ensures

pub returns-in-Absent : goal.returns-in-Absent
returns-in-Absent g c = λ r s.
    let H = g.F.Files.is_honest in
    let history = g.F.Files.history in
    let own = c.args.repository.now in
    let word = c.args.word.now in
    let prefix = c.in-Some.prefix in
    let spelled = subst (λ (kind : Kind). SpellsPrefix kind word prefix) c.kind.ensures c.in-Some.ensures in
    let hit = subst (IsHit (known_ids own) prefix) c.in-Absent.is (c.lookup_prefix.ensures.hit (kinds_known H history own r s)) in
    absent_told H history own r s word prefix spelled hit

pub returns-in-One : goal.returns-in-One
returns-in-One g c = λ r s.
    let H = g.F.Files.is_honest in
    let history = g.F.Files.history in
    let own = c.args.repository.now in
    let word = c.args.word.now in
    let prefix = c.in-Some.prefix in
    let spelled = subst (λ (kind : Kind). SpellsPrefix kind word prefix) c.kind.ensures c.in-Some.ensures in
    let hit = subst (IsHit (known_ids own) prefix) c.in-One.is (c.lookup_prefix.ensures.hit (kinds_known H history own r s)) in
    let stored = one_stored H history own r s word prefix spelled c.in-One.id hit in
    record { reads = one_told H history own r s word prefix spelled c.in-One.id hit; value = stored.0; stored = stored.1 }

pub returns-in-Several : goal.returns-in-Several
returns-in-Several g c = λ r s.
    let H = g.F.Files.is_honest in
    let history = g.F.Files.history in
    let own = c.args.repository.now in
    let word = c.args.word.now in
    let prefix = c.in-Some.prefix in
    let spelled = subst (λ (kind : Kind). SpellsPrefix kind word prefix) c.kind.ensures c.in-Some.ensures in
    let hit = subst (IsHit (known_ids own) prefix) c.in-Several.is (c.lookup_prefix.ensures.hit (kinds_known H history own r s)) in
    several_told H history own r s word prefix spelled hit
