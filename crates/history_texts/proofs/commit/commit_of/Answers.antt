use Rattle.std.proofs.Common.{◌∙◌, ap, map, subst, sym}
use Rattle.std.specs.Prelude.{IsTrue, List}
use Rattle.std.specs.List.{list_all}
use Rattle.bstr.specs.BStr.{bstr_bytes}
use Rattle.gix_hash.specs.Id.{id_of}
use Rattle.gix_hash.specs.declared.object_id.ObjectId.{ObjectId}
use Rattle.history_model.specs.Forms.{is_id}
use Rattle.history_model.specs.Objects.{hex}
use Rattle.history_texts.specs.Formats.{person_of}
use Rattle.history_texts.proofs.Spelled.{and_from}
use Rattle.history_texts.proofs.commit.commit_of.Goals as goal

pub returns-then-tells_more : goal.returns-then-tells_more
returns-then-tells_more c plain = absurd (cc (c.tells_more.ensures.1 (ap (λ p. p.encoding) plain.parts_are, ap (λ p. p.headers) plain.parts_are), c.if-tells_more.true))

pub returns : goal.returns
returns c =
    let no_more = c.tells_more.ensures.0 c.if-tells_more.false in
    let encoding = no_more.0 in
    let headers = no_more.1 in
    let made = c.plain_commit.ensures in
    let tree = sym c.as_bytes.ensures ∙ c.in-Some.ensures.1 ∙ ap (λ id. hex (id_of id)) (sym made.tree) in
    let parents = rw c.in-Some-2.is at c.in_ok-parents.ensures in
    let author = (rw c.in-Some-3.is at c.in_ok-author.ensures).0 ∙ ap person_of (sym made.author) in
    let committer = (rw c.in-Some-4.is at c.in_ok-committer.ensures).0 ∙ ap person_of (sym made.committer) in
    let message = sym c.as_bytes-2.ensures ∙ sym c.in_ok-message.ensures.items ∙ sym made.message in
    let ids = ap (map bstr_bytes) (sym c.as_slice.ensures) ∙ parents.1 ∙ ap (λ ids. map hex (map id_of ids)) (sym made.parents) in
    let has = and_from _ _
    (subst (λ (id : ObjectId). IsTrue (is_id c.args.kind (id_of id))) (sym made.tree) c.in-Some.ensures.0)
    (subst (λ (ids : List ObjectId). IsTrue (list_all (is_id c.args.kind) (map id_of ids))) (sym made.parents) parents.0) in (
      λ i. record { tree = tree i; parents = ids i; author = author i; committer = committer i; encoding = encoding i; headers = headers i; message = message i },
      made.plain c.args.kind has,
    )
