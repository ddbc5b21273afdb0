use Rattle.std.proofs.Common.{◌≡◌, ◌∙◌, subst, sym}
use Rattle.gix_hash.specs.Id.{id_of}
use Rattle.gix_object_lines.specs.declared.kind.Kind.{Kind as ObjectKind}
use Rattle.gix_object_lines.specs.declared.kind.Kind.TheVariants as kinds
use Rattle.history_model.specs.Objects.{object_text}
use Rattle.history_texts.specs.Malformed.{IsTagOfOther}
use Rattle.history_texts.specs.Written.{IsMalformed}
use Rattle.history_check_objects.specs.Flaws.{HasFile}
use Rattle.history_check_objects.proofs.Texts.{bad_object, bad_tree}
use Rattle.history_check_objects.proofs.reading.malformed.Goals as goal
use Rattle.history_check_objects.proofs.reading.malformed.Goals.{in-Tree, in_default, in-Tag, in_default-matches, else-matches-2-via-then-matches-2+else-is_tag_of_other, else-matches-2-via-else-matches-2}

pub returns-then-matches : goal.returns-then-matches
returns-then-matches c = λ tree has bad.
    let is : c.args.object ≡ kinds.Tree = elim c.match-matches.branch [ in-Tree w ↦ w.in-Tree.is | in_default w ↦ absurd (cc (sym c.if-matches.true ∙ w.matches-is)) ] in
    bad_tree c.args.kind tree (id_of c.args.id.now) c.args.place.items c.args.content.now
    (subst (λ (o : ObjectKind). HasFile c.args.kind tree c.args.place.items (id_of c.args.id.now) (object_text o c.args.content.now)) is has)
    (subst (λ (o : ObjectKind). IsMalformed c.args.kind o c.args.content.now) is bad)

pub returns : goal.returns
returns c = λ tree has bad.
    let other : (c.args.object ≡ kinds.Tree → ⊥) = elim c.match-matches.branch [ in-Tree w ↦ absurd (cc (sym c.if-matches.false ∙ w.matches-is)) | in_default w ↦ w.in_default.not-Tree ] in
    let of_commit : (c.args.object ≡ kinds.Tag → IsTagOfOther c.args.content.now → ⊥) = elim c.else-matches-2.branch [
      | else-matches-2-via-then-matches-2+else-is_tag_of_other w ↦ λ is of_other. cc (sym w.if-is_tag_of_other.false ∙ w.is_tag_of_other.ensures.1 of_other)
      | else-matches-2-via-else-matches-2 w ↦ elim c.match-matches-2.branch [
        | in-Tag v ↦ absurd (cc (sym w.if-matches-2.false ∙ v.matches-is))
        | in_default-matches v ↦ λ is of_other. v.in_default-matches.not-Tag is
      ]
    ] in
    bad_object c.args.kind tree (id_of c.args.id.now) c.args.place.items c.args.content.now c.args.object other has
    (record { malformed = bad; since = λ before. cc (sym c.if-branch.false ∙ c.in_ok-is_before_1970.ensures.1 before); of_commit = of_commit })
