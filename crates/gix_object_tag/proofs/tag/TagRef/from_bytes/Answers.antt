use Rattle.std.proofs.Common.{◌∙◌, sym, subst, refl}
use Rattle.gix_object_tag.specs.Tag.{SpellsTarget, SpellsName}
use Rattle.std.proofs.lemmas.Result.{err_from_is_err_and}
use Rattle.gix_object_tag.specs.Views.{tagger_of}
use Rattle.gix_object_tag.specs.Faults.{InKind, InName, InTagger, InRest}
use Rattle.gix_object_tag.proofs.TagLemmas.{target_named, same_parts}
use Rattle.gix_object_tag.proofs.tag.TagRef.from_bytes.Goals as goal

pub returns-in_err-target_kind-clause-refused : goal.returns-in_err-target_kind-clause-refused
returns-in_err-target_kind-clause-refused c =
    let p = err_from_is_err_and c.from_residual-in_err-target_kind.result c.from_residual-in_err-target_kind.ensures.1 in
    let target : SpellsTarget c.args.hash_kind c.args.input.now c.in_ok-target.target.now c.in_ok-target.rest.now = target_named c.args.hash_kind c.args.input.now _ _ _ _ refl c.len_in_hex.ensures c.in_ok-target.ensures.read.0 c.in_ok-target.ensures.read.1 in
    rw (p.1, p.2) (InKind _ _ target c.in_err-target_kind.ensures.refused)

pub returns-in_err-name-clause-refused : goal.returns-in_err-name-clause-refused
returns-in_err-name-clause-refused c =
    let p = err_from_is_err_and c.from_residual-in_err-name.result c.from_residual-in_err-name.ensures.1 in
    let target : SpellsTarget c.args.hash_kind c.args.input.now c.in_ok-target.target.now c.in_ok-target.rest.now = target_named c.args.hash_kind c.args.input.now _ _ _ _ refl c.len_in_hex.ensures c.in_ok-target.ensures.read.0 c.in_ok-target.ensures.read.1 in
    rw (p.1, p.2) (InName _ _ c.in_ok-target_kind.target_kind c.in_ok-target_kind.rest.now target c.in_ok-target_kind.ensures.read c.in_err-name.ensures.refused)

pub returns-in_err-tagger-clause-refused : goal.returns-in_err-tagger-clause-refused
returns-in_err-tagger-clause-refused c =
    let p = err_from_is_err_and c.from_residual-in_err-tagger.result c.from_residual-in_err-tagger.ensures.1 in
    let target : SpellsTarget c.args.hash_kind c.args.input.now c.in_ok-target.target.now c.in_ok-target.rest.now = target_named c.args.hash_kind c.args.input.now _ _ _ _ refl c.len_in_hex.ensures c.in_ok-target.ensures.read.0 c.in_ok-target.ensures.read.1 in
    rw (p.1, p.2) (InTagger _ _ c.in_ok-target_kind.target_kind c.in_ok-target_kind.rest.now c.in_ok-name.name.now c.in_ok-name.rest.now target c.in_ok-target_kind.ensures.read c.in_ok-name.ensures.read c.in_err-tagger.ensures.refused)

pub returns-in_err-message-clause-refused : goal.returns-in_err-message-clause-refused
returns-in_err-message-clause-refused c =
    let p = err_from_is_err_and c.from_residual-in_err-message.result c.from_residual-in_err-message.ensures.1 in
    let target : SpellsTarget c.args.hash_kind c.args.input.now c.in_ok-target.target.now c.in_ok-target.rest.now = target_named c.args.hash_kind c.args.input.now _ _ _ _ refl c.len_in_hex.ensures c.in_ok-target.ensures.read.0 c.in_ok-target.ensures.read.1 in
    rw (p.1, p.2) (InRest _ _ c.in_ok-target_kind.target_kind c.in_ok-target_kind.rest.now c.in_ok-name.name.now c.in_ok-name.rest.now (tagger_of c.in_ok-tagger.tagger) c.in_ok-tagger.rest.now target c.in_ok-target_kind.ensures.read c.in_ok-name.ensures.read c.in_ok-tagger.ensures.read c.in_err-message.ensures.refused)

pub returns-clause-read : goal.returns-clause-read
returns-clause-read c = record {
  after_target = c.in_ok-target.rest.now;
  after_kind = c.in_ok-target_kind.rest.now;
  after_name = c.in_ok-name.rest.now;
  after_tagger = c.in_ok-tagger.rest.now;
  target = target_named c.args.hash_kind c.args.input.now _ _ _ _ (sym c.new.ensures) c.len_in_hex.ensures c.in_ok-target.ensures.read.0 c.in_ok-target.ensures.read.1;
  target_kind = c.in_ok-target_kind.ensures.read;
  name = subst (λ n. SpellsName c.in_ok-target_kind.rest.now n c.in_ok-name.rest.now) (sym c.new-2.ensures) c.in_ok-name.ensures.read;
  tagger = c.in_ok-tagger.ensures.read;
  rest = c.in_ok-message.ensures.read;
}

pub returns-clause-every : goal.returns-clause-every
returns-clause-every c = λ parts is.
    let target = c.in_ok-target.ensures.back parts.target is.after_target (rw c.len_in_hex.ensures is.target.hex) is.target.spelled in
    let kind = c.in_ok-target_kind.ensures.every parts.target_kind is.after_kind (rw target.1 is.target_kind) in
    let name = c.in_ok-name.ensures.every parts.name is.after_name (rw kind.1 is.name) in
    let tagger = c.in_ok-tagger.ensures.every parts.tagger is.after_tagger (rw name.1 is.tagger) in
    let rest = c.in_ok-message.ensures.every parts.message parts.signature (rw tagger.1 is.rest) in
    same_parts parts _ _ _ _ _ _ (c.new.ensures ∙ target.0) kind.0 (c.new-2.ensures ∙ name.0) tagger.0 rest.0 rest.1
