use Rattle.std.proofs.Common.{◌∙◌, arith, ap, get_or, map, length, suc, subst, sym, ◌<◌, [], ◌∷◌, ◌++◌, take, drop, drop-cons}
use Rattle.std.specs.List.{All}
use Rattle.std.proofs.lemmas.List.{get_or-map, take_all, take-append-drop}
use Rattle.std.proofs.lemmas.List.Elements.{All-more}
use Rattle.gix_hash.specs.declared.object_id.ObjectId.TheVariants.{Sha1}
use Rattle.gix_object_lines.specs.declared.kind.Kind.TheVariants.{Tree}
use Rattle.history_store.specs.KnownObjects.{table_of}
use Rattle.history_store.specs.Puts.{IsStoredAs}
use Rattle.history_texts.specs.Written.{naming_of}
use Rattle.history_texts.specs.declared.written.Named.{Named}
use Rattle.history_store.proofs.Maps.{map_length}
use Rattle.history_store.proofs.objects.Objects.refuse_missing.Goals as goal

-- a placeholder for an object that is missing
abbrev none : Named
none = record { id = Sha1 []; kind = Tree }

pub returns-then-not-branch-clause-missing : goal.returns-then-not-branch-clause-missing
returns-then-not-branch-clause-missing g c = λ holds.
    let named = c.args.named.now in
    let at = c.loop-object.object-index in
    let x = get_or named at none in
    let within : at < length named = omega arith in
    let long = map_length naming_of named in
    let here = get_or-map naming_of named at none (naming_of x) within in
    let all = map naming_of named in
    record {
      before = take at all;
      kind = x.kind;
      behind = drop (suc at) all;
      named_are = sym (take-append-drop at all) ∙ ap (λ rest. take at all ++ rest) (drop-cons all at (naming_of x) (omega arith) ∙ ap (λ y. y ∷ drop (suc at) all) here);
      stored = c.loop-object.invariant holds;
      missing = λ is. absurd (cc (sym c.if-not-branch.true ∙ (c.in_ok-is_stored.ensures.told holds).1 is));
    }

pub loop-object-preserved : goal.loop-object-preserved
loop-object-preserved g c = λ holds.
    let named = c.args.named.now in
    let at = c.loop-object.object-index in
    let x = get_or named at none in
    let within : at < length named = omega arith in
    let long = map_length naming_of named in
    let here = get_or-map naming_of named at none (naming_of x) within in
    let stored = IsStoredAs (table_of g.F.Files.history c.args.self.now) in
    All-more stored (map naming_of named) at (naming_of x) (omega arith) (c.loop-object.invariant holds) (subst stored (sym here) ((c.in_ok-is_stored.ensures.told holds).0 c.if-not-branch.false))

pub returns-clause-stored : goal.returns-clause-stored
returns-clause-stored g c = λ holds.
    let named = c.args.named.now in
    let long = map_length naming_of named in
    subst (All (IsStoredAs (table_of g.F.Files.history c.args.self.now))) (take_all c.loop-object.object-index (map naming_of named) (omega arith)) (c.loop-object.invariant holds)
