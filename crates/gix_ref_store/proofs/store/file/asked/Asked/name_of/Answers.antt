use Rattle.std.proofs.Common.{◌≡◌, ◌∙◌, sym, ap, subst, Some, rules}
use Rattle.std.specs.Prelude.{IsTrue, codes}
use Rattle.gix_object_lines.specs.NameTest.{begins, is_full_name}
use Rattle.gix_ref_store.specs.Asks.{fits, is_asked}
use Rattle.gix_ref_store.specs.Known.{known_as}
use Rattle.gix_ref_store.proofs.AskLemmas.{asked_fits, asked_from, asked_known, asked_of, asked_refs, found_of, full_of}
use Rattle.gix_ref_store.proofs.store.file.asked.Asked.name_of.Goals as goal
use Rattle.gix_ref_store.proofs.store.file.asked.Asked.name_of.Goals.{else-starts_with-via-then-starts_with+else-fits, else-starts_with-via-else-starts_with}

pub returns-then-fits-clause-full : goal.returns-then-fits-clause-full
returns-then-fits-clause-full c = full_of c.in_ok-name.name c.full_name.result c.full_name.ensures

pub returns-then-fits-clause-asked : goal.returns-then-fits-clause-asked
returns-then-fits-clause-asked c =
    let is : c.starts_with.result ≡ begins (codes "refs/") c.as_bytes.result.now = search rules in
    asked_of c.in_ok-name.name (is_asked c.args.self) c.full_name.result c.full_name.ensures
    (asked_from c.args.self c.in_ok-name.name (ap (begins (codes "refs/")) (sym c.as_bytes.ensures) ∙ sym is ∙ c.if-starts_with.true)
    (ap (fits c.args.self) (sym c.as_bytes-then-starts_with.ensures) ∙ sym c.fits.ensures ∙ c.if-fits.true) c.in_ok-name.ensures.stays)

pub returns-then-fits-clause-found : goal.returns-then-fits-clause-found
returns-then-fits-clause-found c = λ full so.
    let same = c.in_ok-name.ensures.value ∙ ap (known_as c.args.self.composes) c.in_ok-from_slice.ensures ∙ asked_known c.args.self c.args.path.now so in
    found_of c.in_ok-name.name c.full_name.result c.full_name.ensures (subst (λ n. IsTrue (is_full_name n)) (sym same) full) ∙ ap (λ n. Some n) same

pub returns-clause-found : goal.returns-clause-found
returns-clause-found c = λ full so.
    let same = c.in_ok-name.ensures.value ∙ ap (known_as c.args.self.composes) c.in_ok-from_slice.ensures ∙ asked_known c.args.self c.args.path.now so in
    elim c.else-starts_with.branch [
      | else-starts_with-via-then-starts_with+else-fits w ↦ absurd (cc (sym w.if-fits.false ∙ w.fits.ensures ∙ ap (fits c.args.self) (w.as_bytes-then-starts_with.ensures ∙ same) ∙ asked_fits c.args.self c.args.path.now so))
      | else-starts_with-via-else-starts_with w ↦
          let is : c.starts_with.result ≡ begins (codes "refs/") c.as_bytes.result.now = search rules in
          absurd (cc (sym w.if-starts_with.false ∙ is ∙ ap (begins (codes "refs/")) (c.as_bytes.ensures ∙ same) ∙ asked_refs c.args.self c.args.path.now so))
    ]
