use Rattle.std.proofs.Common.{◌≡◌, ◌⊎◌, subst, rules}
use Rattle.std.specs.BTreeMap.{keys}
use Rattle.std.specs.Prelude.{IsTrue}
use Rattle.gix_ref_store.specs.Walks.{has}
use Rattle.gix_ref_store.proofs.store.file.walk.Walk.put_full.Goals as goal

pub returns-in_ok-keep-in-Ok-clause-only : goal.returns-in_ok-keep-in-Ok-clause-only
returns-in_ok-keep-in-Ok-clause-only g c = λ other is.
    let same : c.in-Ok.name ≡ c.args.path.now = search rules in
    subst (λ n. IsTrue (has (keys c.args.names.now) other) ⊎ (other ≡ n)) same (c.in_ok-keep-in-Ok.ensures.only other is)

pub returns-in_ok-keep-in-Ok-clause-there : goal.returns-in_ok-keep-in-Ok-clause-there
returns-in_ok-keep-in-Ok-clause-there g c = λ full.
    let same : c.in-Ok.name ≡ c.args.path.now = search rules in
    subst (λ n. IsTrue (has (keys c.keep.new.names) n)) same c.in_ok-keep-in-Ok.ensures.there
