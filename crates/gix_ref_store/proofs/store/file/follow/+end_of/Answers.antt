use Rattle.std.proofs.Common.{◌≡◌, ◌∙◌, sym, ap, subst, ℕ, List, [], ◌∷◌, ◌++◌, true, false, option_map}
use Rattle.std.proofs.lemmas.Result.{err_from_is_err_and}
use Rattle.gix_hash.specs.Id.{id_of}
use Rattle.gix_object_lines.specs.Bytes.{is_among}
use Rattle.gix_ref_name.specs.Targets.{target_view}
use Rattle.gix_ref_store.specs.Finds.{state_of}
use Rattle.gix_ref_store.specs.Follows.{FollowFault, IsGiven, follow}
use Rattle.gix_ref_store.specs.RefStates.{Stands}
use Rattle.gix_ref_store.specs.Searches.{reads_in}
use Rattle.gix_ref_store.proofs.FollowLemmas.{met_again, not_read, next_is, ends_on}
use Rattle.gix_ref_store.proofs.store.file.follow.+end_of.Goals as goal

pub returns-then-contains-clause-followed : goal.returns-then-contains-clause-followed
returns-then-contains-clause-followed g t c = λ honest.
    let from = c.args.from.now in
    let peeled = option_map id_of from.peeled in
    let among : is_among c.args.seen.items c.in-Symbolic.name ≡ true = sym (c.contains.ensures.value ∙ ap (λ (s : List (List ℕ)). is_among s c.in-Symbolic.name) c.deref.ensures.value) ∙ c.if-contains.true in
    met_again (reads_in (g.F.Files.history c.args.search.now.store.now.files).tree c.args.search.now) c.args.seen.items from.name c.in-Symbolic.name peeled c.args.left (state_of from)
    (ap (λ t. Stands (target_view t) peeled) c.in-Symbolic.is) among

pub returns-in-Err-clause-followed : goal.returns-in-Err-clause-followed
returns-in-Err-clause-followed g t c = λ honest.
    let from = c.args.from.now in
    let peeled = option_map id_of from.peeled in
    let among : is_among c.args.seen.items c.in-Symbolic.name ≡ false = sym (c.contains.ensures.value ∙ ap (λ (s : List (List ℕ)). is_among s c.in-Symbolic.name) c.deref.ensures.value) ∙ c.if-contains.false in
    not_read (reads_in (g.F.Files.history c.args.search.now.store.now.files).tree c.args.search.now) c.args.seen.items from.name c.in-Symbolic.name peeled c.args.left (state_of from) c.in-Err.error
    (ap (λ t. Stands (target_view t) peeled) c.in-Symbolic.is) among c.if-left-eq0.false (rw c.in-Err.is at (c.named.ensures.told honest))

pub returns-in_err-id-clause-followed : goal.returns-in_err-id-clause-followed
returns-in_err-id-clause-followed g t c = λ honest.
    let read = reads_in (g.F.Files.history c.args.search.now.store.now.files).tree c.args.search.now in
    let from = c.args.from.now in
    let peeled = option_map id_of from.peeled in
    let among : is_among c.args.seen.items c.in-Symbolic.name ≡ false = sym (c.contains.ensures.value ∙ ap (λ (s : List (List ℕ)). is_among s c.in-Symbolic.name) c.deref.ensures.value) ∙ c.if-contains.false in
    let told = rw c.in-Ok.is at (c.named.ensures.told honest) in
    let after = c.in_ok-push.ensures.items ∙ ap (λ n. c.args.seen.items ++ n ∷ []) c.in_ok-try_clone.ensures in
    let same = next_is read c.args.seen.items from.name c.in-Symbolic.name peeled c.args.left (state_of from) c.in-Ok.next _ (ap (λ t. Stands (target_view t) peeled) c.in-Symbolic.is) among c.if-left-eq0.false told.0 told.1 after in
    let p = err_from_is_err_and c.from_residual-in_err-id.result c.from_residual-in_err-id.ensures.1 in
    rw (p.1, p.2) (subst (λ f. FollowFault IsGiven f c.in_err-id.field-0.0) same (c.in_err-id.ensures.followed honest))

pub returns-clause-followed : goal.returns-clause-followed
returns-clause-followed g t c = λ honest.
    let read = reads_in (g.F.Files.history c.args.search.now.store.now.files).tree c.args.search.now in
    let from = c.args.from.now in
    let peeled = option_map id_of from.peeled in
    let among : is_among c.args.seen.items c.in-Symbolic.name ≡ false = sym (c.contains.ensures.value ∙ ap (λ (s : List (List ℕ)). is_among s c.in-Symbolic.name) c.deref.ensures.value) ∙ c.if-contains.false in
    let told = rw c.in-Ok.is at (c.named.ensures.told honest) in
    let after = c.in_ok-push.ensures.items ∙ ap (λ n. c.args.seen.items ++ n ∷ []) c.in_ok-try_clone.ensures in
    let same = next_is read c.args.seen.items from.name c.in-Symbolic.name peeled c.args.left (state_of from) c.in-Ok.next _ (ap (λ t. Stands (target_view t) peeled) c.in-Symbolic.is) among c.if-left-eq0.false told.0 told.1 after in
    ends_on c.unwrap_or.result _ c.in_ok-id.id _ (follow read c.args.left c.args.seen.items from.name (state_of from)) c.unwrap_or.ensures same (c.in_ok-id.ensures.followed honest)
