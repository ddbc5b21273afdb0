use Rattle.std.proofs.Common.{◌≡◌, ◌∙◌, refl, sym, subst, true, false, List, ℕ, [], rules}
use Rattle.std.specs.Prelude.{Option, None, Some, is_some, unwrap_or}
use Rattle.gix_ref_file.specs.Tree.{node_at, bytes_of, IsRooted}
use Rattle.gix_ref_file.specs.Changes.{to_write}
use Rattle.gix_ref_file.specs.History.{History, Makes}
use Rattle.gix_ref_file.specs.Past.{history_of}
use Rattle.gix_ref_file.proofs.Rooted.{rooted_made, file_room}
use Rattle.gix_ref_file.proofs.Histories.{makes, append_by_write}
use Rattle.gix_ref_file.proofs.memory.MemoryFilesFiles.append.Goals as goal

no_bytes : (o : Option (List ℕ)) → is_some o ≡ false → unwrap_or o [] ≡ []
no_bytes None isnt = refl
no_bytes (Some bytes) isnt = absurd (cc isnt)

pub returns-then-branch-clause-change : goal.returns-then-branch-clause-change
returns-then-branch-clause-change c honest =
    let found : c.in_ok-lengthen.field-0 ≡ true = search rules in
    let there = sym (c.in_ok-lengthen.ensures.found honest) ∙ found in
    makes _ _ _ _ (file_room _ _ honest there) (c.in_ok-lengthen.ensures.longer honest found)

pub returns-then-branch-clause-honest : goal.returns-then-branch-clause-honest
returns-then-branch-clause-honest c honest = rooted_made _ _ _ _ (returns-then-branch-clause-change c honest) honest

pub returns-clause-change : goal.returns-clause-change
returns-clause-change c honest =
    let path = c.args.path.now in
    let missing : c.in_ok-lengthen.field-0 ≡ false = search rules in
    let none = no_bytes (bytes_of (node_at c.args.self.now.nodes path)) (sym (c.in_ok-lengthen.ensures.found honest) ∙ missing) in
    let same = c.in_ok-lengthen.ensures.none missing in
    let rooted = subst (λ (h : History). IsRooted h.tree) (sym same) honest in
    append_by_write path c.args.bytes.now _ _ _ none
    (subst (λ h. Makes (to_write path c.args.bytes.now) h (history_of c.write.new.self) c.write.result) same (c.write.ensures.change rooted))

pub returns-clause-honest : goal.returns-clause-honest
returns-clause-honest c honest =
    let missing : c.in_ok-lengthen.field-0 ≡ false = search rules in
    c.write.ensures.honest (subst (λ (h : History). IsRooted h.tree) (sym (c.in_ok-lengthen.ensures.none missing)) honest)
