use Rattle.std.proofs.Common.{◌≡◌, List, [], ◌∷◌, ◌++◌, inl, inr, Result, Ok, Err, cond}
use Rattle.std.specs.Prelude.{IsOk, is_ok}
use Rattle.gix_traverse_tree.specs.Opened.{IsGivenBack}
use Rattle.gix_traverse_tree.proofs.depthfirst.State.push_buf.Goals as goal

pushed : {B A E : Type 0} (r : Result A E) (buffer : B) (old new : List B) → new ≡ cond (is_ok r) (old ++ buffer ∷ []) old → IsGivenBack buffer old new
pushed (Ok a) buffer old new e = inl e
pushed (Err x) buffer old new e = inr e

stands : {B A E : Type 0} (r : Result A E) (xs old new : List B) → new ≡ cond (is_ok r) xs old → IsOk r → new ≡ xs
stands (Ok a) xs old new e ok = e
stands (Err x) xs old new e ok = let z : ⊥ = cc in absurd z

pub returns-clause-given : goal.returns-clause-given
returns-clause-given c = pushed c.push.result c.args.buffer c.args.self.now.buffers.items c.push.new.self.items c.push.ensures.items

pub returns-clause-kept : goal.returns-clause-kept
returns-clause-kept c = λ room. stands c.push.result (c.args.self.now.buffers.items ++ c.args.buffer ∷ []) c.args.self.now.buffers.items c.push.new.self.items c.push.ensures.items (c.push.ensures.succeeds room)
