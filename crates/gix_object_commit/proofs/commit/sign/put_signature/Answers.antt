use Rattle.std.proofs.Common.{◌≡◌, ◌∙◌, ap, refl, ◌++◌, ◌∷◌, [], rules}
use Rattle.std.proofs.lemmas.Fn.{filter_same}
use Rattle.gix_object_commit.specs.Signing.{unsigned}
use Rattle.gix_object_commit.proofs.commit.sign.put_signature.Goals as goal

pub returns-clause-put : goal.returns-clause-put
returns-clause-put c =
    let kept : c.retain.new.self.items ≡ unsigned c.reserve.new.self.items = filter_same _ _ _ (λ x b f' k. search rules) _ _ c.retain.ensures.filtered in
    record {
      tree = refl;
      parents = refl;
      author = refl;
      committer = refl;
      encoding = refl;
      message = refl;
      own_headers = c.in_ok-push.ensures.items ∙ ap (λ hs. hs ++ c.args.header ∷ []) (kept ∙ ap unsigned c.reserve.ensures.items);
    }
