use Rattle.std.proofs.lemmas.Result.{err_from_is_err_and}
use Rattle.std.proofs.Common.{ap, map}
use Rattle.gix_hash.specs.Id.{id_of}
use Rattle.gix_object_commit.specs.Tokens.{place_of}
use Rattle.gix_traverse_commit_known.proofs.Told.{front_tree, front_parent, first_parent, reads_all, past_other, lacks_parents}
use Rattle.gix_traverse_commit_known.proofs.fetch.read_parents.Goals as goal

pub returns-in_err-token-clause-refused : goal.returns-in_err-token-clause-refused
returns-in_err-token-clause-refused c =
    let p = err_from_is_err_and c.from_residual.result c.from_residual.ensures.1 in
    let f = lacks_parents c.args.along (place_of c.args.reader) (place_of c.tokens.token-iterator) (place_of c.next.new.self) (map id_of c.tokens.ids.items) c.in-Some.token c.in_err-token.field-0.0 c.tokens.invariant.front c.in-Some.ensures.steps c.in_err-token.was (λ first. ap (map id_of) (c.tokens.invariant.none first)) in
    rw (p.1, p.2) f

pub tokens-preserved-in-Tree : goal.tokens-preserved-in-Tree
tokens-preserved-in-Tree c = record {
  can = tt;
  finite = tt;
  front = front_tree (place_of c.args.reader) (place_of c.tokens.token-iterator) (place_of c.next.new.self) c.tokens.ids.items c.in-Some.token c.in_ok-token.field-0 c.tokens.invariant.front c.in-Some.ensures.steps c.in_ok-token.was c.in-Tree.field-0 c.in-Tree.is;
  none = c.tokens.invariant.none;
}

pub returns-in-First-clause-told : goal.returns-in-First-clause-told
returns-in-First-clause-told c =
    let f = front_parent (place_of c.args.reader) (place_of c.tokens.token-iterator) (place_of c.next.new.self) c.tokens.ids.items c.in-Some.token c.in_ok-token.field-0 c.tokens.invariant.front c.in-Some.ensures.steps c.in_ok-token.was c.in-Parent.id c.push.new.self.items c.in-Parent.is c.in_ok-push-in-Parent.ensures.ok in
    rw c.in-First.is (first_parent (place_of c.args.reader) (place_of c.next.new.self) c.tokens.ids.items c.push.new.self.items c.in-Parent.id (c.tokens.invariant.none c.in-First.is) c.in_ok-push-in-Parent.ensures.ok f)

pub tokens-preserved : goal.tokens-preserved
tokens-preserved c = record {
  can = tt;
  finite = tt;
  front = front_parent (place_of c.args.reader) (place_of c.tokens.token-iterator) (place_of c.next.new.self) c.tokens.ids.items c.in-Some.token c.in_ok-token.field-0 c.tokens.invariant.front c.in-Some.ensures.steps c.in_ok-token.was c.in-Parent.id c.push.new.self.items c.in-Parent.is c.in_ok-push-in-Parent.ensures.ok;
  none = λ first. (let all = c.in-All.is in let z : ⊥ = cc in absurd z);
}

pub returns-in_default : goal.returns-in_default
returns-in_default c = record {
  told = reads_all c.args.along (place_of c.args.reader) c.tokens.ids.items c.tokens.invariant.none (past_other (place_of c.args.reader) (place_of c.tokens.token-iterator) (place_of c.next.new.self) c.tokens.ids.items c.in-Some.token c.in_ok-token.field-0 c.tokens.invariant.front c.in-Some.ensures.steps c.in_ok-token.was c.in_default.not-Tree c.in_default.not-Parent);
  refused = tt;
}
