-- In which order commits begin to wait.
use Rattle.std.proofs.Common.{◌≡◌, ◌∙◌, ◌⊎◌, inl, inr, refl, sym, ap, subst, List, [], ◌∷◌, ◌++◌, append_assoc}
use Rattle.std.specs.Prelude.{◌↔◌, Contains}
use Rattle.std.proofs.lemmas.List.Elements.{Contains-append_cases, Contains-append_left, Contains-append_right}
use Rattle.gix_hash.specs.declared.object_id.ObjectId.{ObjectId}
use Rattle.gix_traverse_commit_known.specs.Known.{KnownCommits}
use Rattle.gix_traverse_commit_known.specs.Nodes.{Node, ids_of}
use Rattle.gix_traverse_graph.specs.Order.{At}
use Rattle.gix_traverse_commit_known.specs.Queueing.{AreOf, KeepNodes, QueuesBehind, QueuesSome, Within}
use Rattle.gix_traverse_commit_known.specs.declared.waiting.Pending.{Pending}
use Rattle.gix_traverse_commit_known.proofs.Pending.{in_head}
use Rattle.gix_traverse_commit_known.proofs.Simply.{in_push}
use Rattle.gix_traverse_commit_known.proofs.Timely.{in_nil}

pub are_kept : (nodes nodes' : List Node) (ps : List Pending) (xs : List ObjectId) → KeepNodes nodes nodes' → AreOf nodes ps xs → AreOf nodes' ps xs
are_kept nodes nodes' [] [] up a = tt
are_kept nodes nodes' [] (x ∷ xs) up a = absurd a
are_kept nodes nodes' (p ∷ ps) [] up a = absurd a
are_kept nodes nodes' (p ∷ ps) (x ∷ xs) up a = (up p.number.0 x a.0, are_kept nodes nodes' ps xs up a.1)

pub are_more : (nodes : List Node) (ps qs : List Pending) (xs ys : List ObjectId) → AreOf nodes ps xs → AreOf nodes qs ys → AreOf nodes (ps ++ qs) (xs ++ ys)
are_more nodes [] qs [] ys a b = b
are_more nodes [] qs (x ∷ xs) ys a b = absurd a
are_more nodes (p ∷ ps) qs [] ys a b = absurd a
are_more nodes (p ∷ ps) qs (x ∷ xs) ys a b = (a.0, are_more nodes ps qs xs ys a.1 b)

pub within_none : (ys : List ObjectId) → Within [] ys
within_none [] = refl
within_none (y ∷ ys) = inl (within_none ys)

pub within_one : (x : ObjectId) → Within (x ∷ []) (x ∷ [])
within_one x = inr ([], refl, refl)

pub within_more : (xs xs' ys ys' : List ObjectId) → Within xs ys → Within xs' ys' → Within (xs ++ xs') (ys ++ ys')
within_more xs xs' [] ys' w v = subst (λ (zs : List ObjectId). Within (zs ++ xs') ys') (sym w) v
within_more xs xs' (y ∷ ys) ys' w v = elim w [
  | inl u ↦ inl (within_more xs xs' ys ys' u v)
  | inr u ↦ inr (u.0 ++ xs', ap (λ (zs : List ObjectId). zs ++ xs') u.1, within_more u.0 xs' ys ys' u.2 v)
]

none_more : (ps : List Pending) → ps ≡ ps ++ []
none_more [] = refl
none_more (p ∷ ps) = ap (λ (zs : List Pending). p ∷ zs) (none_more ps)

-- nothing begins to wait
pub queues_none : (old new : KnownCommits) → new.order ≡ old.order → new.pending ≡ old.pending → KeepNodes old.nodes new.nodes → QueuesBehind old [] new
queues_none old new e f up = record {
  more = [];
  order = e ∙ none_more old.order;
  named = tt;
  kept = up;
  stay = λ p c. subst (λ (ps : List Pending). Contains ps p) (sym f) c;
  wait = λ p c. absurd (in_nil p c);
  only = λ p c. inl (subst (λ (ps : List Pending). Contains ps p) f c);
}

pub queues_same : (known : KnownCommits) → QueuesBehind known [] known
queues_same known = queues_none known known refl refl (λ k x a. a)

-- one begins to wait
pub queues_one : (old new : KnownCommits) (pending : Pending) (id : ObjectId) → new.order ≡ old.order ++ pending ∷ [] → ((p : Pending) → Contains new.pending p ↔ ((p ≡ pending) ⊎ Contains old.pending p)) → KeepNodes old.nodes new.nodes → At (ids_of new.nodes) pending.number.0 id → QueuesBehind old (id ∷ []) new
queues_one old new pending id e joins up here = record {
  more = pending ∷ [];
  order = e;
  named = (here, tt);
  kept = up;
  stay = λ p c. (joins p).1 (inr c);
  wait = λ p c. elim (in_push [] pending p c) [ inl d ↦ absurd (in_nil p d) | inr f ↦ (joins p).1 (inl f) ];
  only = λ p c. elim ((joins p).0 c) [
    | inl f ↦ inr (subst (λ (q : Pending). Contains (pending ∷ []) q) (sym f) (in_head pending []))
    | inr d ↦ inl d
  ];
}

-- one after another
pub queues_more : (old mid new : KnownCommits) (xs ys : List ObjectId) → QueuesBehind old xs mid → QueuesBehind mid ys new → QueuesBehind old (xs ++ ys) new
queues_more old mid new xs ys u v = record {
  more = u.more ++ v.more;
  order = v.order ∙ ap (λ (ps : List Pending). ps ++ v.more) u.order ∙ append_assoc old.order u.more v.more;
  named = are_more new.nodes u.more v.more xs ys (are_kept mid.nodes new.nodes u.more xs v.kept u.named) v.named;
  kept = λ k x a. v.kept k x (u.kept k x a);
  stay = λ p c. v.stay p (u.stay p c);
  wait = λ p c. elim (Contains-append_cases u.more v.more p c) [ inl d ↦ v.stay p (u.wait p d) | inr d ↦ v.wait p d ];
  only = λ p c. elim (v.only p c) [
    | inl d ↦ elim (u.only p d) [ inl o ↦ inl o | inr e ↦ inr (Contains-append_left u.more v.more p e) ]
    | inr d ↦ inr (Contains-append_right u.more v.more p d)
  ];
}

pub some_none : (old new : KnownCommits) (xs : List ObjectId) → QueuesBehind old [] new → QueuesSome old xs new
some_none old new xs q = ([], q, within_none xs)

pub some_one : (old new : KnownCommits) (x : ObjectId) → QueuesBehind old (x ∷ []) new → QueuesSome old (x ∷ []) new
some_one old new x q = (x ∷ [], q, within_one x)

pub some_more : (old mid new : KnownCommits) (xs ys : List ObjectId) → QueuesSome old xs mid → QueuesSome mid ys new → QueuesSome old (xs ++ ys) new
some_more old mid new xs ys (ids, q, w) (ids', q', w') = (ids ++ ids', queues_more old mid new ids ids' q q', within_more ids ids' xs ys w w')
