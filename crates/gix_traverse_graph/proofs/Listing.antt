-- The listed set, and the laws on it.
use Rattle.std.proofs.Common.{◌≡◌, List, [], ◌∷◌, take, refl, sym, ap, ◌∙◌, Bool, true}
use Rattle.std.specs.Prelude.{Contains, IsTrue, filter, ◌↔◌}
use Rattle.gix_traverse_graph.specs.Order.{IsListOf}
use Rattle.gix_traverse_graph.specs.Commits.{Commits, asked_parents, Reached, tip, parent, WalkRequest, Passes, Hides, Listed}
use Rattle.gix_traverse_graph.specs.declared.parents.Parents.{Parents}
use Rattle.gix_traverse_graph.specs.declared.parents.Parents.TheVariants.{All, First}
use Rattle.gix_traverse_graph.specs.Walks.{InBreadth, InTopological, FinishedTopologically, unfiltered, InSomeOrder, breadth, newest, oldest, date, topological}
use Rattle.gix_traverse_graph.proofs.Lists.{at_from_contains, contains_from_at, at_from_take}
use Rattle.gix_traverse_graph.proofs.Unique.{breadth_once, topological_once}

-- a parent that a walk goes along is a parent
pub asked_parent : {I : Type 0} (g : Commits I) (p : Parents) (x y : I) → Contains (asked_parents p g x) y → Contains (g x).parents y
asked_parent g All x y c = c
asked_parent g First x y c =
    let (k, a) = at_from_contains (take 1 (g x).parents) y c in
    let b = at_from_take (g x).parents 1 k y a in
    contains_from_at (g x).parents k y b.1

-- each commit on the way to a listed one is listed
pub listed_reached : {I : Type 0} (g : Commits I) (q : WalkRequest I) {x : I} → Reached (asked_parents q.parents g) (Passes g q) q.tips x → (¬ Hides g q x) → Reached (asked_parents q.parents g) (Listed g q) q.tips x
listed_reached g q (tip t p) clear = tip t (tip t p, clear)
listed_reached g q (parent {x = c} {y = y} r n p) clear =
    let visible : ¬ Hides g q c = λ h. clear (parent h (asked_parent g q.parents c y n) tt) in
    parent (listed_reached g q r visible) n (parent r n p, clear)

pub listed_from_reached : {I : Type 0} (g : Commits I) (q : WalkRequest I) {x : I} → Reached (asked_parents q.parents g) (Listed g q) q.tips x → Listed g q x
listed_from_reached g q (tip t l) = l
listed_from_reached g q (parent r n l) = l

pub breadth_is_one : {I : Type 0} (g : Commits I) (q : WalkRequest I) (xs ys : List I) → InBreadth g q xs → InBreadth g q ys → xs ≡ ys
breadth_is_one g q = breadth_once (asked_parents q.parents g) q.tips (Listed g q) (λ x l. listed_reached g q l.0 l.1)

-- only one list is finished in topological order
pub finished_is_one : {I : Type 0} (g : Commits I) (q : WalkRequest I) (xs ys : List I) → FinishedTopologically g q xs → FinishedTopologically g q ys → xs ≡ ys
finished_is_one g q = topological_once (asked_parents q.parents g) q.tips (λ x. (g x).time) (Listed g q)

pub topological_is_one : {I : Type 0} (g : Commits I) (q : WalkRequest I) (xs ys : List I) → InTopological g q xs → InTopological g q ys → xs ≡ ys
topological_is_one {I} g q xs ys (f, tf, ef) (h, th, eh) =
    let same : f ≡ h = finished_is_one g (unfiltered q) f h tf th in
    ef ∙ ap (λ (zs : List I). filter q.accepts zs) same ∙ sym eh

-- ---- one set

-- a filter that takes all leaves the list
pub filter_all : {I : Type 0} (p : I → Bool) (xs : List I) → ((x : I) → IsTrue (p x)) → filter p xs ≡ xs
filter_all p [] all = refl
filter_all p (x ∷ xs) all =
    let e = filter_all p xs all in
    let t : p x ≡ true = all x in
    rw (t, e)

-- what passes more reaches more
pub reached_more : {I : Type 0} (along : I → List I) (P Q : I → Type 0) (tips : List I) → ((x : I) → P x → Q x) → {x : I} → Reached along P tips x → Reached along Q tips x
reached_more along P Q tips f (tip {x = x} t p) = tip t (f x p)
reached_more along P Q tips f (parent {y = y} r m p) = parent (reached_more along P Q tips f r) m (f y p)

-- where all are accepted, the predicate changes no set
pub listed_unfiltered : {I : Type 0} (g : Commits I) (q : WalkRequest I) → ((x : I) → IsTrue (q.accepts x)) → (x : I) → Listed g (unfiltered q) x ↔ Listed g q x
listed_unfiltered g q all x = (
  λ l. (reached_more (asked_parents q.parents g) (Passes g (unfiltered q)) (Passes g q) q.tips (λ y p. (all y, p.1)) l.0, l.1),
  λ l. (reached_more (asked_parents q.parents g) (Passes g q) (Passes g (unfiltered q)) q.tips (λ y p. (refl, p.1)) l.0, l.1),
)

-- a finished list that all pass has the listed set
finished_listed : {I : Type 0} (g : Commits I) (q : WalkRequest I) (xs f : List I) → ((x : I) → IsTrue (q.accepts x)) → IsListOf (Listed g (unfiltered q)) f → xs ≡ filter q.accepts f → (x : I) → Contains xs x ↔ Listed g q x
finished_listed g q xs f all h e x =
    let s : xs ≡ f = e ∙ filter_all q.accepts f all in
    let u = listed_unfiltered g q all x in
    rw s (λ c. u.0 ((h.each x).0 c), λ l. (h.each x).1 (u.1 l))

-- a list that answers a walk without a predicate has exactly the listed set
pub has_listed : {I : Type 0} (g : Commits I) (q : WalkRequest I) (xs : List I) → ((x : I) → IsTrue (q.accepts x)) → InSomeOrder g q xs → (x : I) → Contains xs x ↔ Listed g q x
has_listed g q xs all (breadth h) x = h.list.each x
has_listed g q xs all (newest h) x = h.list.each x
has_listed g q xs all (oldest h) x = h.list.each x
has_listed g q xs all (date (f, h, e)) x = finished_listed g q xs f all h.list e x
has_listed g q xs all (topological (f, h, e)) x = finished_listed g q xs f all h.list e x

pub one_set : {I : Type 0} (g : Commits I) (q : WalkRequest I) (xs ys : List I) → ((x : I) → IsTrue (q.accepts x)) → InSomeOrder g q xs → InSomeOrder g q ys → (x : I) → Contains xs x ↔ Contains ys x
one_set g q xs ys all h k x =
    let a = has_listed g q xs all h x in
    let b = has_listed g q ys all k x in
    (λ c. b.1 (a.0 c), λ c. a.1 (b.0 c))
