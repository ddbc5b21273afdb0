-- Names are counted, and counted off.
use Rattle.std.proofs.Common.{◌≡◌, ℕ, zero, suc, ◌+◌, ◌<◌, ◌≤◌, inl, inr, List, [], ◌∷◌, ◌++◌, length, take, refl, sym, ◌∙◌, ap, subst, arith, set, append_assoc, append-nil}
use Rattle.std.specs.Prelude.{Contains, IsPermutation}
use Rattle.std.specs.BinaryHeap.{heap_items}
use Rattle.std.proofs.lemmas.Option.{slice_get_within, get_or_from_slice_get}
use Rattle.std.proofs.lemmas.List.Elements.{Contains-append_left, Contains-push_cases}
use Rattle.std.proofs.lemmas.List.Sorted.{IsPermutation-refl, IsPermutation-trans, IsPermutation-append_left}
use Rattle.gix_hash.specs.declared.object_id.ObjectId.{ObjectId}
use Rattle.gix_hash.specs.declared.object_id.ObjectId.TheVariants.{Sha1}
use Rattle.gix_traverse_graph.specs.Commits.{Commits}
use Rattle.gix_traverse_graph.specs.Numbered.{same_id}
use Rattle.gix_traverse_graph.specs.Order.{At}
use Rattle.gix_traverse_graph.proofs.Ids.{same_id_apart}
use Rattle.gix_traverse_graph.proofs.Lists.{at_one, at_from_contains, at_from_push, contains_from_at, none_at_nil, three}
use Rattle.gix_traverse_topo.specs.Nodes.{all_facts, counts, EachCount, NamesAre, IsOnce, hidden_in}
use Rattle.gix_traverse_topo.specs.Standing.{id_at, ids_of, CountsOff, passed, counted, freed, NotCounted, GoesOff, RowOff}
use Rattle.gix_traverse_topo.specs.Turns.{times, total, names_of, named_so_far, Freed}
use Rattle.gix_traverse_topo.specs.Waiting.{Joined}
use Rattle.gix_traverse_topo.specs.declared.known.Known.{Known}
use Rattle.gix_traverse_topo.specs.declared.ready.Pending.{Pending}
use Rattle.gix_traverse_topo.specs.declared.ready.Ready.{Ready}
use Rattle.gix_traverse_topo.specs.declared.ready.Ready.TheVariants.{ByDate, Topological}
use Rattle.gix_traverse_topo.proofs.Freeing as freeing
use Rattle.gix_traverse_topo.proofs.Meeting.{map_push}

pub at_set_here : {A : Type 0} (xs : List A) (n : ℕ) (v : A) → n < length xs → At (set xs n v) n v
at_set_here [] n v l = absurd (omega arith)
at_set_here (x ∷ xs) zero v l = refl
at_set_here (x ∷ xs) (suc n) v l = at_set_here xs n v (omega arith)

pub at_set_other : {A : Type 0} (xs : List A) (n m : ℕ) (v x : A) → (m ≡ n → ⊥) → At (set xs n v) m x → At xs m x
at_set_other [] n m v x d a = a
at_set_other (y ∷ xs) zero zero v x d a = absurd (d refl)
at_set_other (y ∷ xs) zero (suc m) v x d a = a
at_set_other (y ∷ xs) (suc n) zero v x d a = a
at_set_other (y ∷ xs) (suc n) (suc m) v x d a = at_set_other xs n m v x (λ e. d (ap suc e)) a

pub at_set_away : {A : Type 0} (xs : List A) (n m : ℕ) (v x : A) → (m ≡ n → ⊥) → At xs m x → At (set xs n v) m x
at_set_away [] n m v x d a = a
at_set_away (y ∷ xs) zero zero v x d a = absurd (d refl)
at_set_away (y ∷ xs) zero (suc m) v x d a = a
at_set_away (y ∷ xs) (suc n) zero v x d a = a
at_set_away (y ∷ xs) (suc n) (suc m) v x d a = at_set_away xs n m v x (λ e. d (ap suc e)) a

pub total_set : (cs : List ℕ) (n count : ℕ) → At cs n (count + 1) → total (λ c. c) (set cs n count) + 1 ≡ total (λ c. c) cs
total_set [] n count a = absurd (none_at_nil n (count + 1) a)
total_set (c ∷ cs) zero count a = let e : c ≡ count + 1 = cc in omega arith
total_set (c ∷ cs) (suc n) count a = let r = total_set cs n count a in omega arith

-- one count changes
pub each_set : (low : ℕ) (keys : List ObjectId) (cs : List ℕ) (P Q : ObjectId → ℕ → Type 0) (n count : ℕ) (y : ObjectId) → EachCount low keys cs P → IsOnce keys → At keys n y → n < length cs → Q y count → ((z : ObjectId) (c : ℕ) → (z ≡ y → ⊥) → P z c → Q z c) → EachCount low keys (set cs n count) Q
each_set low keys cs P Q n count y each once here within q others m z c l a b = elim (three m n) [
  | inl lt ↦ other (λ e. omega arith)
  | inr (inl e) ↦ (
      let same : z ≡ y = at_one keys n z y (subst (λ (k : ℕ). At keys k z) e a) here in
      let c_is : c ≡ count = at_one (set cs n count) n c count (subst (λ (k : ℕ). At (set cs n count) k c) e b) (at_set_here cs n count within) in
      subst (λ (k : ℕ). Q z k) (sym c_is) (subst (λ (x : ObjectId). Q x count) (sym same) q))
  | inr (inr gt) ↦ other (λ e. omega arith)
]
  where
    other : (m ≡ n → ⊥) → Q z c
    other d = others z c (λ e. d (once m n y (subst (λ (x : ObjectId). At keys m x) e a) here)) (each m z c l a (at_set_other cs n m count c d b))

-- no count changes
pub each_kept : (low : ℕ) (keys : List ObjectId) (cs : List ℕ) (P Q : ObjectId → ℕ → Type 0) → EachCount low keys cs P → ((n : ℕ) (z : ObjectId) (c : ℕ) → low ≤ n → At keys n z → P z c → Q z c) → EachCount low keys cs Q
each_kept low keys cs P Q each f n z c l a b = f n z c l a (each n z c l a b)

-- ---- counting

pub names_as : (low : ℕ) (keys : List ObjectId) (cs : List ℕ) (names names' : ObjectId → ℕ) → NamesAre low keys cs names → ((y : ObjectId) → names y ≡ names' y) → NamesAre low keys cs names'
names_as low keys cs names names' (each, none) same = ((λ n x c l a b. each n x c l a b ∙ same x), (λ y out. sym (same y) ∙ none y out))

-- none has a number after these
pub names_none : (low : ℕ) (keys : List ObjectId) (cs : List ℕ) → length keys ≤ low → NamesAre low keys cs (λ y. 0)
names_none low keys cs l = ((λ n x c m a b. absurd (let w = slice_get_within keys n x a in omega arith)), (λ y out. refl))

-- a commit that isn't named yet gets a number
pub names_pushed : (low : ℕ) (keys : List ObjectId) (cs : List ℕ) (names : ObjectId → ℕ) (y : ObjectId) → length cs ≡ length keys → (Contains keys y → ⊥) → NamesAre low keys cs names → NamesAre low (keys ++ y ∷ []) (cs ++ 0 ∷ []) names
names_pushed low keys cs names y long new (each, none) = (
  λ n x c l a b. elim (at_from_push keys y n x a) [
    | inl d ↦ elim (at_from_push cs 0 n c b) [ inl e ↦ each n x c l d e | inr e ↦ absurd (let w = slice_get_within keys n x d in omega (arith, e.0)) ]
    | inr d ↦ elim (at_from_push cs 0 n c b) [ inl e ↦ absurd (let w = slice_get_within cs n c e in omega (arith, d.0)) | inr e ↦ e.1 ∙ sym (none y new) ∙ ap names (sym d.1) ]
  ],
  λ z out. none z (λ c. out (Contains-append_left keys (y ∷ []) z c)),
)

-- one commit is named once more
pub names_set : (low : ℕ) (keys : List ObjectId) (cs : List ℕ) (names names' : ObjectId → ℕ) (n count : ℕ) (y : ObjectId) → IsOnce keys → At keys n y → At cs n count → names' y ≡ names y + 1 → ((z : ObjectId) → (z ≡ y → ⊥) → names' z ≡ names z) → NamesAre low keys cs names → NamesAre low keys (set cs n (count + 1)) names'
names_set low keys cs names names' n count y once here at mine others (each, none) = (
  λ m z c l a b. elim (three m n) [
    | inl lt ↦ away m z c l a b (λ e. omega arith)
    | inr (inl e) ↦ (
        let same : z ≡ y = at_one keys n z y (subst (λ (k : ℕ). At keys k z) e a) here in
        let c_is : c ≡ count + 1 = at_one (set cs n (count + 1)) n c (count + 1) (subst (λ (k : ℕ). At (set cs n (count + 1)) k c) e b) (at_set_here cs n (count + 1) (slice_get_within cs n count at)) in
        let before : count ≡ names y = each n y count (omega arith) here at in
        let now : c ≡ names' y = omega arith in
        now ∙ ap names' (sym same))
    | inr (inr gt) ↦ away m z c l a b (λ e. omega arith)
  ],
  λ z out. others z (λ e. out (subst (λ (x : ObjectId). Contains keys x) (sym e) (contains_from_at keys n y here))) ∙ none z out,
)
  where
    away : (m : ℕ) (z : ObjectId) (c : ℕ) → low ≤ m → At keys m z → At (set cs n (count + 1)) m c → (m ≡ n → ⊥) → c ≡ names' z
    away m z c l a b d = each m z c l a (at_set_other cs n m (count + 1) c d b) ∙ sym (others z (λ e. d (once m n y (subst (λ (x : ObjectId). At keys m x) e a) here)))

-- one more name of the row is counted
pub names_more : (low : ℕ) (keys : List ObjectId) (cs : List ℕ) (names : ObjectId → ℕ) (row : List ObjectId) (m n count : ℕ) (y : ObjectId) → IsOnce keys → At row m y → At keys n y → At cs n count → NamesAre low keys cs (λ z. names z + times (same_id z) (take m row)) → NamesAre low keys (set cs n (count + 1)) (λ z. names z + times (same_id z) (take (m + 1) row))
names_more low keys cs names row m n count y once named here at known =
    names_set low keys cs (λ z. names z + times (same_id z) (take m row)) (λ z. names z + times (same_id z) (take (m + 1) row)) n count y once here at
    (let e = freeing.counted same_id same_id_apart (λ _. []) [] no_two [] row m y named in omega arith)
    (λ z d. let e = freeing.not_counted same_id same_id_apart (λ _. []) [] no_two [] row m y named z d in omega arith) known
  where
    no_two : (j k : ℕ) (x : ObjectId) → At [] j x → At [] k x → j ≡ k
    no_two j k x a b = absurd (none_at_nil j x a)

-- ---- counting off

pub joined_none : (ready : Ready) → Joined ready [] ready
joined_none (ByDate heap) = (subst (λ (zs : List Pending). IsPermutation zs (heap_items heap)) (sym (append-nil (heap_items heap))) (IsPermutation-refl (heap_items heap)), λ h. h)
joined_none (Topological stack) = sym (append-nil stack.items)

pub joined_more : (a b c : Ready) (ps : List Pending) (p : Pending) → Joined a ps b → Joined b (p ∷ []) c → Joined a (ps ++ p ∷ []) c
joined_more (ByDate a) (ByDate b) (ByDate c) ps p (h, i) (j, k) = (
  IsPermutation-trans (heap_items a ++ (ps ++ p ∷ [])) (heap_items b ++ p ∷ []) (heap_items c)
      (subst (λ (zs : List Pending). IsPermutation zs (heap_items b ++ p ∷ [])) (append_assoc (heap_items a) ps (p ∷ [])) (IsPermutation-append_left (p ∷ []) (heap_items a ++ ps) (heap_items b) h)) j,
  λ w. k (i w),
)
joined_more (Topological a) (Topological b) (Topological c) ps p h j = j ∙ ap (λ (zs : List Pending). zs ++ p ∷ []) h ∙ append_assoc a.items ps (p ∷ [])
joined_more (ByDate a) (ByDate b) (Topological c) ps p h j = absurd j
joined_more (ByDate a) (Topological b) c ps p h j = absurd h
joined_more (Topological a) (ByDate b) c ps p h j = absurd h
joined_more (Topological a) (Topological b) (ByDate c) ps p h j = absurd j

pub at_id : (keys : List ObjectId) (n : ℕ) (x : ObjectId) → At keys n x → id_at keys n ≡ x
at_id keys n x a = get_or_from_slice_get keys n x (Sha1 []) a

-- if the keys are these, a commit after the hidden has a number
pub number_in : (keys hs xs : List ObjectId) (y : ObjectId) → keys ≡ hs ++ xs → Contains xs y → (n : ℕ) × (length hs ≤ n) × At keys n y
number_in keys hs xs y e c =
    let (k, a) = at_from_contains xs y c in
    (length hs + k, omega arith, subst (λ (zs : List ObjectId). At zs (length hs + k) y) (sym e) (behind hs xs k y a))
  where
    behind : (hs xs : List ObjectId) (k : ℕ) (y : ObjectId) → At xs k y → At (hs ++ xs) (length hs + k) y
    behind [] xs k y a = let f : 0 + k ≡ k = omega arith in subst (λ (n : ℕ). At xs n y) (sym f) a
    behind (h ∷ hs) xs k y a = let f : suc (length hs) + k ≡ suc (length hs + k) = omega arith in subst (λ (n : ℕ). At (h ∷ (hs ++ xs)) n y) (sym f) (behind hs xs k y a)

-- and one with a number after them is of the set
pub in_set : (keys hs xs : List ObjectId) (n : ℕ) (y : ObjectId) → keys ≡ hs ++ xs → length hs ≤ n → At keys n y → Contains xs y
in_set keys hs xs n y e l a = go hs n l (subst (λ (zs : List ObjectId). At zs n y) e a)
  where
    go : (hs : List ObjectId) (n : ℕ) → length hs ≤ n → At (hs ++ xs) n y → Contains xs y
    go [] n l a = contains_from_at xs n y a
    go (h ∷ hs) zero l a = absurd (omega arith)
    go (h ∷ hs) (suc n) l a = go hs n (omega arith) a

module _ (way : ObjectId → List ObjectId) (h : Commits ObjectId) (before row hs xs : List ObjectId) (known : Known) (ready : Ready) (goes : GoesOff way h before row hs xs known) (xs_once : IsOnce xs) where
  pub row_none : RowOff (hidden_in known.nodes.items) known.ids.keys way h before row xs ready 0 (counts known.nodes.items) ready
  row_none = record {
    more = [];
    counted = goes.counted;
    freed = freeing.freed_none same_id same_id_apart way xs xs_once before row;
    joined = joined_none ready;
    numbered = λ p c. let (k, a) = at_from_contains [] p c in absurd (none_at_nil k p a);
  }

  pub row_more : (m : ℕ) (y : ObjectId) (cs cs' : List ℕ) (ready' ready'' : Ready) → At row m y → length cs ≡ length known.ids.keys → RowOff (hidden_in known.nodes.items) known.ids.keys way h before row xs ready m cs ready' → CountsOff (hidden_in known.nodes.items) known.ids.keys (all_facts known.nodes.items) cs ready' y cs' ready'' → RowOff (hidden_in known.nodes.items) known.ids.keys way h before row xs ready (m + 1) cs' ready''
  row_more m y cs cs' ready' ready'' here long r (passed none e f) =
      record {
        more = r.more;
        counted = subst (λ (ds : List ℕ). EachCount (hidden_in known.nodes.items) known.ids.keys ds (λ z c. c + named_so_far same_id way before row (m + 1) z ≡ names_of same_id way z xs)) (sym e)
            (each_kept (hidden_in known.nodes.items) known.ids.keys cs (λ z c. c + named_so_far same_id way before row m z ≡ names_of same_id way z xs) (λ z c. c + named_so_far same_id way before row (m + 1) z ≡ names_of same_id way z xs) r.counted
            (λ n z c l a p. let d = freeing.not_counted same_id same_id_apart way xs xs_once before row m y here z (λ g. let b = none goes.keys_once n (subst (λ (x : ObjectId). At known.ids.keys n x) g a) in omega arith) in omega arith));
        freed = freeing.freed_keep same_id same_id_apart way xs xs_once before row m y here (ids_of known.ids.keys r.more) r.freed (λ c. absurd (out c)) (λ c l. out c);
        joined = subst (λ (q : Ready). Joined ready r.more q) (sym f) r.joined;
        numbered = r.numbered;
      }
    where
      out : Contains xs y → ⊥
      out c = let (n, l, a) = number_in known.ids.keys hs xs y goes.keys_are c in let b = none goes.keys_once n a in omega (arith, goes.hidden_are)
  row_more m y cs cs' ready' ready'' here long r (counted {n = n} {count = count} l a b left e f) =
      let now = r.counted n y (count + 1) l a b in
      let next = freeing.counted same_id same_id_apart way xs xs_once before row m y here in
      record {
        more = r.more;
        counted = subst (λ (ds : List ℕ). EachCount (hidden_in known.nodes.items) known.ids.keys ds (λ z c. c + named_so_far same_id way before row (m + 1) z ≡ names_of same_id way z xs)) (sym e)
            (each_set (hidden_in known.nodes.items) known.ids.keys cs (λ z c. c + named_so_far same_id way before row m z ≡ names_of same_id way z xs) (λ z c. c + named_so_far same_id way before row (m + 1) z ≡ names_of same_id way z xs) n count y r.counted goes.keys_once a (slice_get_within cs n (count + 1) b)
            (omega arith)
            (λ z c d p. let g = freeing.not_counted same_id same_id_apart way xs xs_once before row m y here z d in omega arith));
        freed = freeing.freed_keep same_id same_id_apart way xs xs_once before row m y here (ids_of known.ids.keys r.more) r.freed (goes.room m y here) (λ c w. left (omega arith));
        joined = subst (λ (q : Ready). Joined ready r.more q) (sym f) r.joined;
        numbered = r.numbered;
      }
  row_more m y cs cs' ready' ready'' here long r (freed {n = n} {pending = pending} {facts = facts} l a b e at_n told timed j) =
      let b' : At cs n (0 + 1) = b in
      let now = r.counted n y 1 l a b in
      let next = freeing.counted same_id same_id_apart way xs xs_once before row m y here in
      let there : Contains xs y = in_set known.ids.keys hs xs n y goes.keys_are (omega (arith, goes.hidden_are)) a in
      let named : ids_of known.ids.keys (r.more ++ pending ∷ []) ≡ ids_of known.ids.keys r.more ++ y ∷ [] = map_push (λ (p : Pending). id_at known.ids.keys p.number.0) r.more pending ∙ ap (λ (z : ObjectId). ids_of known.ids.keys r.more ++ z ∷ []) (at_id known.ids.keys pending.number.0 y (subst (λ (k : ℕ). At known.ids.keys k y) (sym at_n) a)) in
      record {
        more = r.more ++ pending ∷ [];
        counted = subst (λ (ds : List ℕ). EachCount (hidden_in known.nodes.items) known.ids.keys ds (λ z c. c + named_so_far same_id way before row (m + 1) z ≡ names_of same_id way z xs)) (sym e)
            (each_set (hidden_in known.nodes.items) known.ids.keys cs (λ z c. c + named_so_far same_id way before row m z ≡ names_of same_id way z xs) (λ z c. c + named_so_far same_id way before row (m + 1) z ≡ names_of same_id way z xs) n 0 y r.counted goes.keys_once a (slice_get_within cs n 1 b)
            (omega arith)
            (λ z c d p. let g = freeing.not_counted same_id same_id_apart way xs xs_once before row m y here z d in omega arith));
        freed = subst (λ (zs : List ObjectId). Freed same_id way xs before row (m + 1) zs) (sym named) (freeing.freed_push same_id same_id_apart way xs xs_once before row m y here (ids_of known.ids.keys r.more) r.freed there (omega arith));
        joined = joined_more ready ready' ready'' r.more pending r.joined j;
        numbered = λ p c. elim (Contains-push_cases r.more pending p c) [
          | inl d ↦ r.numbered p d
          | inr g ↦ subst (λ (q : Pending). (x : ObjectId) × (hidden_in known.nodes.items ≤ q.number.0) × At known.ids.keys q.number.0 x × (q.time ≡ (h x).time)) g
              (y, omega (arith, at_n), subst (λ (k : ℕ). At known.ids.keys k y) (sym at_n) a, timed ∙ goes.timed n y facts l a (contains_from_at row m y here) told)
        ];
      }

  -- what is still to be counted off is left
  pub still_counted : (m : ℕ) (y : ObjectId) (cs : List ℕ) (ready' : Ready) → At row m y → length cs ≡ length known.ids.keys → RowOff (hidden_in known.nodes.items) known.ids.keys way h before row xs ready m cs ready' → NotCounted (hidden_in known.nodes.items) known.ids.keys cs y → ⊥
  still_counted m y cs ready' here long r (n, l, a, inl past) = let w = slice_get_within known.ids.keys n y a in omega arith
  still_counted m y cs ready' here long r (n, l, a, inr none) =
      let now = r.counted n y 0 l a none in
      let there = in_set known.ids.keys hs xs n y goes.keys_are (omega (arith, goes.hidden_are)) a in
      let room = goes.room m y here there in
      omega arith
