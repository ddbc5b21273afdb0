-- Recorders along the calls of a walk.
use Rattle.std.proofs.Common.{◌≡◌, ◌∙◌, sym, ap, subst, ℕ, ◌+◌, ◌-◌, Bool, true, false, List, [], ◌∷◌, ◌++◌, length, take, Option, Some, None, refl, append_assoc, arith, length-append, slice_index_or, if◌then◌else◌, ◌&&◌}
use Rattle.std.specs.Prelude.{⊤}
use Rattle.std.proofs.lemmas.Bool.{and_parts}
use Rattle.std.proofs.lemmas.List.{append-nil, get_or_at}
use Rattle.std.specs.List.{AllByRecursion}
use Rattle.std.specs.declared.ops.ControlFlow.TheVariants.{Continue}
use Rattle.gix_object_tree.specs.Entry.{Item}
use Rattle.gix_object_tree.specs.Order.{is_tree}
use Rattle.gix_traverse_tree.specs.Calls.{Answer, Call, Runs, pop_back, push, pop, at_tree, at_nontree, shown, visit_of, descends}
use Rattle.gix_traverse_tree.specs.Depth.{entering}
use Rattle.gix_traverse_tree.specs.Orders.{IsName, recorded_in, folder_in}
use Rattle.gix_traverse_tree.specs.Recorder.{Bytes, Recorded, Recording, joined, parent, recording_of, after_call, with_entry, Records, GoesOn}
use Rattle.gix_traverse_tree.specs.declared.recorder.Recorder.{Recorder}
use Rattle.gix_traverse_tree.specs.declared.recorder.Location.{Location}
use Rattle.gix_traverse_tree.specs.declared.recorder.Location.TheVariants.{Path, FileName}
use Rattle.gix_traverse_tree.proofs.Paths.{parent_of_joined}

-- ---- lists

pub cons_is_not_nil : {A : Type 0} (x : A) (xs : List A) → (x ∷ xs) ≡ [] → ⊥
cons_is_not_nil x xs e = cc

pub cons_heads : {A : Type 0} {x y : A} {xs ys : List A} → (x ∷ xs) ≡ (y ∷ ys) → x ≡ y
cons_heads e = cc

pub cons_tails : {A : Type 0} {x y : A} {xs ys : List A} → (x ∷ xs) ≡ (y ∷ ys) → xs ≡ ys
cons_tails e = cc

-- ---- recordings, call by call

abbrev pub state : Option Location → List Bytes → Bytes → List Recorded → Recording
state location queue path entries = record { location = location; queue = queue; path = path; entries = entries }

abbrev pub after_calls : Recording → List Call → Recording
after_calls a [] = a
after_calls a (call ∷ calls) = after_calls (after_call a call) calls

pub after_more : (a : Recording) (xs ys : List Call) → after_calls a (xs ++ ys) ≡ after_calls (after_calls a xs) ys
after_more a [] ys = refl
after_more a (x ∷ xs) ys = after_more (after_call a x) xs ys

pub is_after : (calls : List Call) (a b : Recorder) → Runs Records a calls b → (recording_of b ≡ after_calls (recording_of a) calls) × AllByRecursion GoesOn calls
is_after [] a b e = (ap recording_of e, tt)
is_after (x ∷ xs) a b (next, (goes, e), later) =
    let r = is_after xs next b later in
    (r.0 ∙ ap (λ (s : Recording). after_calls s xs) e, (goes, r.1))

pub all_split : {A : Type 0} (P : A → Type 0) (xs ys : List A) → AllByRecursion P (xs ++ ys) → AllByRecursion P xs × AllByRecursion P ys
all_split P [] ys h = (tt, h)
all_split P (x ∷ xs) ys (p, h) = let r = all_split P xs ys h in ((p, r.0), r.1)

pub all_tail : {A : Type 0} (P : A → Type 0) (x : A) (xs : List A) → AllByRecursion P (x ∷ xs) → AllByRecursion P xs
all_tail P x xs (p, h) = h

-- what holds of the calls at an entry: of the name that is pushed, of the visit, and of all after
pub record OfEntry (P : Call → Type 0) (item : Item) (answer : Bool) (more : List Call) : Type 0 where
  pub name : P (push item.name)
  pub visit : P (visit_of item (Continue answer))
  pub rest : AllByRecursion P more

pub of_entry : (P : Call → Type 0) (item : Item) (answer : Bool) (more : List Call) → AllByRecursion P (shown item (Continue answer) ++ more) → OfEntry P item answer more
of_entry P item answer more (p, (q, h)) = record { name = p; visit = q; rest = h }

-- ---- the state of a recorder

-- in a folder, below which these paths are queued
abbrev pub StandsIn : Option Location → List Bytes → Bytes → List Bytes → Bytes → Type 0
StandsIn (Some Path) above folder queue path = (queue ≡ above) × (path ≡ folder)
StandsIn (Some FileName) above folder queue path = ⊤
StandsIn None above folder queue path = path ≡ []

-- before a folder that was queued last
abbrev pub StandsBefore : Option Location → List Bytes → Bytes → List Bytes → Bytes → Type 0
StandsBefore (Some Path) above folder queue path = queue ≡ above ++ folder ∷ []
StandsBefore (Some FileName) above folder queue path = ⊤
StandsBefore None above folder queue path = path ≡ []

-- what came of some calls: these entries were added, and the recorder's state is this
pub record Came (Stands : List Bytes → Bytes → Type 0) (location : Option Location) (entries found : List Recorded) (after : Recording) : Type 0 where
  pub queue : List Bytes
  pub path : Bytes
  pub is : after ≡ state location queue path (entries ++ found)
  pub stands : Stands queue path

length_last : (above : List Bytes) (p : Bytes) → length (above ++ p ∷ []) - 1 ≡ length above
length_last above p = let e : length (above ++ p ∷ []) ≡ length above + 1 = length-append above (p ∷ []) in omega (arith, e)

take_all : (above : List Bytes) (p : Bytes) → take (length above) (above ++ p ∷ []) ≡ above
take_all [] p = refl
take_all (a ∷ above) p = ap (λ (zs : List Bytes). a ∷ zs) (take_all above p)

take_last : (above : List Bytes) (p : Bytes) → take (length (above ++ p ∷ []) - 1) (above ++ p ∷ []) ≡ above
take_last above p = ap (λ (n : ℕ). take n (above ++ p ∷ [])) (length_last above p) ∙ take_all above p

last_is : (above : List Bytes) (p : Bytes) → slice_index_or (above ++ p ∷ []) (length (above ++ p ∷ []) - 1) [] ≡ p
last_is above p = ap (λ (n : ℕ). slice_index_or (above ++ p ∷ []) n []) (length_last above p) ∙ get_or_at above p [] [] (length above) refl

-- ---- one call

-- the last of the queued paths is taken
pub resumed : (location : Option Location) (above : List Bytes) (folder : Bytes) (queue : List Bytes) (path : Bytes) (entries : List Recorded)
    → StandsBefore location above folder queue path → Came (StandsIn location above folder) location entries [] (after_call (state location queue path entries) pop_back)
resumed (Some Path) above folder queue path entries e = record {
  queue = take (length queue - 1) queue;
  path = slice_index_or queue (length queue - 1) [];
  is = ap (λ (es : List Recorded). state (Some Path) (take (length queue - 1) queue) (slice_index_or queue (length queue - 1) []) es) (sym (append-nil entries));
  stands = (
    subst (λ (q : List Bytes). take (length q - 1) q ≡ above) (sym e) (take_last above folder),
    subst (λ (q : List Bytes). slice_index_or q (length q - 1) [] ≡ folder) (sym e) (last_is above folder),
  );
}
resumed (Some FileName) above folder queue path entries e = record
    { queue = queue; path = path; is = ap (λ (es : List Recorded). state (Some FileName) queue path es) (sym (append-nil entries)); stands = tt }
resumed None above folder queue path entries e = record
    { queue = queue; path = path; is = ap (λ (es : List Recorded). state None queue path es) (sym (append-nil entries)); stands = e }

-- an entry is pushed, shown and left
abbrev pub past : Item → Bool → List Call
past item answer = shown item (Continue answer) ++ (pop ∷ [])

-- showing records the entry, whatever it is
shows : (a : Recording) (item : Item) (answer : Bool) → after_calls a (visit_of item (Continue answer) ∷ []) ≡ with_entry a item
shows a item answer = go (is_tree item) where
  go : (t : Bool) → after_calls a ((if t then at_tree item (Continue answer) else at_nontree item (Continue answer)) ∷ []) ≡ with_entry a item
  go true = refl
  go false = refl

shown_past : (a : Recording) (item : Item) (answer : Bool) → after_calls a (past item answer) ≡ after_call (with_entry (after_call a (push item.name)) item) pop
shown_past a item answer = ap (λ (r : Recording). after_call r pop) (shows (after_call a (push item.name)) item answer)

pub passed : (location : Option Location) (above : List Bytes) (folder : Bytes) (queue : List Bytes) (path : Bytes) (entries : List Recorded) (item : Item) (answer : Bool)
    → IsName item.name → StandsIn location above folder queue path
    → Came (StandsIn location above folder) location entries (recorded_in location folder item ∷ []) (after_calls (state location queue path entries) (past item answer))
passed (Some Path) above folder queue path entries item answer (full, lacks) (q, e) = record {
  queue = queue;
  path = parent (joined path item.name);
  is = shown_past (state (Some Path) queue path entries) item answer
      ∙ ap (λ (p : Bytes). state (Some Path) queue (parent (joined path item.name)) (entries ++ record { mode = item.mode; path = joined p item.name; id = item.id } ∷ [])) e;
  stands = (q, parent_of_joined path item.name full lacks ∙ e);
}
passed (Some FileName) above folder queue path entries item answer named stands = record
    { queue = queue; path = item.name; is = shown_past (state (Some FileName) queue path entries) item answer; stands = tt }
passed None above folder queue path entries item answer named e = record {
  queue = queue;
  path = path;
  is = shown_past (state None queue path entries) item answer
      ∙ ap (λ (p : Bytes). state None queue path (entries ++ record { mode = item.mode; path = p; id = item.id } ∷ [])) e;
  stands = e;
}

-- below an entry the folder that it is in is queued, and then its own
pub entered : (location : Option Location) (above : List Bytes) (folder : Bytes) (queue : List Bytes) (path : Bytes) (entries : List Recorded) (item : Item)
    → StandsIn location above folder queue path
    → Came (StandsBefore location (above ++ folder ∷ []) (folder_in folder item)) location entries [] (after_calls (state location queue path entries) (entering item))
entered (Some Path) above folder queue path entries item (q, e) = record {
  queue = (queue ++ path ∷ []) ++ joined path item.name ∷ [];
  path = joined path item.name;
  is = ap (λ (es : List Recorded). state (Some Path) ((queue ++ path ∷ []) ++ joined path item.name ∷ []) (joined path item.name) es) (sym (append-nil entries));
  stands = ap (λ (qs : List Bytes). (qs ++ path ∷ []) ++ joined path item.name ∷ []) q ∙ ap (λ (p : Bytes). (above ++ p ∷ []) ++ joined p item.name ∷ []) e;
}
entered (Some FileName) above folder queue path entries item stands = record
    { queue = queue; path = path; is = ap (λ (es : List Recorded). state (Some FileName) queue path es) (sym (append-nil entries)); stands = tt }
entered None above folder queue path entries item e = record
    { queue = queue; path = path; is = ap (λ (es : List Recorded). state None queue path es) (sym (append-nil entries)); stands = e }

-- ---- calls joined

pub came_to : {P Q : List Bytes → Bytes → Type 0} (location : Option Location) (entries found more : List Recorded) (start : Recording) (xs ys : List Call)
    → (first : Came P location entries found (after_calls start xs))
    → Came Q location (entries ++ found) more (after_calls (state location first.queue first.path (entries ++ found)) ys)
    → Came Q location entries (found ++ more) (after_calls start (xs ++ ys))
came_to location entries found more start xs ys first last = record {
  queue = last.queue;
  path = last.path;
  is = after_more start xs ys ∙ ap (λ (a : Recording). after_calls a ys) first.is ∙ last.is
      ∙ ap (λ (es : List Recorded). state location last.queue last.path es) (append_assoc entries found more);
  stands = last.stands;
}

-- ---- what a recorder goes below

answers_alike : (answer : Bool) → ◌≡◌ {A = Answer} (Continue answer) (Continue true) → answer ≡ true
answers_alike true e = refl
answers_alike false e = cc

and_true_right : (a b : Bool) → b ≡ true → (a && b) ≡ false → a ≡ false
and_true_right false b e d = refl
and_true_right true b e d = sym e ∙ d

pub goes_below : (item : Item) (answer : Bool) → GoesOn (visit_of item (Continue answer)) → answer ≡ true
goes_below item answer = go (is_tree item) where
  go : (t : Bool) → GoesOn (if t then at_tree item (Continue answer) else at_nontree item (Continue answer)) → answer ≡ true
  go true e = answers_alike answer e
  go false e = answers_alike answer e

-- the entry is no tree, since the recorder would have gone below it
pub is_file : (item : Item) (answer : Bool) → answer ≡ true → descends item (Continue answer) ≡ false → is_tree item ≡ false
is_file item answer e d = and_true_right (is_tree item) answer e d

pub is_folder : (item : Item) (answer : Bool) → descends item (Continue answer) ≡ true → is_tree item ≡ true
is_folder item answer d = (and_parts (is_tree item) answer d).0
