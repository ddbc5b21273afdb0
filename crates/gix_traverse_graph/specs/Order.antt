use Rattle.std.specs.Prelude.{◌≡◌, ℕ, zero, suc, ◌<◌, ◌≤◌, ◌⊎◌, ◌↔◌, List, Some, ℤ, ◌≤ℤ◌, ◌<ℤ◌, Contains, slice_get, take}

-- x is at place k
abbrev pub At : {I : Type 0} → List I → ℕ → I → Type 0
At xs k x = slice_get xs k ≡ Some x

-- the list has each member of the set, and nothing else, and each once
pub record IsListOf {I : Type 0} (S : I → Type 0) (out : List I) : Type 0 where
  pub each : (x : I) → Contains out x ↔ S x
  pub once : (j k : ℕ) (x : I) → At out j x → At out k x → j ≡ k

-- the pair (p, i) comes before (q, j)
abbrev pub Before : ℕ → ℕ → ℕ → ℕ → Type 0
Before p i q j = (p < q) ⊎ ((p ≡ q) × (i < j))

-- ---- breadth first

-- x is tip number i, or the parent number i of the commit at place j
abbrev pub Named : {I : Type 0} → (I → List I) → List I → List I → ℕ → ℕ → I → Type 0
Named along tips out zero i x = At tips i x
Named {I} along tips out (suc j) i x = (child : I) × At out j child × At (along child) i x

-- of the places that name x, the first: a tip's index, or the earliest child's place and the first
-- index there
pub record IsKey {I : Type 0} (along : I → List I) (tips out : List I) (x : I)
    (p i : ℕ) : Type 0 where
  pub named : Named along tips out p i x
  pub first : (q j : ℕ) → Named along tips out q j x → ¬ Before q j p i

-- first the tips in their order; each other commit by its key
pub record IsBreadthFirst {I : Type 0} (along : I → List I) (tips : List I) (S : I → Type 0)
    (out : List I) : Type 0 where
  pub list : IsListOf S out
  pub keyed : (k : ℕ) (x : I) → At out k x → (p : ℕ) × (i : ℕ) × IsKey along tips out x p i
  pub ascending : (k l : ℕ) (x y : I) (p i q j : ℕ) → k < l → At out k x → At out l y
      → IsKey along tips out x p i → IsKey along tips out y q j → Before p i q j

-- ---- orders that choose at each place

-- each place has one that is fit for it, and that comes before the others that are fit then
pub record IsChosen {I : Type 0} (S : I → Type 0) (Fit : List I → I → Type 0)
    (Comes : List I → I → I → Type 0) (out : List I) : Type 0 where
  pub list : IsListOf S out
  pub fit : (k : ℕ) (x : I) → At out k x → Fit (take k out) x
  pub chosen : (k l : ℕ) (x y : I) → k < l → At out k x → At out l y → Fit (take k out) y
      → Comes (take k out) x y

-- a tip, or a parent of one that is listed
abbrev pub IsOpen : {I : Type 0} → (I → List I) → List I → List I → I → Type 0
IsOpen {I} along tips before x =
    Contains tips x ⊎ ((child : I) × Contains before child × Contains (along child) x)

-- all its children in the set are listed
abbrev pub IsReady : {I : Type 0} → (I → List I) → (I → Type 0) → List I → I → Type 0
IsReady {I} along S before x =
    (child : I) → S child → Contains (along child) x → Contains before child

abbrev pub NewestFirst : {I : Type 0} → (I → ℤ) → List I → I → I → Type 0
NewestFirst time before x y = time y ≤ℤ time x

abbrev pub OldestFirst : {I : Type 0} → (I → ℤ) → List I → I → I → Type 0
OldestFirst time before x y = time x ≤ℤ time y

abbrev pub IsByNewest : {I : Type 0} → (I → List I) → List I → (I → ℤ) → (I → Type 0) → List I
    → Type 0
IsByNewest along tips time S out = IsChosen S (IsOpen along tips) (NewestFirst time) out

abbrev pub IsByOldest : {I : Type 0} → (I → List I) → List I → (I → ℤ) → (I → Type 0) → List I
    → Type 0
IsByOldest along tips time S out = IsChosen S (IsOpen along tips) (OldestFirst time) out

abbrev pub IsByDate : {I : Type 0} → (I → List I) → (I → ℤ) → (I → Type 0) → List I → Type 0
IsByDate along time S out = IsChosen S (IsReady along S) (NewestFirst time) out

-- ---- topological

-- x is the parent number i of the commit at place j
abbrev pub NamedBy : {I : Type 0} → (I → List I) → List I → ℕ → ℕ → I → Type 0
NamedBy {I} along before j i x = (child : I) × At before j child × At (along child) i x

-- its last child is at j, and i is its last index there
pub record IsLastName {I : Type 0} (along : I → List I) (before : List I) (x : I)
    (j i : ℕ) : Type 0 where
  pub named : NamedBy along before j i x
  pub last : (q h : ℕ) → NamedBy along before q h x → ¬ Before j i q h

-- nothing in the list has it as a parent
abbrev pub HasNoChild : {I : Type 0} → (I → List I) → List I → I → Type 0
HasNoChild {I} along before x = (child : I) → Contains before child → ¬ Contains (along child) x

-- its first place in the list
pub record IsFirstAt {I : Type 0} (xs : List I) (x : I) (i : ℕ) : Type 0 where
  pub at : At xs i x
  pub first : (j : ℕ) → At xs j x → i ≤ j

-- which of two ready commits is listed first
pub data Outranks {I : Type 0} (along : I → List I) (tips : List I) (time : I → ℤ)
    (before : List I) (x y : I) : Type 0 where
  later_child : {p i q j : ℕ} → IsLastName along before x p i → IsLastName along before y q j
      → Before q j p i → Outranks along tips time before x y
  has_child : {p i : ℕ} → IsLastName along before x p i → HasNoChild along before y
      → Outranks along tips time before x y
  newer : HasNoChild along before x → HasNoChild along before y → time y <ℤ time x
      → Outranks along tips time before x y
  given_later : {i j : ℕ} → HasNoChild along before x → HasNoChild along before y
      → time y ≡ time x → IsFirstAt tips x i → IsFirstAt tips y j → j < i
      → Outranks along tips time before x y

abbrev pub IsTopological : {I : Type 0} → (I → List I) → List I → (I → ℤ) → (I → Type 0) → List I
    → Type 0
IsTopological along tips time S out = IsChosen S (IsReady along S) (Outranks along tips time) out
