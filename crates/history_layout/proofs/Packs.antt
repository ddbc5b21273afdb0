-- What the names part holds while names are packed, and once they are.
use Rattle.std.proofs.Common.{◌≡◌, ◌≢◌, ◌⊎◌, inl, inr, Bool, true, false, cond, not, ◌&&◌, ◌||◌, [], refl, sym, ◌∙◌, ap, subst, Option, Some, None, option_map, is_some, unwrap_or, bytes_eq, reverse, MatchOption}
use Rattle.gix_ref_file.specs.Tree.{Tree}
use Rattle.gix_hash.specs.Id.{Id}
use Rattle.history_model.specs.Bytes.{Bytes}
use Rattle.history_model.specs.Repository.{Repository, Reference, id_at, moves_at, stands}
use Rattle.history_model.specs.Forms.{is_name, is_private}
use Rattle.history_model.specs.Commands.{Pack}
use Rattle.history_model.specs.Meaning.{after}
use Rattle.history_model.specs.Causes.{first_cause}
use Rattle.history_model.specs.Logs.{log_text, whole_lines}
use Rattle.history_model.specs.NameStates.{NameState, Holds, Absent, is_absent, loose_state, name_state}
use Rattle.history_model.specs.PackedNames.{PackedAgrees, packed_file}
use Rattle.history_model.specs.Places.{Pair, file_at, head_place, packed_place, log_place, log_name, is_log_place, is_lock_file, is_name_place}
use Rattle.history_model.specs.StandsFor.{StandsFor}
use Rattle.history_model.specs.laws.Wholeness.{IsSound}
use Rattle.history_layout.specs.TreeHalves.{HoldsValues, HoldsNames}
use Rattle.history_layout.specs.Passing.{HoldsBetween, NamesOnTheWay, log_in, reads_as}
use Rattle.history_layout.specs.PackSteps.{HasPacked, PacksNames, PacksOnTheWay, ReadsAlike, PacksReadAlike, PacksPass, PacksStand}
use Rattle.history_model.proofs.NameLemmas.{name-log, name-lock, log-lock}
use Rattle.history_model.proofs.PlaceLemmas.{one_text, apart_texts}
use Rattle.history_model.proofs.WholeLists.{either}
use Rattle.history_layout.proofs.TreePuts.{halves_stand}
use Rattle.history_layout.proofs.TreeMoves.{head_apart, head_no_log, packed_apart, packed_no_log, log_no_name, state_by}
use Rattle.history_layout.proofs.PackedReads.{held, reads_begin}
use Rattle.history_layout.proofs.PackedRecords.{all_agree, all_read, packed_read, private_read}
use Rattle.history_layout.proofs.PassedStates.{names_begin, names_pass}
use Rattle.history_layout.proofs.PassedStops.{packed_more}

-- what doesn't read as absent is a name
named_so : (b : Bool) (x : NameState) (id : Id) → cond b x Absent ≡ Holds id → b ≡ true
named_so true x id e = refl
named_so false x id e = cc

there_named : (b : Bool) (x : NameState) → is_absent (cond b x Absent) ≡ false → b ≡ true
there_named true x e = refl
there_named false x e = cc

second : (a b c d e : Bool) → b ≡ true → (a || b || c || d || e) ≡ true
second true b c d e h = refl
second false true c d e h = refl
second false false c d e h = cc

third : (a b c d e : Bool) → c ≡ true → (a || b || c || d || e) ≡ true
third true b c d e h = refl
third false true c d e h = refl
third false false true d e h = refl
third false false false d e h = cc

module _ (r : Repository) (pair : Pair) (s : StandsFor r.kind pair r) where
  abbrev old : Tree
  old = pair.names

  -- what exists is a name
  named : (q : Bytes) → stands r q ≡ true → is_name q ≡ true
  named q there = let has = held r pair s q there in named_so (is_name q) _ has.0 has.1

  -- what is no name doesn't exist
  unnamed : (q : Bytes) → is_name q ≡ false → stands r q ≡ false
  unnamed q away = elim (either (stands r q)) [
    | inl there ↦ let is = named q there in absurd (cc (sym away ∙ is))
    | inr e ↦ e
  ]

  log_unnamed : (q : Bytes) → is_name q ≡ true → stands r (log_place q) ≡ false
  log_unnamed q is = elim (either (stands r (log_place q))) [
    | inl there ↦ let wrong = name-log (log_place q) (named (log_place q) there) in absurd (cc wrong)
    | inr e ↦ e
  ]

  head_unnamed : stands r head_place ≡ false
  head_unnamed = unnamed head_place refl

  module _ (tree : Tree) (may : PacksOnTheWay r old tree) where
    state_of : (t : Tree) (q : Bytes) (o : Option Bytes) → is_name q ≡ true → file_at t q ≡ o → name_state r.kind t q ≡ unwrap_or (option_map (loose_state r.kind) o) (packed_read r.kind q (file_at t packed_place))
    state_of t q o is e = λ i. state_by r.kind q (is i) (e i) (file_at t packed_place)

    -- if all names are packed and its file is missing, a name that isn't private reads as before
    state_packed : (q : Bytes) → is_name q ≡ true → HasPacked r tree → is_private q ≡ false → file_at tree q ≡ None → name_state r.kind tree q ≡ name_state r.kind old q
    state_packed q is packed public gone =
        state_of tree q None is gone ∙ all_read r q (file_at tree packed_place) packed
        ∙ ap (λ b. cond b Absent (reads_as (id_at r q))) public ∙ sym (reads_begin r pair s q)

    state_private : (q : Bytes) → is_name q ≡ true → HasPacked r tree → is_private q ≡ true → file_at tree q ≡ None → file_at old q ≡ None → name_state r.kind tree q ≡ name_state r.kind old q
    state_private q is packed private gone none =
        state_of tree q None is gone ∙ private_read r q (file_at tree packed_place) private (all_agree r (file_at tree packed_place) packed)
        ∙ sym (state_of old q None is none ∙ private_read r q (file_at old packed_place) private s.packed)

    state_kept : (q : Bytes) → is_name q ≡ true → file_at tree q ≡ file_at old q → name_state r.kind tree q ≡ name_state r.kind old q
    state_kept q is same = elim may.packed [
      | inl packed ↦ state_of tree q (file_at old q) is same
          ∙ ap (λ o. unwrap_or (option_map (loose_state r.kind) (file_at old q)) (packed_read r.kind q o)) packed
          ∙ sym (state_of old q (file_at old q) is refl)
      | inr packed ↦ by_file (file_at old q) refl packed
    ]
      where
        by_file : (o : Option Bytes) → file_at old q ≡ o → HasPacked r tree → name_state r.kind tree q ≡ name_state r.kind old q
        by_file (Some text) e packed = state_of tree q (Some text) is (same ∙ e) ∙ sym (state_of old q (Some text) is e)
        by_file None e packed = elim (either (is_private q)) [
          | inl private ↦ state_private q is packed private (same ∙ e) e
          | inr public ↦ state_packed q is packed public (same ∙ e)
        ]

    state_same : (q : Bytes) → name_state r.kind tree q ≡ name_state r.kind old q
    state_same q = by_name (is_name q) refl
      where
        by_name : (b : Bool) → is_name q ≡ b → name_state r.kind tree q ≡ name_state r.kind old q
        by_name false is = ap (λ b. state_by r.kind q b (file_at tree q) (file_at tree packed_place)) is ∙ sym (ap (λ b. state_by r.kind q b (file_at old q) (file_at old packed_place)) is)
        by_name true is = elim (either (stands r q)) [
          | inl there ↦ elim (may.here q there) [
            | inl same ↦ state_kept q is same
            | inr h ↦ state_packed q is h.2 h.1 h.0
          ]
          | inr away ↦ state_kept q is (may.others q away (λ same. packed_apart q is (sym same)) (name-lock q is))
        ]

    log_kept : (q : Bytes) → is_name q ≡ true → file_at tree (log_place q) ≡ file_at old (log_place q)
    log_kept q is = may.others (log_place q) (log_unnamed q is) (λ same. packed_no_log q (sym same)) (log-lock q is)

    head_kept : file_at tree head_place ≡ file_at old head_place
    head_kept = may.others head_place head_unnamed (λ same. cc) refl

    alike : ReadsAlike r old tree
    alike = record { head = head_kept; states = state_same; logs = log_kept }

    -- ---- meanwhile

    begin : NamesOnTheWay r Pack old
    begin = names_begin r Pack pair s

    agrees_now : (text : Bytes) → file_at tree packed_place ≡ Some text → MatchOption (packed_file r.kind text) ⊥ (PackedAgrees (after r Pack))
    agrees_now text at = elim may.packed [
      | inl same ↦ begin.packed text (sym same ∙ at)
      | inr packed ↦ packed_more r (after r Pack) (λ q v h. h) (packed_file r.kind text) (all_agree r (file_at tree packed_place) packed text at)
    ]

    there_then : (q : Bytes) → is_absent (name_state r.kind tree q) ≡ false → is_absent (name_state r.kind old q) ≡ false
    there_then q there = sym (ap is_absent (state_same q)) ∙ there

    log_then : (q : Bytes) → is_absent (name_state r.kind tree q) ≡ false → log_in tree q ≡ log_in old q
    log_then q there = ap (λ o. whole_lines (unwrap_or o [])) (log_kept q (there_named (is_name q) _ there))

    is_place : Bytes → NameState → Bool
    is_place path state = bytes_eq path head_place || bytes_eq path packed_place || is_lock_file path || is_log_place path || not (is_absent state)

    -- if a file exists that existed before
    place_kept : (path text : Bytes) → file_at tree path ≡ file_at old path → file_at tree path ≡ Some text → is_place path (name_state r.kind tree path) ≡ true
    unfolding is_place
    place_kept path text same at =
        ap (λ x. bytes_eq path head_place || bytes_eq path packed_place || is_lock_file path || is_log_place path || not (is_absent x)) (state_same path)
        ∙ begin.places path text (sym same ∙ at)

    places_now : (path text : Bytes) → file_at tree path ≡ Some text → is_place path (name_state r.kind tree path) ≡ true
    unfolding is_place
    places_now path text at = elim (either (bytes_eq path packed_place)) [
      | inl e ↦ second (bytes_eq path head_place) (bytes_eq path packed_place) (is_lock_file path) (is_log_place path) (not (is_absent (name_state r.kind tree path))) e
      | inr e ↦ elim (either (is_lock_file path)) [
        | inl f ↦ third (bytes_eq path head_place) (bytes_eq path packed_place) (is_lock_file path) (is_log_place path) (not (is_absent (name_state r.kind tree path))) f
        | inr f ↦ elim (either (stands r path)) [
          | inl there ↦ elim (may.here path there) [
            | inl same ↦ place_kept path text same at
            | inr h ↦ no_file h.0
          ]
          | inr away ↦ place_kept path text (may.others path away (apart_texts path packed_place e) f) at
        ]
      ]
    ]
      where
        no_file : {A : Type 0} → file_at tree path ≡ None → A
        no_file none = let wrong : None ≡ Some text = sym none ∙ at in absurd (cc wrong)

    way : NamesOnTheWay r Pack tree
    unfolding is_place
    way = record {
      head = inl (head_kept ∙ s.head);
      reads = λ q. inl (state_same q ∙ reads_begin r pair s q);
      logs = λ q there. elim (begin.logs q (there_then q there)) [
        | inl e ↦ inl (log_then q there ∙ e)
        | inr (inl e) ↦ inr (inl (log_then q there ∙ e))
        | inr (inr e) ↦ inr (inr (e.0, log_then q there ∙ e.1))
      ];
      log_first = λ q there. inl (state_same q ∙ reads_begin r pair s q);
      packed = agrees_now;
      places = places_now;
      folders = may.folders;
      not_lost = tt;
    }

    passes : IsSound r → first_cause r Pack ≡ None → HoldsBetween r Pack tree
    passes sound none = names_pass r Pack tree sound none way

  -- ---- once all is packed

  module _ (new : Tree) (done : PacksNames r old new) where
    ended : PacksOnTheWay r old new
    ended = record {
      packed = inr done.packed;
      here = λ q there. elim (either (is_private q)) [
        | inl private ↦ inl (done.private q there private)
        | inr public ↦ inr (done.gone q there public, public, done.packed)
      ];
      others = λ path away apart lock. done.others path away apart;
      folders = done.folders;
    }

    halves : (r.kind ≡ r.kind) × HoldsValues r.kind pair.objects r.objects × HoldsNames old r
    halves = (halves_stand r.kind pair r).0 s

    same : (q : Bytes) → name_state r.kind new q ≡ name_state r.kind old q
    same q = state_same new ended q

    log_here : (q : Bytes) → file_at new (log_place q) ≡ file_at old (log_place q)
    log_here q = elim (either (stands r (log_place q))) [
      | inl there ↦ let wrong = name-log (log_place q) (named (log_place q) there) in absurd (cc wrong)
      | inr away ↦ done.others (log_place q) away (λ is. packed_no_log q (sym is))
    ]

    place_of : (a b c d : Bool) → b ≡ true → (a || b || c || d) ≡ true
    place_of true b c d h = refl
    place_of false true c d h = refl
    place_of false false c d h = cc

    name_of : (a b c d : Bool) → c ≡ true → (a || b || c || d) ≡ true
    name_of true b c d h = refl
    name_of false true c d h = refl
    name_of false false true d h = refl
    name_of false false false d h = cc

    places_then : (path text : Bytes) → file_at new path ≡ Some text → is_name_place r path ≡ true
    places_then path text at = elim (either (stands r path)) [
      | inl there ↦ name_of (bytes_eq path head_place) (bytes_eq path packed_place) (stands r path) (is_log_place path && stands r (log_name path)) there
      | inr away ↦ elim (either (bytes_eq path packed_place)) [
        | inl e ↦ place_of (bytes_eq path head_place) (bytes_eq path packed_place) (stands r path) (is_log_place path && stands r (log_name path)) e
        | inr e ↦ s.places path text (sym (done.others path away (apart_texts path packed_place e)) ∙ at)
      ]
    ]

    names_held : HoldsNames new r
    names_held = record {
      head = head_kept new ended ∙ s.head;
      names = λ q id. (
        λ h. (s.names q id).0 (sym (same q) ∙ h),
        λ h. same q ∙ (s.names q id).1 h,
      );
      logs = λ q. ap (λ o. unwrap_or o []) (log_here q) ∙ s.logs q;
      packed = all_agree r (file_at new packed_place) done.packed;
      places = places_then;
      folders = done.folders;
    }

    stood : StandsFor r.kind (record pair { names = new }) r
    stood = (halves_stand r.kind (record pair { names = new }) r).1 (refl, halves.1, names_held)

pub packs_read_alike : PacksReadAlike
packs_read_alike r pair tree s may = alike r pair s tree may

pub packs_pass : PacksPass
packs_pass r pair tree sound none s may = passes r pair s tree may sound none

pub packs_stand : PacksStand
packs_stand r pair new s done = stood r pair s new done
