-- If only locks differ, all references read alike.
use Rattle.std.proofs.Common.{◌≡◌, refl, Bool, true, false, cond}
use Rattle.gix_object_lines.specs.NameTest.{is_full_name}
use Rattle.gix_ref_file.specs.Tree.{Tree}
use Rattle.gix_ref_way.specs.Ways.{Bytes}
use Rattle.gix_ref_lock.specs.Moments.{SameButLocks}
use Rattle.gix_ref_store.specs.Places.{Base, place, log_place, packed_place}
use Rattle.gix_ref_store.specs.RefStates.{Absent, read_by, told_by, records_of, loose_text_at, packed_text_in}
use Rattle.gix_ref_transaction.specs.Alike.{ReadsAlike}
use Rattle.gix_ref_transaction.proofs.PathEnds.{place_free, log_place_free, packed_place_free}

pub reads_alike : (b : Base) (old x : Tree) → SameButLocks old x → ReadsAlike b old x
reads_alike b old x same = record {
  names = λ name. by_full name (is_full_name name) refl;
  logs = λ name full. same (log_place b name) (log_place_free b name full);
  packed = packed_is;
}
  where
    packed_is : packed_text_in b x ≡ packed_text_in b old
    packed_is = same (packed_place b) (packed_place_free b)

    by_full : (name : Bytes) (full : Bool) → is_full_name name ≡ full
        → cond full (read_by b.kind (loose_text_at b x name) (told_by (records_of b.kind (packed_text_in b x)) name)) Absent
        ≡ cond full (read_by b.kind (loose_text_at b old name) (told_by (records_of b.kind (packed_text_in b old)) name)) Absent
    by_full name false is = refl
    by_full name true is =
        let own = same (place b name) (place_free b name is) in
        λ i. read_by b.kind (own i) (told_by (records_of b.kind (packed_is i)) name)
