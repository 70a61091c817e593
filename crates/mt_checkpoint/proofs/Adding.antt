-- What a writer has after pairs were added, and after its walk was staged.
use Rattle.std.proofs.Common.{◌≡◌, ℕ, ◌+◌, ◌^◌, ◌<◌, ◌≤◌, Bool, IsTrue, List, ◌∷◌, ◌++◌, length, refl, sym, ◌∙◌, ap, subst, append_assoc, length-append, arith}
use Rattle.std.proofs.lemmas.{Grind.flat_map-append}
use Rattle.std.specs.List.{flat_map}
use Rattle.mt_rows.specs.{Rows.Bytes, declared.record.TenantPair.TenantPair}
use Rattle.mt_disk.specs.Disk.{debt, DiskState, LeavesOnly}
use Rattle.sha2.specs.{Hashers.Holds256, Sha256.sha256}
use Rattle.mt_digests.specs.{declared.file_digest.FileDigest.FileDigest, Digests.digest_of}
use Rattle.mt_checkpoint.specs.{declared.slot.Writer.Writer, declared.fault.FaultCause.FaultCause, Format.{head_bytes, entry_bytes, last_bytes}}
use Rattle.mt_checkpoint.specs.{Faults.CountsCause, Seen.HasSeen, Checkpoints.{IsWalk, walk_bytes, IsClosed, IsBehindGate, IsShutIn, IsStaged}}
use Rattle.mt_checkpoint.specs.{Writes.{text_with, IsWriting, walk_with, Added}, Staging.{StopsOn, StagesWalk}}
use Rattle.mt_checkpoint.proofs.{Crash.behind_gate, Behind.shut_of, Rising.seen_walk}

-- the text after pairs more
more_text : (first : ℕ) (before pairs : List TenantPair) (block : Bytes) → block ≡ flat_map (entry_bytes 2) pairs → text_with first before ++ block ≡ text_with first (before ++ pairs)
more_text first before pairs block is =
    append_assoc (head_bytes 2 first) (flat_map (entry_bytes 2) before) block ∙ ap (λ (l : Bytes). head_bytes 2 first ++ (flat_map (entry_bytes 2) before ++ l)) is
    ∙ ap (λ (l : Bytes). head_bytes 2 first ++ l) (sym (flat_map-append (entry_bytes 2) before pairs))

-- and after the last entry
pub whole_text : (first : ℕ) (pairs : List TenantPair) (last : ℕ) → text_with first pairs ++ last_bytes last ≡ walk_bytes 2 (record { first = first; last = last; pairs = pairs })
whole_text first pairs last = append_assoc (head_bytes 2 first) (flat_map (entry_bytes 2) pairs) (last_bytes last)

module _ {D : Type 0} (is_honest : D → Bool) (state : D → DiskState) (failures : D → ℕ) where
  -- what a step of a call does behind the closed gate
  pub record GoesOnBehind (old new : Writer D) : Type 0 where
    pub leaves : IsTrue (is_honest old.disk) → (text : Bytes) → IsBehindGate text (state old.disk) → old.end ≡ length (state old.disk).image → LeavesOnly IsClosed (state old.disk) (state new.disk)
    pub shut : IsTrue (is_honest old.disk) → (text : Bytes) → IsBehindGate text (state old.disk) → old.end ≡ length (state old.disk).image → IsShutIn (state new.disk)
    pub honest : is_honest new.disk ≡ is_honest old.disk

  pub stops_so : (old new : Writer D) (cause : FaultCause) → GoesOnBehind old new → CountsCause cause (failures old.disk) (failures new.disk)
      → StopsOn is_honest state failures old new cause
  stops_so old new cause goes count = record {
    leaves = λ honest pairs is. goes.leaves honest (text_with old.first pairs) is.text is.end;
    shut = λ honest pairs is. goes.shut honest (text_with old.first pairs) is.text is.end;
    count = count;
    honest = goes.honest;
  }

  -- none was made of its disk
  pub stays_so : (old new : Writer D) (cause : FaultCause) → new.disk ≡ old.disk → CountsCause cause (failures old.disk) (failures old.disk) → StopsOn is_honest state failures old new cause
  stays_so old new cause same count = record {
    leaves = λ honest pairs is. subst (λ (d : D). LeavesOnly IsClosed (state old.disk) (state d)) (sym same) (behind_gate (text_with old.first pairs) (state old.disk) is.text);
    shut = λ honest pairs is. subst (λ (d : D). IsShutIn (state d)) (sym same) (shut_of (text_with old.first pairs) (state old.disk) is.text);
    count = subst (λ (d : D). CountsCause cause (failures old.disk) (failures d)) (sym same) count;
    honest = ap is_honest same;
  }

  -- what was written and kept of some pairs
  pub record WritesPairs (old : Writer D) (pairs : List TenantPair) (new : Writer D) : Type 0 where
    pub block : Bytes
    pub entries : block ≡ flat_map (entry_bytes 2) pairs
    pub first_is : new.first ≡ old.first
    pub end : new.end ≡ old.end + length block
    pub seen : (before : List TenantPair) → HasSeen before old.seen → HasSeen (before ++ pairs) new.seen
    pub hashed : (m : Bytes) → Holds256 old.hash m → Holds256 new.hash (m ++ block)
    pub behind : IsTrue (is_honest old.disk) → (text : Bytes) → IsBehindGate text (state old.disk) → old.end ≡ length (state old.disk).image → IsBehindGate (text ++ block) (state new.disk)
    pub leaves : IsTrue (is_honest old.disk) → (text : Bytes) → IsBehindGate text (state old.disk) → old.end ≡ length (state old.disk).image → LeavesOnly IsClosed (state old.disk) (state new.disk)
    pub owed : IsTrue (is_honest old.disk) → debt (state old.disk).now ≤ old.owed → debt (state new.disk).now ≤ new.owed
    pub bounded : new.owed < 2 ^ 22
    pub count : failures new.disk ≡ failures old.disk
    pub honest : is_honest new.disk ≡ is_honest old.disk

  pub added_so : (old : Writer D) (pairs : List TenantPair) (new : Writer D) → WritesPairs old pairs new → Added is_honest state failures old pairs new
  added_so old pairs new w = record {
    first_is = w.first_is;
    writing = λ honest before is. writing honest before is;
    leaves = λ honest before is. w.leaves honest (text_with old.first before) is.text is.end;
    count = w.count;
    honest = w.honest;
  }
    where
      text : (before : List TenantPair) → text_with old.first before ++ w.block ≡ text_with new.first (before ++ pairs)
      text before = more_text old.first before pairs w.block w.entries ∙ ap (λ n. text_with n (before ++ pairs)) (sym w.first_is)

      writing : IsTrue (is_honest old.disk) → (before : List TenantPair) → IsWriting is_honest state failures before old → IsWriting is_honest state failures (before ++ pairs) new
      writing honest before is =
          let behind = w.behind honest (text_with old.first before) is.text is.end in
          let was = is.end in
          record {
            text = subst (λ t. IsBehindGate t (state new.disk)) (text before) behind;
            end = omega (arith, was, w.end, ap length is.text.image, ap length behind.image, length-append (text_with old.first before) w.block);
            seen = w.seen before is.seen;
            hashed = subst (λ t. Holds256 new.hash t) (text before) (w.hashed (text_with old.first before) is.hashed);
            owed = w.owed honest is.owed;
            bounded = w.bounded;
          }

  -- and nothing changes after it
  pub goes_same : (old mid new : Writer D) → GoesOnBehind old mid → (IsTrue (is_honest mid.disk) → state new.disk ≡ state mid.disk) → is_honest new.disk ≡ is_honest mid.disk
      → GoesOnBehind old new
  goes_same old mid new goes same honest = record {
    leaves = λ h text at end. subst (LeavesOnly IsClosed (state old.disk)) (sym (same (subst IsTrue (sym goes.honest) h))) (goes.leaves h text at end);
    shut = λ h text at end. subst IsShutIn (sym (same (subst IsTrue (sym goes.honest) h))) (goes.shut h text at end);
    honest = honest ∙ goes.honest;
  }

  -- what was written and told of a whole walk
  pub record WritesLast (old : Writer D) (last : ℕ) (mid : Writer D) (digest : FileDigest) : Type 0 where
    pub order : old.first ≤ last
    pub least : last ≤ 2 ^ 59
    pub stamps : old.seen.greatest ≤ last
    pub staged : IsTrue (is_honest old.disk) → (text : Bytes) → IsBehindGate text (state old.disk) → old.end ≡ length (state old.disk).image → IsStaged (text ++ last_bytes last) (state mid.disk)
    pub len : digest.len ≡ old.end + 8
    pub hash : (m : Bytes) → Holds256 old.hash m → digest.sha256 ≡ sha256 (m ++ last_bytes last)

  module _ (old : Writer D) (last : ℕ) (mid : Writer D) (digest : FileDigest) (w : WritesLast old last mid digest) where
    staged_text : IsTrue (is_honest old.disk) → (pairs : List TenantPair) → IsWriting is_honest state failures pairs old
        → IsStaged (walk_bytes 2 (walk_with is_honest state failures old last pairs)) (state mid.disk)
    staged_text honest pairs is =
        subst (λ t. IsStaged t (state mid.disk)) (whole_text old.first pairs last) (w.staged honest (text_with old.first pairs) is.text is.end)

    told_text : IsTrue (is_honest old.disk) → (pairs : List TenantPair) → IsWriting is_honest state failures pairs old
        → digest ≡ digest_of (walk_bytes 2 (walk_with is_honest state failures old last pairs))
    told_text honest pairs is =
        let was = is.end in
        let size : length (last_bytes last) ≡ 9 = refl in
        let len : digest.len ≡ length (walk_bytes 2 (walk_with is_honest state failures old last pairs)) =
        omega (arith, w.len, was, ap length is.text.image, size, length-append (text_with old.first pairs) (last_bytes last), ap length (whole_text old.first pairs last)) in
        let hash : digest.sha256 ≡ sha256 (walk_bytes 2 (walk_with is_honest state failures old last pairs)) =
        w.hash (text_with old.first pairs) is.hashed ∙ ap sha256 (whole_text old.first pairs last) in
        λ i. record { len = len i; sha256 = hash i }

    walk_so : IsTrue (is_honest old.disk) → (pairs : List TenantPair) → IsWriting is_honest state failures pairs old → IsWalk (walk_with is_honest state failures old last pairs)
    walk_so honest pairs is = seen_walk old.first last pairs old.seen is.seen w.order w.least w.stamps

    pub stages_so : (new : Writer D) → (IsTrue (is_honest old.disk) → state new.disk ≡ state mid.disk) → GoesOnBehind old new → failures new.disk ≡ failures old.disk
        → StagesWalk is_honest state failures old last new digest
    stages_so new same goes count = record {
      walk = walk_so;
      staged = λ honest pairs is. subst (IsStaged (walk_bytes 2 (walk_with is_honest state failures old last pairs))) (sym (same honest)) (staged_text honest pairs is);
      told = told_text;
      leaves = λ honest pairs is. goes.leaves honest (text_with old.first pairs) is.text is.end;
      count = count;
      honest = goes.honest;
    }

    -- what stands there is read back
    pub read_so : (b : Bool) → IsTrue (is_honest old.disk) → (pairs : List TenantPair) → IsWriting is_honest state failures pairs old
        → ((gate : ℕ) (text : Bytes) → (state mid.disk).image ≡ gate ∷ text → digest ≡ digest_of text → IsTrue b) → IsTrue b
    read_so b honest pairs is reads = reads 0 (walk_bytes 2 (walk_with is_honest state failures old last pairs)) (staged_text honest pairs is).image (told_text honest pairs is)
