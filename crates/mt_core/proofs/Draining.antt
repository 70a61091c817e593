-- A log that was given changes, logs that were given all, and the least of the steps up to which logs were given theirs: for `drains` and `Inner::keep_logs`.
use Rattle.std.proofs.{lemmas.List.{take_more, length-append, length-replicate, length-set}, Math.ListN.get_or-append, Math.Seq.get_or-append_seam}
use Rattle.std.proofs.Common.{◌≡◌, ℕ, ◌+◌, ◌<◌, ◌≤◌, List, [], ◌∷◌, ◌++◌, min, length, replicate, take, get_or, set, sym, subst, arith}
use Rattle.std.proofs.lemmas.List.Elements.{All-push, All-replicate, All-set}
use Rattle.mt_tape.proofs.EntryLaws.{floor_upto_last}
use Rattle.mt_state.specs.{Views.Core, Invariant.StateInvariant}
use Rattle.mt_core.{specs.{Drains.IsLeastOf, Renumbers.with_logs}, proofs.Retained.{retained, scan_retained, own_tape}}

-- a log that was given changes up to a step that was made, not before it was last given any, is a log still
pub drained : (c : Core) (worker given to : ℕ) → StateInvariant c → worker < length c.logs → get_or c.logs worker given ≤ to → to ≤ c.steps → StateInvariant (record c { logs = set c.logs worker to })
drained c worker given to h there later made = record {
  tape = record {
    rises = h.tape.rises;
    made = h.tape.made;
    legal = h.tape.legal;
    keys = h.tape.keys;
    logs = record {
      few = let same = length-set c.logs worker to in omega (arith, same, h.tape.logs.few);
      made = All-set (λ m. m ≤ c.steps) c.logs worker to made h.tape.logs.made;
      reached =
          let floor = h.tape.logs.reached worker given there in
          All-set (λ m. c.tape.floor ≤ m) c.logs worker to (omega (arith, floor, later)) h.tape.logs.reached;
    };
  };
  stamps = h.stamps;
  versions = h.versions;
  holders = h.holders;
  counts = h.counts;
  ops = λ o op op_there. let k = h.ops o op op_there in retained c c.answers (set c.logs worker to) c.tape c.table o op (own_tape c op k.always) k.always k;
  scans = λ o op op_there. let k = h.ops o op op_there in scan_retained c c.answers (set c.logs worker to) c.tape c.table o op (own_tape c op k.always) k.always (h.scans o op op_there);
  reserved = h.reserved;
  answered = h.answered;
  deleted = h.deleted;
  late = h.late;
  remembered = h.remembered;
  few = h.few;
  quotas = h.quotas;
  written = h.written;
}

-- so many logs that were given all that was done are logs
pub kept_all : (c : Core) (count : ℕ) → StateInvariant c → count ≤ 64 → StateInvariant (with_logs count c)
kept_all c count h few = record {
  tape = record {
    rises = h.tape.rises;
    made = h.tape.made;
    legal = h.tape.legal;
    keys = h.tape.keys;
    logs = record {
      few = let same = length-replicate {A = ℕ} count c.steps in omega (arith, same, few);
      made = All-replicate (λ m. m ≤ c.steps) count c.steps (omega arith);
      reached = All-replicate (λ m. c.tape.floor ≤ m) count c.steps (let low = floor_upto_last c.tape.floor c.tape.entries h.tape.rises in omega (arith, low, h.tape.made));
    };
  };
  stamps = h.stamps;
  versions = h.versions;
  holders = h.holders;
  counts = h.counts;
  ops = λ o op op_there. let k = h.ops o op op_there in retained c c.answers (replicate count c.steps) c.tape c.table o op (own_tape c op k.always) k.always k;
  scans = λ o op op_there.
      let k = h.ops o op op_there in scan_retained c c.answers (replicate count c.steps) c.tape c.table o op (own_tape c op k.always) k.always (h.scans o op op_there);
  reserved = h.reserved;
  answered = h.answered;
  deleted = h.deleted;
  late = h.late;
  remembered = h.remembered;
  few = h.few;
  quotas = h.quotas;
  written = h.written;
}

-- the least of the numbers so far, and of one more
pub least_more : (numbers : List ℕ) (i bound least : ℕ) → i < length numbers → IsLeastOf (take i numbers) bound least
    → IsLeastOf (take (i + 1) numbers) bound (min least (get_or numbers i 0))
least_more numbers i bound least within h =
    subst (λ (ns : List ℕ). IsLeastOf ns bound (min least (get_or numbers i 0))) (sym (take_more numbers i 0 within)) (record {
      within = omega (arith, h.within);
      each = All-push (λ m. min least (get_or numbers i 0) ≤ m) (take i numbers) (get_or numbers i 0)
          (λ k d lt. let was = h.each k d lt in omega (arith, was)) (omega arith);
      greatest = λ n low all.
          let before = h.greatest n low (λ k d lt. subst (λ x. n ≤ x) (before_push k d lt) (all k d (omega (arith, lt, longer)))) in
          let here = all (length (take i numbers)) 0 (omega (arith, longer)) in
          omega (arith, before, subst (λ x. n ≤ x) last_push here);
    })
  where
    longer : length (take i numbers ++ get_or numbers i 0 ∷ []) ≡ length (take i numbers) + 1
    longer = length-append (take i numbers) (get_or numbers i 0 ∷ [])

    before_push : (k d : ℕ) → k < length (take i numbers) → get_or (take i numbers ++ get_or numbers i 0 ∷ []) k d ≡ get_or (take i numbers) k d
    before_push k d lt = get_or-append (take i numbers) (get_or numbers i 0 ∷ []) d k lt

    last_push : get_or (take i numbers ++ get_or numbers i 0 ∷ []) (length (take i numbers)) 0 ≡ get_or numbers i 0
    last_push = get_or-append_seam (take i numbers) (get_or numbers i 0) [] 0
