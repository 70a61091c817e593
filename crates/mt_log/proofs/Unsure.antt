-- What the gate tells of a front whose last append failed, and what setting its end right leaves.
use Rattle.std.proofs.Common.{◌≡◌, ◌≢◌, inr, ⊎_elim, ℕ, ◌∷◌, ◌++◌, length, refl, sym, ◌∙◌, ap, subst, append_assoc}
use Rattle.mt_rows.specs.Rows.{Bytes}
use Rattle.mt_disk.{specs.Disk.{DiskState, IsDurable, LeavesOnly, synced}, proofs.CrashLaws.{after_sync, joined, widened}}
use Rattle.mt_log.specs.{Format.{told_body, open_batch}, Fronts.{IsShut, IsTorn, IsBeforeOrAfter, IsFound, IsUnsure}}

-- it was synced
module _ (front bytes : Bytes) (before after : ℕ) (first old mid : DiskState) (unsure : IsUnsure front bytes before after first old) (done : mid ≡ synced old) where
  pub kept : LeavesOnly (IsBeforeOrAfter front bytes) first mid
  kept = after_sync (IsBeforeOrAfter front bytes) first old mid unsure.leaves done

  here : IsBeforeOrAfter front bytes mid.image
  here = kept.now mid.image kept.reads

  durable : IsDurable mid
  durable = subst IsDurable (sym done) refl

  -- and its gate was read
  module _ (gate : ℕ) (told : (f behind : Bytes) (g : ℕ) → mid.image ≡ f ++ (g ∷ behind) → before ≡ length f → gate ≡ g) where
    open_is : IsShut (front ++ open_batch bytes) mid.image → gate ≡ 1
    open_is shut = told front (told_body bytes ++ 0 ∷ shut.behind) 1 (shut.whole ∙ append_assoc front (open_batch bytes) (0 ∷ shut.behind)) unsure.ends_before

    torn_is : (torn : IsTorn front bytes mid.image) → gate ≡ torn.gate
    torn_is torn = told front torn.behind torn.gate torn.whole unsure.ends_before

    -- an open gate: the body counts
    pub counted : gate ≡ 1 → IsFound (front ++ open_batch bytes) 0 after mid
    counted is_open =
        ⊎_elim
        (λ torn. absurd (torn.is_shut (sym (torn_is torn) ∙ is_open)))
        (λ shut. record { behind = shut.behind; image = shut.whole; durable = durable; end = unsure.ends_after })
        here

    -- any other: the front is the old one
    pub torn_here : gate ≢ 1 → IsTorn front bytes mid.image
    torn_here other = ⊎_elim (λ torn. torn) (λ shut. absurd (other (open_is shut))) here

    pub uncounted : gate ≢ 1 → IsFound front gate before mid
    uncounted other =
        let torn = torn_here other in
        record {
          behind = torn.behind;
          image = torn.whole ∙ ap (λ (g : ℕ). front ++ (g ∷ torn.behind)) (sym (torn_is torn));
          durable = durable;
          end = unsure.ends_before;
        }

  -- what follows leaves the one or the other
  pub after_open : (new : DiskState) → LeavesOnly (IsShut (front ++ open_batch bytes)) mid new → LeavesOnly (IsBeforeOrAfter front bytes) first new
  after_open new leaves =
      let P = IsBeforeOrAfter front bytes in
      joined P first mid new kept (widened (IsShut (front ++ open_batch bytes)) P mid new (λ image shut. inr shut) leaves)

  pub after_torn : (new : DiskState) → LeavesOnly (IsBeforeOrAfter front bytes) mid new → LeavesOnly (IsBeforeOrAfter front bytes) first new
  after_torn new leaves = joined (IsBeforeOrAfter front bytes) first mid new kept leaves
