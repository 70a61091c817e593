-- What was read of a numbered file's disk, by its outer gate.
use Rattle.std.proofs.Common.{◌≡◌, ◌≢◌, inl, inr, ℕ, ◌<◌, Bool, IsTrue, List, [], ◌∷◌, length, drop, Option, Some, None, Result, Ok, Err, IfOk, IfErr, refl, sym, ◌∙◌, ap, subst, arith}
use Rattle.std.proofs.lemmas.Option.{same_Some, none-some}
use Rattle.std.specs.List.{slice_get}
use Rattle.mt_disk.specs.Disk.{DiskState, IsDurable, LeavesOnly, GoesUp}
use Rattle.mt_gates.{specs.Gates.{IsGated, IsLeftOf, IsGateOf, IsSyncedOrSame, ClosesGate}, proofs.Crash.{by_first, closed_rest, tried_sync, close_leaves}}
use Rattle.mt_log_generations.specs.{declared.header.Header.Header, declared.fault.HeaderFault.HeaderFault, Headers.{IsLog, IsBad}}
use Rattle.mt_log_generations.specs.Calls.{ReadHeader, IsNotRead, StillLeaves}
use Rattle.mt_log_generations.specs.Reading.{IsReadAfterGate, IsFaultAfterGate, CountsFault, CountsReads}
use Rattle.mt_log_generations.specs.declared.fault.HeaderFault.TheVariants.{Device, Bad}

-- what holds of what was returned, with its count of failures
pub after : {T : Type 0} {P Q : T → Type 0} {old new : ℕ} (r : Result T HeaderFault) → IfOk r P → CountsReads r old new → ((x : T) → P x → new ≡ old → Q x) → IfOk r Q
after (Ok x) is count to = to x is count
after (Err e) is count to = tt

pub after_fault : {T : Type 0} {P Q : HeaderFault → Type 0} {old new : ℕ} (r : Result T HeaderFault) → IfErr r P → CountsReads r old new → ((f : HeaderFault) → P f → CountsFault f old new → Q f) → IfErr r Q
after_fault (Ok x) is count to = tt
after_fault (Err f) is count to = to f is count

-- a file without a first byte is empty
no_bytes : (image : List ℕ) → slice_get image 0 ≡ None → image ≡ []
no_bytes [] e = refl
no_bytes (x ∷ image) e = absurd (none-some x (sym e))

module _ {D : Type 0} (is_honest : D → Bool) (state : D → DiskState) (failures : D → ℕ) (old : D) where
  -- its sync failed, or what came before it told the gate
  pub not_synced : (new : D) → (IsTrue (is_honest old) → IsSyncedOrSame (state old) (state new)) → GoesUp (failures old) (failures new) → is_honest new ≡ is_honest old
      → IsNotRead is_honest state failures old new Device
  not_synced new moves up honest = record { leaves = λ h text first some kept. tried_sync text first (state old) (state new) kept (moves h); count = up; honest = honest }

  module _ (mid : D) (len : ℕ) (gate : Option ℕ) (at : IsGateOf is_honest state old mid (len, gate)) (kept_mid : is_honest mid ≡ is_honest old) (count_mid : failures mid ≡ failures old) where
    still : IsTrue (is_honest old) → IsTrue (is_honest mid)
    still h = subst IsTrue (sym kept_mid) h

    image_is : IsTrue (is_honest old) → (state mid).image ≡ (state old).image
    image_is h = ap (λ (s : DiskState). s.image) (at.moves h)

    first_is : IsTrue (is_honest old) → slice_get (state old).image 0 ≡ gate
    first_is h = sym (at.gate h)

    durable_mid : IsTrue (is_honest old) → IsDurable (state mid)
    durable_mid h = subst IsDurable (sym (at.moves h)) refl

    leaves_mid : StillLeaves is_honest state failures old mid
    leaves_mid h text first some kept = tried_sync text first (state old) (state mid) kept (inr (at.moves h))

    -- no byte
    pub nothing_read : gate ≡ None → ReadHeader is_honest state failures old mid None
    nothing_read e = record {
      format = tt;
      tells = λ h opened. none-some 1 (sym (first_is h ∙ e) ∙ opened);
      settled = λ h. (durable_mid h, inl (no_bytes (state mid).image (ap (λ (l : List ℕ). slice_get l 0) (image_is h) ∙ first_is h ∙ e)));
      leaves = leaves_mid;
      count = count_mid;
      honest = kept_mid;
    }

    -- a closed gate
    pub shut_read : gate ≡ Some 0 → ReadHeader is_honest state failures old mid None
    shut_read e = record {
      format = tt;
      tells = λ h opened. omega (arith, same_Some 0 1 (sym (first_is h ∙ e) ∙ opened));
      settled = λ h. (durable_mid h, inr (closed_rest (state old) (state mid) (at.moves h) (first_is h ∙ e)).closed);
      leaves = leaves_mid;
      count = count_mid;
      honest = kept_mid;
    }

    -- an open one
    module _ (e : gate ≡ Some 1) (new : D) (same : IsTrue (is_honest mid) → state new ≡ state mid) (kept : is_honest new ≡ is_honest mid) where
      opened : IsTrue (is_honest old) → (state mid).image ≡ 1 ∷ drop 1 (state mid).image
      opened h = by_first (state mid).image 1 (ap (λ (l : List ℕ). slice_get l 0) (image_is h) ∙ first_is h ∙ e)

      long : IsTrue (is_honest old) → len ≡ length (state mid).image
      long h = at.len h ∙ ap length (sym (image_is h))

      leaves_new : StillLeaves is_honest state failures old new
      leaves_new h text first some before = subst (LeavesOnly (IsLeftOf text) first) (sym (same (still h))) (leaves_mid h text first some before)

      pub open_read : (x : Option Header) → IsReadAfterGate is_honest state mid len x → failures new ≡ failures mid → ReadHeader is_honest state failures old new x
      open_read None is count = absurd is
      open_read (Some x) is count = record {
        format = is.0;
        tells = λ h. subst (IsLog x) (image_is h) (is.1 (still h) (long h) (drop 1 (state mid).image) (opened h));
        settled = λ h. same (still h) ∙ at.moves h;
        leaves = leaves_new;
        count = count ∙ count_mid;
        honest = kept ∙ kept_mid;
      }

      pub open_failed : (f : HeaderFault) → IsFaultAfterGate is_honest state mid len f → CountsFault f (failures mid) (failures new) → IsNotRead is_honest state failures old new f
      open_failed Device is count = record { leaves = leaves_new; count = subst (λ n. GoesUp n (failures new)) count_mid count; honest = kept ∙ kept_mid }
      open_failed (Bad number) is count = record {
        bad = λ h. subst (λ (l : List ℕ). IsBad l number) (image_is h) (is (still h) (long h) (drop 1 (state mid).image) (opened h));
        moves = λ h. same (still h) ∙ at.moves h;
        count = count ∙ count_mid;
        honest = kept ∙ kept_mid;
      }

    -- and any other
    module _ (g : ℕ) (e : gate ≡ Some g) (not_open : g ≢ 1) (not_shut : g ≢ 0) (new : D) (kept : is_honest new ≡ is_honest mid)
        (closing : IsTrue (is_honest mid) → (text : List ℕ) → 0 < length text → IsGated text (state mid).image → IsDurable (state mid) → LeavesOnly (IsGated text) (state mid) (state new)) where
      leaves_closed : StillLeaves is_honest state failures old new
      leaves_closed h text first some before =
          close_leaves text first (state old) (state mid) (state new) before (at.moves h) (λ shut. not_shut (same_Some g 0 (sym (first_is h ∙ e) ∙ shut))) (λ gated durable. closing (still h) text some gated durable)

      pub torn_failed : GoesUp (failures mid) (failures new) → IsNotRead is_honest state failures old new Device
      torn_failed up = record { leaves = leaves_closed; count = subst (λ n. GoesUp n (failures new)) count_mid up; honest = kept ∙ kept_mid }

      pub torn_read : (IsTrue (is_honest mid) → ClosesGate (state mid) (state new)) → failures new ≡ failures mid → ReadHeader is_honest state failures old new None
      torn_read closed count = record {
        format = tt;
        tells = λ h opened. not_open (same_Some g 1 (sym (first_is h ∙ e) ∙ opened));
        settled = λ h. ((closed (still h)).durable, inr (record { behind = drop 1 (state mid).image; whole = (closed (still h)).image }));
        leaves = leaves_closed;
        count = count ∙ count_mid;
        honest = kept ∙ kept_mid;
      }
