-- How a scan begins, and that what it has done stays.
use Rattle.std.{proofs.{Common.{◌≡◌, ℕ, ◌<◌, ◌≤◌, ◌^◌, Bool, List, sym, ap, subst, ◌∙◌, arith}, lemmas.List.Elements.All-nil}, specs.Prelude.not}
use Rattle.mt_slices.specs.Keys.{IsStoredKey, stored_key, tenant_of}
use Rattle.mt_rows.specs.{declared.command.Command.TheVariants.Scan, Commands.IsKey, Rows.Bytes, Stamps.Stamped, Maps.Map, Tenants.tenant_map}
use Rattle.mt_operation.specs.Operations.{ScanView, no_scan}
use Rattle.mt_descent.specs.Pasts.{Past, ExtendsPast}
use Rattle.mt_walks.{specs.Walked.IsWithin, proofs.Walks.{begins, stays}}
use Rattle.mt_stretches.{specs.Scanned.{maps_of, passed_by, HasScanned, IsSeenTo, HasSeen}, proofs.Fronts.walked_is}

-- before its first step a scan is done with no key that it walks
pub scan_begins : (past : Past) (first t : ℕ) (from : Bytes) (after : Bool) (count : ℕ) (columns : List ℕ) → t < 2 ^ 32 → IsStoredKey (stored_key t from) → 1 ≤ count
    → HasScanned past first from after count columns (no_scan (stored_key t from) (Scan from after count columns))
scan_begins past first t from after count columns fits stored some = record {
  stored = stored;
  walked = begins (maps_of past (tenant_of (stored_key t from))) (IsWithin first past.steps) from after columns
      (passed_by (no_scan (stored_key t from) (Scan from after count columns))) (λ key is_done. walked_is t from after key fits ∙ ap not is_done);
  behind = λ key not_done. walked_is t from after key fits ∙ ap not not_done;
  few = omega (arith, some);
  short = All-nil (λ (p : Bytes × Stamped). IsKey p.0);
}

module _ (before now : Past) (first : ℕ) (more : ExtendsPast first before now) where
  -- a tenant's maps since the first step are the same
  same_map : (t m : ℕ) → IsWithin first before.steps m → maps_of now t m ≡ maps_of before t m
  same_map t m between = ap (tenant_map t) (more.same m between.0 between.1)

  pub scanned_stays : (from : Bytes) (after : Bool) (count : ℕ) (columns : List ℕ) (s : ScanView) → HasScanned before first from after count columns s
      → HasScanned now first from after count columns s
  scanned_stays from after count columns s h = record {
    stored = h.stored;
    walked = stays (maps_of before (tenant_of s.fence)) (maps_of now (tenant_of s.fence)) (IsWithin first before.steps) (IsWithin first now.steps)
        from after columns (passed_by s) s.collected
        (λ m between. (between.0, let longer = more.steps in let upto = between.1 in omega (arith, longer, upto)))
        (same_map (tenant_of s.fence))
        h.walked;
    behind = h.behind;
    few = h.few;
    short = h.short;
  }

  pub seen_stays : (prefix : Bytes) (s : ScanView) → HasSeen before first prefix s → HasSeen now first prefix s
  seen_stays prefix s h = record {
    step = h.step;
    since = h.since;
    made = (let longer = more.steps in let upto = h.made in omega (arith, longer, upto));
    seen = subst (λ (m : Map). IsSeenTo m s prefix s.stop) (sym (same_map (tenant_of s.fence) h.step (h.since, h.made))) h.seen;
    short = h.short;
  }
