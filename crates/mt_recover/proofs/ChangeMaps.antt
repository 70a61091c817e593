-- What the code's map of changes tells after one record more.
use Rattle.std.proofs.Common.{◌≡◌, ◌⊎◌, ◌≢◌, ⊎_elim, ℕ, Bool, true, false, cond, List, [], refl, sym, ◌∙◌, ap, subst, Option, Some, None}
use Rattle.std.specs.{Option.unwrap_or, Map.lookup, Ordering.eq_by_cmp, BTreeMap.{is_at, get}, Cmp.eq_by_cmp_equiv}
use Rattle.mt_rows.{specs.{Rows.Bytes, Stamps.Stamped, Tenants.{Contents as Pairs, owned_cmp}, declared.record.Record.Record}, proofs.ContentLaws.{owned_total, same_owner, tied_owner, other_owner}}
use Rattle.mt_crashes.{specs.Fronts.{key_of, replayed, with_replayed}, proofs.Bases.{one_or_not, replayed_at, replayed_beside, passed_over}}
use Rattle.mt_recover.specs.Changes.{Changes, AreAfter}
use Rattle.std.specs.FinMap as pairs

-- no changes leave pairs as they are
pub none_after : (changes : Changes) (m : Pairs) → changes.entries ≡ [] → AreAfter changes m m
none_after changes m none = record { at = λ q. sym (ap (λ (es : List ((ℕ × Bytes) × Option Stamped)). unwrap_or (lookup (is_at (owned_cmp q)) es) (pairs.get m q)) none) }

module _ (r : Record) (old new : Changes) (base m : Pairs) (after : AreAfter old base m) where
  -- what stands at the record's key before it
  abbrev stood : Option Stamped
  stood = unwrap_or (get owned_cmp old (key_of r)) (pairs.get base (key_of r))

  -- one record more, of which the map tells what it leaves at its key
  pub one_after : (row : Option Stamped) → ((q : ℕ × Bytes) → get owned_cmp new q ≡ cond (is_at (owned_cmp (key_of r)) q) (Some row) (get owned_cmp old q)) → row ≡ replayed r.stamp r.write stood
      → AreAfter new base (with_replayed m r)
  one_after row put made = record { at = at }
    where
      at : (q : ℕ × Bytes) → pairs.get (with_replayed m r) q ≡ unwrap_or (get owned_cmp new q) (pairs.get base q)
      at q = ⊎_elim
          (λ own.
          replayed_at m r q own ∙ ap (replayed r.stamp r.write) (after.at q ∙ ap (λ (o : ℕ × Bytes). unwrap_or (get owned_cmp old o) (pairs.get base o)) (sym own)) ∙ sym made
          ∙ sym (ap (λ (o : Option (Option Stamped)). unwrap_or o (pairs.get base q)) (put q ∙ ap (λ (b : Bool). cond b (Some row) (get owned_cmp old q)) (ap (λ (o : ℕ × Bytes). is_at (owned_cmp (key_of r)) o) (sym own) ∙ same_owner (key_of r)))))
          (λ other.
          replayed_beside m r q other ∙ after.at q
          ∙ sym (ap (λ (o : Option (Option Stamped)). unwrap_or o (pairs.get base q)) (put q ∙ ap (λ (b : Bool). cond b (Some row) (get owned_cmp old q)) (other_owner (key_of r) q other))))
          (one_or_not (key_of r) q)
