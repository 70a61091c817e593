-- What a scan keeps stays under each step of any operation.
use Rattle.std.{proofs.Common.{◌≡◌, ◌≢◌, ℕ, ◌+◌, ◌<◌, ◌≤◌, length, refl, sym, ap, subst, ◌∙◌, arith}, specs.FinMap.empty}
use Rattle.mt_slices.specs.Fences.{least_from}
use Rattle.mt_rows.specs.Rows.{Bytes}
use Rattle.mt_arena.specs.{declared.tree.Standing.Standing, declared.tree.Standing.TheVariants.{Made, Live, Dead}, declared.tree.Tree.Tree, Forests.tree_at}
use Rattle.mt_arena.specs.{Arena.ArenaView, Accesses.at, Guarantee.NodesGuarantee}
use Rattle.mt_operation.specs.{declared.walk.Walk.Walk, declared.scan.Stop.Stop}
use Rattle.mt_descent.{specs.{Seen.Stands, Pasts.Past}, proofs.Rely.{border_stays, stood}}
use Rattle.mt_scan.{specs.{Snaps.prefix_in, Hops.{LeadsBelow, LeadsNext, KnowsEnd, IsAtCheck, KeptHop}}, proofs.Hopping.{through, next_stays, hop_stays}}
use Rattle.mt_operation.specs.declared.scan.Stop.TheVariants as stops

-- no contents: what a scan keeps speaks of none
pub no_past : Past
no_past = record { steps = 0; contents = λ n. empty }

module _ (op : ℕ) (old new : ArenaView) (g : NodesGuarantee op old.nodes new.nodes old.trees new.trees) where
  -- a tree that nobody was making, nobody comes to make
  unmade_stays : (t : ℕ) → t < length old.trees → ((q : ℕ) → (tree_at old.trees t).standing ≢ Made q)
      → (q : ℕ) → (tree_at new.trees t).standing ≢ Made q
  unmade_stays t there unmade = by (tree_at old.trees t).standing refl
    where
      by : (s : Standing) → (tree_at old.trees t).standing ≡ s → (q : ℕ) → (tree_at new.trees t).standing ≢ Made q
      by (Made p) is q = absurd (unmade p is)
      by Live is q = (g.trees t there).live is q
      by Dead is q = λ made. unmade q (ap (λ (x : Tree). x.standing) (sym ((g.trees t there).dead is)) ∙ made)

  prefix_stays : (t : ℕ) → t < length old.trees → (tree_at old.trees t).prefix ≡ (tree_at new.trees t).prefix
  prefix_stays t there = sym (g.trees t there).prefix

  leads_stays : (prefix : Bytes) (slice tree : ℕ) → LeadsBelow old prefix slice tree → LeadsBelow new prefix slice tree
  leads_stays prefix slice tree h =
      record { there = omega (arith, h.there, g.tree_count); unmade = unmade_stays tree h.there h.unmade; prefix_is = sym (prefix_stays tree h.there) ∙ h.prefix_is }

  next_leads : (w : Walk) (slice : ℕ) → w.place.tree < length old.trees → LeadsNext old w slice → LeadsNext new w slice
  next_leads w slice there h =
      let same = prefix_stays w.place.tree there in
      let begins = next_stays op old new g w.place.tree slice h.node h.begins in
      record {
        fits = h.fits;
        node = h.node;
        is = h.is;
        begins = begins;
        short = subst (λ (p : Bytes). length (least_from p slice) ≤ 255) same h.short;
        whole = subst (λ (p : Bytes). 4 ≤ length (least_from p slice)) same h.whole;
      }

  pub check_stays : (key : Bytes) (w : Walk) (stop : Stop) → IsAtCheck old key w stop → IsAtCheck new key w stop
  check_stays key w stop h = record { at_border = border_stays op old new g key w h.at_border; end = by stop h.end }
    where
      there : w.place.tree < length old.trees
      there = h.at_border.through.there

      was : Stands (at new w.place.node) w.place.seen → Stands (at old w.place.node) w.place.seen
      was stands =
          let within = h.at_border.covers.remembered.there in
          stood op (at old w.place.node) (at new w.place.node) (g.nodes w.place.node within) w.place.seen h.at_border.covers.remembered.was stands

      by : (end : Stop) → KnowsEnd old key w end → KnowsEnd new key w end
      by (stops.Link slice tree) k =
          let same = prefix_stays w.place.tree there in
          record {
            fits = k.fits;
            from = k.from;
            short = subst (λ (p : Bytes). length p ≤ 246) same k.short;
            leads = λ stands. subst (λ (p : Bytes). LeadsBelow new p slice tree) same (leads_stays (prefix_in old w) slice tree (k.leads (was stands)));
          }
      by (stops.Next slice) k = λ stands. next_leads w slice there (k (was stands))
      by stops.Tree k = tt
      by stops.Tenant k = tt

  pub kept_hop_stays : (key : Bytes) (w : Walk) (stop : Stop) → KeptHop old key w stop → KeptHop new key w stop
  kept_hop_stays key w (stops.Link slice tree) k = through op old new g no_past tree (w.layer + 1) key k
  kept_hop_stays key w (stops.Next slice) k = (k.0, k.1, hop_stays op old new g no_past w.place.tree w.layer key k.0 k.2)
  kept_hop_stays key w stops.Tree k = k
  kept_hop_stays key w stops.Tenant k = k
