-- How a scan comes to the next node.
use Rattle.std.proofs.Common.{◌≡◌, ℕ, ◌<◌, false, length, Some, None, refl, ◌∙◌, arith}
use Rattle.mt_version.specs.Changes.{IsStable}
use Rattle.mt_slices.specs.Slices.{slice_of}
use Rattle.mt_rows.specs.Rows.{Bytes}
use Rattle.mt_arena.specs.{Nodes.{IsNeighbour, seat_of}, Arena.{ArenaView, IsArena}, Accesses.at, Guarantee.NodesGuarantee}
use Rattle.mt_operation.specs.{declared.walk.Aim.TheVariants.Read, declared.walk.Walk.Walk, declared.phase.Phase.TheVariants.Enter, Walks.walk_from_top}
use Rattle.mt_descent.{specs.{Seen.Covers, Pasts.{Past, ExtendsPast}, KeptWalks.GoesThrough}, proofs.{Rely.kept_stays, Ways.seen_now}}
use Rattle.mt_scan.specs.Hops.{IsNextFrom, IsAtHop}

-- what stands beside a node in its tree
pub sees_next : (v : ArenaView) (k x : ℕ) → IsArena v.nodes v.trees → k < length v.nodes → (at v k).version.deleted ≡ false → (at v k).level ≡ 0 → (at v k).next ≡ Some x
    → ((at v k).high ≡ Some (at v x).low) × IsNextFrom v (at v k).tree (at v x).low x
sees_next v k x arena there live border next =
    let within = (arena.nodes.each k there).names.next x next in
    let beside : IsNeighbour (at v k).high (seat_of (at v k)) (seat_of (at v x)) = (arena.nodes.pairs k x there within).next live next in
    (beside.meets, record { there = within; tree_is = beside.tree; border = beside.level ∙ border; begins = refl })

pub last_one : (v : ArenaView) (k : ℕ) → IsArena v.nodes v.trees → k < length v.nodes → (at v k).level ≡ 0 → (at v k).version.deleted ≡ false
    → IsStable (at v k).version → (at v k).next ≡ None → (at v k).high ≡ None
last_one v k arena there border live stable none = (arena.nodes.each k there).chain.last border ((arena.ranged.each k there).unmarked stable.1 live) none

-- a walk that begins in this tree: of it is kept just that its key goes through the tree
abbrev at_tree : ℕ → ℕ → Walk
at_tree tree layer = record (walk_from_top Read 0) { place = record (walk_from_top Read 0).place { tree = tree }; layer = layer }

same_past : (past : Past) → ExtendsPast 0 past past
same_past past = record { steps = omega arith; same = λ n from upto. refl }

module _ (op : ℕ) (old new : ArenaView) (g : NodesGuarantee op old.nodes new.nodes old.trees new.trees) where
  pub through : (past : Past) (tree layer : ℕ) (key : Bytes) → GoesThrough old tree layer key → GoesThrough new tree layer key
  through past tree layer key h = kept_stays op old new g past past key None (at_tree tree layer) Enter (same_past past) (λ e. absurd (cc)) h

  pub next_stays : (tree slice x : ℕ) → IsNextFrom old tree slice x → IsNextFrom new tree slice x
  next_stays tree slice x h =
      let c = g.nodes x h.there in
      record { there = omega (arith, h.there, g.count); tree_is = c.tree ∙ h.tree_is; border = c.level ∙ h.border; begins = c.low ∙ h.begins }

  pub hop_stays : (past : Past) (tree layer : ℕ) (key : Bytes) (x : ℕ) → IsAtHop old tree layer key x → IsAtHop new tree layer key x
  hop_stays past tree layer key x h = record { through = through past tree layer key h.through; next = next_stays tree (slice_of key layer) x h.next }

pub arrives : (v : ArenaView) (tree layer : ℕ) (key : Bytes) (x : ℕ) → IsArena v.nodes v.trees → IsAtHop v tree layer key x → IsStable (at v x).version
    → (at v x).version.deleted ≡ false → Covers v tree x (at v x).version (slice_of key layer)
arrives v tree layer key x arena h stable live = record {
  remembered = record {
    there = h.next.there;
    tree_is = h.next.tree_is;
    was = seen_now (at v x) stable;
    undeleted = live;
    from = let begins = h.next.begins in omega (arith, begins);
    peopled = λ inner. absurd (let border = h.next.border in omega (arith, inner, border));
  };
  below = λ stands. let begins = h.next.begins in let range = (arena.ranged.each x h.next.there).unmarked stable.1 live in omega (arith, begins, range);
}
