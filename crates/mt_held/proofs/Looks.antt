-- What an operation finds in the border node that it holds, and that it holds it.
use Rattle.std.{proofs.Common.{◌≡◌, ℕ, Bool, true, false, List, Option, refl, sym, ap, subst, ◌∙◌}, specs.Prelude.{if◌then◌else◌}}
use Rattle.mt_rows.specs.Rows.{Bytes}
use Rattle.mt_border.specs.{declared.entry.Entry.Entry, Held.Held, Held.{Stable, Unstable, Link}}
use Rattle.mt_border.specs.{declared.entry.FoundKind.FoundKind, declared.entry.FoundKind.TheVariants.{Link as ToTree}, Entry.IsLink, Node.{Node as BorderNode, IsLive, entry_at}}
use Rattle.mt_arena.specs.{NodeView.{NodeView, place_at, border_view}, Layers.slot_at, Arena.ArenaView, Accesses.at, Settled.IsSettled}
use Rattle.mt_operation.specs.{declared.phase.Phase.Phase, declared.walk.Walk.Walk, declared.task.Task.Task, declared.phase.Phase.TheVariants.{Forward, Judge}}
use Rattle.mt_version.specs.Parts.{Parts}
use Rattle.mt_descent.specs.{Seen.IsOutdated, KeptWalks.{IsAtJudge, IsInSlot}, WalkMoves.{Locks, after_change, walk_anew}}
use Rattle.mt_held.specs.Holds.{HoldsBy, HoldsBorder}

-- a link has a tree
linked_tree : (held : Held) → IsLink held → (tree : ℕ) × (held ≡ Link tree)
linked_tree (Stable pair) link = absurd link
linked_tree (Unstable pair tree) link = absurd link
linked_tree (Link tree) link = (tree, refl)

-- what a border node's slot holds, where its view has a link there
module _ (n : NodeView) (b : BorderNode) (tree level : ℕ) (reach holder : Option ℕ) (slot : ℕ) (same : n ≡ border_view b tree level reach holder) where
  pub link_there : (key : Bytes) (layer : ℕ) → IsInSlot n slot key layer ToTree → (u : ℕ) × ((entry_at b slot).held ≡ Link u)
  link_there key layer f = linked_tree (entry_at b slot).held (subst (λ (m : NodeView). IsInSlot m slot key layer ToTree) same f).kind_is.1

  -- it is live there
  pub live_there : (key : Bytes) (layer : ℕ) (kind : FoundKind) → IsInSlot n slot key layer kind → IsLive b slot
  live_there key layer kind f = (subst (λ (m : NodeView). IsInSlot m slot key layer kind) same f).in_range

  -- and the tree that the slot leads to is that of its view
  pub leads_there : (u : ℕ) → (entry_at b slot).held ≡ Link u → (slot_at n (place_at n slot)).held ≡ Link u
  leads_there u is = subst (λ (m : NodeView). (slot_at m (place_at m slot)).held ≡ Link u) (sym same) is

-- the walk's phase says nothing of the node that it holds
pub holds_on : {marked : Bool} → (v : ArenaView) (op : ℕ) (task : Task) (w : Walk) (phase : Phase) (slot : ℕ) → HoldsBy marked v op task.key w
    → HoldsBy marked v op task.key (record w { phase = phase; slot = slot })
holds_on {marked} v op task w phase slot h =
    let j = h.judged in
    record {
      judged = record { at_border = record { through = j.at_border.through; covers = j.at_border.covers; border = j.at_border.border }; held = j.held; still = j.still; stands = j.stands };
      settled = h.settled;
    }

-- a node that was deleted or split since it was remembered was not locked
not_judging : (w : Walk) (now : Parts) (next : Option ℕ) → (after_change w now next).phase ≡ Judge → ⊥
not_judging w now next judging = by now.deleted judging
  where
    by : (b : Bool) → (if b then walk_anew w else record w { place = record w.place { seen = now }; next = next; phase = Forward }).phase ≡ Judge → ⊥
    by true e = absurd (cc)
    by false e = absurd (cc)

-- a border node that was locked is held
pub held_here : (op : ℕ) (old new : ArenaView) (key : Bytes) (before after : Walk) → Locks op old new before after → after.phase ≡ Judge
    → IsAtJudge new op key after → IsSettled new.nodes before.place.node (at new before.place.node)
    → HoldsBorder new op key after
held_here op old new key before after l judging judged settled =
    let n = at old before.place.node in
    let seen = before.place.seen in
    let judges : ¬ IsOutdated n seen → HoldsBorder new op key after = λ fresh. record {
      judged = record { at_border = judged.at_border; held = judged.held; still = judged.still; stands = judged.stands };
      settled = subst (λ (x : Walk). IsSettled new.nodes x.place.node (at new x.place.node)) (sym (l.judges fresh)) settled;
    } in
    judges (λ outdated. not_judging before n.version n.next (ap (λ (x : Walk). x.phase) (sym (l.goes_on outdated)) ∙ judging))
