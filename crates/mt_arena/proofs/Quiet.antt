-- The facts of nodes are kept where slots, version and holder change: for locks, marks and keys.
use Rattle.std.proofs.Common.{◌≡◌, ◌≢◌, ℕ, ◌<◌, List, length, slice_index, is_some, Option, Some, None, true, false, set, refl, sym, ◌∙◌, arith}
use Rattle.mt_version.specs.Parts.{Parts}
use Rattle.mt_border.specs.Slots.{Slotted}
use Rattle.mt_border.specs.{declared.entry.Entry.Entry, Entries.{IsBorder, slices}}
use Rattle.mt_arena.specs.{NodeView.{NodeView, node_at}, Nodes.{AreNodes, IsNode, IsPair, Holds}, NodeFacts.FitsSlots}
use Rattle.mt_arena.specs.Edits.{turned, locked, inserting, splitting, with_slots}
use Rattle.mt_arena.proofs.{Groups.held_lock, Pairs.are_set}

-- the first node of a pair
turned_from : (k : ℕ) (n : NodeView) (j : ℕ) (m : NodeView) (slots : List Entry) (cells : Slotted) (version : Parts) (holder : Option ℕ) → IsPair k n j m
    → version.deleted ≡ n.version.deleted → IsPair k (turned n slots cells version holder) j m
turned_from k n j m slots cells version holder h same = record {
  next = λ live e.
      let s = h.next (sym same ∙ live) e in
      record { meets = s.meets; tree = s.tree; level = s.level; live = λ live. s.live (sym same ∙ live) };
  named = λ live free. h.named (sym same ∙ live) free;
  child = λ i lt e live. h.child i lt e (sym same ∙ live);
  apart = λ differ tree level live also. h.apart differ tree level (sym same ∙ live) also;
}

-- a lock that nobody has now was not taken away
was_free : (old new : Option ℕ) → (old ≢ None → new ≢ None) → new ≡ None → old ≡ None
was_free None new held free = refl
was_free (Some q) new held free = absurd (held (λ e. absurd (cc)) free)

-- the second one
turned_to : (k : ℕ) (n : NodeView) (j : ℕ) (m : NodeView) (slots : List Entry) (cells : Slotted) (version : Parts) (holder : Option ℕ) → IsPair k n j m
    → version.deleted ≡ m.version.deleted → (m.holder ≢ None → holder ≢ None) → IsPair k n j (turned m slots cells version holder)
turned_to k n j m slots cells version holder h same held = record {
  next = λ live e.
      let s = h.next live e in
      record { meets = s.meets; tree = s.tree; level = s.level; live = λ live. same ∙ s.live live };
  named = λ live free.
      let s = h.named live (was_free m.holder holder held free) in
      record {
        back = s.back;
        live = λ e. same ∙ s.live e;
        knows = λ e.
            let c = s.knows e in
            record { live = same ∙ c.live; place = c.place; in_range = c.in_range; is = c.is };
      };
  child = λ i lt e live.
      let c = h.child i lt e live in
      record { live = same ∙ c.live; tree = c.tree; level = c.level; knows = c.knows; low = c.low; reach = c.reach };
  apart = λ differ tree level live also. h.apart differ tree level live (sym same ∙ also);
}

-- a node turns into another one of the same standing
pub nodes_quiet : (xs : List NodeView) (i : ℕ) (slots : List Entry) (cells : Slotted) (version : Parts) (holder : Option ℕ) → i < length xs → AreNodes xs
    → version.deleted ≡ (node_at xs i).version.deleted → ((node_at xs i).holder ≢ None → holder ≢ None)
    → IsNode (length xs) (turned (node_at xs i) slots cells version holder)
    → AreNodes (set xs i (turned (node_at xs i) slots cells version holder))
nodes_quiet xs i slots cells version holder within nodes same held one =
    let x = node_at xs i in
    let y = turned x slots cells version holder in
    are_set xs i y within nodes one
    (turned_from i x i y slots cells version holder (turned_to i x i x slots cells version holder (nodes.pairs i i within within) same held) same)
    (λ j lt other. turned_from i x j (node_at xs j) slots cells version holder (nodes.pairs i j within lt) same)
    (λ j lt other. turned_to j (node_at xs j) i x slots cells version holder (nodes.pairs j i lt within) same held)

-- a node that is held, with other marks and slots that may stand in it
pub held_node : (count : ℕ) (n : NodeView) (slots : List Entry) (cells : Slotted) (version : Parts) (holder : Option ℕ) → IsNode count n → holder ≢ None
    → version.locked ≡ is_some holder → version.border ≡ n.version.border → version.deleted ≡ n.version.deleted
    → (version.splitting ≡ false → n.version.splitting ≡ false)
    → FitsSlots n.level n.low n.high slots → IsNode count (turned n slots cells version holder)
held_node count n slots cells version holder h held lock kind standing marked fit = record {
  names = h.names;
  lock = held_lock holder slots held lock;
  kind = record { border = λ e. h.kind.border (sym kind ∙ e); interior = λ e. h.kind.interior (sym kind ∙ e) };
  slots = fit;
  children = h.children;
  reach = record { within = h.reach.within; exact = λ e. h.reach.exact (marked e) };
  chain = record { last = h.chain.last; first = λ level range live. h.chain.first level range (sym standing ∙ live) };
  rooted = λ live free. absurd (held free);
}

pub nodes_locked : (xs : List NodeView) (i op : ℕ) → i < length xs → AreNodes xs → AreNodes (set xs i (locked (node_at xs i) op))
nodes_locked xs i op within nodes =
    let x = node_at xs i in
    let h = nodes.each i within in
    let version : Parts = record x.version { locked = true } in
    nodes_quiet xs i x.slots x.cells version (Some op) within nodes refl (λ e f. absurd (cc))
    (held_node (length xs) x x.slots x.cells version (Some op) h (λ e. absurd (cc)) refl refl refl (λ e. e) h.slots)

pub nodes_inserting : (xs : List NodeView) (i : ℕ) → i < length xs → AreNodes xs → (node_at xs i).holder ≢ None → AreNodes (set xs i (inserting (node_at xs i)))
nodes_inserting xs i within nodes held =
    let x = node_at xs i in
    let h = nodes.each i within in
    let version : Parts = record x.version { inserting = true } in
    nodes_quiet xs i x.slots x.cells version x.holder within nodes refl (λ e. e)
    (held_node (length xs) x x.slots x.cells version x.holder h held h.lock.locked refl refl (λ e. e) h.slots)

pub nodes_splitting : (xs : List NodeView) (i : ℕ) → i < length xs → AreNodes xs → (node_at xs i).holder ≢ None → AreNodes (set xs i (splitting (node_at xs i)))
nodes_splitting xs i within nodes held =
    let x = node_at xs i in
    let h = nodes.each i within in
    let version : Parts = record x.version { splitting = true } in
    nodes_quiet xs i x.slots x.cells version x.holder within nodes refl (λ e. e)
    (held_node (length xs) x x.slots x.cells version x.holder h held h.lock.locked refl refl (λ e. absurd (cc)) h.slots)

-- other slots of a held border node
pub nodes_slots : (xs : List NodeView) (i : ℕ) (slots : List Entry) (cells : Slotted) → i < length xs → AreNodes xs → (node_at xs i).holder ≢ None → (node_at xs i).level ≡ 0
    → IsBorder slots → ((j : ℕ) → j < length slots → Holds (node_at xs i) (slice_index (slices slots) j))
    → AreNodes (set xs i (with_slots (node_at xs i) slots cells))
nodes_slots xs i slots cells within nodes held level border inside =
    let x = node_at xs i in
    let h = nodes.each i within in
    nodes_quiet xs i slots cells x.version x.holder within nodes refl (λ e. e)
    (held_node (length xs) x slots cells x.version x.holder h held h.lock.locked refl refl (λ e. e) record { border = border; within = inside; slotless = λ above. absurd (omega (arith, above, level)) })
