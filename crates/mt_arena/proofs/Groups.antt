-- Groups of a node's facts that hold again after a change: for the lemmas of single edits.
use Rattle.std.proofs.Common.{◌≡◌, ◌≢◌, ℕ, ◌<◌, ◌≤◌, List, [], length, Bool, Option, None, is_some, ap, arith}
use Rattle.mt_border.specs.declared.entry.Entry.{Entry}
use Rattle.mt_arena.specs.{NodeView.NodeView, Nodes.{IsNode, IsNamed}, NodeFacts.{AreThere, IsGuarded, FitsSlots, FitsChildren, FitsChain}}

-- a held node need only be locked: its marks and slots are free
pub held_lock : {lock insert split : Bool} (holder : Option ℕ) (entries : List Entry) → holder ≢ None → lock ≡ is_some holder
    → IsGuarded lock insert split holder entries
held_lock holder entries held is = record { locked = is; inserting = λ e. held; splitting = λ e. held; stable = λ free. absurd (held free) }

-- a border node has no children, whichever its high fence
pub border_children : {level low : ℕ} {high : Option ℕ} {separators below : List ℕ} (new : Option ℕ) → level ≡ 0
    → FitsChildren level low high separators below → FitsChildren level low new separators below
border_children new border fit = record { childless = fit.childless; interior = fit.interior; rise = λ some. absurd (some (fit.childless border)); peopled = λ above. absurd (omega (arith, above, border)) }

-- an interior node has no slots, whichever its high fence
pub interior_slots : {level low : ℕ} {high : Option ℕ} {entries : List Entry} (new : Option ℕ) → 0 < level → FitsSlots level low high entries
    → FitsSlots level low new entries
interior_slots new above fit = record { border = fit.border; within = λ i lt. absurd (omega (arith, lt, ap length (fit.slotless above))); slotless = fit.slotless }

-- and is in no chain
pub interior_chain : {level low : ℕ} {high after before : Option ℕ} {deleted : Bool} → 0 < level → FitsChain level low high after before deleted
interior_chain above = record { last = λ level. absurd (omega (arith, level, above)); first = λ level. absurd (omega (arith, level, above)) }

-- a node that names nobody
pub there_none : {count : ℕ} → AreThere count None None None []
there_none = record { next = λ j e. absurd (cc); previous = λ j e. absurd (cc); parent = λ j e. absurd (cc); children = λ i lt. absurd (omega arith) }

-- a node that names nobody before it and no parent is named rightly by all
pub names_none : {k j : ℕ} {deleted : Bool} {after : Option ℕ} {children : List ℕ} → IsNamed k None None j deleted after children
names_none = record { back = λ e. absurd (cc); live = λ e. absurd (cc); knows = λ e. absurd (cc) }

-- what holds of a node among so many holds of it among more
pub node_more : (count more : ℕ) (n : NodeView) → count ≤ more → IsNode count n → IsNode more n
node_more count more n le h = record {
  names = record {
    next = λ j e. omega (arith, h.names.next j e);
    previous = λ j e. omega (arith, h.names.previous j e);
    parent = λ j e. omega (arith, h.names.parent j e);
    children = λ i lt. omega (arith, h.names.children i lt);
  };
  lock = h.lock;
  kind = h.kind;
  slots = h.slots;
  children = h.children;
  reach = h.reach;
  chain = h.chain;
  rooted = h.rooted;
}
