-- What a put finds in the border node that it holds, and what it makes ready of that: for `judge`.
use Rattle.std.proofs.Common.{◌≡◌, ℕ, ◌==◌, ◌<◌, ◌≤◌, List, length, Option, Some, None, refl, sym, ap, subst, ◌∙◌, arith}
use Rattle.std.proofs.lemmas.Bool.{cond_both, eqb-true, eqb-false}
use Rattle.std.specs.{Prelude.IsSomeAnd, Option.option_map, FinMap.get}
use Rattle.mt_slices.specs.Slices.{suffix_of}
use Rattle.mt_border.specs.{Held.Pair, Held.Held}
use Rattle.mt_border.specs.{Held.{Stable, Unstable, Link}, Contents.{owned, row_of}, Entry.pair_of, Node.{Node as BorderNode, entry_at}}
use Rattle.mt_border.proofs.Edits.{any_entry}
use Rattle.mt_arena.specs.{declared.tree.Tree.Tree, NodeView.{NodeView, node_at, place_at, border_view}, NodeFacts.IsUnstable, Layers.slot_at, Arena.{ArenaView, IsArena, content_of}, Accesses.at}
use Rattle.mt_operation.specs.{declared.phase.Phase.Phase, declared.walk.Walk.Walk, declared.task.Task.Task, declared.prepared.Prepared.Prepared}
use Rattle.mt_operation.specs.declared.phase.Phase.TheVariants.{Store, Fill, SplitStart}
use Rattle.mt_held.{proofs.{Looks.holds_on, Places.{none_here, row_here}}, specs.Holds.HoldsBorder}
use Rattle.mt_insert.specs.{Puts.IsReady, KeptPuts.KeptReady, Judge.{StandsIn, ReadyFor, after_judge, standing_in}}

-- what is made ready over the row of a border node's slot is so over that of its view
pub ready_over : (n : NodeView) (b : BorderNode) (tree level : ℕ) (reach holder : Option ℕ) (task : Task) (layer slot : ℕ) (prepared : Prepared) → n ≡ border_view b tree level reach holder
    → IsReady task (option_map row_of (pair_of (entry_at b slot).held)) prepared → ReadyFor n task layer (Some slot) prepared
ready_over n b tree level reach holder task layer slot prepared same h pair is =
    subst (λ (o : Option Pair). IsReady task (option_map row_of o) prepared) (ap (λ (m : NodeView). pair_of (slot_at m (place_at m slot)).held) (sym same) ∙ is) h

-- and what stands there by its slot stands there by that of its view
pub standing_there : (n : NodeView) (b : BorderNode) (tree level : ℕ) (reach holder : Option ℕ) (slot : ℕ) → n ≡ border_view b tree level reach holder
    → standing_in n (Some slot) ≡ option_map row_of (pair_of (entry_at b slot).held)
standing_there n b tree level reach holder slot same = ap (λ (m : NodeView). option_map row_of (pair_of (slot_at m (place_at m slot)).held)) same

-- a pair that is not unstable is stable
pub stable_pair : (held : Held) (P : Pair → Type 0) → ¬ IsUnstable held → IsSomeAnd (pair_of held) P → (pair : Pair) × (held ≡ Stable pair)
stable_pair (Stable pair) P stable some = (pair, refl)
stable_pair (Unstable pair tree) P stable some = absurd (stable tt)
stable_pair (Link tree) P stable some = absurd some

-- a node has at most fifteen slots
pub border_within : (nodes : List NodeView) (trees : List Tree) → IsArena nodes trees → (k : ℕ) → k < length nodes → length (node_at nodes k).slots ≤ 15
border_within nodes trees arena k there = (arena.nodes.each k there).slots.border.within

-- the contents have at the key what stands there by its slot
pub standing_here : (v : ArenaView) (op : ℕ) (task : Task) (w : Walk) (slot : Option ℕ) → IsArena v.nodes v.trees → HoldsBorder v op task.key w
    → StandsIn (at v w.place.node) task.key w.layer slot → get (content_of v) (owned task.key) ≡ standing_in (at v w.place.node) slot
standing_here v op task w (Some slot) arena h stands =
    let n = at v w.place.node in
    let found = stable_pair (slot_at n (place_at n slot)).held (λ pair. pair.suffix ≡ suffix_of task.key w.layer) (h.settled.stable (place_at n slot) any_entry stands.in_range) stands.kind_is in
    row_here v op task.key w arena h slot found.0 stands found.1 ∙ sym (ap (λ (held : Held). option_map row_of (pair_of held)) found.1)
standing_here v op task w None arena h stands = none_here v op task.key w arena h stands

-- what is kept where the put goes on to place its row
pub kept_ready : (v : ArenaView) (op : ℕ) (task : Task) (prepared : Prepared) (w : Walk) (slot : Option ℕ) → HoldsBorder v op task.key w
    → length (at v w.place.node).slots ≤ 15
    → StandsIn (at v w.place.node) task.key w.layer slot → ReadyFor (at v w.place.node) task w.layer slot prepared
    → KeptReady (after_judge (at v w.place.node) slot w).phase v op task prepared (after_judge (at v w.place.node) slot w)
kept_ready v op task prepared w (Some slot) h within stands ready =
    let n = at v w.place.node in
    let found = stable_pair (slot_at n (place_at n slot)).held (λ pair. pair.suffix ≡ suffix_of task.key w.layer) (h.settled.stable (place_at n slot) any_entry stands.in_range) stands.kind_is in
    record {
      holds = holds_on v op task w Store slot h;
      in_slot = stands;
      pair = found.0;
      stable = found.1;
      ready = ready found.0 (ap pair_of found.1);
    }
kept_ready v op task prepared w None h within stands ready =
    let full = length (at v w.place.node).slots == 15 in
    cond_both full SplitStart Fill (λ (phase : Phase). KeptReady phase v op task prepared (record w { phase = phase }))
    (λ yes. record {
      holds = holds_on v op task w SplitStart w.slot h;
      missing = stands;
      full = eqb-true _ _ yes;
      suffix = ready.1;
      ready = ready.0;
    })
    (λ no. record {
      holds = holds_on v op task w Fill w.slot h;
      missing = stands;
      room = let differ = eqb-false _ _ no in omega (arith, within, differ);
      suffix = ready.1;
      ready = ready.0;
    })
