-- Which node a put holds: for the law on that.
use Rattle.std.proofs.{Common.{◌≡◌, ◌≢◌, ℕ, ◌<◌, length, Some, sym, ap, subst, ◌∙◌, inl, inr, arith}, lemmas.Bool.{cases_eq, cases_lt}, lemmas.List.length-set}
use Rattle.mt_arena.{specs.{NodeView.NodeView, Edits.{unlocked, locked}, Arena.{ArenaView, Guarantee}, Accesses.{at, with_node}}, proofs.Pairs.{here, there}}
use Rattle.mt_operation.specs.declared.walk.Walk.{Walk}
use Rattle.mt_descent.specs.{Seen.IsOutdated, KeptWalks.HoldsNothing, WalkMoves.Locks}
use Rattle.mt_held.specs.Holds.{HoldsOnly}

-- beside the node that changes, who holds a node held it
held_beside : (v : ArenaView) (k j op : ℕ) (n : NodeView) → j ≢ k → j < length (with_node v k n).nodes → (at (with_node v k n) j).holder ≡ Some op
    → (j < length v.nodes) × ((at v j).holder ≡ Some op)
held_beside v k j op n other within holds = (
  omega (arith, within, length-set v.nodes k n),
  ap (λ (m : NodeView). m.holder) (sym (there v.nodes k j n other)) ∙ holds,
)

-- the node that is held may change
pub only_changed : (v : ArenaView) (op k : ℕ) (n : NodeView) → HoldsOnly v op k → HoldsOnly (with_node v k n) op k
only_changed v op k n only j within holds = elim (cases_eq j k) [
  | inl same ↦ same
  | inr other ↦ let before = held_beside v k j op n other within holds in only j before.0 before.1
]

-- once its lock is given back, nothing is held
pub none_unlocked : (v : ArenaView) (op k : ℕ) → k < length v.nodes → HoldsOnly v op k → HoldsNothing (with_node v k (unlocked (at v k))) op
none_unlocked v op k there_is only j within holds = elim (cases_eq j k) [
  | inl same ↦
      let held = subst (λ i. (at (with_node v k (unlocked (at v k))) i).holder ≡ Some op) same holds in
      let free = ap (λ (m : NodeView). m.holder) (sym (here v.nodes k (unlocked (at v k)) there_is)) ∙ held in
      cc
  | inr other ↦ let before = held_beside v k j op (unlocked (at v k)) other within holds in other (only j before.0 before.1)
]

-- the node that was locked is the only one
pub only_locked : (op : ℕ) (old new : ArenaView) (before after : Walk) → HoldsNothing old op → Locks op old new before after
    → HoldsOnly new op before.place.node
only_locked op old new before after nothing l j within holds =
    let k = before.place.node in
    elim (cases_eq j k) [
      | inl same ↦ same
      | inr other ↦
          let fresh : ¬ IsOutdated (at old k) before.place.seen = λ outdated.
          nothing j (subst (λ (v : ArenaView). j < length v.nodes) (l.leaves outdated) within) (subst (λ (v : ArenaView). (at v j).holder ≡ Some op) (l.leaves outdated) holds) in
          let is = l.takes fresh in
          let was = held_beside old k j op (locked (at old k) op) other (subst (λ (v : ArenaView). j < length v.nodes) is within) (subst (λ (v : ArenaView). (at v j).holder ≡ Some op) is holds) in
          absurd (nothing j was.0 was.1)
    ]

-- and so it stays under the steps of others
pub only_stays : (op o k : ℕ) (old new : ArenaView) → Guarantee op old new → o ≢ op → HoldsOnly old o k → HoldsOnly new o k
only_stays op o k old new g other only j within holds = elim (cases_lt j (length old.nodes)) [
  | inl was ↦ only j was ((g.nodes.nodes j was).taken o other holds)
  | inr new_one ↦ absurd (g.nodes.taken_new j o new_one within other holds)
]
