-- What an operation's own edits leave of "nothing lags behind the node": for the proofs of whole operations.
use Rattle.std.proofs.Common.{◌≡◌, ◌≢◌, ℕ, ◌<◌, List, length, get_or, Some, None, false, set, refl, sym, ap, subst, ◌∙◌, inl, inr, arith}
use Rattle.std.proofs.{lemmas.Bool.cases_eq, lemmas.List.length-set}
use Rattle.std.specs.List.{All}
use Rattle.mt_arena.specs.{NodeView.{NodeView, node_at}, Nodes.{AreNodes, HasChild}, NodeFacts.IsUnstable, Settled.IsSettled, Edits.locked}
use Rattle.mt_arena.proofs.{Pairs.{here, there}, Settled.settled_free}

-- another node changes: it comes to name this one only where this one leads to it
pub settled_beside : (xs : List NodeView) (i k : ℕ) (y : NodeView) → k < length xs → i ≢ k → IsSettled xs i (node_at xs i)
    → (y.previous ≡ Some i → y.version.deleted ≡ false → (node_at xs i).next ≡ Some k)
    → (y.previous ≡ Some i → y.version.deleted ≡ false → (node_at xs i).version.deleted ≡ false)
    → (y.parent ≡ Some i → y.version.deleted ≡ false → HasChild (node_at xs i) k)
    → IsSettled (set xs k y) i (node_at (set xs k y) i)
settled_beside xs i k y within differ settled back back_live up =
    let ys = set xs k y in
    let size = length-set xs k y in
    subst (λ (w : NodeView). IsSettled ys i w) (sym (there xs k i y differ)) (record {
      previous = λ j lt. elim (cases_eq j k) [
        | inl same ↦ rw (same, here xs k y within) back
        | inr other ↦ rw (there xs k j y other) (settled.previous j (omega (arith, lt, size)))
      ];
      previous_live = λ j lt. elim (cases_eq j k) [
        | inl same ↦ rw (same, here xs k y within) back_live
        | inr other ↦ rw (there xs k j y other) (settled.previous_live j (omega (arith, lt, size)))
      ];
      parent = λ j lt. elim (cases_eq j k) [
        | inl same ↦ rw (same, here xs k y within) up
        | inr other ↦ rw (there xs k j y other) (settled.parent j (omega (arith, lt, size)))
      ];
      reach = settled.reach;
      stable = settled.stable;
      rooted = settled.rooted;
    })

-- what a settled node keeps as it changes itself
pub record KeepsSettled (x y : NodeView) : Type 0 where
  pub next : y.next ≡ x.next
  pub children : y.children ≡ x.children
  pub previous : y.previous ≡ x.previous
  pub parent : y.parent ≡ x.parent
  pub deleted : y.version.deleted ≡ x.version.deleted
  pub root : y.version.root ≡ x.version.root
  pub high : y.high ≡ x.high
  pub reach : y.reach ≡ x.reach

-- a settled node that keeps what `KeepsSettled` names stays settled
pub settled_self : (xs : List NodeView) (i : ℕ) (y : NodeView) → i < length xs → IsSettled xs i (node_at xs i) → KeepsSettled (node_at xs i) y
    → All (λ e. ¬ IsUnstable e.held) y.slots
    → IsSettled (set xs i y) i (node_at (set xs i y) i)
settled_self xs i y within settled keeps stable =
    let ys = set xs i y in
    let x = node_at xs i in
    let size = length-set xs i y in
    let child : (j : ℕ) → HasChild x j → HasChild y j = λ j c. record {
      live = keeps.deleted ∙ c.live;
      place = c.place;
      in_range = subst (λ cs. c.place < length cs) (sym keeps.children) c.in_range;
      is = ap (λ cs. get_or cs c.place 0) keeps.children ∙ c.is;
    } in
    subst (λ (w : NodeView). IsSettled ys i w) (sym (here xs i y within)) (record {
      previous = λ j lt. elim (cases_eq j i) [
        | inl same ↦ rw (same, here xs i y within) (λ e live. keeps.next ∙ settled.previous i within (sym keeps.previous ∙ e) (sym keeps.deleted ∙ live))
        | inr other ↦ rw (there xs i j y other) (λ e live. keeps.next ∙ settled.previous j (omega (arith, lt, size)) e live)
      ];
      previous_live = λ j lt. elim (cases_eq j i) [
        | inl same ↦ rw (same, here xs i y within) (λ e live. live)
        | inr other ↦ rw (there xs i j y other) (λ e live. keeps.deleted ∙ settled.previous_live j (omega (arith, lt, size)) e live)
      ];
      parent = λ j lt. elim (cases_eq j i) [
        | inl same ↦ rw (same, here xs i y within) (λ e live. child i (settled.parent i within (sym keeps.parent ∙ e) (sym keeps.deleted ∙ live)))
        | inr other ↦ rw (there xs i j y other) (λ e live. child j (settled.parent j (omega (arith, lt, size)) e live))
      ];
      reach = keeps.reach ∙ settled.reach ∙ sym keeps.high;
      stable = stable;
      rooted = λ live none. keeps.root ∙ settled.rooted (sym keeps.deleted ∙ live) (sym keeps.parent ∙ none);
    })

-- as a lock is taken, nothing lags behind the node
pub settled_locked : (xs : List NodeView) (i op : ℕ) → i < length xs → AreNodes xs → (node_at xs i).holder ≡ None
    → IsSettled (set xs i (locked (node_at xs i) op)) i (node_at (set xs i (locked (node_at xs i) op)) i)
settled_locked xs i op within nodes free =
    let settled = settled_free xs i within nodes free in
    settled_self xs i (locked (node_at xs i) op) within settled (record { next = refl; children = refl; previous = refl; parent = refl; deleted = refl; root = refl; high = refl; reach = refl }) settled.stable
