-- Behind a node that nobody holds nothing lags, and other operations let nothing come to lag behind one that is held: for the laws.
use Rattle.std.proofs.Common.{◌≡◌, ◌≢◌, ℕ, ◌<◌, List, length, get_or, Bool, Option, Some, None, true, false, refl, sym, ap, subst, ◌∙◌, inl, inr, arith}
use Rattle.std.proofs.{lemmas.Bool.cases_lt, lemmas.Option.same_Some}
use Rattle.std.specs.List.{All}
use Rattle.mt_version.specs.Parts.{Parts}
use Rattle.mt_border.specs.declared.entry.Entry.{Entry}
use Rattle.mt_arena.specs.{declared.tree.Tree.Tree, NodeView.{NodeView, node_at}, Nodes.AreNodes, NodeFacts.IsUnstable, Settled.IsSettled}
use Rattle.mt_arena.specs.Guarantee.{NodesGuarantee, PointsOnly}

-- what is not deleted was not
pub alive : (a b : Bool) → (a ≡ true → b ≡ true) → b ≡ false → a ≡ false
alive true b stays live = absurd (grind (arith, stays refl, live))
alive false b stays live = refl

-- what can't be true is false
pub not_true : (b : Bool) → (b ≡ true → ⊥) → b ≡ false
not_true true refuted = absurd (refuted refl)
not_true false refuted = refl

-- what is not taken away was not there
pub was_none : (old new : Option ℕ) → (old ≢ None → new ≢ None) → new ≡ None → old ≡ None
was_none None new stays none = refl
was_none (Some p) new stays none = absurd (stays (λ e. absurd (cc)) none)

-- as other operations go on, nothing comes to lag behind the node
pub settled_stays : (op q : ℕ) (old new : List NodeView) (were are : List Tree) (i : ℕ) → NodesGuarantee op old new were are → PointsOnly op old new → q ≢ op
    → i < length old → (node_at old i).holder ≡ Some q
    → IsSettled old i (node_at old i) → IsSettled new i (node_at new i)
settled_stays op q old new were are i guarantee points other within holder settled =
    let kept = (guarantee.nodes i within).held q other holder in
    let not_mine : (node_at new i).holder ≢ Some op = λ e. other (same_Some _ _ (sym (kept.holder ∙ holder) ∙ e)) in
    let live_before : (k : ℕ) → k < length old → (node_at new k).version.deleted ≡ false → (node_at old k).version.deleted ≡ false
    = λ k lt live. alive _ _ (guarantee.nodes k lt).ages.deleted live in
    record {
      previous = λ k lt e live. elim (cases_lt k (length old)) [
        | inl was ↦ kept.next ∙ settled.previous k was (points.previous k i was within e not_mine) (live_before k was live)
        | inr new_one ↦ absurd (not_mine (points.new_previous k i (omega (arith, new_one)) lt within e))
      ];
      previous_live = λ k lt e live. elim (cases_lt k (length old)) [
        | inl was ↦ ap (λ (v : Parts). v.deleted) kept.version ∙ settled.previous_live k was (points.previous k i was within e not_mine) (live_before k was live)
        | inr new_one ↦ absurd (not_mine (points.new_previous k i (omega (arith, new_one)) lt within e))
      ];
      parent = λ k lt e live. elim (cases_lt k (length old)) [
        | inl was ↦
            let c = settled.parent k was (points.parent k i was within e not_mine) (live_before k was live) in
            record {
              live = ap (λ (v : Parts). v.deleted) kept.version ∙ c.live;
              place = c.place;
              in_range = subst (λ cs. c.place < length cs) (sym kept.children) c.in_range;
              is = ap (λ cs. get_or cs c.place 0) kept.children ∙ c.is;
            }
        | inr new_one ↦ absurd (not_mine (points.new_parent k i (omega (arith, new_one)) lt within e))
      ];
      reach = kept.reach ∙ settled.reach ∙ sym kept.high;
      stable = subst (λ (slots : List Entry). All (λ (e : Entry). ¬ IsUnstable e.held) slots) (sym kept.slots) settled.stable;
      rooted =
          λ live none. ap (λ (v : Parts). v.root) kept.version ∙ settled.rooted (live_before i within live) (was_none (node_at old i).parent (node_at new i).parent kept.parented none);
    }

-- behind a node that nobody holds nothing lags
pub settled_free : (xs : List NodeView) (i : ℕ) → i < length xs → AreNodes xs → (node_at xs i).holder ≡ None → IsSettled xs i (node_at xs i)
settled_free xs i within nodes free =
    let x = node_at xs i in
    let h = nodes.each i within in
    record {
      previous = λ k lt e live. ((nodes.pairs k i lt within).named live free).back e;
      previous_live = λ k lt e live. ((nodes.pairs k i lt within).named live free).live e;
      parent = λ k lt e live. ((nodes.pairs k i lt within).named live free).knows e;
      reach = h.reach.exact (not_true x.version.splitting (λ marked. h.lock.splitting marked free));
      stable = h.lock.stable free;
      rooted = λ live none. h.rooted live free none;
    }
