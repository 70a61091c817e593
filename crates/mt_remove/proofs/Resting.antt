-- What is kept once nothing lags behind the nodes of a removal: at Collapse, and at Unlock.
use Rattle.std.specs.Prelude.{if◌then◌else◌}
use Rattle.std.proofs.Common.{◌==◌, Bool, ◌≡◌, ◌≢◌, ℕ, zero, suc, ◌<◌, List, [], ◌∷◌, length, get_or, Some, true, false, refl, sym, ap, subst, ◌∙◌, arith}
use Rattle.std.proofs.{lemmas.Bool.eqb-true, lemmas.Option.same_Some}
use Rattle.mt_rows.specs.Rows.{Bytes}
use Rattle.mt_arena.specs.{Nodes.HasChild, Arena.ArenaView, Accesses.at}
use Rattle.mt_operation.specs.{declared.phase.Phase.TheVariants.{Collapse, Unlock}, declared.walk.Walk.Walk, declared.removal.Removal.Removal}
use Rattle.mt_remove.specs.{KeptRemovals.{IsOurs, IsRemoving, HoldsAbove, KeptRemoval}, RemovalEdits.for_rest}
use Rattle.mt_held.specs.Moves.{walk_at}

-- a list of one, by its only element
one_alone : (xs : List ℕ) (k i : ℕ) → length xs ≡ 1 → i < length xs → get_or xs i 0 ≡ k → xs ≡ k ∷ []
one_alone [] k i one lt is = absurd (omega (arith, lt))
one_alone (x ∷ []) k zero one lt is = ap (λ j. j ∷ []) is
one_alone (x ∷ []) k (suc i) one lt is = absurd (omega (arith, lt))
one_alone (x ∷ y ∷ xs) k i one lt is = absurd (omega (arith, one))

-- the nodes of a removal behind which nothing lags
pub record AtRest (u : ArenaView) (op : ℕ) (key : Bytes) (w : Walk) (r : Removal) (left parent : ℕ) : Type 0 where
  pub removes : IsRemoving u op key w r
  pub left_is : r.left ≡ Some left
  pub parent_is : r.parent ≡ Some parent
  pub node : IsOurs u op w 0 w.place.node
  pub has_left : IsOurs u op w 0 left
  pub differ : left ≢ w.place.node
  pub has_above : HoldsAbove u op w parent
  pub child : HasChild (at u parent) left

module _ (u : ArenaView) (op : ℕ) (key : Bytes) (w : Walk) (r : Removal) (left parent : ℕ) (h : AtRest u op key w r left parent) where
  at_unlock : KeptRemoval Unlock u op key (walk_at Unlock w) r
  at_unlock = record {
    removes = record { through = h.removes.through; below = λ k is. let b = h.removes.below k is in record { level = b.level; returns = b.returns; apart = b.apart } };
    node = record { returns = h.node.returns; tree = h.node.tree };
    left = λ k is.
        subst (λ i. IsOurs u op (walk_at Unlock w) 0 i × (i ≢ w.place.node)) (same_Some _ _ (sym h.left_is ∙ is)) (record { returns = h.has_left.returns; tree = h.has_left.tree }, h.differ);
    parent = λ k is. subst (λ i. IsOurs u op (walk_at Unlock w) 1 i) (same_Some _ _ (sym h.parent_is ∙ is)) (record { returns = h.has_above.node.returns; tree = h.has_above.node.tree });
  }

  at_collapse : (at u parent).version.root ≡ true → length (at u parent).children ≡ 1 → KeptRemoval Collapse u op key (walk_at Collapse w) r
  at_collapse root one = record {
    removes = record { through = h.removes.through; below = λ k is. let b = h.removes.below k is in record { level = b.level; returns = b.returns; apart = b.apart } };
    left = left;
    left_is = h.left_is;
    parent = parent;
    parent_is = h.parent_is;
    node = record { returns = h.node.returns; tree = h.node.tree };
    has_left = record { returns = h.has_left.returns; tree = h.has_left.tree };
    differ = h.differ;
    has_above = record { node = record { returns = h.has_above.node.returns; tree = h.has_above.node.tree }; live = h.has_above.live; whole = h.has_above.whole };
    root = root;
    only = one_alone (at u parent).children left h.child.place one h.child.in_range h.child.is;
  }

  by : (b c : Bool) → (at u parent).version.root ≡ b → (length (at u parent).children == 1) ≡ c
      → let phase = if b then (if c then Collapse else Unlock) else Unlock in KeptRemoval phase u op key (walk_at phase w) r
  by true true root one = at_collapse root (eqb-true (length (at u parent).children) 1 one)
  by true false root one = at_unlock
  by false c root one = at_unlock

  pub rest_kept : KeptRemoval (for_rest (at u parent)) u op key (walk_at (for_rest (at u parent)) w) r
  rest_kept = by (at u parent).version.root (length (at u parent).children == 1) refl refl
