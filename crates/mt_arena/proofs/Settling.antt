-- What lags behind a node as another one is taken out, and once the node behind is told: for `followed_until_named` and the crates above.
use Rattle.std.proofs.Common.{◌≡◌, ◌≢◌, ℕ, ◌+◌, ◌-◌, ◌<◌, List, length, get_or, set, Option, Some, None, false, refl, sym, ap, subst, ◌∙◌, inl, inr, arith}
use Rattle.std.proofs.{lemmas.Bool.cases_lt, lemmas.Option.same_Some, lemmas.List.Edits.{length-remove, get_or-remove_below, get_or-remove_above}}
use Rattle.std.specs.List.{All}
use Rattle.mt_version.specs.Parts.{Parts}
use Rattle.mt_border.specs.declared.entry.Entry.{Entry}
use Rattle.mt_arena.specs.{declared.tree.Tree.Tree, NodeView.{NodeView, node_at}, Nodes.HasChild, NodeFacts.IsUnstable, Guarantee.{NodesGuarantee, PointsOnly}}
use Rattle.mt_arena.specs.{Edits.{inserting, pointed}, Unlinks.without_child, Settled.IsSettled, Lags.{Follows, IsUnder, AreFollowers, IsFollowedBy}}
use Rattle.mt_arena.proofs.{Pairs.there, Settled.{alive, was_none}, SettledEdits.settled_beside}
use Rattle.mt_arena.proofs.Lags.{follows_before, under_before, right_again, follows_in, under_in}

-- a node that is live was, and names no other node than it named
pub record NamesNoMore (x y : NodeView) : Type 0 where
  pub previous : y.previous ≡ x.previous
  pub parent : (j : ℕ) → y.parent ≡ Some j → x.parent ≡ Some j
  pub live : y.version.deleted ≡ false → x.version.deleted ≡ false

-- a node that stays as it is names nobody anew
pub names_none_more : (x : NodeView) → NamesNoMore x x
names_none_more x = record { previous = refl; parent = λ j e. e; live = λ live. live }

module _ (xs ys : List NodeView) (size : length ys ≡ length xs) (each : (k : ℕ) → k < length xs → NamesNoMore (node_at xs k) (node_at ys k)) where
  pub follows_was : (i k : ℕ) → Follows ys i k → Follows xs i k
  follows_was i k is =
      let lt : k < length xs = omega (arith, is.0, size) in
      (lt, sym (each k lt).previous ∙ is.1, (each k lt).live is.2)

  pub under_was : (i k : ℕ) → IsUnder ys i k → IsUnder xs i k
  under_was i k is =
      let lt : k < length xs = omega (arith, is.0, size) in
      (lt, (each k lt).parent i is.1, (each k lt).live is.2)

  -- nothing comes to lag behind a node that stays as it is
  pub settled_same : (i : ℕ) → node_at ys i ≡ node_at xs i → IsSettled xs i (node_at xs i) → IsSettled ys i (node_at ys i)
  settled_same i same settled = subst (λ (x : NodeView). IsSettled ys i x) (sym same) (record {
    previous = λ k lt e live. let was = follows_was i k (lt, e, live) in settled.previous k was.0 was.1 was.2;
    previous_live = λ k lt e live. let was = follows_was i k (lt, e, live) in settled.previous_live k was.0 was.1 was.2;
    parent = λ k lt e live. let was = under_was i k (lt, e, live) in settled.parent k was.0 was.1 was.2;
    reach = settled.reach;
    stable = settled.stable;
    rooted = settled.rooted;
  })

-- another child stays one as a child is taken out
pub child_less : (p : NodeView) (a k : ℕ) → a < length p.children → get_or p.children a 0 ≢ k → HasChild p k → HasChild (without_child (inserting p) a) k
child_less p a k within other c =
    let size = length-remove p.children a within in
    let moved : c.place ≢ a = λ same. other (ap (λ b. get_or p.children b 0) (sym same) ∙ c.is) in
    elim (cases_lt c.place a) [
      | inl below ↦ record { live = c.live; place = c.place; in_range = omega (arith, below, within, size); is = get_or-remove_below p.children a 0 c.place below within ∙ c.is }
      | inr above ↦ record {
        live = c.live;
        place = c.place - 1;
        in_range = omega (arith, above, moved, c.in_range, size);
        is =
            get_or-remove_above p.children a 0 (c.place - 1) (omega (arith, above, moved)) within ∙ ap (λ b. get_or p.children b 0) {x = c.place - 1 + 1} {y = c.place} (omega (arith, above, moved)) ∙ c.is;
      }
    ]

-- as other operations go on, no more comes to lag behind the node
pub followed_stays : (op q : ℕ) (old new : List NodeView) (were are : List Tree) (i : ℕ) (named : Option ℕ) → NodesGuarantee op old new were are
    → PointsOnly op old new → q ≢ op → i < length old → (node_at old i).holder ≡ Some q
    → IsFollowedBy old i (node_at old i) named → IsFollowedBy new i (node_at new i) named
followed_stays op q old new were are i named guarantee points other within holder followed =
    let kept = (guarantee.nodes i within).held q other holder in
    record {
      followers = λ k is. followed.followers k (follows_before op q old new were are i k guarantee points other within holder is);
      children = λ k is.
          let c = followed.children k (under_before op q old new were are i k guarantee points other within holder is) in
          record {
            live = ap (λ (v : Parts). v.deleted) kept.version ∙ c.live;
            place = c.place;
            in_range = subst (λ cs. c.place < length cs) (sym kept.children) c.in_range;
            is = ap (λ cs. get_or cs c.place 0) kept.children ∙ c.is;
          };
      reach = kept.reach ∙ followed.reach ∙ sym kept.high;
      stable = subst (λ (slots : List Entry). All (λ (e : Entry). ¬ IsUnstable e.held) slots) (sym kept.slots) followed.stable;
      rooted =
          λ live none. ap (λ (v : Parts). v.root) kept.version ∙ followed.rooted (alive _ _ (guarantee.nodes i within).ages.deleted live) (was_none (node_at old i).parent (node_at new i).parent kept.parented none);
    }

-- where no node names it as the one before, nothing lags behind the node
pub settled_alone : (xs : List NodeView) (i : ℕ) (x : NodeView) → IsFollowedBy xs i x None → IsSettled xs i x
settled_alone xs i x followed = record {
  previous = λ k lt e live. absurd (let none = followed.followers k (lt, e, live) in cc);
  previous_live = λ k lt e live. absurd (let none = followed.followers k (lt, e, live) in cc);
  parent = λ k lt e live. followed.children k (lt, e, live);
  reach = followed.reach;
  stable = followed.stable;
  rooted = followed.rooted;
}

-- where only the next node does, nothing lags behind a live node
pub settled_followed : (xs : List NodeView) (i : ℕ) (x : NodeView) → x.version.deleted ≡ false → IsFollowedBy xs i x x.next → IsSettled xs i x
settled_followed xs i x live_x followed = record {
  previous = λ k lt e live. followed.followers k (lt, e, live);
  previous_live = λ k lt e live. live_x;
  parent = λ k lt e live. followed.children k (lt, e, live);
  reach = followed.reach;
  stable = followed.stable;
  rooted = followed.rooted;
}

-- node b comes to name node i as the one before, in the place of node j
module _ (xs : List NodeView) (i j b : ℕ) (lb : b < length xs) where
  abbrev n : NodeView
  n = pointed (node_at xs b) (Some i) (node_at xs b).parent

  abbrev ys : List NodeView
  ys = set xs b n

  -- all else that lags behind a node does as before
  lags_as_before : (k : ℕ) (named other : Option ℕ) → k ≢ b → AreFollowers ys k other → IsFollowedBy xs k (node_at xs k) named
      → IsFollowedBy ys k (node_at ys k) other
  lags_as_before k named other kb followers followed = subst (λ (x : NodeView). IsFollowedBy ys k x other) (sym (there xs b k n kb)) (record {
    followers = followers;
    children = λ c is. elim (under_in xs k c b n lb is) [
      | inl own ↦ followed.children c (subst (λ d. IsUnder xs k d) (sym own.0) (lb, own.1, own.2))
      | inr old ↦ followed.children c old.1
    ];
    reach = followed.reach;
    stable = followed.stable;
    rooted = followed.rooted;
  })

  pub followed_again : i ≢ b → IsFollowedBy xs i (node_at xs i) None → IsFollowedBy ys i (node_at ys i) (Some b)
  followed_again ib followed = lags_as_before i None (Some b) ib (right_again xs i b (node_at xs b).parent lb followed.followers) followed

  pub followed_no_more : i ≢ j → j ≢ b → IsFollowedBy xs j (node_at xs j) (Some b) → IsFollowedBy ys j (node_at ys j) None
  followed_no_more ij jb followed = lags_as_before j (Some b) None jb (λ k is. elim (follows_in xs j k b n lb is) [
    | inl own ↦ absurd (ij (same_Some _ _ own.1))
    | inr old ↦ absurd (old.0 (sym (same_Some _ _ (followed.followers k old.1))))
  ]) followed

  -- and nothing comes to lag behind any other node
  pub settled_aside : (k : ℕ) → k ≢ i → k ≢ b → IsSettled xs k (node_at xs k) → IsSettled ys k (node_at ys k)
  settled_aside k ki kb settled =
      settled_beside xs k b n lb kb settled (λ e live. absurd (ki (sym (same_Some _ _ e)))) (λ e live. absurd (ki (sym (same_Some _ _ e)))) (λ e live. settled.parent b lb e live)
