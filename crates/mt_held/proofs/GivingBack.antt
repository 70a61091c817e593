-- That what may be given back still may as the locks of other nodes are given back, and what that leaves of nodes and guarantees.
use Rattle.std.proofs.{Common.{◌≡◌, ◌⊎◌, ℕ, ◌<◌, length, refl, sym, subst, ◌∙◌, inl, inr, arith}, lemmas.Bool.cases_eq, lemmas.List.length-set}
use Rattle.mt_arena.specs.{NodeView.NodeView, Edits.unlocked, Guarantee.NodesGuarantee, Arena.{ArenaView, IsArena, Guarantee}, Accesses.at}
use Rattle.mt_arena.proofs.{Pairs.{here, there}, Guarantees.{guarantee_on, HasSameCells, lost_same}, Naming.{names_same, points_each}}
use Rattle.mt_held.{specs.{Holds.MayReturn, Moves.given_back}, proofs.Returns.{TreesStand, trees_same, stays_whole, returnable_still}}

-- a node that names the same neighbour before it and the same parent, is live as it was, and has the slots that it had
pub record NamesTheSame (n m : NodeView) : Type 0 where
  pub previous : m.previous ≡ n.previous
  pub parent : m.parent ≡ n.parent
  pub deleted : m.version.deleted ≡ n.version.deleted
  pub same : HasSameCells n m

-- the locks of the nodes of which P tells were given back, and nothing else was done
pub record GivesBack (P : ℕ → Type 0) (old new : ArenaView) : Type 0 where
  pub count : length new.nodes ≡ length old.nodes
  pub given : (k : ℕ) → P k → at new k ≡ unlocked (at old k)
  pub others : (k : ℕ) → ¬ P k → at new k ≡ at old k
  pub names : (k : ℕ) → NamesTheSame (at old k) (at new k)
  pub trees : new.trees ≡ old.trees
  pub retired : new.retired ≡ old.retired

-- no lock was given back yet
pub back_none : (P : ℕ → Type 0) (v : ArenaView) → ((k : ℕ) → ¬ P k) → GivesBack P v v
back_none P v none = record {
  count = refl;
  given = λ k p. absurd (none k p);
  others = λ k np. refl;
  names = λ k. record { previous = refl; parent = refl; deleted = refl; same = record { slots = refl; cells = refl; whole = λ whole. whole } };
  trees = refl;
  retired = refl;
}

-- and one more
pub back_more : (P Q : ℕ → Type 0) (v u : ArenaView) (i : ℕ) → GivesBack P v u → i < length v.nodes → ¬ P i → ((k : ℕ) → Q k → P k ⊎ (k ≡ i))
    → ((k : ℕ) → P k → Q k) → Q i → GivesBack Q v (given_back u i)
back_more P Q v u i b within not_yet from to at_i =
    let y = unlocked (at u i) in
    let inside : i < length u.nodes = omega (arith, within, b.count) in
    record {
      count = length-set u.nodes i y ∙ b.count;
      given = λ k q. elim (cases_eq k i) [
        | inl is ↦ rw (is, here u.nodes i y inside, b.others i not_yet) refl
        | inr other ↦ there u.nodes i k y other ∙ b.given k (elim (from k q) [ inl p ↦ p | inr is ↦ absurd (other is) ])
      ];
      others = λ k nq. there u.nodes i k y (λ is. nq (subst Q (sym is) at_i)) ∙ b.others k (λ p. nq (to k p));
      names = λ k. elim (cases_eq k i) [
        | inl is ↦ let n = b.names i in rw (is, here u.nodes i y inside) (record { previous = n.previous; parent = n.parent; deleted = n.deleted; same = record { slots = n.same.slots; cells = n.same.cells; whole = λ whole. refl } })
        | inr other ↦ rw (there u.nodes i k y other) (b.names k)
      ];
      trees = b.trees;
      retired = b.retired;
    }

-- the lock of one node alone
pub back_one : (v : ArenaView) (i : ℕ) → i < length v.nodes → GivesBack (λ k. k ≡ i) v (given_back v i)
back_one v i within = back_more (λ k. ⊥) (λ k. k ≡ i) v v i (back_none (λ k. ⊥) v (λ k p. p)) within (λ p. p) (λ k is. inr is) (λ k p. absurd p) refl

-- what may be given back still may beside those whose locks were
pub returns_still : (P : ℕ → Type 0) (v u : ArenaView) (op level k : ℕ) → GivesBack P v u → ¬ P k → MayReturn v op level k → MayReturn u op level k
returns_still P v u op level k b np m =
    returnable_still v u op (omega (arith, b.count)) (subst (TreesStand v.trees) (sym b.trees) (trees_same v.trees)) level k
    (stays_whole (at v k) (at u k) (b.others k np))
    (record {
      follows = λ j is. let n = b.names j in (omega (arith, is.0, b.count), sym n.previous ∙ is.1, sym n.deleted ∙ is.2);
      under = λ j is. let n = b.names j in (omega (arith, is.0, b.count), sym n.parent ∙ is.1, sym n.deleted ∙ is.2);
    })
    m

-- what is left to others: nodes keep whom they name
pub step_back : (P : ℕ → Type 0) (op : ℕ) (v u : ArenaView) → GivesBack P v u → NodesGuarantee op v.nodes u.nodes v.trees u.trees → Guarantee op v u
step_back P op v u b nodes = record {
  nodes = nodes;
  points = points_each op v.nodes u.nodes b.count (λ k lt. let n = b.names k in names_same op u.nodes (at v k) (at u k) n.previous n.parent);
  lost = λ k lt. let n = b.names k in lost_same (at v k) (at u k) n.same.slots n.same.cells;
}

-- the guarantees of nodes and trees add up
pub nodes_on : (op : ℕ) (v u w : ArenaView) → IsArena v.nodes v.trees → NodesGuarantee op v.nodes u.nodes v.trees u.trees → Guarantee op u w
    → NodesGuarantee op v.nodes w.nodes v.trees w.trees
nodes_on op v u w arena one two = guarantee_on op v.nodes u.nodes w.nodes v.trees u.trees w.trees one two.nodes arena.forest.tree_there
