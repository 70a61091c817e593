-- What lies ahead of a fence gets less as the fence rises: for the steps of a scan that nobody is in the way of.
use Rattle.std.proofs.Common.{◌≡◌, ℕ, zero, suc, ◌+◌, ◌<◌, ◌≤◌, inl, inr, Bool, true, false, cond, List, [], ◌∷◌, length, take, refl, sym, ap, ◌∙◌, arith}
use Rattle.std.proofs.lemmas.Bool.{cases_lt, cases_eq}
use Rattle.std.specs.{Prelude.slice_index, declared.cmp.Ordering.Ordering, Ordering.{nat_cmp, is_lt, ordering_then}, Cmp.Lexicographic.slice_cmp}
use Rattle.mt_slices.specs.Fences.{IsBehindAll}
use Rattle.mt_rows.specs.Rows.{Bytes}
use Rattle.mt_arena.specs.{declared.tree.Tree.Tree, declared.tree.Standing.TheVariants.Live, NodeView.{NodeView, node_at}, Forests.tree_at}
use Rattle.mt_arena.specs.Arena.{one_if_live, live_count}
use Rattle.mt_readings.proofs.Bytewise.{nat_less, nat_greater, nat_same}
use Rattle.mt_core.specs.ScanPoints.{is_behind_on, is_behind_tree, one_if_standing, live_trees, one_if_tree, trees_ahead, begin_of, one_if_node, nodes_ahead}

abbrev cmp : Bytes → Bytes → Ordering
cmp = slice_cmp nat_cmp

-- a lower first byte decides
lower_first : (b c : ℕ) (f g : Bytes) → c < b → is_lt (cmp (c ∷ g) (b ∷ f)) ≡ true
lower_first b c f g lt = ap is_lt (ap (λ o. ordering_then o (cmp g f)) (nat_less c b lt))

same_first : (b c : ℕ) (f g : Bytes) → c ≡ b → is_lt (cmp (c ∷ g) (b ∷ f)) ≡ is_lt (cmp g f)
same_first b c f g is = ap (λ x. is_lt (cmp (x ∷ g) (b ∷ f))) is ∙ ap is_lt (ap (λ o. ordering_then o (cmp g f)) (nat_same b))

-- what is behind all keys of a tree is so where it rises
more_behind : (a b : ℕ) (p f : Bytes) → a < b → is_behind_tree (a ∷ p) (b ∷ f) ≡ true
more_behind a b p f lt = ap (λ o. is_behind_on o (is_behind_tree p f)) (nat_less a b lt)

less_behind : (a b : ℕ) (p f : Bytes) → b < a → is_behind_tree (a ∷ p) (b ∷ f) ≡ false
less_behind a b p f lt = ap (λ o. is_behind_on o (is_behind_tree p f)) (nat_greater a b lt)

as_behind : (a b : ℕ) (p f : Bytes) → a ≡ b → is_behind_tree (a ∷ p) (b ∷ f) ≡ is_behind_tree p f
as_behind a b p f is = ap (λ x. is_behind_tree (x ∷ p) (b ∷ f)) is ∙ ap (λ o. is_behind_on o (is_behind_tree p f)) (nat_same b)

pub behind_stays : (p f g : Bytes) → is_behind_tree p f ≡ true → is_lt (cmp g f) ≡ false → is_behind_tree p g ≡ true
behind_stays [] f g h from = absurd (cc)
behind_stays (a ∷ p) [] g h from = absurd (cc)
behind_stays (a ∷ p) (b ∷ f) [] h from = absurd (cc)
behind_stays (a ∷ p) (b ∷ f) (c ∷ g) h from = elim (cases_lt c b) [
  | inl lower ↦ absurd (let both = sym (lower_first b c f g lower) ∙ from in cc)
  | inr up ↦ elim (cases_lt a b) [
    | inl less ↦ more_behind a c p g (omega (arith, less, up))
    | inr other ↦ elim (cases_eq a b) [
      | inl same ↦ elim (cases_eq c b) [
        | inl level ↦
            as_behind a c p g (same ∙ sym level)
            ∙ behind_stays p f g (sym (as_behind a b p f same) ∙ h) (sym (same_first b c f g level) ∙ from)
        | inr above ↦ more_behind a c p g (omega (arith, same, up, above))
      ]
      | inr differ ↦ absurd (let both = sym (less_behind a b p f (omega (arith, other, differ))) ∙ h in cc)
    ]
  ]
]

-- no key that begins so is behind all of them
pub not_behind : (n : ℕ) (key : Bytes) → is_behind_tree (take n key) key ≡ false
not_behind zero key = refl
not_behind (suc n) [] = refl
not_behind (suc n) (b ∷ key) = as_behind b b (take n key) key refl ∙ not_behind n key

-- the least key behind all of them is
behind_by : (place : ℕ) (p e : Bytes) → place < length p → length e ≡ place + 1 → take place e ≡ take place p → slice_index e place ≡ slice_index p place + 1
    → is_behind_tree p e ≡ true
behind_by place [] e within long alike more = absurd (omega (arith, within))
behind_by place (a ∷ p) [] within long alike more = absurd (omega (arith, long))
behind_by zero (a ∷ p) (b ∷ e) within long alike more = let next : b ≡ a + 1 = more in more_behind a b p e (omega (arith, next))
behind_by (suc place) (a ∷ p) (b ∷ e) within long alike more =
    let same : b ≡ a = cc in
    let rest : take place e ≡ take place p = cc in
    as_behind a b p e (sym same) ∙ behind_by place p e (omega (arith, within)) (omega (arith, long)) rest more

pub behind_all : (p e : Bytes) → IsBehindAll p e → is_behind_tree p e ≡ true
behind_all p e h = behind_by h.place p e h.in_range h.long h.alike h.more

-- a number that is none where this holds
at_most : (b : Bool) (n : ℕ) → cond b 0 n ≤ n
at_most true n = omega arith
at_most false n = omega arith

-- so no tree comes to be ahead of a fence that rises
tree_less : (f g : Bytes) (tree : Tree) → is_lt (cmp g f) ≡ false → one_if_tree g tree ≤ one_if_tree f tree
tree_less f g tree from = by (is_behind_tree tree.prefix f) refl
  where
    by : (b : Bool) → is_behind_tree tree.prefix f ≡ b → one_if_tree g tree ≤ cond b 0 (one_if_standing tree.standing)
    by false e = at_most (is_behind_tree tree.prefix g) (one_if_standing tree.standing)
    by true e = let none = ap (λ b. cond b 0 (one_if_standing tree.standing)) (behind_stays tree.prefix f g e from) in omega (arith, none)

pub trees_less : (trees : List Tree) (f g : Bytes) → is_lt (cmp g f) ≡ false → trees_ahead trees g ≤ trees_ahead trees f
trees_less [] f g from = omega arith
trees_less (tree ∷ trees) f g from = omega (arith, tree_less f g tree from, trees_less trees f g from)

-- and one less is where it comes behind a live one
pub trees_fewer : (trees : List Tree) (t : ℕ) (f g : Bytes) → t < length trees → (tree_at trees t).standing ≡ Live → is_behind_tree (tree_at trees t).prefix f ≡ false
    → is_behind_tree (tree_at trees t).prefix g ≡ true → is_lt (cmp g f) ≡ false → trees_ahead trees g + 1 ≤ trees_ahead trees f
trees_fewer [] t f g within live ahead passed from = absurd (omega (arith, within))
trees_fewer (tree ∷ trees) zero f g within live ahead passed from =
    let one = ap (λ b. cond b 0 (one_if_standing tree.standing)) ahead ∙ ap one_if_standing live in
    let none = ap (λ b. cond b 0 (one_if_standing tree.standing)) passed in
    omega (arith, one, none, trees_less trees f g from)
trees_fewer (tree ∷ trees) (suc t) f g within live ahead passed from =
    omega (arith, tree_less f g tree from, trees_fewer trees t f g (omega (arith, within)) live ahead passed from)

pub trees_most : (trees : List Tree) (f : Bytes) → trees_ahead trees f ≤ live_trees trees
trees_most [] f = omega arith
trees_most (tree ∷ trees) f = omega (arith, at_most (is_behind_tree tree.prefix f) (one_if_standing tree.standing), trees_most trees f)

-- what a key is below, a lower one is
higher_first : (b c : ℕ) (f g : Bytes) → b < c → is_lt (cmp (c ∷ g) (b ∷ f)) ≡ false
higher_first b c f g lt = ap is_lt (ap (λ o. ordering_then o (cmp g f)) (nat_greater c b lt))

below_more : (f g x : Bytes) → is_lt (cmp g f) ≡ false → is_lt (cmp g x) ≡ true → is_lt (cmp f x) ≡ true
below_more [] g [] from to = absurd (let both = sym to ∙ from in cc)
below_more [] g (y ∷ x) from to = refl
below_more (b ∷ f) [] x from to = absurd (cc)
below_more (b ∷ f) (c ∷ g) [] from to = absurd (cc)
below_more (b ∷ f) (c ∷ g) (y ∷ x) from to = elim (cases_lt c b) [
  | inl lower ↦ absurd (let both = sym (lower_first b c f g lower) ∙ from in cc)
  | inr up ↦ elim (cases_lt c y) [
    | inl less ↦ lower_first y b x f (omega (arith, up, less))
    | inr other ↦ elim (cases_eq c y) [
      | inl same ↦ elim (cases_eq c b) [
        | inl level ↦
            same_first y b x f (sym level ∙ same)
            ∙ below_more f g x (sym (same_first b c f g level) ∙ from) (sym (same_first y c x g same) ∙ to)
        | inr above ↦ lower_first y b x f (omega (arith, up, above, same))
      ]
      | inr differ ↦ absurd (let both = sym (higher_first y c x g (omega (arith, other, differ))) ∙ to in cc)
    ]
  ]
]

-- no key is below itself, nor below one that is above it
pub not_itself : (x : Bytes) → is_lt (cmp x x) ≡ false
not_itself [] = refl
not_itself (b ∷ x) = same_first b b x x refl ∙ not_itself x

below_below : (f g x : Bytes) → is_lt (cmp f g) ≡ true → is_lt (cmp g x) ≡ true → is_lt (cmp f x) ≡ true
below_below [] [] x down to = absurd (cc)
below_below [] (c ∷ g) [] down to = absurd (cc)
below_below [] (c ∷ g) (y ∷ x) down to = refl
below_below (b ∷ f) [] x down to = absurd (cc)
below_below (b ∷ f) (c ∷ g) [] down to = absurd (cc)
below_below (b ∷ f) (c ∷ g) (y ∷ x) down to = elim (cases_lt c b) [
  | inl lower ↦ absurd (let both = sym (higher_first c b g f lower) ∙ down in cc)
  | inr up ↦ elim (cases_lt c y) [
    | inl less ↦ lower_first y b x f (omega (arith, up, less))
    | inr other ↦ elim (cases_eq c y) [
      | inl same ↦ elim (cases_eq b c) [
        | inl level ↦
            same_first y b x f (level ∙ same)
            ∙ below_below f g x (sym (same_first c b g f level) ∙ down) (sym (same_first y c x g same) ∙ to)
        | inr above ↦ lower_first y b x f (omega (arith, up, above, same))
      ]
      | inr differ ↦ absurd (let both = sym (higher_first y c x g (omega (arith, other, differ))) ∙ to in cc)
    ]
  ]
]

pub not_below : (f g : Bytes) → is_lt (cmp f g) ≡ true → is_lt (cmp g f) ≡ false
not_below f g lt = by (is_lt (cmp g f)) refl
  where
    by : (b : Bool) → is_lt (cmp g f) ≡ b → is_lt (cmp g f) ≡ false
    by false e = e
    by true e = absurd (let both = sym (not_itself f) ∙ below_below f g f lt e in cc)

at_most_one : (b : Bool) (n : ℕ) → cond b n 0 ≤ n
at_most_one true n = omega arith
at_most_one false n = omega arith

-- so no border node comes to begin ahead of a fence that rises
node_less : (trees : List Tree) (f g : Bytes) (n : NodeView) → is_lt (cmp g f) ≡ false → one_if_node trees g n ≤ one_if_node trees f n
node_less trees f g n from = by (is_lt (cmp g (begin_of trees n))) refl
  where
    by : (b : Bool) → is_lt (cmp g (begin_of trees n)) ≡ b → cond b (one_if_live n) 0 ≤ one_if_node trees f n
    by false e = omega arith
    by true e = let one = ap (λ b. cond b (one_if_live n) 0) (below_more f g (begin_of trees n) from e) in omega (arith, one)

pub nodes_less : (trees : List Tree) (nodes : List NodeView) (f g : Bytes) → is_lt (cmp g f) ≡ false → nodes_ahead trees nodes g ≤ nodes_ahead trees nodes f
nodes_less trees [] f g from = omega arith
nodes_less trees (n ∷ nodes) f g from = omega (arith, node_less trees f g n from, nodes_less trees nodes f g from)

-- and one less does where it comes to the beginning of a live one
pub nodes_fewer : (trees : List Tree) (nodes : List NodeView) (k : ℕ) (f g : Bytes) → k < length nodes → (node_at nodes k).version.deleted ≡ false
    → g ≡ begin_of trees (node_at nodes k) → is_lt (cmp f g) ≡ true → nodes_ahead trees nodes g + 1 ≤ nodes_ahead trees nodes f
nodes_fewer trees [] k f g within live is up = absurd (omega (arith, within))
nodes_fewer trees (n ∷ nodes) zero f g within live is up =
    let one = ap (λ b. cond b (one_if_live n) 0) (ap (λ x. is_lt (cmp f x)) (sym is) ∙ up) ∙ ap (λ (deleted : Bool). cond deleted 0 1) live in
    let none = ap (λ b. cond b (one_if_live n) 0) (ap (λ x. is_lt (cmp g x)) (sym is) ∙ not_itself g) in
    omega (arith, one, none, nodes_less trees nodes f g (not_below f g up))
nodes_fewer trees (n ∷ nodes) (suc k) f g within live is up =
    omega (arith, node_less trees f g n (not_below f g up), nodes_fewer trees nodes k f g (omega (arith, within)) live is up)

pub nodes_most : (trees : List Tree) (nodes : List NodeView) (f : Bytes) → nodes_ahead trees nodes f ≤ live_count nodes
nodes_most trees [] f = omega arith
nodes_most trees (n ∷ nodes) f = omega (arith, at_most_one (is_lt (cmp f (begin_of trees n))) (one_if_live n), nodes_most trees nodes f)
