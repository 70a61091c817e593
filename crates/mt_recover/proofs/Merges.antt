-- One merge of ascending pairs and changes: what stands at each owner, and the order. For `merged`.
use Rattle.std.proofs.Common.{◌≡◌, ℕ, Bool, true, false, cond, List, [], ◌∷◌, ◌++◌, map, Option, Some, None, MatchOption, refl, sym, ◌∙◌, ap, subst, arith}
use Rattle.std.proofs.{lemmas.Bool.true≢false, lemmas.List.append_assoc}
use Rattle.std.specs.{List.AllByRecursion, List.Sorted.IsStrictlySortedBy, Option.{option_map, unwrap_or}, Cmp.eq_by_cmp_equiv, Map.{lookup, keys_of}, BTreeMap.is_at}
use Rattle.std.specs.{declared.cmp.Ordering.Ordering, declared.cmp.Ordering.TheVariants.{Less, Equal, Greater}}
use Rattle.std.specs.{Ordering.{is_lt, is_eq, eq_by_cmp, ordering_reverse}, FinMap.{get, find, get-from_entries}}
use Rattle.mt_rows.specs.{Rows.Bytes, Stamps.Stamped, Tenants.owned_cmp, declared.record.TenantPair.TenantPair, TenantPairs.{owner_of, entry_of, pairs_of}}
use Rattle.mt_rows.proofs.ContentLaws.{owned_total, owned_exact, same_contents, same_owner, tied_owner}
use Rattle.mt_tape.{specs.Histories.with_row, proofs.RowLaws.get-with_row}
use Rattle.mt_recover.specs.Pairs.{Ascend, AreBefore, first_order, without_first, pair_for}

abbrev Owner : Type 0
Owner = ℕ × Bytes

abbrev Entry : Type 0
Entry = Owner × Option Stamped

abbrev row_of : List TenantPair → Owner → Option Stamped
row_of ps q = find owned_cmp q (map entry_of ps)

abbrev told : List Entry → Owner → Option (Option Stamped)
told es q = lookup (is_at (owned_cmp q)) es

-- what stands at an owner after changes, if it has some
abbrev MakesAt : Option (Option Stamped) → Option Stamped → Option Stamped → Type 0
MakesAt None old new = new ≡ old
MakesAt (Some row) old new = new ≡ row

-- what is behind an owner is behind an earlier one
pub all_later : (a b : Owner) (os : List Owner) → owned_cmp a b ≡ Less → AllByRecursion (λ o. owned_cmp b o ≡ Less) os → AllByRecursion (λ o. owned_cmp a o ≡ Less) os
all_later a b [] less h = tt
all_later a b (o ∷ os) less h = (owned_total.trans a b o less h.0, all_later a b os less h.1)

-- ---- the pairs that are left, without the owner's

-- if none of them is before the owner, all are behind it
behind : (owner : Owner) (ps : List TenantPair) → Ascend ps → is_lt (first_order owner ps) ≡ false
    → AllByRecursion (λ o. owned_cmp owner o ≡ Less) (map owner_of (without_first owner ps))
unfolding IsStrictlySortedBy
behind owner [] h first = tt
behind owner (p ∷ ps) h first = by (owned_cmp (owner_of p) owner) refl first
  where
    by : (r : Ordering) → owned_cmp (owner_of p) owner ≡ r → is_lt r ≡ false → AllByRecursion (λ o. owned_cmp owner o ≡ Less) (map owner_of (cond (is_eq r) ps (p ∷ ps)))
    by Less e isnt = absurd (true≢false isnt)
    by Equal e isnt = subst (λ (o : Owner). AllByRecursion (λ x. owned_cmp o x ≡ Less) (map owner_of ps)) (owned_exact (owner_of p) owner e) h.0
    by Greater e isnt =
        let less = owned_total.antisymm owner (owner_of p) ∙ ap ordering_reverse e in
        (less, all_later owner (owner_of p) (map owner_of ps) less h.0)

rest_ascends : (owner : Owner) (ps : List TenantPair) → Ascend ps → Ascend (without_first owner ps)
unfolding IsStrictlySortedBy
rest_ascends owner [] h = h
rest_ascends owner (p ∷ ps) h = by (is_eq (owned_cmp (owner_of p) owner))
  where
    by : (b : Bool) → Ascend (cond b ps (p ∷ ps))
    by true = h.1
    by false = h

none_at : (owner : Owner) (ps : List TenantPair) → AllByRecursion (λ o. owned_cmp owner o ≡ Less) (map owner_of ps) → row_of ps owner ≡ None
none_at owner [] h = refl
none_at owner (p ∷ ps) h = ap (λ b. cond b (Some p.row) (row_of ps owner)) (ap is_eq h.0) ∙ none_at owner ps h.1

row_without : (owner q : Owner) (ps : List TenantPair) → eq_by_cmp owned_cmp q owner ≡ false → row_of (without_first owner ps) q ≡ row_of ps q
row_without owner q [] other = refl
row_without owner q (p ∷ ps) other = by (eq_by_cmp owned_cmp (owner_of p) owner) refl
  where
    by : (b : Bool) → eq_by_cmp owned_cmp (owner_of p) owner ≡ b → row_of (cond b ps (p ∷ ps)) q ≡ row_of (p ∷ ps) q
    by true tied = sym (ap (λ b. cond b (Some p.row) (row_of ps q)) (ap (eq_by_cmp owned_cmp q) (tied_owner (owner_of p) owner tied) ∙ other))
    by false apart = refl

-- ---- a change of an owner behind all listed pairs

module _ (owner : Owner) (row : Option Stamped) (ps : List TenantPair) (first : is_lt (first_order owner ps) ≡ false) where
  row_first : (q : Owner) → Ascend ps → row_of (pair_for owner row ++ without_first owner ps) q ≡ cond (eq_by_cmp owned_cmp q owner) row (row_of ps q)
  row_first q h = by row (eq_by_cmp owned_cmp q owner) refl
    where
      by : (r : Option Stamped) (b : Bool) → eq_by_cmp owned_cmp q owner ≡ b → row_of (pair_for owner r ++ without_first owner ps) q ≡ cond b r (row_of ps q)
      by None true tied = ap (row_of (without_first owner ps)) (tied_owner q owner tied) ∙ none_at owner (without_first owner ps) (behind owner ps h first)
      by None false apart = row_without owner q ps apart
      by (Some r) true tied = ap (λ b. cond b (Some r) (row_of (without_first owner ps) q)) tied
      by (Some r) false apart = ap (λ b. cond b (Some r) (row_of (without_first owner ps) q)) apart ∙ row_without owner q ps apart

  rows : (listed : List TenantPair) (q : Owner) → Ascend (listed ++ ps) → AreBefore owner listed
      → row_of (listed ++ (pair_for owner row ++ without_first owner ps)) q ≡ cond (eq_by_cmp owned_cmp q owner) row (row_of (listed ++ ps) q)
  unfolding IsStrictlySortedBy
  rows [] q h before = row_first q h
  rows (p ∷ listed) q h before =
      ap (cond (eq_by_cmp owned_cmp q (owner_of p)) (Some p.row)) (rows listed q h.1 before.1) ∙ turn (eq_by_cmp owned_cmp q (owner_of p)) (eq_by_cmp owned_cmp q owner) refl refl
    where
      turn : (a b : Bool) → eq_by_cmp owned_cmp q (owner_of p) ≡ a → eq_by_cmp owned_cmp q owner ≡ b
          → cond a (Some p.row) (cond b row (row_of (listed ++ ps) q)) ≡ cond b row (cond a (Some p.row) (row_of (listed ++ ps) q))
      turn true true at to =
          let same : owner_of p ≡ owner = sym (tied_owner q (owner_of p) at) ∙ tied_owner q owner to in
          absurd (true≢false (sym (same_owner owner) ∙ ap (λ o. eq_by_cmp owned_cmp o owner) (sym same) ∙ ap is_eq before.0))
      turn true false at to = refl
      turn false true at to = refl
      turn false false at to = refl

  first_kept : (P : Owner → Type 0) → P owner → AllByRecursion P (map owner_of ps) → AllByRecursion P (map owner_of (pair_for owner row ++ without_first owner ps))
  first_kept P at h = by row (rest ps h)
    where
      rest : (qs : List TenantPair) → AllByRecursion P (map owner_of qs) → AllByRecursion P (map owner_of (without_first owner qs))
      rest [] h = tt
      rest (p ∷ qs) h = one (is_eq (owned_cmp (owner_of p) owner))
        where
          one : (b : Bool) → AllByRecursion P (map owner_of (cond b qs (p ∷ qs)))
          one true = h.1
          one false = h

      by : (r : Option Stamped) → AllByRecursion P (map owner_of (without_first owner ps)) → AllByRecursion P (map owner_of (pair_for owner r ++ without_first owner ps))
      by None all = all
      by (Some r) all = (at, all)

  all_kept : (P : Owner → Type 0) (listed : List TenantPair) → P owner → AllByRecursion P (map owner_of (listed ++ ps))
      → AllByRecursion P (map owner_of (listed ++ (pair_for owner row ++ without_first owner ps)))
  all_kept P [] at h = first_kept P at h
  all_kept P (p ∷ listed) at h = (h.0, all_kept P listed at h.1)

  first_ascends : Ascend ps → Ascend (pair_for owner row ++ without_first owner ps)
  unfolding IsStrictlySortedBy
  first_ascends h = by row
    where
      by : (r : Option Stamped) → Ascend (pair_for owner r ++ without_first owner ps)
      by None = rest_ascends owner ps h
      by (Some r) = (behind owner ps h first, rest_ascends owner ps h)

  ascends : (listed : List TenantPair) → Ascend (listed ++ ps) → AreBefore owner listed → Ascend (listed ++ (pair_for owner row ++ without_first owner ps))
  unfolding IsStrictlySortedBy
  ascends [] h before = first_ascends h
  ascends (p ∷ listed) h before = (all_kept (λ o. owned_cmp (owner_of p) o ≡ Less) listed before.0 h.0, ascends listed h.1 before.1)

  -- the pairs have the row at the owner, and what they had at any other
  pub row_made : (listed : List TenantPair) → Ascend (listed ++ ps) → AreBefore owner listed
      → pairs_of ((listed ++ pair_for owner row) ++ without_first owner ps) ≡ with_row (pairs_of (listed ++ ps)) owner row
  row_made listed h before = same_contents _ _ (λ q.
      get-from_entries owned_total _ q
      ∙ ap (λ l. row_of l q) (append_assoc listed (pair_for owner row) (without_first owner ps))
      ∙ rows listed q h before
      ∙ sym (get-with_row (pairs_of (listed ++ ps)) owner row q ∙ ap (cond (eq_by_cmp owned_cmp q owner) row) (get-from_entries owned_total _ q)))

  -- they ascend
  pub order_kept : (listed : List TenantPair) → Ascend (listed ++ ps) → AreBefore owner listed → Ascend ((listed ++ pair_for owner row) ++ without_first owner ps)
  order_kept listed h before = subst Ascend (sym (append_assoc listed (pair_for owner row) (without_first owner ps))) (ascends listed h before)

-- what is listed then is before each later owner
pub before_next : (owner : ℕ × Bytes) (row : Option Stamped) (listed : List TenantPair) → AreBefore owner listed → (next : ℕ × Bytes) → owned_cmp owner next ≡ Less
    → AreBefore next (listed ++ pair_for owner row)
before_next owner None [] before next less = tt
before_next owner (Some row) [] before next less = (less, tt)
before_next owner row (p ∷ listed) before next less = (owned_total.trans (owner_of p) owner next before.0 less, before_next owner row listed before.1 next less)

-- what an owner's row makes of pairs, of which those that are listed are before each later owner
pub record IsMade (owner : ℕ × Bytes) (row : Option Stamped) (was listed left : List TenantPair) : Type 0 where
  pub pairs : pairs_of (listed ++ left) ≡ with_row (pairs_of was) owner row
  pub order : Ascend (listed ++ left)
  pub before : (next : ℕ × Bytes) → owned_cmp owner next ≡ Less → AreBefore next listed

-- the pairs before the owner are listed, the owner's is left out, and the row's pair is listed
pub is_made : (owner : ℕ × Bytes) (row : Option Stamped) (first second listed left more rest : List TenantPair) → listed ++ left ≡ first ++ second → Ascend (first ++ second)
    → AreBefore owner listed → is_lt (first_order owner left) ≡ false → rest ≡ without_first owner left → more ≡ listed ++ pair_for owner row
    → IsMade owner row (first ++ second) more rest
is_made owner row first second listed left more rest same order before all rest_is more_is =
    subst (λ (ps : List TenantPair). IsMade owner row (first ++ second) ps rest) (sym more_is)
    (subst (IsMade owner row (first ++ second) (listed ++ pair_for owner row)) (sym rest_is)
    (subst (λ (ps : List TenantPair). IsMade owner row ps (listed ++ pair_for owner row) (without_first owner left)) same
    (record {
      pairs = row_made owner row left all listed (subst Ascend (sym same) order) before;
      order = order_kept owner row left all listed (subst Ascend (sym same) order) before;
      before = before_next owner row listed before;
    })))

-- the next pair was taken if it is the owner's
pub taken_first : (owner : ℕ × Bytes) (old new : List TenantPair) (o : Option TenantPair)
    → MatchOption o ((new ≡ old) × (is_eq (first_order owner old) ≡ false)) (λ p. (old ≡ p ∷ new) × (is_eq (owned_cmp (owner_of p) owner) ≡ true))
    → new ≡ without_first owner old
taken_first owner [] new None h = h.0
taken_first owner (p ∷ ps) new None h = h.0 ∙ sym (ap (λ (b : Bool). cond b ps (p ∷ ps)) h.1)
taken_first owner old new (Some p) h = sym (ap (without_first owner) h.0 ∙ ap (λ (b : Bool). cond b new (p ∷ new)) h.1)

-- ---- all changes, one after the other

-- the changes so far are made, and each that is left is of an owner after what is listed
pub record IsMerged (base : List TenantPair) (all : List ((ℕ × Bytes) × Option Stamped)) (listed left : List TenantPair) (rest : List ((ℕ × Bytes) × Option Stamped)) : Type 0 where
  pub after : (q : ℕ × Bytes) (row : Option Stamped) → MakesAt (told rest q) (get (pairs_of (listed ++ left)) q) row → MakesAt (told all q) (get (pairs_of base) q) row
  pub order : Ascend (listed ++ left)
  pub rising : IsStrictlySortedBy owned_cmp (keys_of rest)
  pub before : AllByRecursion (λ (e : Entry). AreBefore e.0 listed) rest

nothing_before : (es : List Entry) → AllByRecursion (λ (e : Entry). AreBefore e.0 []) es
nothing_before [] = tt
nothing_before (e ∷ es) = (tt, nothing_before es)

pub none_made : (base : List TenantPair) (all rest : List Entry) (listed : List TenantPair) → listed ≡ [] → rest ≡ all → Ascend base → IsStrictlySortedBy owned_cmp (keys_of all)
    → IsMerged base all listed base rest
none_made base all rest listed none is order rising =
    subst (λ (ps : List TenantPair). IsMerged base all ps base rest) (sym none)
    (record {
      after = λ q row h. subst (λ (es : List Entry). MakesAt (told es q) (get (pairs_of base) q) row) is h;
      order = order;
      rising = subst (λ (es : List Entry). IsStrictlySortedBy owned_cmp (keys_of es)) (sym is) rising;
      before = nothing_before rest;
    })

no_change : (owner : Owner) (es : List Entry) → AllByRecursion (λ o. owned_cmp owner o ≡ Less) (keys_of es) → told es owner ≡ None
no_change owner [] h = refl
no_change owner (e ∷ es) h = ap (λ b. cond b (Some e.1) (lookup (is_at (owned_cmp owner)) es)) (ap is_eq h.0) ∙ no_change owner es h.1

before_all : (owner : Owner) (listed : List TenantPair) (es : List Entry) → AllByRecursion (λ o. owned_cmp owner o ≡ Less) (keys_of es)
    → ((next : Owner) → owned_cmp owner next ≡ Less → AreBefore next listed) → AllByRecursion (λ (e : Entry). AreBefore e.0 listed) es
before_all owner listed [] h before = tt
before_all owner listed (e ∷ es) h before = (before e.0 h.0, before_all owner listed es h.1 before)

pub one_made : (base : List TenantPair) (all was rest : List Entry) (e : Entry) (listed left more remain : List TenantPair) → was ≡ e ∷ rest
    → IsMerged base all listed left was → pairs_of (more ++ remain) ≡ with_row (pairs_of (listed ++ left)) e.0 e.1
    → Ascend (more ++ remain) → ((next : ℕ × Bytes) → owned_cmp e.0 next ≡ Less → AreBefore next more) → IsMerged base all more remain rest
unfolding IsStrictlySortedBy
one_made base all was rest e listed left more remain is so_far pairs order before = record {
  after = λ q now h. so_far.after q now (subst (λ (es : List Entry). MakesAt (told es q) (get (pairs_of (listed ++ left)) q) now) (sym is)
      (by q (eq_by_cmp owned_cmp q e.0) refl now
      (subst (λ (o : Option Stamped). MakesAt (told rest q) o now) (ap (λ m. get m q) pairs ∙ get-with_row (pairs_of (listed ++ left)) e.0 e.1 q) h)));
  order = order;
  rising = rising.1;
  before = before_all e.0 more rest rising.0 before;
}
  where
    rising : IsStrictlySortedBy owned_cmp (keys_of (e ∷ rest))
    rising = subst (λ (es : List Entry). IsStrictlySortedBy owned_cmp (keys_of es)) is so_far.rising

    by : (q : Owner) (b : Bool) → eq_by_cmp owned_cmp q e.0 ≡ b → (now : Option Stamped) → MakesAt (told rest q) (cond b e.1 (get (pairs_of (listed ++ left)) q)) now
        → MakesAt (cond b (Some e.1) (told rest q)) (get (pairs_of (listed ++ left)) q) now
    by q true tied now h = subst (λ (o : Option (Option Stamped)). MakesAt o e.1 now) (ap (told rest) (tied_owner q e.0 tied) ∙ no_change e.0 rest rising.0) h
    by q false apart now h = h

-- what is listed is before the next change
pub before_first : (base : List TenantPair) (all was rest : List Entry) (e : Entry) (listed left : List TenantPair) → was ≡ e ∷ rest → IsMerged base all listed left was
    → AreBefore e.0 listed
before_first base all was rest e listed left is so_far = (subst (AllByRecursion (λ (x : Entry). AreBefore x.0 listed)) is so_far.before).0

-- all changes are made
pub all_made : (base : List TenantPair) (all rest : List Entry) (listed left : List TenantPair) → rest ≡ [] → IsMerged base all listed left rest
    → (q : ℕ × Bytes) → get (pairs_of (listed ++ left)) q ≡ unwrap_or (told all q) (get (pairs_of base) q)
all_made base all rest listed left none so_far q =
    by (told all q) (so_far.after q (get (pairs_of (listed ++ left)) q) (subst (λ (es : List Entry). MakesAt (told es q) (get (pairs_of (listed ++ left)) q) (get (pairs_of (listed ++ left)) q)) (sym none) refl))
  where
    by : (o : Option (Option Stamped)) → MakesAt o (get (pairs_of base) q) (get (pairs_of (listed ++ left)) q) → get (pairs_of (listed ++ left)) q ≡ unwrap_or o (get (pairs_of base) q)
    by None same = same
    by (Some row) h = h
