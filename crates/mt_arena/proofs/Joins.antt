-- Contents of pairs in two lists, one behind the other, as maps: for the lemmas of contents.
use Rattle.std.proofs.Common.{◌≡◌, ◌≢◌, ℕ, zero, suc, ◌<◌, Bool, true, false, cond, List, [], ◌∷◌, ◌++◌, length, get_or, set, Option, Some, None, sym, refl, ap, ◌∙◌, arith}
use Rattle.std.specs.{List.flat_map, Option.option_or, Ordering.{nat_cmp, eq_by_cmp, is_eq, ordering_then}, declared.cmp.Ordering.Ordering}
use Rattle.std.specs.{declared.cmp.Ordering.TheVariants.{Less, Equal, Greater}, Cmp.eq_by_cmp_equiv, Cmp.Lexicographic.slice_cmp}
use Rattle.std.specs.FinMap.{get, insert, remove, get-empty, from_entries, get-insert, get-remove, nat_cmp-IsAntisymmetric}
use Rattle.mt_rows.{specs.{Rows.Bytes, Stamps.Stamped, Tenants.{owned_cmp, Contents}}, proofs.{CommandLaws.keys_exact, ContentLaws.{same_contents, owned_total}}}

-- pairs with their owners, as a list and as a map
abbrev pub Pairs : Type 0
Pairs = List ((ℕ × Bytes) × Stamped)

abbrev pub map_of : Pairs → Contents
map_of ps = from_entries ps

-- what compares as equal is so
ties : (o : Ordering) → is_eq o ≡ true → o ≡ Equal
ties Less e = absurd (cc)
ties Equal e = refl
ties Greater e = absurd (cc)

-- owned keys that tie are one
pub tied_owner : (a b : ℕ × Bytes) → eq_by_cmp owned_cmp a b ≡ true → a ≡ b
tied_owner a b tied =
    elim (nat_cmp a.0 b.0) as (λ o. nat_cmp a.0 b.0 ≡ o → ordering_then o (slice_cmp nat_cmp a.1 b.1) ≡ Equal → a ≡ b) [
      | Less ↦ λ _ e. absurd (cc)
      | Equal ↦ λ p e i. (nat_cmp-IsAntisymmetric a.0 b.0 p i, keys_exact a.1 b.1 e i)
      | Greater ↦ λ _ e. absurd (cc)
    ] refl (ties _ tied)

-- and each ties with itself
pub same_owner : (q : ℕ × Bytes) → eq_by_cmp owned_cmp q q ≡ true
same_owner q = (eq_by_cmp_equiv owned_total).refl q

-- what the first list says comes first
or_cond : (b : Bool) (row : Stamped) (x y : Option Stamped) → cond b (Some row) (option_or x y) ≡ option_or (cond b (Some row) x) y
or_cond true row x y = refl
or_cond false row x y = refl

-- what the first list does not say the second one does
pub or_none : (x y : Option Stamped) → x ≡ None → option_or x y ≡ y
or_none x y none = ap (λ o. option_or o y) none

-- a key's row in both is that of the first list that has it
pub get-append : (ps qs : Pairs) (q : ℕ × Bytes) → get (map_of (ps ++ qs)) q ≡ option_or (get (map_of ps) q) (get (map_of qs) q)
get-append [] qs q = ap (λ o. option_or o (get (map_of qs) q)) (sym (get-empty owned_cmp q))
get-append (p ∷ ps) qs q =
    get-insert owned_total (map_of (ps ++ qs)) p.0 p.1 q
    ∙ ap (cond (eq_by_cmp owned_cmp q p.0) (Some p.1)) (get-append ps qs q)
    ∙ or_cond (eq_by_cmp owned_cmp q p.0) p.1 (get (map_of ps) q) (get (map_of qs) q)
    ∙ ap (λ o. option_or o (get (map_of qs) q)) (sym (get-insert owned_total (map_of ps) p.0 p.1 q))

-- an insert in the first list is one in both
pub insert-first : (ps new qs : Pairs) (q : ℕ × Bytes) (row : Stamped) → map_of new ≡ insert (map_of ps) q row
    → map_of (new ++ qs) ≡ insert (map_of (ps ++ qs)) q row
insert-first ps new qs q row is = same_contents _ _ (λ r.
    get-append new qs r
    ∙ ap (λ c. option_or (get c r) (get (map_of qs) r)) is
    ∙ ap (λ o. option_or o (get (map_of qs) r)) (get-insert owned_total (map_of ps) q row r)
    ∙ sym (get-insert owned_total (map_of (ps ++ qs)) q row r ∙ ap (cond (eq_by_cmp owned_cmp r q) (Some row)) (get-append ps qs r) ∙ or_cond (eq_by_cmp owned_cmp r q) row (get (map_of ps) r) (get (map_of qs) r)))

-- so is one in the second list, where the first has nothing there
insert_behind : (b : Bool) (row : Stamped) (x y : Option Stamped) → (b ≡ true → x ≡ None)
    → option_or x (cond b (Some row) y) ≡ cond b (Some row) (option_or x y)
insert_behind true row x y none = or_none x (Some row) (none refl)
insert_behind false row x y none = refl

-- in two lists of pairs of which the first lacks the key, a pair may be put into the second
pub insert-second : (ps qs new : Pairs) (q : ℕ × Bytes) (row : Stamped) → get (map_of ps) q ≡ None → map_of new ≡ insert (map_of qs) q row
    → map_of (ps ++ new) ≡ insert (map_of (ps ++ qs)) q row
insert-second ps qs new q row none is = same_contents _ _ (λ r.
    get-append ps new r
    ∙ ap (λ c. option_or (get (map_of ps) r) (get c r)) is
    ∙ ap (option_or (get (map_of ps) r)) (get-insert owned_total (map_of qs) q row r)
    ∙ insert_behind (eq_by_cmp owned_cmp r q) row (get (map_of ps) r) (get (map_of qs) r) (λ tied. ap (get (map_of ps)) (tied_owner r q tied) ∙ none)
    ∙ sym (get-insert owned_total (map_of (ps ++ qs)) q row r ∙ ap (cond (eq_by_cmp owned_cmp r q) (Some row)) (get-append ps qs r)))

-- a removal in one list is one in both, where the other one has nothing there
remove_before : (b : Bool) (x y : Option Stamped) → (b ≡ true → y ≡ None) → option_or (cond b None x) y ≡ cond b None (option_or x y)
remove_before true x y none = none refl
remove_before false x y none = refl

remove_behind : (b : Bool) (x y : Option Stamped) → (b ≡ true → x ≡ None) → option_or x (cond b None y) ≡ cond b None (option_or x y)
remove_behind true x y none = or_none x None (none refl)
remove_behind false x y none = refl

-- a key that the second list lacks may be taken out of the first
pub remove-first : (ps new qs : Pairs) (q : ℕ × Bytes) → get (map_of qs) q ≡ None → map_of new ≡ remove (map_of ps) q
    → map_of (new ++ qs) ≡ remove (map_of (ps ++ qs)) q
remove-first ps new qs q none is = same_contents _ _ (λ r.
    get-append new qs r
    ∙ ap (λ c. option_or (get c r) (get (map_of qs) r)) is
    ∙ ap (λ o. option_or o (get (map_of qs) r)) (get-remove owned_total (map_of ps) q r)
    ∙ remove_before (eq_by_cmp owned_cmp r q) (get (map_of ps) r) (get (map_of qs) r) (λ tied. ap (get (map_of qs)) (tied_owner r q tied) ∙ none)
    ∙ sym (get-remove owned_total (map_of (ps ++ qs)) q r ∙ ap (cond (eq_by_cmp owned_cmp r q) None) (get-append ps qs r)))

-- and one that the first lacks out of the second
pub remove-second : (ps qs new : Pairs) (q : ℕ × Bytes) → get (map_of ps) q ≡ None → map_of new ≡ remove (map_of qs) q
    → map_of (ps ++ new) ≡ remove (map_of (ps ++ qs)) q
remove-second ps qs new q none is = same_contents _ _ (λ r.
    get-append ps new r
    ∙ ap (λ c. option_or (get (map_of ps) r) (get c r)) is
    ∙ ap (option_or (get (map_of ps) r)) (get-remove owned_total (map_of qs) q r)
    ∙ remove_behind (eq_by_cmp owned_cmp r q) (get (map_of ps) r) (get (map_of qs) r) (λ tied. ap (get (map_of ps)) (tied_owner r q tied) ∙ none)
    ∙ sym (get-remove owned_total (map_of (ps ++ qs)) q r ∙ ap (cond (eq_by_cmp owned_cmp r q) None) (get-append ps qs r)))

-- and what is in no list is in neither
pub none-append : (ps qs : Pairs) (q : ℕ × Bytes) → get (map_of ps) q ≡ None → get (map_of qs) q ≡ None → get (map_of (ps ++ qs)) q ≡ None
none-append ps qs q none also = get-append ps qs q ∙ or_none (get (map_of ps) q) (get (map_of qs) q) none ∙ also

-- a key's row in the first list is its row in both
pub some-first : (ps qs : Pairs) (q : ℕ × Bytes) (row : Stamped) → get (map_of ps) q ≡ Some row → get (map_of (ps ++ qs)) q ≡ Some row
some-first ps qs q row some = get-append ps qs q ∙ ap (λ o. option_or o (get (map_of qs) q)) some

-- a row in the second list is the key's in both, where the first lacks it
pub some-second : (ps qs : Pairs) (q : ℕ × Bytes) (row : Stamped) → get (map_of ps) q ≡ None → get (map_of qs) q ≡ Some row
    → get (map_of (ps ++ qs)) q ≡ Some row
some-second ps qs q row none some = get-append ps qs q ∙ or_none (get (map_of ps) q) (get (map_of qs) q) none ∙ some

-- of two lists what one says where the other has nothing
pub or_none_right : (x : Option Stamped) → option_or x None ≡ x
or_none_right None = refl
or_none_right (Some row) = refl

-- a key that the second list lacks is looked up in the first
pub get-first : (ps qs : Pairs) (q : ℕ × Bytes) → get (map_of qs) q ≡ None → get (map_of (ps ++ qs)) q ≡ get (map_of ps) q
get-first ps qs q none = get-append ps qs q ∙ ap (option_or (get (map_of ps) q)) none ∙ or_none_right (get (map_of ps) q)

-- and one that the first lacks in the second
pub get-second : (ps qs : Pairs) (q : ℕ × Bytes) → get (map_of ps) q ≡ None → get (map_of (ps ++ qs)) q ≡ get (map_of qs) q
get-second ps qs q none = get-append ps qs q ∙ or_none (get (map_of ps) q) (get (map_of qs) q) none

-- lists of pairs, one for each of some nodes, of which one changes
module _ {X : Type 0} (f : X → Pairs) (q : ℕ × Bytes) (d : X) where
  pub all_none : (xs : List X) → ((k : ℕ) → k < length xs → get (map_of (f (get_or xs k d))) q ≡ None) → get (map_of (flat_map f xs)) q ≡ None
  all_none [] none = get-empty owned_cmp q
  all_none (x ∷ xs) none = none-append (f x) (flat_map f xs) q (none 0 (omega arith)) (all_none xs (λ k lt. none (suc k) (omega arith)))

  pub some_at : (xs : List X) (i : ℕ) (row : Stamped) → i < length xs → ((k : ℕ) → k < length xs → k ≢ i → get (map_of (f (get_or xs k d))) q ≡ None)
      → get (map_of (f (get_or xs i d))) q ≡ Some row → get (map_of (flat_map f xs)) q ≡ Some row
  some_at [] i row lt none is = absurd (omega arith)
  some_at (x ∷ xs) zero row lt none is = some-first (f x) (flat_map f xs) q row is
  some_at (x ∷ xs) (suc i) row lt none is =
      some-second (f x) (flat_map f xs) q row (none 0 (omega arith) (omega arith))
      (some_at xs i row (omega arith) (λ k within differ. none (suc k) (omega arith) (omega arith)) is)

  pub insert_at : (xs : List X) (i : ℕ) (y : X) (row : Stamped) → i < length xs
      → ((k : ℕ) → k < length xs → k ≢ i → get (map_of (f (get_or xs k d))) q ≡ None) → map_of (f y) ≡ insert (map_of (f (get_or xs i d))) q row
      → map_of (flat_map f (set xs i y)) ≡ insert (map_of (flat_map f xs)) q row
  insert_at [] i y row lt none is = absurd (omega arith)
  insert_at (x ∷ xs) zero y row lt none is = insert-first (f x) (f y) (flat_map f xs) q row is
  insert_at (x ∷ xs) (suc i) y row lt none is =
      insert-second (f x) (flat_map f xs) (flat_map f (set xs i y)) q row (none 0 (omega arith) (omega arith))
      (insert_at xs i y row (omega arith) (λ k within differ. none (suc k) (omega arith) (omega arith)) is)

  pub remove_at : (xs : List X) (i : ℕ) (y : X) → i < length xs → ((k : ℕ) → k < length xs → k ≢ i → get (map_of (f (get_or xs k d))) q ≡ None)
      → map_of (f y) ≡ remove (map_of (f (get_or xs i d))) q
      → map_of (flat_map f (set xs i y)) ≡ remove (map_of (flat_map f xs)) q
  remove_at [] i y lt none is = absurd (omega arith)
  remove_at (x ∷ xs) zero y lt none is =
      remove-first (f x) (f y) (flat_map f xs) q (all_none xs (λ k within. none (suc k) (omega arith) (omega arith))) is
  remove_at (x ∷ xs) (suc i) y lt none is =
      remove-second (f x) (flat_map f xs) (flat_map f (set xs i y)) q (none 0 (omega arith) (omega arith))
      (remove_at xs i y (omega arith) (λ k within differ. none (suc k) (omega arith) (omega arith)) is)

  pub only_at : (xs : List X) (i : ℕ) → i < length xs → ((k : ℕ) → k < length xs → k ≢ i → get (map_of (f (get_or xs k d))) q ≡ None)
      → get (map_of (flat_map f xs)) q ≡ get (map_of (f (get_or xs i d))) q
  only_at [] i lt none = absurd (omega arith)
  only_at (x ∷ xs) zero lt none = get-first (f x) (flat_map f xs) q (all_none xs (λ k within. none (suc k) (omega arith) (omega arith)))
  only_at (x ∷ xs) (suc i) lt none =
      get-second (f x) (flat_map f xs) q (none 0 (omega arith) (omega arith))
      ∙ only_at xs i (omega arith) (λ k within differ. none (suc k) (omega arith) (omega arith))

-- two lists of nodes that say the same one by one
pub agree_by : {X : Type 0} (f g : X → Pairs) (q : ℕ × Bytes) (d : X) (xs ys : List X) → length xs ≡ length ys
    → ((k : ℕ) → k < length xs → get (map_of (f (get_or xs k d))) q ≡ get (map_of (g (get_or ys k d))) q)
    → get (map_of (flat_map f xs)) q ≡ get (map_of (flat_map g ys)) q
agree_by f g q d [] [] long same = refl
agree_by f g q d [] (y ∷ ys) long same = absurd (omega (arith, long))
agree_by f g q d (x ∷ xs) [] long same = absurd (omega (arith, long))
agree_by f g q d (x ∷ xs) (y ∷ ys) long same =
    get-append (f x) (flat_map f xs) q
    ∙ (λ a. option_or (same 0 (omega arith) a) (agree_by f g q d xs ys (omega (arith, long)) (λ k lt. same (suc k) (omega arith)) a))
    ∙ sym (get-append (g y) (flat_map g ys) q)
