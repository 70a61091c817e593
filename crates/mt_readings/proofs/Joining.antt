-- The tenant's pairs among those that were read are a stretch of its map.
use Rattle.std.proofs.Common.{◌≡◌, ◌≢◌, ℕ, zero, suc, ◌^◌, ◌<◌, ◌⊎◌, inl, inr, Bool, true, false, eqb, List, [], ◌∷◌, Option, Some, None, refl, sym, ap, subst, ◌∙◌, arith}
use Rattle.std.proofs.{lemmas.Bool.{cases_lt, cases_eq, ne_eqb}, lemmas.Bool.Decides.nat_tests}
use Rattle.std.proofs.lemmas.List.Elements.{recursion_from_All, All-nil, All-cons, All-map}
use Rattle.std.specs.{Prelude.{if◌then◌else◌}, List.{All, Contains, cons_option}, FinMap.get, declared.cmp.Ordering.Ordering}
use Rattle.std.specs.{declared.cmp.Ordering.TheVariants.Less, Ordering.{nat_cmp, ordering_then}, Cmp.Lexicographic.slice_cmp}
use Rattle.mt_slices.specs.{Keys.{IsStoredKey, stored_key, tenant_of, user_key_of}, Marks.mark_rank, Slices.{slice_of, mark_of, suffix_of}}
use Rattle.mt_slices.proofs.{Order.cmp_tenants, Tenants.stored_key-again}
use Rattle.mt_rows.{specs.{Rows.Bytes, Stamps.Stamped, Tenants.{Contents, tenant_map}}, proofs.ContentLaws.get-tenant_map}
use Rattle.mt_border.specs.{Held.Pair, declared.entry.Entry.Entry, Entry.{pair_of, order_at}, Entries.IsBorder, Contents.{owned, key_at, HasKey, IsOfTree, row_of}}
use Rattle.mt_border.proofs.ContentsKeys.{key_at-is, order_of_key, is_mark_of}
use Rattle.mt_readings.specs.{Reading.{is_below, is_behind, read}, Tenancies.{own_pair, own_pairs, passed_at, HasStoredKeys, TellsTenant}}
use Rattle.mt_readings.proofs.{Readings.{in_tree, rank_of, Ascends, ascends}, Bytewise.{nat_less, nat_same}}
use Rattle.mt_walks.{specs.Walked.{IsStretch, keys_of}, proofs.Walks.{Rises, rises_none, rises_more}}

abbrev cmp : Bytes → Bytes → Ordering
cmp = slice_cmp nat_cmp

later : {X : Type 0} (x : X) (xs : List X) (a : X) → Contains xs a → Contains (x ∷ xs) a
later x xs a h = (suc h.0, let lt = h.1 in omega (arith, lt), h.2)

here : {X : Type 0} (x : X) (xs : List X) → Contains (x ∷ xs) x
here x xs = (0, omega arith, refl)

-- keys of one tree in the order of their places stand so
in_order : (prefix : Bytes) (layer : ℕ) (a b : Bytes) → IsOfTree prefix layer a → IsOfTree prefix layer b → order_at (slice_of a layer) (mark_of a layer) < order_at (slice_of b layer) (mark_of b layer) → cmp a b ≡ Less
in_order prefix layer a b of_a of_b lt =
    in_tree prefix b false layer of_b a of_a ∙ (let ra = rank_of (mark_of a layer) (is_mark_of a layer) in let rb = rank_of (mark_of b layer) (is_mark_of b layer) in
    elim (cases_lt (slice_of a layer) (slice_of b layer)) [
      | inl less ↦ ap (λ o. ordering_then (ordering_then o (nat_cmp (mark_rank (mark_of a layer)) (mark_rank (mark_of b layer)))) (cmp (suffix_of a layer) (suffix_of b layer))) (nat_less (slice_of a layer) (slice_of b layer) less)
      | inr ge ↦
          let same : slice_of a layer ≡ slice_of b layer = omega (arith, ge, lt, ra, rb) in
          let low : mark_rank (mark_of a layer) < mark_rank (mark_of b layer) = omega (arith, same, lt) in
          ap (λ s. ordering_then (ordering_then (nat_cmp s (slice_of b layer)) (nat_cmp (mark_rank (mark_of a layer)) (mark_rank (mark_of b layer)))) (cmp (suffix_of a layer) (suffix_of b layer))) same
          ∙ (λ i. ordering_then (ordering_then (nat_same (slice_of b layer) i) (nat_less (mark_rank (mark_of a layer)) (mark_rank (mark_of b layer)) low i)) (cmp (suffix_of a layer) (suffix_of b layer)))
    ])

-- of one tenant, the users' keys stand as the stored ones
of_users : (a b : Bytes) → IsStoredKey a → IsStoredKey b → tenant_of a ≡ tenant_of b → cmp a b ≡ Less → cmp (user_key_of a) (user_key_of b) ≡ Less
of_users a b sa sb same less =
    sym (cmp_tenants a b sa.are_bytes sb.are_bytes sa.has_tenant sb.has_tenant
    ∙ ap (λ t. ordering_then (nat_cmp t (tenant_of b)) (cmp (user_key_of a) (user_key_of b))) same
    ∙ ap (λ o. ordering_then o (cmp (user_key_of a) (user_key_of b))) (nat_same (tenant_of b)))
    ∙ less

module _ (c : Contents) (t : ℕ) (prefix : Bytes) (layer : ℕ) (fence : Bytes) (after : Bool) (reached : Bytes → Bool) where
  -- the key of a pair that was read
  pub record Real (x : Entry × Pair) : Type 0 where
    pub key : Bytes
    pub has : HasKey prefix layer x.0 key
    pub pair_is : pair_of x.0.held ≡ Some x.1
    pub row : get c (owned key) ≡ Some (row_of x.1)
    pub ahead : is_below fence after key ≡ false
    pub reach : tenant_of key ≡ t → reached key ≡ true

  abbrev one : Entry × Pair → Option (Bytes × Stamped)
  one x = own_pair t prefix (key_at prefix x.0 x.1) (row_of x.1)

  key_is : (x : Entry × Pair) (r : Real x) → key_at prefix x.0 x.1 ≡ r.key
  key_is x r = key_at-is prefix layer x.0 r.key x.1 r.has r.pair_is

  -- it is the tenant's or another's
  one_own : (x : Entry × Pair) (r : Real x) → tenant_of r.key ≡ t → one x ≡ Some (user_key_of r.key, row_of x.1)
  one_own x r mine = ap (λ k. own_pair t prefix k (row_of x.1)) (key_is x r) ∙ ap (λ b. if b then Some (user_key_of r.key, row_of x.1) else None) (same_eqb (tenant_of r.key) t mine)
    where
      same_eqb : (m n : ℕ) → m ≡ n → eqb m n ≡ true
      same_eqb m n e = grind (arith, nat_tests)

  one_other : (x : Entry × Pair) (r : Real x) → tenant_of r.key ≢ t → one x ≡ None
  one_other x r other = ap (λ k. own_pair t prefix k (row_of x.1)) (key_is x r) ∙ ap (λ b. if b then Some (user_key_of r.key, row_of x.1) else None) (ne_eqb (tenant_of r.key) t other)

  seen_own : (x : Entry × Pair) (xs : List (Entry × Pair)) (r : Real x) → tenant_of r.key ≡ t → own_pairs t prefix (x ∷ xs) ≡ (user_key_of r.key, row_of x.1) ∷ own_pairs t prefix xs
  seen_own x xs r mine = ap (λ o. cons_option o (own_pairs t prefix xs)) (one_own x r mine)

  seen_other : (x : Entry × Pair) (xs : List (Entry × Pair)) (r : Real x) → tenant_of r.key ≢ t → own_pairs t prefix (x ∷ xs) ≡ own_pairs t prefix xs
  seen_other x xs r other = ap (λ o. cons_option o (own_pairs t prefix xs)) (one_other x r other)

  -- what holds of each of the tenant's pairs
  seen_all : (P : Bytes × Stamped → Type 0) (xs : List (Entry × Pair)) → ((x : Entry × Pair) → Contains xs x → Real x) → ((x : Entry × Pair) (r : Real x) → Contains xs x → tenant_of r.key ≡ t → P (user_key_of r.key, row_of x.1)) → All P (own_pairs t prefix xs)
  seen_all P [] real each = All-nil P
  seen_all P (x ∷ xs) real each =
      let r = real x (here x xs) in
      let rest = seen_all P xs (λ y h. real y (later x xs y h)) (λ y s h mine. each y s (later x xs y h) mine) in
      elim (cases_eq (tenant_of r.key) t) [
        | inl mine ↦ subst (All P) (sym (seen_own x xs r mine)) (All-cons P (user_key_of r.key, row_of x.1) (own_pairs t prefix xs) (each x r (here x xs) mine) rest)
        | inr other ↦ subst (All P) (sym (seen_other x xs r other)) rest
      ]

  -- a pair of the tenant is among them
  seen_has : (xs : List (Entry × Pair)) → ((x : Entry × Pair) → Contains xs x → Real x) → (x : Entry × Pair) → Contains xs x → (key : Bytes) → HasKey prefix layer x.0 key → tenant_of key ≡ t → Contains (keys_of (own_pairs t prefix xs)) (user_key_of key)
  seen_has [] real x h key has mine = absurd (let lt = h.1 in omega (arith, lt))
  seen_has (y ∷ xs) real x (zero, lt, is) key has mine =
      let r = real y (here y xs) in
      let same : r.key ≡ key = sym (key_is y r) ∙ ap (λ (z : Entry × Pair). key_at prefix z.0 z.1) is ∙ key_at-is prefix layer x.0 key x.1 has (ap (λ (z : Entry × Pair). pair_of z.0.held) (sym is) ∙ r.pair_is ∙ ap (λ (z : Entry × Pair). Some z.1) is) in
      subst (λ ps. Contains (keys_of ps) (user_key_of key)) (sym (seen_own y xs r (ap tenant_of same ∙ mine)))
      (subst (λ k. Contains (user_key_of k ∷ keys_of (own_pairs t prefix xs)) (user_key_of key)) (sym same) (here (user_key_of key) (keys_of (own_pairs t prefix xs))))
  seen_has (y ∷ xs) real x (suc k, lt, is) key has mine =
      let r = real y (here y xs) in
      let rest = seen_has xs (λ z h. real z (later y xs z h)) x (k, omega (arith, lt), is) key has mine in
      elim (cases_eq (tenant_of r.key) t) [
        | inl own ↦ subst (λ ps. Contains (keys_of ps) (user_key_of key)) (sym (seen_own y xs r own)) (later (user_key_of r.key) (keys_of (own_pairs t prefix xs)) (user_key_of key) rest)
        | inr other ↦ subst (λ ps. Contains (keys_of ps) (user_key_of key)) (sym (seen_other y xs r other)) rest
      ]

  -- their keys rise
  seen_rises : (xs : List (Entry × Pair)) → ((x : Entry × Pair) → Contains xs x → Real x) → Ascends xs → Rises (keys_of (own_pairs t prefix xs))
  seen_rises [] real up = rises_none
  seen_rises (x ∷ xs) real up =
      let r = real x (here x xs) in
      let rest = seen_rises xs (λ y h. real y (later x xs y h)) up.1 in
      elim (cases_eq (tenant_of r.key) t) [
        | inl mine ↦ subst (λ ps. Rises (keys_of ps)) (sym (seen_own x xs r mine)) (rises_more (user_key_of r.key) (keys_of (own_pairs t prefix xs))
            (recursion_from_All (λ k. cmp (user_key_of r.key) k ≡ Less) (keys_of (own_pairs t prefix xs)) (All-map (λ k. cmp (user_key_of r.key) k ≡ Less) (λ (p : Bytes × Stamped). p.0) (own_pairs t prefix xs)
            (seen_all (λ p. cmp (user_key_of r.key) p.0 ≡ Less) xs (λ y h. real y (later x xs y h)) (λ y s h own.
            of_users r.key s.key r.has.of_tree.stored s.has.of_tree.stored (mine ∙ sym own)
            (in_order prefix layer r.key s.key r.has.of_tree s.has.of_tree (let lt = up.0 y h in let ox = order_of_key prefix layer x.0 r.key r.has in let oy = order_of_key prefix layer y.0 s.key s.has in omega (arith, lt, ox, oy)))))))
            rest)
        | inr other ↦ subst (λ ps. Rises (keys_of ps)) (sym (seen_other x xs r other)) rest
      ]

  -- a user's key of the tenant, stored
  again : (key : Bytes) → IsStoredKey key → tenant_of key ≡ t → stored_key t (user_key_of key) ≡ key
  again key stored mine = ap (λ u. stored_key u (user_key_of key)) (sym mine) ∙ stored_key-again key stored.has_tenant stored.are_bytes

  pub stretch : (es : List Entry) → t < 2 ^ 32 → HasStoredKeys c → IsBorder es → TellsTenant c t prefix layer fence after reached (read (is_behind fence after layer) es) →
      IsStretch (tenant_map t c) (passed_at t fence after) (λ key. reached (stored_key t key)) (own_pairs t prefix (read (is_behind fence after layer) es))
  stretch es fits keys border tells = record {
    rises = seen_rises xs real (ascends (is_behind fence after layer) es border.rising);
    behind = seen_all (λ p. passed_at t fence after p.0 ≡ false) xs real (λ x r h mine. ap (is_below fence after) (again r.key r.has.of_tree.stored mine) ∙ r.ahead);
    below = seen_all (λ p. reached (stored_key t p.0) ≡ true) xs real (λ x r h mine. ap reached (again r.key r.has.of_tree.stored mine) ∙ r.reach mine);
    real = seen_all (λ p. get (tenant_map t c) p.0 ≡ Some p.1) xs real (λ x r h mine. get-tenant_map t c (user_key_of r.key) ∙ ap (λ u. get c (u, user_key_of r.key)) (sym mine) ∙ r.row);
    whole = λ key ahead to. whole key ahead to (get c (t, key)) refl;
  }
    where
      xs : List (Entry × Pair)
      xs = read (is_behind fence after layer) es

      real : (x : Entry × Pair) → Contains xs x → Real x
      real x h = let w = tells.real x h in record { key = w.0; has = w.1; pair_is = w.2; row = w.3; ahead = w.4; reach = w.5 }

      whole : (key : Bytes) → passed_at t fence after key ≡ false → reached (stored_key t key) ≡ true → (o : Option Stamped) → get c (t, key) ≡ o → Contains (keys_of (own_pairs t prefix xs)) key ⊎ (get (tenant_map t c) key ≡ None)
      whole key ahead to None is = inr (get-tenant_map t c key ∙ is)
      whole key ahead to (Some row) is =
          let w = keys (t, key) row is in
          let mine : tenant_of w.0 ≡ t = ap (λ (q : ℕ × Bytes). q.0) w.2 in
          let user : user_key_of w.0 ≡ key = ap (λ (q : ℕ × Bytes). q.1) w.2 in
          let same : stored_key t key ≡ w.0 = ap (stored_key t) (sym user) ∙ again w.0 w.1 mine in
          elim (tells.whole w.0 w.1 mine (ap (is_below fence after) (sym same) ∙ ahead) (ap reached (sym same) ∙ to)) [
            | inl p ↦ inl (subst (λ k. Contains (keys_of (own_pairs t prefix xs)) k) user (seen_has xs real p.x p.among w.0 p.has mine))
            | inr none ↦ inr (get-tenant_map t c key ∙ ap (get c) (sym w.2) ∙ none)
          ]
