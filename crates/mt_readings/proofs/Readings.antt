-- What a scan reads of a node's entries, by the order of their keys.
use Rattle.std.proofs.Common.{◌≡◌, ◌≢◌, ℕ, zero, suc, ◌+◌, ◌*◌, ◌<◌, ◌≤◌, ◌⊎◌, inl, inr, Bool, true, false, List, [], ◌∷◌, length, get_or, Option, Some, None, refl, sym, ap, subst, ◌∙◌, arith}
use Rattle.std.proofs.{lemmas.Bool.{cases_eq, cases_lt}, lemmas.Bool.Decides.nat_tests, lemmas.List.{get_or-map, length-map, get_or_default}}
use Rattle.std.proofs.lemmas.Option.{same_Some}
use Rattle.std.specs.{Prelude.{if◌then◌else◌}, List.{All, Contains}, declared.cmp.Ordering.Ordering, declared.cmp.Ordering.TheVariants.{Less, Equal, Greater}}
use Rattle.std.specs.{Ordering.{nat_cmp, is_le, is_lt, ordering_then}, Cmp.Lexicographic.slice_cmp}
use Rattle.mt_lists.{specs.Rising.IsRising, proofs.Rises.rising_tail}
use Rattle.mt_slices.specs.{Marks.{mark_rank, IsMark}, Slices.{slice_of, mark_of, suffix_of}, declared.mark.Mark.Mark}
use Rattle.mt_slices.specs.declared.mark.Mark.TheVariants.{Long, Short}
use Rattle.mt_slices.proofs.Order.{cmp_below}
use Rattle.mt_rows.{specs.Rows.Bytes, proofs.CommandLaws.keys_exact}
use Rattle.mt_border.specs.{Held.Pair, declared.entry.Entry.Entry, Entry.{pair_of, order_of, order_at, IsEntry, IsRest}, Entries.{orders, IsBorder, IsMissing}}
use Rattle.mt_border.specs.Contents.{IsOfTree, HasKey, AreKeys}
use Rattle.mt_border.proofs.{Edits.any_entry, ContentsKeys.{is_mark_of, is_rest_of}}
use Rattle.mt_readings.specs.Reading.{is_below, behind_by, is_behind, read_on, read, stop_on, stop, HasOther, IsRead, IsStopped, IsAtLink}

abbrev cmp : Bytes → Bytes → Ordering
cmp = slice_cmp nat_cmp

-- how two pieces stand to each other
abbrev pub place_cmp : ℕ → Mark → ℕ → Mark → Ordering
place_cmp s m t n = ordering_then (nat_cmp s t) (nat_cmp (mark_rank m) (mark_rank n))

-- a pair that goes on behind its piece
below_then : (suffix : Bytes) (after : Bool) (o : Ordering) (pair : Pair) → behind_by suffix after o (Some pair) ≡ (if after then is_le (ordering_then o (cmp pair.suffix suffix)) else is_lt (ordering_then o (cmp pair.suffix suffix)))
below_then suffix true Less pair = refl
below_then suffix false Less pair = refl
below_then suffix true Equal pair = refl
below_then suffix false Equal pair = refl
below_then suffix true Greater pair = refl
below_then suffix false Greater pair = refl

module _ (prefix fence : Bytes) (after : Bool) (layer : ℕ) (at : IsOfTree prefix layer fence) where
  -- keys of the tree stand to the fence as their pieces there do, and then as what follows
  pub in_tree : (key : Bytes) → IsOfTree prefix layer key → cmp key fence ≡ ordering_then (place_cmp (slice_of key layer) (mark_of key layer) (slice_of fence layer) (mark_of fence layer)) (cmp (suffix_of key layer) (suffix_of fence layer))
  in_tree key of = cmp_below key fence layer of.stored.are_bytes at.stored.are_bytes (sym of.begins ∙ at.begins)

  -- an entry stands to the fence as its key does
  pub behind_is : (e : Entry) (pair : Pair) (key : Bytes) → HasKey prefix layer e key → pair_of e.held ≡ Some pair → is_behind fence after layer e ≡ is_below fence after key
  behind_is e pair key has is =
      let o : Ordering = place_cmp (slice_of key layer) (mark_of key layer) (slice_of fence layer) (mark_of fence layer) in
      ap (λ s. behind_by (suffix_of fence layer) after (place_cmp s e.mark (slice_of fence layer) (mark_of fence layer)) (pair_of e.held)) has.slice
      ∙ ap (λ m. behind_by (suffix_of fence layer) after (place_cmp (slice_of key layer) m (slice_of fence layer) (mark_of fence layer)) (pair_of e.held)) has.mark
      ∙ ap (behind_by (suffix_of fence layer) after o) is
      ∙ below_then (suffix_of fence layer) after o pair
      ∙ ap (λ x. if after then is_le (ordering_then o (cmp x (suffix_of fence layer))) else is_lt (ordering_then o (cmp x (suffix_of fence layer)))) (has.suffix pair is)
      ∙ ap (λ c. if after then is_le c else is_lt c) (sym (in_tree key has.of_tree))

  -- a link at a key's piece stands behind the fence where the key does
  link_not : (o : Ordering) (rest : Ordering) → (if after then is_le (ordering_then o rest) else is_lt (ordering_then o rest)) ≡ false → behind_by (suffix_of fence layer) after o None ≡ false
  link_not Less rest h = absurd (by after h)
    where
      by : (a : Bool) → (if a then true else true) ≡ false → ⊥
      by true e = cc
      by false e = cc
  link_not Equal rest h = refl
  link_not Greater rest h = refl

  pub link_ahead : (e : Entry) (key : Bytes) → IsOfTree prefix layer key → e.slice ≡ slice_of key layer → e.mark ≡ mark_of key layer → pair_of e.held ≡ None → is_below fence after key ≡ false → is_behind fence after layer e ≡ false
  link_ahead e key of slice_is mark_is none ahead =
      let o : Ordering = place_cmp (slice_of key layer) (mark_of key layer) (slice_of fence layer) (mark_of fence layer) in
      ap (λ s. behind_by (suffix_of fence layer) after (place_cmp s e.mark (slice_of fence layer) (mark_of fence layer)) (pair_of e.held)) slice_is
      ∙ ap (λ m. behind_by (suffix_of fence layer) after (place_cmp (slice_of key layer) m (slice_of fence layer) (mark_of fence layer)) (pair_of e.held)) mark_is
      ∙ ap (behind_by (suffix_of fence layer) after o) none
      ∙ link_not o (cmp (suffix_of key layer) (suffix_of fence layer)) (ap (λ c. if after then is_le c else is_lt c) (sym (in_tree key of)) ∙ ahead)

later : {X : Type 0} (x : X) (xs : List X) (a : X) → Contains xs a → Contains (x ∷ xs) a
later x xs a h = (suc h.0, let lt = h.1 in omega (arith, lt), h.2)

module _ (behind : Entry → Bool) where
  -- what is read stands in the node, with its pair
  abbrev Stands : List Entry → Entry × Pair → Type 0
  Stands es x = Contains es x.0 × (pair_of x.0.held ≡ Some x.1) × (behind x.0 ≡ false)

  read_in_by : (e : Entry) (es : List Entry) (x : Entry × Pair) (b : Bool) → behind e ≡ b → (p : Option Pair) → pair_of e.held ≡ p →
      Contains (if b then read behind es else read_on e p (read behind es)) x → (Contains (read behind es) x → Stands es x) → Stands (e ∷ es) x
  read_in_by e es x true b_is p p_is h rest = let w = rest h in (later e es x.0 w.0, w.1, w.2)
  read_in_by e es x false b_is None p_is h rest = absurd (let lt = h.1 in omega (arith, lt))
  read_in_by e es x false b_is (Some pair) p_is (zero, lt, is) rest =
      ((0, omega arith, ap (λ (y : Entry × Pair). y.0) is), subst (λ (y : Entry × Pair). pair_of y.0.held ≡ Some y.1) is p_is, subst (λ (y : Entry × Pair). behind y.0 ≡ false) is b_is)
  read_in_by e es x false b_is (Some pair) p_is (suc k, lt, is) rest = let w = rest (k, omega (arith, lt), is) in (later e es x.0 w.0, w.1, w.2)

  pub read_in : (es : List Entry) (x : Entry × Pair) → Contains (read behind es) x → Stands es x
  read_in [] x h = absurd (let lt = h.1 in omega (arith, lt))
  read_in (e ∷ es) x h = read_in_by e es x (behind e) refl (pair_of e.held) refl h (λ inner. read_in es x inner)

  -- the link at which the reading stops stands in the node
  stop_in_by : (e : Entry) (es : List Entry) (l : Entry) (b : Bool) (p : Option Pair) → (if b then stop behind es else stop_on e p (stop behind es)) ≡ Some l → (stop behind es ≡ Some l → Contains es l) → Contains (e ∷ es) l
  stop_in_by e es l true p h rest = later e es l (rest h)
  stop_in_by e es l false None h rest = (0, omega arith, let same : e ≡ l = cc in same)
  stop_in_by e es l false (Some pair) h rest = later e es l (rest h)

  pub stop_in : (es : List Entry) (l : Entry) → stop behind es ≡ Some l → Contains es l
  stop_in [] l h = absurd (cc)
  stop_in (e ∷ es) l h = stop_in_by e es l (behind e) (pair_of e.held) h (λ inner. stop_in es l inner)

  -- which is a link
  stop_link_by : (e : Entry) (es : List Entry) (l : Entry) (b : Bool) (p : Option Pair) → pair_of e.held ≡ p → (if b then stop behind es else stop_on e p (stop behind es)) ≡ Some l → (stop behind es ≡ Some l → pair_of l.held ≡ None) → pair_of l.held ≡ None
  stop_link_by e es l true p p_is h rest = rest h
  stop_link_by e es l false None p_is h rest = let same : e ≡ l = cc in ap (λ (x : Entry). pair_of x.held) (sym same) ∙ p_is
  stop_link_by e es l false (Some pair) p_is h rest = rest h

  pub stop_link : (es : List Entry) (l : Entry) → stop behind es ≡ Some l → pair_of l.held ≡ None
  stop_link [] l h = absurd (cc)
  stop_link (e ∷ es) l h = stop_link_by e es l (behind e) (pair_of e.held) refl h (λ inner. stop_link es l inner)

  -- and the fence isn't behind it
  stop_ahead_by : (e : Entry) (es : List Entry) (l : Entry) (b : Bool) (p : Option Pair) → behind e ≡ b → (if b then stop behind es else stop_on e p (stop behind es)) ≡ Some l → (stop behind es ≡ Some l → behind l ≡ false) → behind l ≡ false
  stop_ahead_by e es l true p b_is h rest = rest h
  stop_ahead_by e es l false None b_is h rest = let same : e ≡ l = cc in ap behind (sym same) ∙ b_is
  stop_ahead_by e es l false (Some pair) b_is h rest = rest h

  pub stop_ahead : (es : List Entry) (l : Entry) → stop behind es ≡ Some l → behind l ≡ false
  stop_ahead [] l h = absurd (cc)
  stop_ahead (e ∷ es) l h = stop_ahead_by e es l (behind e) (pair_of e.held) refl h (λ inner. stop_ahead es l inner)

  -- in a list of rising places, the first is below each other
  first_below : (e : Entry) (es : List Entry) (f : Entry) → IsRising (orders (e ∷ es)) → Contains es f → order_of e < order_of f
  first_below e es f rising h =
      let size = length-map es order_of in
      let lt = h.1 in
      let step = rising 0 (suc h.0) (omega arith) (omega (arith, lt, size)) in
      let at_f = get_or-map order_of es h.0 f 0 lt ∙ ap order_of h.2 in
      omega (arith, step, at_f)

  -- an entry that the fence isn't behind is read, or stands at or behind a link
  abbrev Told : List Entry → Entry → Type 0
  Told es e = ((p : Pair) × (pair_of e.held ≡ Some p) × Contains (read behind es) (e, p)) ⊎ IsStopped behind es (order_of e)

  told_here : (f : Entry) (es : List Entry) (p : Option Pair) → pair_of f.held ≡ p → ((q : Pair) × (p ≡ Some q) × Contains (read_on f p (read behind es)) (f, q)) ⊎ (stop_on f p (stop behind es) ≡ Some f)
  told_here f es None p_is = inr refl
  told_here f es (Some q) p_is = inl (q, refl, (0, omega arith, refl))

  told_more : (f : Entry) (es : List Entry) (e : Entry) (b : Bool) (p : Option Pair) → order_of f < order_of e → Told es e →
      ((q : Pair) × (pair_of e.held ≡ Some q) × Contains (if b then read behind es else read_on f p (read behind es)) (e, q)) ⊎ ((l : Entry) × ((if b then stop behind es else stop_on f p (stop behind es)) ≡ Some l) × (order_of l ≤ order_of e))
  told_more f es e true p below (inl w) = inl w
  told_more f es e true p below (inr s) = inr (s.link, s.stops, s.before)
  told_more f es e false None below t = inr (f, refl, omega (arith, below))
  told_more f es e false (Some q) below (inl w) = inl (w.0, w.1, later (f, q) (read behind es) (e, w.0) w.2)
  told_more f es e false (Some q) below (inr s) = inr (s.link, s.stops, s.before)

  pub told : (es : List Entry) (e : Entry) → IsRising (orders es) → Contains es e → behind e ≡ false → Told es e
  told [] e rising h ahead = absurd (let lt = h.1 in omega (arith, lt))
  told (f ∷ es) e rising (zero, lt, is) ahead =
      let f_ahead : behind f ≡ false = ap behind is ∙ ahead in
      elim (told_here f es (pair_of f.held) refl) [
        | inl w ↦ inl (
          w.0,
          ap (λ (x : Entry). pair_of x.held) (sym is) ∙ w.1,
          subst (λ (x : Entry). Contains (read behind (f ∷ es)) (x, w.0)) is (subst (λ b. Contains (if b then read behind es else read_on f (pair_of f.held) (read behind es)) (f, w.0)) (sym f_ahead) w.2),
        )
        | inr s ↦ inr (record { link = f; stops = ap (λ b. if b then stop behind es else stop_on f (pair_of f.held) (stop behind es)) f_ahead ∙ s; before = let same = ap order_of is in omega (arith, same) })
      ]
  told (f ∷ es) e rising (suc k, lt, is) ahead =
      let has : Contains es e = (k, omega (arith, lt), is) in
      elim (told_more f es e (behind f) (pair_of f.held) (first_below f es e rising has) (told es e (rising_tail (order_of f) (orders es) rising) has ahead)) [
        | inl w ↦ inl w
        | inr s ↦ inr (record { link = s.0; stops = s.1; before = s.2 })
      ]

  -- what is read stands before the link
  before_by : (f : Entry) (es : List Entry) (x : Entry × Pair) (l : Entry) (b : Bool) (p : Option Pair) → IsRising (orders (f ∷ es)) →
      Contains (if b then read behind es else read_on f p (read behind es)) x → (if b then stop behind es else stop_on f p (stop behind es)) ≡ Some l →
      (Contains (read behind es) x → stop behind es ≡ Some l → order_of x.0 < order_of l) → order_of x.0 < order_of l
  before_by f es x l true p rising h s rest = rest h s
  before_by f es x l false None rising h s rest = absurd (let lt = h.1 in omega (arith, lt))
  before_by f es x l false (Some q) rising (zero, lt, is) s rest = subst (λ (y : Entry × Pair). order_of y.0 < order_of l) is (first_below f es l rising (stop_in es l s))
  before_by f es x l false (Some q) rising (suc k, lt, is) s rest = rest (k, omega (arith, lt), is) s

  pub before : (es : List Entry) (x : Entry × Pair) (l : Entry) → IsRising (orders es) → Contains (read behind es) x → stop behind es ≡ Some l → order_of x.0 < order_of l
  before [] x l rising h s = absurd (let lt = h.1 in omega (arith, lt))
  before (f ∷ es) x l rising h s = before_by f es x l (behind f) (pair_of f.held) rising h s (λ inner stops. before es x l (rising_tail (order_of f) (orders es) rising) inner stops)

-- entries that are read stand in the order of their keys
abbrev pub Ascends : List (Entry × Pair) → Type 0
Ascends [] = Unit {0}
Ascends (x ∷ xs) = ((y : Entry × Pair) → Contains xs y → order_of x.0 < order_of y.0) × Ascends xs

module _ (behind : Entry → Bool) where
  ascends_by : (e : Entry) (es : List Entry) (b : Bool) (p : Option Pair) → IsRising (orders (e ∷ es)) → Ascends (read behind es) → Ascends (if b then read behind es else read_on e p (read behind es))
  ascends_by e es true p rising rest = rest
  ascends_by e es false None rising rest = tt
  ascends_by e es false (Some pair) rising rest = ((λ y h. first_below behind e es y.0 rising (read_in behind es y h).0), rest)

  pub ascends : (es : List Entry) → IsRising (orders es) → Ascends (read behind es)
  ascends [] rising = tt
  ascends (e ∷ es) rising = ascends_by e es (behind e) (pair_of e.held) rising (ascends es (rising_tail (order_of e) (orders es) rising))

-- one place in the order is one slice and one mark
pub rank_of : (m : Mark) → IsMark m → mark_rank m ≤ 9
rank_of (Short n) is = omega (arith, is)
rank_of Long is = omega arith

same_mark : (m n : Mark) → IsMark m → IsMark n → mark_rank m ≡ mark_rank n → m ≡ n
same_mark (Short a) (Short b) one two same = ap Short same
same_mark (Short a) Long one two same = absurd (omega (arith, one, same))
same_mark Long (Short b) one two same = absurd (omega (arith, two, same))
same_mark Long Long one two same = refl

module _ (prefix : Bytes) (layer : ℕ) (key : Bytes) where
  -- an entry at the key's place, or none
  pub at_place : (es : List Entry) → All IsEntry es → IsMissing es (slice_of key layer) (mark_of key layer) ⊎ ((i : ℕ) × (i < length es) × ((get_or es i any_entry).slice ≡ slice_of key layer) × ((get_or es i any_entry).mark ≡ mark_of key layer))
  at_place [] each = inl (λ k d lt. absurd (omega (arith, lt)))
  at_place (e ∷ es) each = elim (cases_eq (order_of e) (order_at (slice_of key layer) (mark_of key layer))) [
    | inl same ↦
        let m = (each 0 any_entry (omega arith)).mark in
        let one = rank_of e.mark m in
        let two = rank_of (mark_of key layer) (is_mark_of key layer) in
        inr (0, omega arith, omega (arith, same, one, two), same_mark e.mark (mark_of key layer) m (is_mark_of key layer) (omega (arith, same, one, two)))
    | inr differ ↦ elim (at_place es (λ k d lt. each (suc k) d (omega (arith, lt)))) [
      | inl missing ↦ inl (λ k d lt. by k d lt differ missing)
      | inr w ↦ inr (suc w.0, let lt = w.1 in omega (arith, lt), w.2, w.3)
    ]
  ]
    where
      by : (k : ℕ) (d : Entry) → k < length (e ∷ es) → order_of e ≢ order_at (slice_of key layer) (mark_of key layer) → IsMissing es (slice_of key layer) (mark_of key layer) → (get_or (e ∷ es) k d).slice ≡ slice_of key layer → (get_or (e ∷ es) k d).mark ≢ mark_of key layer
      by zero d lt differ missing s m = differ ((λ i. order_at (s i) (m i)))
      by (suc k) d lt differ missing s m = missing k d (omega (arith, lt)) s m

nat_same : (n : ℕ) → nat_cmp n n ≡ Equal
nat_same n = grind (arith, nat_tests)

cmp_same : (x : Bytes) → cmp x x ≡ Equal
cmp_same [] = refl
cmp_same (n ∷ x) = rw (nat_same n) (cmp_same x)

-- two lists of bytes are the same or differ
same_or : (a b : Bytes) (o : Ordering) → cmp a b ≡ o → (a ≡ b) ⊎ (a ≢ b)
same_or a b Equal e = inl (keys_exact a b e)
same_or a b Less e = inr (λ same. let self = ap (λ x. cmp x b) same ∙ cmp_same b in let both = sym e ∙ self in cc)
same_or a b Greater e = inr (λ same. let self = ap (λ x. cmp x b) same ∙ cmp_same b in let both = sym e ∙ self in cc)

-- of each key that the fence isn't behind, the reading tells
abbrev Tells : Bytes → Bytes → Bool → ℕ → List Entry → Bytes → Type 0
Tells prefix fence after layer es key =
    IsRead prefix layer (is_behind fence after layer) es key ⊎ IsMissing es (slice_of key layer) (mark_of key layer) ⊎ HasOther es layer key
    ⊎ IsStopped (is_behind fence after layer) es (order_at (slice_of key layer) (mark_of key layer))

module _ (prefix fence : Bytes) (after : Bool) (layer : ℕ) (es : List Entry) (key : Bytes) (border : IsBorder es) (keys : AreKeys prefix layer es)
    (at : IsOfTree prefix layer fence) (of : IsOfTree prefix layer key) (ahead : is_below fence after key ≡ false) where
  behind : Entry → Bool
  behind = is_behind fence after layer

  -- the entry at the key's place
  entry_tells : (i : ℕ) → i < length es → (get_or es i any_entry).slice ≡ slice_of key layer → (get_or es i any_entry).mark ≡ mark_of key layer → (p : Option Pair) → pair_of (get_or es i any_entry).held ≡ p → Tells prefix fence after layer es key
  entry_tells i lt s m None none =
      let e = get_or es i any_entry in
      elim (told (is_behind fence after layer) es e border.rising (i, lt, get_or_default es i e any_entry lt) (link_ahead prefix fence after layer at e key of s m none ahead)) [
        | inl w ↦ absurd (let both = sym none ∙ w.1 in cc)
        | inr stopped ↦ inr (inr (inr (record { link = stopped.link; stops = stopped.stops; before = let same : order_of e ≡ order_at (slice_of key layer) (mark_of key layer) = (λ j. order_at (s j) (m j)) in omega (arith, stopped.before, same) })))
      ]
  entry_tells i lt s m (Some pair) some = elim (same_or pair.suffix (suffix_of key layer) (cmp pair.suffix (suffix_of key layer)) refl) [
    | inl same ↦
        let e = get_or es i any_entry in
        let has : HasKey prefix layer e key = record { of_tree = of; slice = s; mark = m; suffix = λ q q_is. ap (λ (x : Pair). x.suffix) (same_Some q pair (sym q_is ∙ some)) ∙ same } in
        elim (told (is_behind fence after layer) es e border.rising (i, lt, get_or_default es i e any_entry lt) (behind_is prefix fence after layer at e pair key has some ∙ ahead)) [
          | inl w ↦ inl (record { x = (e, w.0); among = w.2; has = has })
          | inr stopped ↦ inr (inr (inr (record { link = stopped.link; stops = stopped.stops; before = let same : order_of e ≡ order_at (slice_of key layer) (mark_of key layer) = (λ j. order_at (s j) (m j)) in omega (arith, stopped.before, same) })))
        ]
    | inr differs ↦ inr (inr (inl (record { slot = i; in_range = lt; entry = get_or es i any_entry; is = λ d. get_or_default es i d any_entry lt; slice_is = s; mark_is = m; other = pair; pair_is = some; differs = differs })))
  ]

  pub tells : Tells prefix fence after layer es key
  tells = elim (at_place prefix layer key es border.each) [
    | inl missing ↦ inr (inl missing)
    | inr w ↦ entry_tells w.0 w.1 w.2 w.3 (pair_of (get_or es w.0 any_entry).held) refl
  ]

-- the fence at a link
nat_less : (m n : ℕ) → m < n → nat_cmp m n ≡ Less
nat_less m n lt = grind (arith, nat_tests)

nat_greater : (m n : ℕ) → n < m → nat_cmp m n ≡ Greater
nat_greater m n lt = grind (arith, nat_tests)

module _ (prefix : Bytes) (layer slice : ℕ) (fence key : Bytes) (at : IsAtLink prefix layer slice fence) (of : IsOfTree prefix layer key) where
  piece_order : cmp key fence ≡ ordering_then (place_cmp (slice_of key layer) (mark_of key layer) slice Long) (cmp (suffix_of key layer) (0 ∷ []))
  piece_order = in_tree prefix fence false layer at.of_tree key of
      ∙ (λ i. ordering_then (place_cmp (slice_of key layer) (mark_of key layer) (at.slice_is i) (at.mark_is i)) (cmp (suffix_of key layer) (at.suffix_is i)))

  rank_few : mark_rank (mark_of key layer) ≤ 9
  rank_few = rank_of (mark_of key layer) (is_mark_of key layer)

  pub below_link : order_at (slice_of key layer) (mark_of key layer) < 10 * slice + 9 → is_below fence false key ≡ true
  below_link lt = ap is_lt (piece_order ∙ elim (cases_lt (slice_of key layer) slice) [
    | inl less ↦ ap (λ o. ordering_then (ordering_then o (nat_cmp (mark_rank (mark_of key layer)) 9)) (cmp (suffix_of key layer) (0 ∷ []))) (nat_less (slice_of key layer) slice less)
    | inr more ↦
        let few = rank_few in
        let same : slice_of key layer ≡ slice = omega (arith, more, lt, few) in
        let short : mark_rank (mark_of key layer) < 9 = omega (arith, more, lt, few) in
        (λ i. ordering_then (ordering_then (nat_cmp (same i) slice) (nat_cmp (mark_rank (mark_of key layer)) 9)) (cmp (suffix_of key layer) (0 ∷ [])))
        ∙ (λ i. ordering_then (ordering_then (nat_same slice i) (nat_less (mark_rank (mark_of key layer)) 9 short i)) (cmp (suffix_of key layer) (0 ∷ [])))
  ])

  -- what goes on behind the link's slice isn't below a zero byte
  not_under : (x : Bytes) → x ≢ [] → is_lt (cmp x (0 ∷ [])) ≡ false
  not_under [] some = absurd (some refl)
  not_under (zero ∷ []) some = refl
  not_under (zero ∷ y ∷ ys) some = refl
  not_under (suc n ∷ xs) some = ap (λ o. is_lt (ordering_then o (cmp xs []))) (nat_greater (suc n) 0 (omega arith))

  pub behind_link : 10 * slice + 9 ≤ order_at (slice_of key layer) (mark_of key layer) → is_below fence false key ≡ false
  behind_link le = ap is_lt piece_order ∙ elim (cases_lt slice (slice_of key layer)) [
    | inl more ↦ ap (λ o. is_lt (ordering_then (ordering_then o (nat_cmp (mark_rank (mark_of key layer)) 9)) (cmp (suffix_of key layer) (0 ∷ [])))) (nat_greater (slice_of key layer) slice more)
    | inr less ↦
        let few = rank_few in
        let same : slice_of key layer ≡ slice = omega (arith, less, le, few) in
        let long : mark_rank (mark_of key layer) ≡ 9 = omega (arith, less, le, few) in
        let is_long : mark_of key layer ≡ Long = same_mark (mark_of key layer) Long (is_mark_of key layer) tt long in
        (λ i. is_lt (ordering_then (ordering_then (nat_cmp (same i) slice) (nat_cmp (long i) 9)) (cmp (suffix_of key layer) (0 ∷ []))))
        ∙ (λ i. is_lt (ordering_then (ordering_then (nat_same slice i) (nat_same 9 i)) (cmp (suffix_of key layer) (0 ∷ []))))
        ∙ not_under (suffix_of key layer) (subst (λ m. IsRest m (suffix_of key layer)) is_long (is_rest_of key layer))
  ]
