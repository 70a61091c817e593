-- A file has one checkpoint at most; and what was read of it is that.
use Rattle.std.proofs.Common.{◌≡◌, ℕ, ◌^◌, ◌<◌, ◌≤◌, List, [], ◌∷◌, ◌++◌, drop, get_or, Some, None, refl, sym, ap, subst, ◌∙◌, append_assoc, arith}
use Rattle.std.proofs.lemmas.{Option.same_Some, List.append-nil}
use Rattle.std.specs.{Int.{w64, to_be_bytes}, List.{flat_map, AllByRecursion}}
use Rattle.mt_rows.specs.{Rows.Bytes, declared.record.TenantPair.TenantPair}
use Rattle.mt_fields.{proofs.FieldLaws.{wide64, number_again}, specs.Reading.number_at}
use Rattle.mt_checkpoint.specs.{declared.reader.Head.Head, declared.reader.Item.Item, declared.reader.Item.TheVariants.{Pair, Last}}
use Rattle.mt_checkpoint.specs.{Format.{head_bytes, entry_bytes, last_bytes}, Checkpoints.{IsPair, Walk, Rise, IsWalk, HasWalk, HasNone}}
use Rattle.mt_checkpoint.specs.{declared.seen.SeenPairs.SeenPairs, Reading.{IsEntry, item_bytes, IsItem, item_at, IsHead, HasNoItem}, Windows.{IsHeadIn, StandWhole, AreEntries}}
use Rattle.mt_checkpoint.proofs.{ItemLaws.item_again, Rising.rise_front}

-- ---- entries

-- pairs whose stamps are the head's in format 1, as entries after it
pub entries_of : (head : Head) (ps : List TenantPair) → AllByRecursion IsPair ps → (head.version ≡ 1 → AllByRecursion (λ p. p.row.stamp ≡ head.first) ps)
    → AllByRecursion (IsEntry head) ps
entries_of head [] each stamps = tt
entries_of head (p ∷ ps) each stamps = (record { pair = each.0; stamp = λ one. (stamps one).0 }, entries_of head ps each.1 (λ one. (stamps one).1))

pub pairs_of : (head : Head) (ps : List TenantPair) → AllByRecursion (IsEntry head) ps → AllByRecursion IsPair ps
pairs_of head [] each = tt
pairs_of head (p ∷ ps) each = (each.0.pair, pairs_of head ps each.1)

pub stamps_of : (head : Head) (ps : List TenantPair) → AllByRecursion (IsEntry head) ps → head.version ≡ 1 → AllByRecursion (λ p. p.row.stamp ≡ head.first) ps
stamps_of head [] each one = tt
stamps_of head (p ∷ ps) each one = (each.0.stamp one, stamps_of head ps each.1 one)

-- an item that is spelled at the front of the same bytes as another is that one
pub one_item : (head : Head) (x y : Item) (a b : Bytes) → IsItem head x → IsItem head y → item_bytes head x ++ a ≡ item_bytes head y ++ b → (x ≡ y) × (a ≡ b)
one_item head x y a b is_x is_y e =
    let both = same_Some (x, a) (y, b) (sym (item_again head x a is_x) ∙ ap (item_at head) e ∙ item_again head y b is_y) in
    (ap (λ (p : Item × Bytes). p.0) both, ap (λ (p : Item × Bytes). p.1) both)

abbrev pair_of : TenantPair → Item → TenantPair
pair_of d (Pair p) = p
pair_of d (Last n) = d

abbrev number_of : Item → ℕ
number_of (Pair p) = 0
number_of (Last n) = n

module _ (head : Head) where
  abbrev text_of : List TenantPair → Bytes
  text_of ps = flat_map (entry_bytes head.version) ps

  regroup : (p : TenantPair) (ps : List TenantPair) (rest : Bytes) → text_of (p ∷ ps) ++ rest ≡ item_bytes head (Pair p) ++ (text_of ps ++ rest)
  regroup p ps rest = append_assoc (entry_bytes head.version p) (text_of ps) rest

  -- what is read of entries before a last entry is the first of them
  pub begin_so : (ps qs : List TenantPair) (n : ℕ) (rest b : Bytes) → AllByRecursion (IsEntry head) ps → AllByRecursion (IsEntry head) qs → n < 2 ^ 64
      → text_of ps ++ rest ≡ text_of qs ++ (last_bytes n ++ b) → (more : List TenantPair) × (qs ≡ ps ++ more) × AllByRecursion (IsEntry head) more × (rest ≡ text_of more ++ (last_bytes n ++ b))
  begin_so [] qs n rest b each_p each_q small e = (qs, refl, each_q, e)
  begin_so (p ∷ ps) [] n rest b each_p each_q small e = absurd (omega (arith, ap {B = ℕ} (λ (l : Bytes). get_or l 0 0) e))
  begin_so (p ∷ ps) (q ∷ qs) n rest b each_p each_q small e =
      let parts = one_item head (Pair p) (Pair q) (text_of ps ++ rest) (text_of qs ++ (last_bytes n ++ b)) each_p.0 each_q.0
      (sym (regroup p ps rest) ∙ e ∙ regroup q qs (last_bytes n ++ b)) in
      let same : q ≡ p = ap (pair_of p) (sym parts.0) in
      let after = begin_so ps qs n rest b each_p.1 each_q.1 small parts.1 in
      (after.0, (λ i. same i ∷ after.1 i), after.2, after.3)

  -- entries before a last entry are these alone
  pub once : (ps qs : List TenantPair) (m n : ℕ) (a b : Bytes) → AllByRecursion (IsEntry head) ps → AllByRecursion (IsEntry head) qs → m < 2 ^ 64 → n < 2 ^ 64
      → text_of ps ++ (last_bytes m ++ a) ≡ text_of qs ++ (last_bytes n ++ b) → (ps ≡ qs) × (m ≡ n)
  once ps qs m n a b each_p each_q small_m small_n e =
      let after = begin_so ps qs n (last_bytes m ++ a) b each_p each_q small_n e in
      by after.0 after.1 after.3
    where
      by : (more : List TenantPair) → qs ≡ ps ++ more → last_bytes m ++ a ≡ text_of more ++ (last_bytes n ++ b) → (ps ≡ qs) × (m ≡ n)
      by [] is e = (sym (is ∙ append-nil ps), ap number_of (one_item head (Last m) (Last n) a b small_m small_n e).0)
      by (q ∷ more) is e = absurd (omega (arith, ap {B = ℕ} (λ (l : Bytes). get_or l 0 0) e))

  -- and none stand there where neither an entry nor a last one comes after some
  pub clash : (ps qs : List TenantPair) (n : ℕ) (rest b : Bytes) → AllByRecursion (IsEntry head) ps → AllByRecursion (IsEntry head) qs → n < 2 ^ 64 → HasNoItem head rest
      → text_of ps ++ rest ≡ text_of qs ++ (last_bytes n ++ b) → ⊥
  clash ps qs n rest b each_p each_q small bad e =
      let after = begin_so ps qs n rest b each_p each_q small e in
      by after.0 after.2 after.3
    where
      by : (more : List TenantPair) → AllByRecursion (IsEntry head) more → rest ≡ text_of more ++ (last_bytes n ++ b) → ⊥
      by [] each e = bad (Last n) b small e
      by (q ∷ more) each e = bad (Pair q) (text_of more ++ (last_bytes n ++ b)) each.0 (e ∙ regroup q more (last_bytes n ++ b))

-- ---- heads

abbrev head_text : Head → Bytes
head_text head = head_bytes head.version head.first

-- heads: the format's number comes first
pub one_head : (g h : Head) (a b : Bytes) → g.first < 2 ^ 64 → h.first < 2 ^ 64 → head_text g ++ a ≡ head_text h ++ b → (g ≡ h) × (a ≡ b)
one_head g h a b small_g small_h e =
    let version : g.version ≡ h.version = ap (λ (l : Bytes). get_or l 5 0) e in
    let behind : to_be_bytes w64 g.first ++ a ≡ to_be_bytes w64 h.first ++ b = ap (λ (l : Bytes). drop 6 l) e in
    let both = same_Some (g.first, a) (h.first, b) (sym (number_again w64 (2 ^ 64) wide64 g.first a small_g) ∙ ap (number_at w64) behind ∙ number_again w64 (2 ^ 64) wide64 h.first b small_h) in
    let first : g.first ≡ h.first = ap (λ (p : ℕ × Bytes). p.0) both in
    ((λ i. record { version = version i; first = first i }), ap (λ (p : ℕ × Bytes). p.1) both)

-- ---- walks

small_ends : (w : Walk) → IsWalk w → (w.first < 2 ^ 64) × (w.last < 2 ^ 64)
small_ends w is =
    let order = is.order in
    let end = is.end in
    (omega arith, omega arith)

-- the head of a checkpoint, and its entries
abbrev head_in : (w : Walk) (image : Bytes) → HasWalk w image → Head
head_in w image has = record { version = has.version; first = w.first }

head_fits : (w : Walk) (image : Bytes) (has : HasWalk w image) → IsHead (head_in w image has)
head_fits w image has = record { known = has.spelled.known; first = (small_ends w has.is).0 }

entries_in : (w : Walk) (image : Bytes) (has : HasWalk w image) → AllByRecursion (IsEntry (head_in w image has)) w.pairs
entries_in w image has = entries_of (head_in w image has) w.pairs has.is.each has.spelled.stamps

-- entries after a head, a last entry, and what follows that
abbrev tail_of : Head → List TenantPair → ℕ → Bytes → Bytes
tail_of head ps last behind = flat_map (entry_bytes head.version) ps ++ (last_bytes last ++ behind)

whole_of : (w : Walk) (image : Bytes) → (has : HasWalk w image) → drop 1 image ≡ head_text (head_in w image has) ++ tail_of (head_in w image has) w.pairs w.last has.behind
whole_of w image has =
    let head = head_text (head_in w image has) in
    let entries = flat_map (entry_bytes has.version) w.pairs in
    ap (λ (l : Bytes). drop 1 l) has.whole ∙ append_assoc head (entries ++ last_bytes w.last) has.behind
    ∙ ap (λ (l : Bytes). head ++ l) (append_assoc entries (last_bytes w.last) has.behind)

same_walk : (v w : Walk) → v.first ≡ w.first → v.last ≡ w.last → v.pairs ≡ w.pairs → v ≡ w
same_walk v w p q r i = record { first = p i; last = q i; pairs = r i }

-- a checkpoint whose head is this one has its entries after it
module _ (image : Bytes) (head : Head) (small : head.first < 2 ^ 64) (text : Bytes) (is : drop 1 image ≡ head_text head ++ text) (w : Walk) (has : HasWalk w image) where
  heads : (head_in w image has ≡ head) × (tail_of (head_in w image has) w.pairs w.last has.behind ≡ text)
  heads = one_head (head_in w image has) head _ _ (small_ends w has.is).0 small (sym (whole_of w image has) ∙ is)

  pub first_is : w.first ≡ head.first
  first_is = ap (λ (h : Head). h.first) heads.0

  pub after_head : text ≡ tail_of head w.pairs w.last has.behind
  after_head = sym heads.1 ∙ ap (λ (h : Head). tail_of h w.pairs w.last has.behind) heads.0

  pub entries_after : AllByRecursion (IsEntry head) w.pairs
  entries_after = subst (λ (h : Head). AllByRecursion (IsEntry h) w.pairs) heads.0 (entries_in w image has)

-- a file has one checkpoint
pub one_walk : (v w : Walk) (image : Bytes) → HasWalk v image → HasWalk w image → v ≡ w
one_walk v w image one other =
    let head = head_in v image one in
    let small = (small_ends v one.is).0 in
    let text = tail_of head v.pairs v.last one.behind in
    let whole = whole_of v image one in
    let tails = once head v.pairs w.pairs v.last w.last one.behind other.behind (entries_in v image one) (entries_after image head small text whole w other)
    (small_ends v one.is).1 (small_ends w other.is).1 (after_head image head small text whole w other) in
    same_walk v w (sym (first_is image head small text whole w other)) tails.1 tails.0

-- ---- what was read

module _ (image : Bytes) where
  -- no head: no checkpoint
  pub no_head : IsHeadIn image None → HasNone image
  no_head none w has = none (head_in w image has) _ (head_fits w image has) (whole_of w image has)

  module _ (head : Head) (at : IsHeadIn image (Some head)) (pairs : List TenantPair) (each : AllByRecursion (IsEntry head) pairs) where
    abbrev rest : Bytes
    rest = drop 15 image

    -- entries without an end
    pub no_end : (after : Bytes) → rest ≡ flat_map (entry_bytes head.version) pairs ++ after → HasNoItem head after → HasNone image
    no_end after parts bad w has =
        clash head pairs w.pairs w.last after has.behind each (entries_after image head at.0.first rest at.1 w has) (small_ends w has.is).1 bad
        (sym parts ∙ after_head image head at.0.first rest at.1 w has)

    -- entries that don't rise
    pub no_rise : (after : Bytes) → rest ≡ flat_map (entry_bytes head.version) pairs ++ after → (Rise pairs → ⊥) → HasNone image
    no_rise after parts wrong w has =
        let whole = begin_so head pairs w.pairs w.last after has.behind each (entries_after image head at.0.first rest at.1 w has) (small_ends w has.is).1
        (sym parts ∙ after_head image head at.0.first rest at.1 w has) in
        wrong (rise_front pairs whole.0 (subst Rise whole.1 has.is.rising))

    module _ (last : ℕ) (end : StandWhole head image pairs last) where
      abbrev pub read : Walk
      read = record { first = head.first; last = last; pairs = pairs }

      -- another walk than the one that was read
      pub only_this : (w : Walk) → HasWalk w image → read ≡ w
      only_this w has =
          let tails = once head pairs w.pairs last w.last end.1.0 has.behind each (entries_after image head at.0.first rest at.1 w has) end.0 (small_ends w has.is).1
          (sym end.1.1 ∙ after_head image head at.0.first rest at.1 w has) in
          same_walk read w (sym (first_is image head at.0.first rest at.1 w has)) tails.1 tails.0

      -- the one that was read
      pub this : (behind : Bytes) → image ≡ 1 ∷ behind → IsWalk read → HasWalk read image
      this behind opened is =
          let text : behind ≡ drop 1 image = sym (ap (λ (l : Bytes). drop 1 l) opened) in
          let entries = flat_map (entry_bytes head.version) pairs in
          record {
            is = is;
            version = head.version;
            spelled = record { known = at.0.known; stamps = stamps_of head pairs each };
            behind = end.1.0;
            whole =
                opened ∙ ap (λ (l : Bytes). 1 ∷ l) (text ∙ at.1 ∙ ap (λ (l : Bytes). head_text head ++ l) (end.1.1 ∙ sym (append_assoc entries (last_bytes last) end.1.0))
                ∙ sym (append_assoc (head_text head) (entries ++ last_bytes last) end.1.0));
          }

      -- or none, if it may not end so
      pub not_this : (seen : SeenPairs) → AreEntries head pairs seen → ((head.first ≤ last) × (last ≤ 2 ^ 59) × (seen.greatest ≤ last) → ⊥) → HasNone image
      not_this seen are wrong w has =
          let is : IsWalk read = subst IsWalk (sym (only_this w has)) has.is in
          wrong (is.order, is.end, are.has_seen.least last is.stamps)
