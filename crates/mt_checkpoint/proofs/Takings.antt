-- What was read of a window stands in the file.
use Rattle.std.proofs.Common.{◌≡◌, ◌⊎◌, inl, inr, ℕ, ◌+◌, ◌-◌, ◌^◌, ◌<◌, ◌≤◌, Bool, true, List, [], ◌∷◌, ◌++◌, length, take, drop, Option, Some, None, IfSome, IfNone, IsTrue, refl, sym, ap, subst, ◌∙◌, append_assoc, length-append, arith}
use Rattle.std.proofs.lemmas.List.{append-nil, take-append-drop, drop_all, drop_at, take_at, drop-drop, length-take, flat_map_more, take-append-le}
use Rattle.std.specs.List.{flat_map, AllByRecursion}
use Rattle.mt_rows.specs.{Rows.Bytes, declared.record.TenantPair.TenantPair}
use Rattle.mt_disk.specs.Disk.{DiskState}
use Rattle.mt_fields.proofs.FieldLaws.{IsBytes}
use Rattle.mt_checkpoint.specs.{declared.reader.Head.Head, declared.reader.Item.Item, declared.reader.Item.TheVariants.{Pair, Last}, declared.reader.Stop.Stop}
use Rattle.mt_checkpoint.specs.Format.{head_bytes, entry_bytes, last_bytes}
use Rattle.mt_checkpoint.specs.Reading.{IsEntry, item_bytes, item_at, IsHead, HasNoHead, HasNoItem, HasTaken, StopsAt, AreTaken, Takes}
use Rattle.mt_checkpoint.specs.Windows.{OfImage, IsHeadIn, StandBefore, StandsAfter}
use Rattle.mt_checkpoint.proofs.{ItemLaws.{item_takes, item_again, item_few}, Walks.no_end}
use Rattle.mt_checkpoint.specs.declared.reader.Stop.TheVariants as stops

-- ---- items

each_more : (head : Head) (ps : List TenantPair) (p : TenantPair) → AllByRecursion (IsEntry head) ps → IsEntry head p → AllByRecursion (IsEntry head) (ps ++ p ∷ [])
each_more head [] p each is = (is, tt)
each_more head (q ∷ ps) p each is = (each.0, each_more head ps p each.1 is)

pub each_joined : (head : Head) (ps qs : List TenantPair) → AllByRecursion (IsEntry head) ps → AllByRecursion (IsEntry head) qs → AllByRecursion (IsEntry head) (ps ++ qs)
each_joined head [] qs each more = more
each_joined head (p ∷ ps) qs each more = (each.0, each_joined head ps qs each.1 more)

item_some : (head : Head) (x : Item) → 0 < length (item_bytes head x)
item_some head (Pair p) = omega arith
item_some head (Last n) = omega arith

-- an item that was read is not empty
pub shorter : (head : Head) (rest : Bytes) (x : Item) (after : Bytes) → head.first < 2 ^ 64 → IsBytes rest → item_at head rest ≡ Some (x, after) → length after < length rest
shorter head rest x after small fits read =
    let t = item_takes head rest (x, after) small fits read in
    omega (arith, item_some head x, ap length t.0.parts, length-append (item_bytes head x) after)

pub after_fits : (head : Head) (rest : Bytes) (x : Item) (after : Bytes) → head.first < 2 ^ 64 → IsBytes rest → item_at head rest ≡ Some (x, after) → IsBytes after
after_fits head rest x after small fits read = (item_takes head rest (x, after) small fits read).0.rest_fits

module _ (head : Head) (small : head.first < 2 ^ 64) (window : Bytes) (now : List TenantPair) (rest : Bytes) (fits : IsBytes rest) (has : HasTaken head window now rest) where
  -- one pair more
  pub taken_more : (p : TenantPair) (after : Bytes) (next : List TenantPair) → item_at head rest ≡ Some (Pair p, after) → next ≡ now ++ p ∷ [] → HasTaken head window next after
  taken_more p after next read pushed =
      let t = item_takes head rest (Pair p, after) small fits read in
      record {
        each = subst (AllByRecursion (IsEntry head)) (sym pushed) (each_more head now p has.each t.1);
        parts =
            has.parts ∙ ap (λ (l : Bytes). flat_map (entry_bytes head.version) now ++ l) t.0.parts
            ∙ sym (append_assoc (flat_map (entry_bytes head.version) now) (entry_bytes head.version p) after)
            ∙ ap (λ (l : Bytes). l ++ after) (flat_map_more (entry_bytes head.version) [] now p)
            ∙ ap (λ (ps : List TenantPair). flat_map (entry_bytes head.version) ps ++ after) (sym pushed);
      }

  module _ (used : ℕ) (is : used ≡ length window - length rest) where
    abbrev front : Bytes
    front = flat_map (entry_bytes head.version) now

    used_is : used ≡ length front
    used_is = omega (arith, is, ap length has.parts, length-append front rest)

    within : used ≤ length window
    within = omega (arith, is)

    -- what is left of the window, and what follows it
    left : (behind : Bytes) → drop used (window ++ behind) ≡ rest ++ behind
    left behind =
        ap (λ (l : Bytes). drop used (l ++ behind)) has.parts ∙ ap (λ (l : Bytes). drop used l) (append_assoc front rest behind) ∙ drop_at front (rest ++ behind) used (sym used_is)

    parts : (behind : Bytes) → window ++ behind ≡ front ++ drop used (window ++ behind)
    parts behind = ap (λ (l : Bytes). l ++ behind) has.parts ∙ append_assoc front rest behind ∙ ap (λ (l : Bytes). front ++ l) (sym (left behind))

    pub stops_more : (whole : Bool) → (whole ≡ true → ⊥) → length rest < 16683 → Takes head window whole now used stops.More
    stops_more whole not_whole few = record {
      each = has.each;
      within = within;
      some = λ e. (not_whole, omega (arith, few, is, ap length has.parts, length-append front rest));
      told = λ behind at. record { parts = parts behind; stops = tt };
    }

    pub stops_last : (whole : Bool) (n : ℕ) (after : Bytes) → item_at head rest ≡ Some (Last n, after) → Takes head window whole now used (stops.Last n)
    stops_last whole n after read =
        let t = item_takes head rest (Last n, after) small fits read in
        record {
          each = has.each;
          within = within;
          some = λ e. absurd cc;
          told = λ behind at. record {
            parts = parts behind;
            stops = (t.1, (after ++ behind, left behind ∙ ap (λ (l : Bytes). l ++ behind) t.0.parts ∙ append_assoc (last_bytes n) after behind));
          };
        }

    -- what is read as no item is none, whatever follows it
    no_item : (behind : Bytes) → item_at head rest ≡ None → ((behind ≡ []) ⊎ (16683 ≤ length rest)) → HasNoItem head (rest ++ behind)
    no_item behind none (inl nothing) x more is_x e =
        let here : rest ≡ item_bytes head x ++ more = sym (append-nil rest) ∙ ap (λ (l : Bytes). rest ++ l) (sym nothing) ∙ e in
        let made : Item × Bytes = (x, more) in
        let read : Some made ≡ None = sym (item_again head x more is_x) ∙ ap (item_at head) (sym here) ∙ none in
        absurd cc
    no_item behind none (inr long) x more is_x e =
        let few = item_few head x is_x in
        let size = length (item_bytes head x) in
        let front_x : take size rest ≡ item_bytes head x = sym (take-append-le size rest behind (omega (arith, few, long))) ∙ ap (λ (l : Bytes). take size l) e ∙ take_at (item_bytes head x) more size refl in
        let here : rest ≡ item_bytes head x ++ drop size rest = sym (take-append-drop size rest) ∙ ap (λ (l : Bytes). l ++ drop size rest) front_x in
        let made : Item × Bytes = (x, drop size rest) in
        let read : Some made ≡ None = sym (item_again head x (drop size rest) is_x) ∙ ap (item_at head) (sym here) ∙ none in
        absurd cc

    pub stops_bad : (whole : Bool) → item_at head rest ≡ None → ((whole ≡ true) ⊎ (16683 ≤ length rest)) → Takes head window whole now used stops.Bad
    stops_bad whole none far = record {
      each = has.each;
      within = within;
      some = λ e. absurd cc;
      told = λ behind at. record {
        parts = parts behind;
        stops = subst (HasNoItem head) (sym (left behind)) (no_item behind none (at_end whole behind at far));
      };
    }
      where
        at_end : (whole : Bool) (behind : Bytes) → (whole ≡ true → behind ≡ []) → ((whole ≡ true) ⊎ (16683 ≤ length rest)) → (behind ≡ []) ⊎ (16683 ≤ length rest)
        at_end whole behind at (inl e) = inl (at e)
        at_end whole behind at (inr long) = inr long

-- ---- heads

-- what a window of a head tells of the file
pub head_window : (image w : Bytes) (x : Option Head) → w ≡ take 14 (drop 1 image)
    → IfSome x (λ h. IsHead h × (w ≡ head_bytes h.version h.first ++ drop 14 w)) → IfNone x (HasNoHead w) → IsHeadIn image x
head_window image w None is some none = λ head more fits e. none head [] fits (is ∙ ap (λ (l : Bytes). take 14 l) e)
head_window image w (Some head) is some none =
    let text = drop 1 image in
    let behind : drop 14 w ≡ [] = drop_all 14 w (omega (arith, ap length is, length-take 14 text)) in
    let head_text = head_bytes head.version head.first in
    let front : take 14 text ≡ head_text = sym is ∙ some.1 ∙ ap (λ (l : Bytes). head_text ++ l) behind in
    (some.0, sym (take-append-drop 14 text) ∙ ap (λ (l : Bytes). l ++ drop 14 text) front ∙ ap (λ (l : Bytes). head_text ++ l) (drop-drop 14 1 image))

-- ---- windows of entries

flat_joined : (entry : TenantPair → Bytes) (ps qs : List TenantPair) (rest : Bytes) → flat_map entry ps ++ (flat_map entry qs ++ rest) ≡ flat_map entry (ps ++ qs) ++ rest
flat_joined entry [] qs rest = refl
flat_joined entry (p ∷ ps) qs rest =
    append_assoc (entry p) (flat_map entry ps) (flat_map entry qs ++ rest) ∙ ap (λ (l : Bytes). entry p ++ l) (flat_joined entry ps qs rest)
    ∙ sym (append_assoc (entry p) (flat_map entry (ps ++ qs)) rest)

module _ (head : Head) (image : Bytes) (place count : ℕ) (window : Bytes) (before : List TenantPair) (window_is : window ≡ take count (drop place image)) (stand : StandBefore head place image before)
    (whole : Bool) (ends : whole ≡ true → length window ≡ length (drop place image)) (pairs : List TenantPair) (used : ℕ) (stop : Stop) (taken : Takes head window whole pairs used stop) where
  abbrev behind : Bytes
  behind = drop count (drop place image)

  text_is : drop place image ≡ window ++ behind
  text_is = sym (take-append-drop count (drop place image)) ∙ ap (λ (l : Bytes). l ++ behind) (sym window_is)

  nothing : whole ≡ true → behind ≡ []
  nothing e =
      let size = ends e in
      let sum : length (drop place image) ≡ length window + length behind = ap length text_is ∙ length-append window behind in
      none behind (omega (arith, size, sum))
    where
      none : (bytes : Bytes) → length bytes ≡ 0 → bytes ≡ []
      none [] zero = refl
      none (b ∷ bytes) zero = absurd (omega (arith, zero))

  at : AreTaken head (window ++ behind) pairs used stop
  at = taken.told behind nothing

  rest_is : drop used (window ++ behind) ≡ drop (place + used) image
  rest_is = ap (λ (l : Bytes). drop used l) (sym text_is) ∙ drop-drop used place image

  -- they stand after those before
  pub stands_on : StandBefore head (place + used) image (before ++ pairs)
  stands_on = record {
    parts =
        stand.parts ∙ ap (λ (l : Bytes). flat_map (entry_bytes head.version) before ++ l) (text_is ∙ at.parts ∙ ap (λ (l : Bytes). flat_map (entry_bytes head.version) pairs ++ l) rest_is)
        ∙ flat_joined (entry_bytes head.version) before pairs (drop (place + used) image);
  }

  -- and this follows them
  pub stands_after : AllByRecursion (IsEntry head) before → StandsAfter head (place + used) image (before ++ pairs) stop
  stands_after each = by stop (subst (λ (l : Bytes). StopsAt head l stop) rest_is at.stops)
    where
      by : (stop : Stop) → StopsAt head (drop (place + used) image) stop → StandsAfter head (place + used) image (before ++ pairs) stop
      by stops.More s = stands_on
      by (stops.Last n) s = (s.0, (s.1.0, stands_on.parts ∙ ap (λ (l : Bytes). flat_map (entry_bytes head.version) (before ++ pairs) ++ l) s.1.1))
      by stops.Bad s = λ at. no_end image head at (before ++ pairs) (each_joined head before pairs each taken.each) (drop (place + used) image) stands_on.parts s

-- the image of a disk that was only read
pub of_same : {D : Type 0} (is_honest : D → Bool) (state : D → DiskState) (old : D) (len : ℕ) (new : D) → (IsTrue (is_honest old) → state new ≡ state old) → is_honest new ≡ is_honest old
    → (P : Bytes → Type 0) → OfImage is_honest state new len P → OfImage is_honest state old len P
of_same is_honest state old len new same kept P told honest has =
    let image : (state new).image ≡ (state old).image = ap (λ (t : DiskState). t.image) (same honest) in
    subst P image (told (subst IsTrue (sym kept) honest) (has ∙ ap length (sym image)))
