-- Matching from left to right.
use Rattle.std.proofs.Common.{◌≡◌, ℕ, zero, suc, ◌+◌, ◌-◌, ◌≤◌, Bool, true, false, not, [], ◌∷◌, length, get_or, take, drop, Option, Some, None, refl, sym, ap, ◌∙◌, drop-drop, arith}
use Rattle.std.proofs.lemmas.{Bool.{or_left, or_right}, List.{take_all}}
use Rattle.std.specs.{Prelude.{◌==◌, ◌||◌}, List.{list_any}}
use Rattle.mt_resp.specs.{Grammar.Bytes, Patterns.{is_between, class_at, left_if, after_class, after_escape, after_item, or_none, after, takes, is_like}, Matching.{class_item, at_star, Stops, IsTaken}}
use Rattle.mt_resp.proofs.Steps.{choose, either_way}

-- a class that isn't closed here has one item, and then the others
pub class_step : (byte a : ℕ) (found : Bool) (rest : Bytes) → (a == 93) ≡ false
    → class_at byte found (a ∷ rest) ≡ class_at byte (found || (class_item a rest byte).0) (class_item a rest byte).1
class_step byte a found [] ajar = rw ajar refl
class_step byte a found (b ∷ []) ajar = either_way (a == 92) (λ t. rw (ajar, t) refl) (λ f. rw (ajar, f) refl)
class_step byte a found (b ∷ c ∷ rest) ajar = either_way (a == 92) (λ t. rw (ajar, t) refl)
    (λ f. either_way (b == 45) (λ t. rw (ajar, f, t) refl) (λ g. rw (ajar, f, g) refl))

-- what is left after a class is the same for each byte
class_rest : (class : Bytes) (b c : ℕ) (f g : Bool) → (class_at b f class).1 ≡ (class_at c g class).1
class_rest [] b c f g = refl
class_rest (x ∷ []) b c f g = either_way (x == 93) (λ t. rw t refl) (λ e. rw e refl)
class_rest (x ∷ y ∷ []) b c f g = either_way (x == 93) (λ t. rw t refl)
    (λ e. either_way (x == 92) (λ t. rw (e, t) refl) (λ d. rw (e, d) (class_rest (y ∷ []) b c _ _)))
class_rest (x ∷ y ∷ z ∷ rest) b c f g = either_way (x == 93) (λ t. rw t refl)
    (λ e. either_way (x == 92) (λ t. rw (e, t) (class_rest (z ∷ rest) b c _ _))
    (λ d. either_way (y == 45) (λ t. rw (e, d, t) (class_rest rest b c _ _)) (λ k. rw (e, d, k) (class_rest (y ∷ z ∷ rest) b c _ _))))

class_shorter : (b : ℕ) (f : Bool) (class : Bytes) → length (class_at b f class).1 ≤ length class
class_shorter b f [] = omega arith
class_shorter b f (x ∷ []) = either_way (x == 93) (λ t. rw t (omega arith)) (λ e. rw e (omega arith))
class_shorter b f (x ∷ y ∷ []) = either_way (x == 93) (λ t. rw t (omega arith))
    (λ e. either_way (x == 92) (λ t. rw (e, t) (omega arith)) (λ d. rw (e, d) (omega (arith, class_shorter b (f || b == x) (y ∷ [])))))
class_shorter b f (x ∷ y ∷ z ∷ rest) = either_way (x == 93) (λ t. rw t (omega arith))
    (λ e. either_way (x == 92) (λ t. rw (e, t) (omega (arith, class_shorter b (f || b == y) (z ∷ rest))))
    (λ d. either_way (y == 45) (λ t. rw (e, d, t) (omega (arith, class_shorter b (f || is_between x z b) rest))) (λ k. rw (e, d, k) (omega (arith, class_shorter b (f || b == x) (y ∷ z ∷ rest))))))

pub class_done : (byte a : ℕ) (found : Bool) (rest : Bytes) → (a == 93) ≡ true → class_at byte found (a ∷ rest) ≡ (found, rest)
class_done byte a found [] shut = rw shut refl
class_done byte a found (b ∷ []) shut = rw shut refl
class_done byte a found (b ∷ c ∷ rest) shut = rw shut refl

drop_next : (n : ℕ) (xs : Bytes) → drop 1 (drop n xs) ≡ drop (n + 1) xs
drop_next n xs = drop-drop 1 n xs

drop_swap : (n k : ℕ) (xs : Bytes) → drop n (drop k xs) ≡ drop k (drop n xs)
drop_swap n k xs =
    let same : k + n ≡ n + k = omega arith in
    drop-drop n k xs ∙ ap (λ (m : ℕ). drop m xs) same ∙ sym (drop-drop k n xs)

-- what is left, if anything is
abbrev left_one : Bytes → Option Bytes
left_one x = Some x

same_some : (x y : Bytes) → left_one x ≡ left_one y → x ≡ y
same_some x y e = cc

left_is : (taken : Bool) (rest x : Bytes) → left_if taken rest ≡ Some x → rest ≡ x
left_is true rest x e = same_some rest x e
left_is false rest x e = absurd cc

-- an item leaves the same of a pattern, whichever byte it takes, and no more than there was
abbrev Leaves : (Bytes → ℕ → Option Bytes) → Bytes → Type 0
Leaves item pattern = (b : ℕ) (x : Bytes) → item pattern b ≡ Some x → ((c : ℕ) (y : Bytes) → item pattern c ≡ Some y → x ≡ y) × (length x ≤ length pattern)

after_class_leaves : (pattern : Bytes) → Leaves after_class pattern
after_class_leaves [] b x e = absurd cc
after_class_leaves (a ∷ rest) b x e =
    choose (a == 94) (left_if (not (class_at b false rest).0) (class_at b false rest).1) (left_if (class_at b false (a ∷ rest)).0 (class_at b false (a ∷ rest)).1) (Some x) e
    (λ t h.
    let this : (class_at b false rest).1 ≡ x = left_is _ _ x h in (
      λ c y d.
          let other : left_if (not (class_at c false rest).0) (class_at c false rest).1 ≡ Some y = rw t at d in
          sym this ∙ class_rest rest b c false false ∙ left_is _ _ y other,
      omega (arith, ap length this, class_shorter b false rest),
    ))
    (λ f h.
    let this : (class_at b false (a ∷ rest)).1 ≡ x = left_is _ _ x h in (
      λ c y d.
          let other : left_if (class_at c false (a ∷ rest)).0 (class_at c false (a ∷ rest)).1 ≡ Some y = rw f at d in
          sym this ∙ class_rest (a ∷ rest) b c false false ∙ left_is _ _ y other,
      omega (arith, ap length this, class_shorter b false (a ∷ rest)),
    ))

after_escape_leaves : (pattern : Bytes) → Leaves after_escape pattern
after_escape_leaves [] b x e = (λ c y d. sym (left_is (b == 92) [] x e) ∙ left_is (c == 92) [] y d, omega (arith, ap length (left_is (b == 92) [] x e)))
after_escape_leaves (a ∷ rest) b x e = (λ c y d. sym (left_is (b == a) rest x e) ∙ left_is (c == a) rest y d, omega (arith, ap length (left_is (b == a) rest x e)))

after_item_leaves : (pattern : Bytes) → Leaves after_item pattern
after_item_leaves [] b x e = absurd cc
after_item_leaves (a ∷ rest) b x e = either_way (a == 63)
    (λ t.
    let this : left_one rest ≡ Some x = rw t at e in
    (λ c y d. let other : left_one rest ≡ Some y = rw t at d in sym (same_some rest x this) ∙ same_some rest y other, omega (arith, ap length (same_some rest x this))))
    (λ f. either_way (a == 91)
    (λ t.
    let this : after_class rest b ≡ Some x = rw (f, t) at e in
    let leaves = after_class_leaves rest b x this in
    (λ c y d. leaves.0 c y (rw (f, t) at d), omega (arith, leaves.1)))
    (λ g. either_way (a == 92)
    (λ t.
    let this : after_escape rest b ≡ Some x = rw (f, g, t) at e in
    let leaves = after_escape_leaves rest b x this in
    (λ c y d. leaves.0 c y (rw (f, g, t) at d), omega (arith, leaves.1)))
    (λ h.
    let this : left_if (b == a) rest ≡ Some x = rw (f, g, h) at e in
    (λ c y d. let other : left_if (c == a) rest ≡ Some y = rw (f, g, h) at d in sym (left_is _ rest x this) ∙ left_is _ rest y other, omega (arith, ap length (left_is _ rest x this))))))

or_false : (b : Bool) → (b || false) ≡ b
or_false true = refl
or_false false = refl

-- an item takes the next byte, or nothing is like the pattern
pub item_step : (pattern : Bytes) (byte : ℕ) (text : Bytes) → at_star pattern ≡ false → is_like pattern (byte ∷ text) ≡ list_any (takes text) (or_none (after_item pattern byte))
item_step [] byte text plain = refl
item_step (a ∷ rest) byte text plain = rw plain refl

item_taken : (pattern : Bytes) (byte : ℕ) (text next : Bytes) → at_star pattern ≡ false → after_item pattern byte ≡ Some next → is_like pattern (byte ∷ text) ≡ is_like next text
item_taken pattern byte text next plain e = item_step pattern byte text plain ∙ ap (λ (o : Option Bytes). list_any (takes text) (or_none o)) e ∙ or_false (is_like next text)

pub item_refused : (pattern : Bytes) (byte : ℕ) (text : Bytes) → at_star pattern ≡ false → after_item pattern byte ≡ None → is_like pattern (byte ∷ text) ≡ false
item_refused pattern byte text plain e = item_step pattern byte text plain ∙ ap (λ (o : Option Bytes). list_any (takes text) (or_none o)) e

-- of another text the item takes a byte too, if the text is like the pattern
other_text : (pattern t : Bytes) (byte : ℕ) (next : Bytes) → at_star pattern ≡ false → after_item pattern byte ≡ Some next → is_like pattern t ≡ true → is_like next (drop 1 t) ≡ true
other_text [] t byte next plain e like = absurd cc
other_text (a ∷ rest) [] byte next plain e like = let no : false ≡ true = rw plain at like in absurd cc
other_text (a ∷ rest) (b ∷ t) byte next plain e like = taken_so (after_item (a ∷ rest) b) refl
  where
    taken_so : (o : Option Bytes) → after_item (a ∷ rest) b ≡ o → is_like next t ≡ true
    taken_so None h = let no : false ≡ true = sym (item_refused (a ∷ rest) b t plain h) ∙ like in absurd cc
    taken_so (Some other) h = ap (λ (x : Bytes). is_like x t) ((after_item_leaves (a ∷ rest) byte next e).0 b other h) ∙ sym (item_taken (a ∷ rest) b t other plain h) ∙ like

-- one item more took a byte
pub one_more : (pattern text others rest next after : Bytes) (byte : ℕ) → at_star others ≡ false → rest ≡ byte ∷ after → after_item others byte ≡ Some next
    → IsTaken pattern text others rest → IsTaken pattern text next after
one_more pattern text others rest next after byte plain parts e so_far = record {
  count = so_far.count + 1;
  cut = sym (ap (drop 1) parts) ∙ ap (drop 1) so_far.cut ∙ drop_next so_far.count text;
  same = so_far.same ∙ ap (is_like others) parts ∙ item_taken others byte after next plain e;
  each = λ t like. ap (is_like next) (sym (drop_next so_far.count t)) ∙ other_text others (drop so_far.count t) byte next plain e (so_far.each t like);
  shorter = omega (arith, so_far.shorter, (after_item_leaves others byte next e).1);
}

-- a star takes one byte more, or nothing
pub star_step : (pattern : Bytes) (byte : ℕ) (text : Bytes) → is_like (42 ∷ pattern) (byte ∷ text) ≡ (is_like (42 ∷ pattern) text || is_like pattern (byte ∷ text))
star_step pattern byte text = refl

star_none : (pattern text : Bytes) → is_like pattern text ≡ true → is_like (42 ∷ pattern) text ≡ true
star_none pattern [] like = like
star_none pattern (b ∷ text) like = or_right (is_like (42 ∷ pattern) text) _ like

star_some : (pattern text : Bytes) → is_like (42 ∷ pattern) text ≡ true → (k : ℕ) × (is_like pattern (drop k text) ≡ true)
star_some pattern [] like = (0, like)
star_some pattern (b ∷ text) like = either_way (is_like (42 ∷ pattern) text)
    (λ t. let found = star_some pattern text t in (suc found.0, found.1))
    (λ f. (0, rw f at like))

star_absorbs : (pattern : Bytes) (k : ℕ) (text : Bytes) → is_like (42 ∷ pattern) (drop k text) ≡ true → is_like (42 ∷ pattern) text ≡ true
star_absorbs pattern zero text like = like
star_absorbs pattern (suc k) [] like = like
star_absorbs pattern (suc k) (b ∷ text) like = or_left _ (is_like pattern (b ∷ text)) (star_absorbs pattern k text like)

both : (a b : Bool) → (a ≡ true → b ≡ true) → (b ≡ true → a ≡ true) → a ≡ b
both true b f g = sym (f refl)
both false true f g = g refl
both false false f g = refl

-- after a star, the first place at which the items fit serves as well as any other
pub first_serves : (pattern text others rest : Bytes) → IsTaken pattern text others rest → Stops others rest → is_like (42 ∷ pattern) text ≡ is_like others rest
first_serves pattern text [] rest taken ends =
    star_none pattern text (taken.same ∙ ap (is_like []) ends) ∙ sym (ap (is_like []) ends)
first_serves pattern text (a ∷ others) rest taken star = both _ _
    (λ like.
    let some = star_some pattern text like in
    let there : is_like (a ∷ others) (drop taken.count (drop some.0 text)) ≡ true = taken.each (drop some.0 text) some.1 in
    let swap : drop taken.count (drop some.0 text) ≡ drop some.0 rest = drop_swap taken.count some.0 text ∙ ap (drop some.0) (sym taken.cut) in
    let here : is_like (42 ∷ others) (drop some.0 rest) ≡ true = ap (λ (x : ℕ). is_like (x ∷ others) (drop some.0 rest)) (sym star) ∙ ap (is_like (a ∷ others)) (sym swap) ∙ there in
    ap (λ (x : ℕ). is_like (x ∷ others) rest) star ∙ star_absorbs others some.0 rest here)
    (λ like. star_none pattern text (taken.same ∙ like))

-- the same as a loop has it: an item of a class, an item of a pattern, a place of the text
all_of : (a : ℕ) (xs : Bytes) → take (length (a ∷ xs) - 1) (drop 1 (a ∷ xs)) ≡ xs
all_of a xs = take_all (length (a ∷ xs) - 1) xs (omega arith)

pub class_goes_on : (byte : ℕ) (found now taken : Bool) (rest left : Bytes) (total : Bool × Bytes) → 1 ≤ length rest → (get_or rest 0 0 == 93) ≡ false
    → (taken, left) ≡ class_item (get_or rest 0 0) (take (length rest - 1) (drop 1 rest)) byte → now ≡ (found || taken)
    → class_at byte found rest ≡ total → class_at byte now left ≡ total
class_goes_on byte found now taken [] left total some ajar item is so_far = absurd (omega (arith, some))
class_goes_on byte found now taken (a ∷ rest) left total some ajar item is so_far =
    let same : (taken, left) ≡ class_item a rest byte = item ∙ ap (λ (x : Bytes). class_item a x byte) (all_of a rest) in
    ap (λ (x : Bool). class_at byte x left) is ∙ ap (λ (x : Bool × Bytes). class_at byte (found || x.0) x.1) same ∙ sym (class_step byte a found rest ajar) ∙ so_far

pub takes_on : (pattern text others rest next : Bytes) → 1 ≤ length rest → at_star others ≡ false → after_item others (get_or rest 0 0) ≡ Some next
    → IsTaken pattern text others rest → IsTaken pattern text next (take (length rest - 1) (drop 1 rest))
takes_on pattern text others [] next some plain e so_far = absurd (omega (arith, some))
takes_on pattern text others (b ∷ rest) next some plain e so_far = one_more pattern text others (b ∷ rest) next _ b plain (ap (λ (x : Bytes). b ∷ x) (sym (all_of b rest))) e so_far
