-- A worker's next session, and the workers at their places.
use Rattle.std.proofs.Common.{◌≡◌, ◌∙◌, ℕ, zero, suc, ◌+◌, ◌<◌, ◌≤◌, Bool, true, false, not, cond, List, [], ◌∷◌, ◌++◌, length, take, count_by, slice_index_or, Vec, vec_len, Result, Ok, Err, IfOk, refl, sym, ap, subst, zero-add, arith}
use Rattle.std.proofs.lemmas.{List.{take-append-le, length-append, length-take}, List.Sums.sum_by-append}
use denote.Param.Members.{Shared}
use Rattle.std.specs.{List.{FoldsTo, AllZip}, Int.from_bool, Fork.GivesJobs}
use Rattle.mt_crew.specs.{Servings.{most_counted, IsServed}, declared.crew.Served.Served}

module _ {W : Type 0} (serves : W → Bool → W → Type 0) where
  -- a session more leads on
  led_on : (worker mid new : W) (ends : List Bool) (is_right : Bool) → FoldsTo serves worker ends mid → serves mid is_right new → FoldsTo serves worker (ends ++ is_right ∷ []) new
  led_on worker mid new [] is_right e s = (new, subst (λ (w : W). serves w is_right new) (sym e) s, refl)
  led_on worker mid new (b ∷ ends) is_right led s = (led.0, led.1, led_on led.0 mid new ends is_right led.2 s)

-- the first of nothing are none
take-nil : (most : ℕ) → take most (let none : List Bool = [] in none) ≡ []
take-nil zero = refl
take-nil (suc most) = refl

-- one more of a list that is as short
take_one_more : (most : ℕ) (ends : List Bool) (is_right : Bool) → length (take most ends) < most → take most (ends ++ is_right ∷ []) ≡ take most ends ++ is_right ∷ []
take_one_more zero ends is_right below = absurd (omega (arith, below))
take_one_more (suc most) [] is_right below = ap (λ xs. is_right ∷ xs) (take-nil most)
take_one_more (suc most) (b ∷ ends) is_right below = ap (λ xs. b ∷ xs) (take_one_more most ends is_right (omega (arith, below)))

-- so the count is one higher
counted_more : (most n : ℕ) (ends : List Bool) (is_right : Bool) → n ≡ length (take most ends) → n < most → n + 1 ≡ length (take most (ends ++ is_right ∷ []))
counted_more most n ends is_right so_far room =
    let more = take_one_more most ends is_right (subst (λ k. k < most) so_far room) in
    ap (λ k. k + 1) so_far ∙ sym (length-append (take most ends) (is_right ∷ [])) ∙ ap length (sym more)

-- a truth as a number
from_bool_cond : (b : Bool) → from_bool b ≡ cond b 1 0
from_bool_cond true = refl
from_bool_cond false = refl

-- and that of the others is as much higher as the session says
others_more : (most n others : ℕ) (ends : List Bool) (is_right : Bool) → n ≡ length (take most ends) → n < most → others ≡ count_by not (take most ends)
    → others + from_bool (not is_right) ≡ count_by not (take most (ends ++ is_right ∷ []))
others_more most n others ends is_right so_far room counted =
    let more = take_one_more most ends is_right (subst (λ k. k < most) so_far room) in
    let sum = sum_by-append (λ b. cond (not b) 1 0) (take most ends) (is_right ∷ []) in
    ap (λ k. k + from_bool (not is_right)) counted ∙ ap (λ k. count_by not (take most ends) + k) (from_bool_cond (not is_right)) ∙ ap (λ k. count_by not (take most ends) + k) (sym (zero-add (cond (not is_right) 1 0))) ∙ sym sum ∙ ap (count_by not) (sym more)

-- one more of a list that is as long already
take_no_more : (most n : ℕ) (ends : List Bool) (is_right : Bool) → n ≡ length (take most ends) → most ≤ n → take most (ends ++ is_right ∷ []) ≡ take most ends
take_no_more most n ends is_right so_far full = take-append-le most ends (is_right ∷ []) (omega (arith, length-take most ends, so_far, full))

module _ {W : Type 0} (serves : W → Bool → W → Type 0) (worker new : W) (old : Served W) (is_right : Bool) (so_far : IsServed serves worker old) (served : serves old.worker is_right new) where
  -- a session more that is counted
  pub session_counted : old.sessions < most_counted → IsServed serves worker (record { worker = new; sessions = old.sessions + 1; others = old.others + from_bool (not is_right) })
  session_counted room = record {
    ends = so_far.ends ++ is_right ∷ [];
    led = led_on serves worker old.worker new so_far.ends is_right so_far.led served;
    sessions = counted_more most_counted old.sessions so_far.ends is_right so_far.sessions room;
    others = others_more most_counted old.sessions old.others so_far.ends is_right so_far.sessions room so_far.others;
  }

  -- and one that isn't
  pub session_uncounted : most_counted ≤ old.sessions → IsServed serves worker (record { worker = new; sessions = old.sessions; others = old.others })
  session_uncounted full =
      let same = sym (take_no_more most_counted old.sessions so_far.ends is_right so_far.sessions full) in
      record {
        ends = so_far.ends ++ is_right ∷ [];
        led = led_on serves worker old.worker new so_far.ends is_right so_far.led served;
        sessions = so_far.sessions ∙ ap length same;
        others = so_far.others ∙ ap (count_by not) same;
      }

-- what holds of the elements at each place holds of all
zipped : {A B : Type 0} (P : A → B → Type 0) (xs : List A) (ys : List B) → length ys ≡ length xs
    → ((i : ℕ) (x : A) (y : B) → i < length xs → slice_index_or xs i x ≡ x → slice_index_or ys i y ≡ y → P x y) → AllZip P xs ys
zipped P [] [] same each = tt
zipped P [] (y ∷ ys) same each = absurd (omega (arith, same))
zipped P (x ∷ xs) [] same each = absurd (omega (arith, same))
zipped P (x ∷ xs) (y ∷ ys) same each = (each 0 x y (omega arith) refl refl, zipped P xs ys (omega (arith, same)) (λ i u v less. each (suc i) u v (omega (arith, less))))

-- what each call makes hold of its job and its result holds of all jobs and their results
pub jobs_done : {F J R E A : Type 0} (g : Shared F (J × Unit {0}) R) (f : F) (P : J → R → Type 0) (jobs : Vec J A) (told : Result (Vec R A) E)
    → ((job : J) (r : R) → g.post f (job, tt) r → P job r)
    → IfOk told (λ v. vec_len v ≡ vec_len jobs) → IfOk told (λ v. GivesJobs g f jobs.items v.items)
    → IfOk told (λ v. (vec_len v ≡ vec_len jobs) × AllZip P jobs.items v.items)
jobs_done g f P jobs (Err e) done len each = tt
jobs_done g f P jobs (Ok v) done len each = (
  len,
  zipped P jobs.items v.items (omega (arith, len, jobs.ok.0, v.ok.0)) (λ i x y less at_x at_y.
      let given = (each i y less).1 in
      subst (λ r. P x r) at_y (subst (λ job. P job (slice_index_or v.items i y)) (sym (given.job_is x) ∙ at_x) (done given.job (slice_index_or v.items i y) given.call.met))),
)
