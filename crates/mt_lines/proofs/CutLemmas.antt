-- Lines as they are cut byte by byte, and what the kept front of one tells of it: for `take_byte` and `run_script`.
use Rattle.std.proofs.Common.{◌≡◌, ℕ, zero, suc, ◌+◌, ◌-◌, ◌<◌, ◌≤◌, ◌⊎◌, Bool, true, false, cond, [], ◌∷◌, ◌++◌, length, take, None, Some, refl, sym, ap, subst, ◌∙◌, inl, inr, arith}
use Rattle.std.proofs.{lemmas.Bool.Decides.nat_tests, lemmas.List.{take-append-le, length-append, length-take, take_all}}
use Rattle.std.specs.{Prelude.nat_lt, Io.BufRead.{strip_last, ends_with_byte}}
use Rattle.mt_lines.specs.{Line.line_of, Lines.{Front, front_of, with_byte, without_return, whole_line}}
use Rattle.mt_lines.specs.{Scripts.{Cut, cut_at, cut_behind, cut_of, is_silent, meaning_of}, Turns.meaning_in}
use Rattle.mt_rows.specs.Rows.{Bytes}

-- one byte more
pub cut_behind-more : (cut : Cut) (bytes : Bytes) (byte : ℕ) → cut_behind cut (bytes ++ byte ∷ []) ≡ cut_at (cut_behind cut bytes) byte
cut_behind-more cut [] byte = refl
cut_behind-more cut (x ∷ bytes) byte = cut_behind-more (cut_at cut x) bytes byte

-- the cut of all bytes that were read, at one byte more
pub cut_of-more : (bytes : Bytes) (byte : ℕ) → cut_of (bytes ++ byte ∷ []) ≡ cut_at (cut_of bytes) byte
cut_of-more bytes byte = cut_behind-more (record { ended = []; last = [] }) bytes byte

less : (a b : ℕ) → a < b → nat_lt a b ≡ true
less a b h = grind (arith, nat_tests)

not_less : (a b : ℕ) → b ≤ a → nat_lt a b ≡ false
not_less a b h = grind (arith, nat_tests)

less_or_not : (a b : ℕ) → (a < b) ⊎ (b ≤ a)
less_or_not a b = search arith

more_case : (l : Bytes) (byte : ℕ) → ((length l < 65537) ⊎ (65537 ≤ length l)) → with_byte (front_of l) byte ≡ front_of (l ++ byte ∷ [])
more_case l byte (inl short) =
    let all : take 65537 l ≡ l = take_all 65537 l (omega arith) in
    let longer : length (l ++ byte ∷ []) ≡ length l + 1 = length-append l (byte ∷ []) in
    let all_more : take 65537 (l ++ byte ∷ []) ≡ l ++ byte ∷ [] = take_all 65537 (l ++ byte ∷ []) (omega arith) in
    let room : nat_lt (length (take 65537 l)) 65537 ≡ true = ap (λ k. nat_lt (length k) 65537) all ∙ less (length l) 65537 short in
    let same : nat_lt 65537 (length l) ≡ nat_lt 65537 (length (l ++ byte ∷ [])) = not_less 65537 (length l) (omega arith) ∙ sym (not_less 65537 (length (l ++ byte ∷ [])) (omega arith)) in
    ap (λ b. cond b (record { bytes = take 65537 l ++ byte ∷ []; cut = nat_lt 65537 (length l) }) (record { bytes = take 65537 l; cut = true })) room
    ∙ ap (λ k. record { bytes = k; cut = nat_lt 65537 (length l) }) (ap (λ k. k ++ byte ∷ []) all ∙ sym all_more)
    ∙ ap (λ b. record { bytes = take 65537 (l ++ byte ∷ []); cut = b }) same
more_case l byte (inr long) =
    let longer : length (l ++ byte ∷ []) ≡ length l + 1 = length-append l (byte ∷ []) in
    let full : nat_lt (length (take 65537 l)) 65537 ≡ false = not_less (length (take 65537 l)) 65537 (omega (arith, length-take 65537 l)) in
    let same : take 65537 l ≡ take 65537 (l ++ byte ∷ []) = sym (take-append-le 65537 l (byte ∷ []) long) in
    let cut : true ≡ nat_lt 65537 (length (l ++ byte ∷ [])) = sym (less 65537 (length (l ++ byte ∷ [])) (omega arith)) in
    ap (λ b. cond b (record { bytes = take 65537 l ++ byte ∷ []; cut = nat_lt 65537 (length l) }) (record { bytes = take 65537 l; cut = true })) full
    ∙ ap (λ k. record { bytes = k; cut = true }) same
    ∙ ap (λ b. record { bytes = take 65537 (l ++ byte ∷ []); cut = b }) cut

-- the front of a line with one byte more
pub with_byte-front : (l : Bytes) (byte : ℕ) → with_byte (front_of l) byte ≡ front_of (l ++ byte ∷ [])
with_byte-front l byte = more_case l byte (less_or_not (length l) 65537)

-- what a line begins with says whether it is silent
silent_take : (n : ℕ) (l : Bytes) → 0 < n → is_silent (take n l) ≡ is_silent l
silent_take zero l h = absurd (omega arith)
silent_take (suc n) [] h = refl
silent_take (suc n) (x ∷ l) h = refl

strip_case : (l : Bytes) (b : Bool) → 1 < length l → is_silent (cond b (take (length l - 1) l) l) ≡ is_silent l
strip_case l true h = silent_take (length l - 1) l (omega arith)
strip_case l false h = refl

strip_length : (l : Bytes) (b : Bool) → length l ≤ length (cond b (take (length l - 1) l) l) + 1
strip_length l true = omega (arith, length-take (length l - 1) l)
strip_length l false = omega arith

asked_case : (b : Bool) (l : Bytes) → meaning_in (cond b None (Some l)) ≡ cond b None (line_of l)
asked_case true l = refl
asked_case false l = refl

-- what a front tells of its line: whether it is silent, and what it asks for
pub record FrontTells (front : Front) (line : Bytes) : Type 0 where
  pub silent : is_silent front.bytes ≡ is_silent line
  pub asked : meaning_in (whole_line front) ≡ meaning_of line

-- of a line that is not cut
tells_whole : (line : Bytes) → FrontTells (record { bytes = line; cut = false }) line
tells_whole line = record { silent = refl; asked = asked_case (nat_lt 65536 (length line)) line }

-- of one that is
tells_cut : (bytes line : Bytes) → is_silent bytes ≡ is_silent line → 65536 < length line → FrontTells (record { bytes = bytes; cut = true }) line
tells_cut bytes line same long = record { silent = same; asked = sym (ap (λ b. cond b None (line_of line)) (less 65536 (length line) long)) }

front_short : (l : Bytes) → length l ≤ 65537 → front_of l ≡ record { bytes = l; cut = false }
front_short l short =
    ap (λ k. record { bytes = k; cut = nat_lt 65537 (length l) }) (take_all 65537 l short) ∙ ap (λ b. record { bytes = l; cut = b }) (not_less 65537 (length l) short)

front_long : (l : Bytes) → 65537 < length l → front_of l ≡ record { bytes = take 65537 l; cut = true }
front_long l long = ap (λ b. record { bytes = take 65537 l; cut = b }) (less 65537 (length l) long)

last_case : (l : Bytes) → ((65537 < length l) ⊎ (length l ≤ 65537)) → FrontTells (front_of l) l
last_case l (inl long) =
    subst (λ (f : Front). FrontTells f l) (sym (front_long l long)) (tells_cut (take 65537 l) l (silent_take 65537 l (omega arith)) (omega arith))
last_case l (inr short) = subst (λ (f : Front). FrontTells f l) (sym (front_short l short)) (tells_whole l)

-- of the last line, which has no end
pub last_tells : (l : Bytes) → FrontTells (front_of l) l
last_tells l = last_case l (less_or_not 65537 (length l))

ended_case : (l : Bytes) → ((65537 < length l) ⊎ (length l ≤ 65537)) → FrontTells (without_return (front_of l)) (strip_last 13 l)
ended_case l (inl long) =
    subst (λ (f : Front). FrontTells (without_return f) (strip_last 13 l)) (sym (front_long l long)) (tells_cut (take 65537 l) (strip_last 13 l) (silent_take 65537 l (omega arith) ∙ sym (strip_case l (ends_with_byte 13 l) (omega arith))) (omega (arith, strip_length l (ends_with_byte 13 l))))
ended_case l (inr short) = subst (λ (f : Front). FrontTells (without_return f) (strip_last 13 l)) (sym (front_short l short)) (tells_whole (strip_last 13 l))

-- of a line that ended
pub ended_tells : (l : Bytes) → FrontTells (without_return (front_of l)) (strip_last 13 l)
ended_tells l = ended_case l (less_or_not 65537 (length l))
