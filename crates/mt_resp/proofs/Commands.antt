-- Commands within the limits.
use Rattle.std.proofs.Common.{◌≡◌, ◌+◌, ◌-◌, ◌≤◌, ◌<◌, inl, inr, ◌⊎◌, false, List, [], ◌∷◌, ◌++◌, length, take, drop, Result, Ok, Err, refl, sym, ap, subst, ◌∙◌, append_assoc, arith}
use Rattle.std.proofs.lemmas.{Bool.{le-ltb, ltb-false, ltb-true}, List.{drop_at, take_at, take-append-le, take-append-drop, length-append}}
use Rattle.std.specs.Prelude.{nat_lt}
use Rattle.mt_resp.specs.{declared.stop.Stop.Stop, declared.stop.Fault.Fault, Grammar.{Bytes, array, is_array, words_of, IsLine, IsSpelling}, Laws.{IsExact, IsSpelled}}
use Rattle.mt_resp.specs.declared.stop.Stop.TheVariants as stops
use Rattle.mt_resp.specs.declared.stop.Fault.TheVariants as faults
use Rattle.mt_resp.specs.Reading.{line_at}
use Rattle.mt_resp.specs.Commands.{any_at, within, command_at, IsWhole}
use Rattle.mt_resp.proofs.Steps.{ok, choose, same_ok}
use Rattle.mt_resp.proofs.Again.{array_again}
use Rattle.mt_resp.proofs.Lines.{line_again}
use Rattle.mt_resp.proofs.Only.{any_only}
use Rattle.mt_resp.proofs.Firm.{any_firm, any_on}

line_is_any : (line rest : Bytes) → is_array line ≡ false → any_at (line ++ 10 ∷ rest) ≡ line_at (line ++ 10 ∷ rest)
line_is_any [] rest other = refl
line_is_any (b ∷ bs) rest other = rw other refl

-- what spells a command is read, however long
pub any_again : (text rest : Bytes) (words : List Bytes) → IsSpelling text words → any_at (text ++ rest) ≡ Ok (words, rest)
any_again text rest words s = by_form s.form
  where
    by_form : (text ≡ array words) ⊎ IsLine text words → any_at (text ++ rest) ≡ Ok (words, rest)
    by_form (inl is) =
        let short : length (array words) ≤ 65536 = subst (λ (x : Bytes). length x ≤ 65536) is s.short in
        ap (λ (x : Bytes). any_at (x ++ rest)) is ∙ array_again words rest s.few short
    by_form (inr l) =
        let few : length (words_of l.line) ≤ 1024 = subst (λ (x : List Bytes). length x ≤ 1024) l.words_are s.few in
        ap (λ (x : Bytes). any_at (x ++ rest)) l.text_is ∙ ap any_at (append_assoc l.line (10 ∷ []) rest) ∙ line_is_any l.line rest l.no_array
        ∙ line_again l.line rest l.plain few ∙ ap (λ (ws : List Bytes). ok (ws, rest)) (sym l.words_are)

within_ok : (bytes : Bytes) (r : Result (List Bytes × Bytes) Stop) (x : List Bytes × Bytes) → within bytes r ≡ Ok x → (r ≡ Ok x) × (length bytes - length x.1 ≤ 65536)
within_ok bytes (Ok y) x e = choose (nat_lt 65536 (length bytes - length y.1)) (Err (stops.Bad faults.Long)) (ok y) (Ok x) e
    (λ t h. absurd cc)
    (λ f h.
    let p = same_ok y x h in
    let few : length bytes - length y.1 ≤ 65536 = ltb-false _ _ f in
    (ap ok p, subst (λ (z : List Bytes × Bytes). length bytes - length z.1 ≤ 65536) p few))
within_ok bytes (Err stops.Partial) x e = choose (nat_lt (length bytes) 65536) (Err stops.Partial) (Err (stops.Bad faults.Long)) (Ok x) e
    (λ t h. absurd cc)
    (λ f h. absurd cc)
within_ok bytes (Err stops.Memory) x e = absurd cc
within_ok bytes (Err (stops.Bad fault)) x e = absurd cc

ok_within : (bytes rest : Bytes) (words : List Bytes) → any_at bytes ≡ Ok (words, rest) → length bytes - length rest ≤ 65536 → command_at bytes ≡ Ok (words, rest)
unfolding command_at
ok_within bytes rest words e short =
    let skip : nat_lt 65536 (length bytes - length rest) ≡ false = le-ltb _ _ short in
    ap (within bytes) e ∙ rw skip refl

pub spelling_is_read : (text rest : Bytes) (words : List Bytes) → IsSpelling text words → command_at (text ++ rest) ≡ Ok (words, rest)
spelling_is_read text rest words s =
    let len = length-append text rest in
    let short : length text ≤ 65536 = s.short in
    ok_within (text ++ rest) rest words (any_again text rest words s) (omega arith)

spelled : (bytes rest : Bytes) (words : List Bytes) → any_at bytes ≡ Ok (words, rest) → length bytes - length rest ≤ 65536 → IsSpelled bytes words rest
spelled bytes rest words e short =
    let t = any_only words bytes rest e in
    let len : length bytes ≡ length t.0 + length rest = ap length t.1 ∙ length-append t.0 rest in
    record { text = t.0; parts = t.1; spells = record { form = t.2; few = t.3; short = omega arith } }

pub read_is_spelled : (bytes rest : Bytes) (words : List Bytes) → command_at bytes ≡ Ok (words, rest) → IsSpelled bytes words rest
unfolding command_at
read_is_spelled bytes rest words e = let p = within_ok bytes (any_at bytes) (words, rest) e in spelled bytes rest words p.0 p.1

pub command_exact : IsExact command_at
command_exact bytes rest words e =
    let t = read_is_spelled bytes rest words e in
    record { text = t.text; parts = t.parts; again = λ more. spelling_is_read t.text more words t.spells }

-- a text that spells has bytes
some_bytes : (words : List Bytes) (text : Bytes) → (text ≡ array words) ⊎ IsLine text words → 0 < length text
some_bytes words text (inl is) = subst (λ (x : Bytes). 0 < length x) (sym is) (omega arith)
some_bytes words text (inr l) = subst (λ (x : Bytes). 0 < length x) (sym l.text_is) (omega (arith, length-append l.line (10 ∷ [])))

pub shorter : (bytes rest : Bytes) (words : List Bytes) → any_at bytes ≡ Ok (words, rest) → length rest < length bytes
shorter bytes rest words e =
    let t = any_only words bytes rest e in
    let some = some_bytes words t.0 t.2 in
    let len : length bytes ≡ length t.0 + length rest = ap length t.1 ∙ length-append t.0 rest in
    omega arith

-- the command at the front, by how long the rest is
pub whole : (bytes rest : Bytes) (words : List Bytes) → any_at bytes ≡ Ok (words, rest) → length bytes - length rest ≤ 65536 → IsWhole bytes words (length bytes - length rest)
whole bytes rest words e short =
    let t = any_only words bytes rest e in
    let less = shorter bytes rest words e in
    let len : length bytes ≡ length t.0 + length rest = ap length t.1 ∙ length-append t.0 rest in
    let behind : drop (length bytes - length rest) bytes ≡ rest = ap (drop (length bytes - length rest)) t.1 ∙ drop_at t.0 rest (length bytes - length rest) (omega arith) in
    record {
      reads = ok_within bytes rest words e short ∙ ap (λ (x : Bytes). ok (words, x)) (sym behind);
      inside = omega arith;
      some = omega arith;
      short = short;
    }

-- a text that is no longer than some bytes is their beginning if both begin the same
begins : (bytes more text rest : Bytes) → bytes ++ more ≡ text ++ rest → length text ≤ length bytes → bytes ≡ text ++ drop (length text) bytes
begins bytes more text rest e le =
    let front : take (length text) bytes ≡ text = sym (take-append-le (length text) bytes more le) ∙ ap (take (length text)) e ∙ take_at text rest (length text) refl in
    sym (take-append-drop (length text) bytes) ∙ ap (λ (x : Bytes). x ++ drop (length text) bytes) front

pub refused_begins_none : (bytes more text rest : Bytes) (words : List Bytes) (fault : Fault) → command_at bytes ≡ Err (stops.Bad fault) → IsSpelling text words → bytes ++ more ≡ text ++ rest → ⊥
unfolding command_at
refused_begins_none bytes more text rest words fault e s parts = by_reading (any_at bytes) refl
  where
    reads : any_at (bytes ++ more) ≡ Ok (words, rest)
    reads = ap any_at parts ∙ any_again text rest words s

    parts_len : length bytes + length more ≡ length text + length rest
    parts_len = sym (length-append bytes more) ∙ ap length parts ∙ length-append text rest

    by_reading : (r : Result (List Bytes × Bytes) Stop) → any_at bytes ≡ r → ⊥
    by_reading (Ok x) is =
        let on : any_at (bytes ++ more) ≡ Ok (x.0, x.1 ++ more) = any_on bytes x.1 more x.0 is in
        let same = same_ok (x.0, x.1 ++ more) (words, rest) (sym on ∙ reads) in
        let left : length x.1 + length more ≡ length rest = sym (length-append x.1 more) ∙ ap (λ (y : List Bytes × Bytes). length y.1) same in
        let short : length text ≤ 65536 = s.short in
        let all = parts_len in
        choose (nat_lt 65536 (length bytes - length x.1)) (Err (stops.Bad faults.Long)) (ok x) (Err (stops.Bad fault)) (ap (within bytes) (sym is) ∙ e)
        (λ t h. let over : 65536 < length bytes - length x.1 = ltb-true _ _ t in absurd (omega arith))
        (λ f h. absurd cc)
    by_reading (Err stops.Partial) is =
        choose (nat_lt (length bytes) 65536) (Err stops.Partial) (Err (stops.Bad faults.Long)) (Err (stops.Bad fault)) (ap (within bytes) (sym is) ∙ e)
        (λ t h. absurd cc)
        (λ f h.
        let long : 65536 ≤ length bytes = ltb-false _ _ f in
        let short : length text ≤ 65536 = s.short in
        let front = begins bytes more text rest parts (omega arith) in
        let read : any_at bytes ≡ Ok (words, drop (length text) bytes) = ap any_at front ∙ any_again text (drop (length text) bytes) words s in
        absurd cc)
    by_reading (Err stops.Memory) is = let h : Err stops.Memory ≡ Err (stops.Bad fault) = ap (within bytes) (sym is) ∙ e in absurd cc
    by_reading (Err (stops.Bad other)) is = let h = any_firm bytes more other is in absurd (cc reads)
