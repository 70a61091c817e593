-- The header of format 3 after an open gate, in bytes of any length.
use Rattle.std.proofs.Common.{◌≡◌, inl, inr, ℕ, ◌-◌, ◌≤◌, [], ◌∷◌, ◌++◌, length, take, drop, get_or, Result, IfOk, IfErr, sym, ◌∙◌, ap, arith}
use Rattle.std.proofs.{lemmas.List.{take-append-drop, take_all}, lemmas.Result.{IfOk-weaker, IfErr-weaker}}
use Rattle.mt_rows.specs.Rows.{Bytes}
use Rattle.mt_log_generations.specs.{declared.header.Header.Header, declared.fault.HeaderFault.HeaderFault, Headers.{header_bytes}}
use Rattle.mt_log_generations.specs.Reading.{IsHeaderIn, AreBad}
use Rattle.mt_log.specs.Stops.{IsNoHeader}
use Rattle.mt_log_generations.specs.declared.fault.HeaderFault.TheVariants as headers

by_gate : (bytes : Bytes) → 1 ≤ length bytes → get_or bytes 0 0 ≡ 1 → bytes ≡ 1 ∷ drop 1 bytes
by_gate [] some is = absurd (omega (arith, some))
by_gate (x ∷ bytes) some is = ap (λ (n : ℕ). n ∷ bytes) is

-- 24 bytes after the gate, and what follows them
parts : (bytes spelled : Bytes) → bytes ≡ 1 ∷ drop 1 bytes → spelled ≡ take 24 (drop 1 bytes) → bytes ≡ 1 ∷ (spelled ++ drop 25 bytes)
parts bytes spelled opened is =
    let rest : drop 24 (drop 1 bytes) ≡ drop 25 bytes = sym (ap (drop 25) opened) in
    opened ∙ ap (λ (l : Bytes). 1 ∷ l) (sym (take-append-drop 24 (drop 1 bytes)) ∙ ap (λ (l : Bytes). take 24 (drop 1 bytes) ++ l) rest ∙ ap (λ (l : Bytes). l ++ drop 25 bytes) (sym is))

module _ (bytes spelled : Bytes) (opened : bytes ≡ 1 ∷ drop 1 bytes) (is : spelled ≡ take 24 (drop 1 bytes)) where
  whole : (h : Header) → IsHeaderIn spelled h → bytes ≡ 1 ∷ (header_bytes h ++ drop 25 bytes)
  whole h header = parts bytes spelled opened is ∙ ap (λ (l : Bytes). 1 ∷ (l ++ drop 25 bytes)) header.whole

  bad : (e : HeaderFault) → AreBad spelled e → IsNoHeader bytes e
  bad headers.Device wrong = wrong
  bad (headers.Bad number) (inl none) = inl (λ h more fits e. none.0 h fits (is ∙ ap (λ (l : Bytes). take 24 (drop 1 l)) e), none.1)
  bad (headers.Bad number) (inr past) = inr (record {
    header = past.header;
    more = drop 25 bytes;
    fits = past.fits;
    whole = parts bytes spelled opened is ∙ ap (λ (l : Bytes). 1 ∷ (l ++ drop 25 bytes)) past.whole;
    wrong = past.wrong;
    named = past.named;
  })

  pub header_whole : (r : Result Header HeaderFault) → IfOk r (IsHeaderIn spelled) → IfOk r (λ h. bytes ≡ 1 ∷ (header_bytes h ++ drop 25 bytes))
  header_whole r ok = IfOk-weaker r (IsHeaderIn spelled) (λ h. bytes ≡ 1 ∷ (header_bytes h ++ drop 25 bytes)) whole ok

  pub header_bad : (r : Result Header HeaderFault) → IfErr r (AreBad spelled) → IfErr r (IsNoHeader bytes)
  header_bad r err = IfErr-weaker r (AreBad spelled) (IsNoHeader bytes) bad err

-- a slice pattern's rest is all but the first byte
pub after_gate : (bytes : Bytes) → 1 ≤ length bytes → get_or bytes 0 0 ≡ 1 → bytes ≡ 1 ∷ drop 1 bytes
after_gate bytes some is = by_gate bytes some is

pub rest_of : (bytes spelled : Bytes) → 1 ≤ length bytes → spelled ≡ take 24 (take (length bytes - 1) (drop 1 bytes)) → spelled ≡ take 24 (drop 1 bytes)
rest_of [] spelled some is = absurd (omega (arith, some))
rest_of (x ∷ bytes) spelled some is = is ∙ ap (take 24) (take_all (length (x ∷ bytes) - 1) bytes (omega arith))
