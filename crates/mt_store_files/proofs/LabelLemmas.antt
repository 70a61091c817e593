-- What the header of a numbered file names.
use Rattle.std.proofs.Common.{◌≡◌, ◌∙◌, ℕ, List, take, drop, sym, ap, arith}
use Rattle.std.proofs.lemmas.List.{take-take}
use Rattle.mt_log_generations.specs.{declared.header.Header.Header, Headers.header_bytes}
use Rattle.mt_store_files.specs.Labels.{IsLabelText}

-- a header after the gate names its worker and its number of logs
pub label_after_gate : (image bytes : List ℕ) (h : Header) → bytes ≡ take 24 (drop 1 image) → bytes ≡ header_bytes h → IsLabelText (record { worker = h.worker; logs = h.logs }) (take 8 (drop 1 image))
label_after_gate image bytes h read is =
    let short : take 8 (drop 1 image) ≡ take 8 bytes = sym (take-take 8 24 (drop 1 image) (omega arith)) ∙ ap (λ (xs : List ℕ). take 8 xs) (sym read) in
    (3, short ∙ ap (λ (xs : List ℕ). take 8 xs) is)
