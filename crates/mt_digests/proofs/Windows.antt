-- A file read a window at a time.
use Rattle.std.proofs.Common.{◌≡◌, ℕ, ◌+◌, ◌-◌, ◌≤◌, List, ◌++◌, length, take, drop, sym, ◌∙◌, ap, arith}
use Rattle.std.proofs.lemmas.List.{length-take, length-drop, take_all, take-append-le, drop-drop, take-append-drop, drop-take, take-take}
use Rattle.mt_disk.specs.Disk.{Reads}

-- what stands before a place, and a window from there on
pub window_more : (image : List ℕ) (place count : ℕ) → 1 ≤ place
    → take (place - 1) (drop 1 image) ++ take count (drop place image) ≡ take (place + count - 1) (drop 1 image)
window_more image place count from =
    let text = drop 1 image in
    let n = place - 1 in
    let here : drop n text ≡ drop place image = drop-drop n 1 image ∙ ap (λ k. drop k image) (omega (arith, from)) in
    let whole = take-append-drop n (take (n + count) text) in
    ap (λ (l : List ℕ). take n text ++ take count l) (sym here)
    ∙ ap (λ (l : List ℕ). take n text ++ l) (sym (drop-take n count text))
    ∙ ap (λ (l : List ℕ). l ++ drop n (take (n + count) text)) (sym (take-take n (n + count) text (omega arith)))
    ∙ whole ∙ ap (λ k. take k text) (omega (arith, from))

-- a window's front, which a read fills
pub window_read : (window image out : List ℕ) (place count : ℕ) → count ≤ length window → Reads place image (take count window) out
    → take count (out ++ drop count window) ≡ take count (drop place image)
window_read window image out place count le read =
    let size : length (take count window) ≡ count = omega (arith, le, length-take count window) in
    let is : out ≡ take count (drop place image) = read.bytes ∙ ap (λ k. take k (drop place image)) size in
    let within : place + count ≤ length image = omega (arith, read.within, size) in
    let long : length out ≡ count = omega (arith, ap length is, within, length-take count (drop place image), length-drop place image) in
    take-append-le count out (drop count window) (omega (arith, long)) ∙ take_all count out (omega (arith, long)) ∙ is
