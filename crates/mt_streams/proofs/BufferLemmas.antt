-- Texts that are put into a buffer, one after the other: for whoever spells a text in parts.
use Rattle.std.proofs.Common.{◌≡◌, ◌≤◌, ℕ, List, [], ◌++◌, length, Option, Result, Ok, Err, OnOk, OnErr, sym, ap, subst, ◌∙◌, append_assoc, append-nil, arith}
use Rattle.std.specs.Io.KnownBytes.{Appends}
use Rattle.mt_streams.specs.{Failures.{NoFewer, Failed}, Buffering.{WritesFront, Buffers, Puts}}
use Rattle.mt_streams.proofs.{StreamLemmas.{Appends-nil, Appends-trans}, FailureLemmas.{NoFewer-refl, NoFewer-trans, then-Failed}}

-- nothing was put
pub Buffers-nil : (a : Option (List ℕ)) (k : List ℕ) → Buffers a a k k []
Buffers-nil a k = ([], Appends-nil a, append-nil k, λ h. h)

-- two parts of a text, as the buffer's fronts part it
parts : (k s t f l g m : List ℕ) → k ++ s ≡ f ++ l → l ++ t ≡ g ++ m → k ++ (s ++ t) ≡ (f ++ g) ++ m
parts k s t f l g m e h = sym (append_assoc k s t) ∙ ap (λ x. x ++ t) e ∙ append_assoc f l t ∙ ap (λ x. f ++ x) h ∙ sym (append_assoc f g m)

-- two texts were put
pub Buffers-trans : (a b c : Option (List ℕ)) (k l m s t : List ℕ) → Buffers a b k l s → Buffers b c l m t → Buffers a c k m (s ++ t)
Buffers-trans a b c k l m s t (f, p, e, w) (g, q, h, v) = (f ++ g, Appends-trans a b c f g p q, parts k s t f l g m e h, λ i. v (w i))

-- a text was put, and then a front was written of what the buffer kept and of another
pub Buffers-lost : (a b c : Option (List ℕ)) (k l s t : List ℕ) → Buffers a b k l s → WritesFront b c (l ++ t) → WritesFront a c (k ++ (s ++ t))
Buffers-lost a b c k l s t (f, p, e, w) (g, lost, h, q) = (f ++ g, lost, parts k s t f l g lost e h, Appends-trans a b c f g p q)

-- a front of a text is one of a longer text
pub WritesFront-more : (a b : Option (List ℕ)) (s t : List ℕ) → WritesFront a b s → WritesFront a b (s ++ t)
WritesFront-more a b s t (f, lost, e, p) = (f, lost ++ t, ap (λ x. x ++ t) e ∙ append_assoc f lost t, p)

-- where the writer failed in a text, a front was written of that and of another
pub stops : (a b : Option (List ℕ)) (i j : Option ℕ) (k s t : List ℕ) → WritesFront a b (k ++ s) × Failed i j → WritesFront a b (k ++ (s ++ t)) × Failed i j
stops a b i j k s t p = (subst (WritesFront a b) (append_assoc k s t) (WritesFront-more a b (k ++ s) t p.0), p.1)

-- a text was put, and another after it, or the writer failed in that
pub Puts-trans : {V E : Type 0} (a b c : Option (List ℕ)) (i j n : Option ℕ) (k l m s t : List ℕ) (r : Result V E)
    → Buffers a b k l s → NoFewer i j → Puts b c j n l m t r → Puts a c i n k m (s ++ t) r
Puts-trans a b c i j n k l m s t (Ok u) p q h = (Buffers-trans a b c k l m s t p h.0, NoFewer-trans i j n q h.1)
Puts-trans a b c i j n k l m s t (Err e) p q h = (Buffers-lost a b c k l s t p h.0, then-Failed i j n q h.1)

-- what the buffer kept was written, and then a text, or the writer failed in that
pub straight : {U E : Type 0} (a b c : Option (List ℕ)) (i j n : Option ℕ) (k l t : List ℕ) (r : Result U E)
    → Appends a b k → l ≡ [] → NoFewer i j → OnOk r (Appends b c t) → OnErr r (WritesFront b c t) → NoFewer j n → OnErr r (Failed j n) → Puts a c i n k l t r
straight a b c i j n k l t (Ok u) p e q ok err h cause =
    ((k ++ t, Appends-trans a b c k t p ok, sym (ap (λ x. (k ++ t) ++ x) e ∙ append-nil (k ++ t)), λ h. subst (λ (x : List ℕ). length x ≤ 65536) (sym e) (omega arith)), NoFewer-trans i j n q h)
straight a b c i j n k l t (Err fault) p e q ok (front, lost, split, some) h cause =
    ((k ++ front, lost, ap (λ x. k ++ x) split ∙ sym (append_assoc k front lost), Appends-trans a b c k front p some), then-Failed i j n q cause)
