-- Turns of all logs, put together, and the least of what they told; for `settle` and the laws.
use Rattle.std.proofs.Common.{◌≡◌, ◌∙◌, ℕ, zero, suc, ◌+◌, ◌<◌, ◌≤◌, ◌⊎◌, inl, inr, min, List, [], ◌∷◌, ◌++◌, length, slice_index_or, Ok, Err, refl, sym, ap, subst, arith}
use Rattle.std.proofs.{Math.Nat.{min-le_left, min-le_right, min-eq_left, min_comm}, lemmas.List.length-append}
use Rattle.std.proofs.lemmas.List.Elements.{All-append, All-cons, All-nil, All-weaker, Contains-append_left, Contains-append_right}
use Rattle.std.specs.List.{All, Contains}
use Rattle.mt_rows.specs.declared.refusal.Refusal.{Refusal}
use Rattle.mt_settle.specs.{Turns.{Turn, BroughtUp, Chain}, Settles.{turns_from, IsLeast, Settles}}

-- the least of one number, and of one more
pub least_one : (m : ℕ) → IsLeast m (m ∷ [])
least_one m = record { among = (0, omega arith, refl); least = All-cons (λ x. m ≤ x) m [] (omega arith) (All-nil (λ x. m ≤ x)) }

either_less : (a b : ℕ) → (a ≤ b) ⊎ (b ≤ a)
either_less zero b = inl (omega arith)
either_less (suc a) zero = inr (omega arith)
either_less (suc a) (suc b) = elim (either_less a b) [ inl e ↦ inl (omega (arith, e)) | inr e ↦ inr (omega (arith, e)) ]

pub least_more : (n m : ℕ) (ms : List ℕ) → IsLeast n ms → IsLeast (min n m) (ms ++ m ∷ [])
least_more n m ms h = record {
  among = elim (either_less n m) [
    | inl less ↦ subst (Contains (ms ++ m ∷ [])) (sym (min-eq_left less)) (Contains-append_left ms (m ∷ []) n h.among)
    | inr less ↦ subst (Contains (ms ++ m ∷ [])) (sym (min_comm n m ∙ min-eq_left less)) (Contains-append_right ms (m ∷ []) m (0, omega arith, refl))
  ];
  least = All-append (λ x. min n m ≤ x) ms (m ∷ []) (All-weaker (λ x. n ≤ x) (λ x. min n m ≤ x) (λ x e. omega (arith, e, min-le_left n m)) ms h.least)
      (All-cons (λ x. min n m ≤ x) m [] (min-le_right n m) (All-nil (λ x. min n m ≤ x)));
}

-- the turns with one more
pub turns_more : (log m : ℕ) (ms : List ℕ) → turns_from log (ms ++ m ∷ []) ≡ turns_from log ms ++ BroughtUp (log + length ms) (Ok m) ∷ []
turns_more log m [] = ap (λ (k : ℕ). BroughtUp k (Ok m) ∷ []) (omega arith)
turns_more log m (x ∷ ms) =
    ap (λ (ts : List Turn). BroughtUp log (Ok x) ∷ ts) (turns_more (log + 1) m ms ∙ ap (λ (k : ℕ). turns_from (log + 1) ms ++ BroughtUp k (Ok m) ∷ []) (omega arith))

module _ {S : Type 0} (does : S → Turn → S → Type 0) where
  -- two chains in a row are one
  pub chain_append : (old mid new : S) (ts us : List Turn) → Chain does old ts mid → Chain does mid us new → Chain does old (ts ++ us) new
  chain_append old mid new [] us a b = subst (λ s. Chain does s us new) a b
  chain_append old mid new (t ∷ ts) us (s, d, rest) b = (s, d, chain_append s mid new ts us rest b)

  -- so many logs were brought up to date, and this is the least that they told
  pub record Sofar (old now : S) (count least : ℕ) : Type 0 where
    pub marks : List ℕ
    pub all : length marks ≡ count
    pub turns : Chain does old (turns_from 0 marks) now
    pub least_is : IsLeast least marks

  pub one_log : (old now : S) (mark : ℕ) → does old (BroughtUp 0 (Ok mark)) now → Sofar old now 1 mark
  one_log old now mark d = record { marks = mark ∷ []; all = refl; turns = (now, d, refl); least_is = least_one mark }

  pub one_log_more : (old mid now : S) (log least mark : ℕ) → Sofar old mid log least → does mid (BroughtUp log (Ok mark)) now → Sofar old now (log + 1) (min least mark)
  one_log_more old mid now log least mark s d = record {
    marks = s.marks ++ mark ∷ [];
    all = length-append s.marks (mark ∷ []) ∙ omega (arith, s.all);
    turns = subst (λ ts. Chain does old ts now) (sym (turns_more 0 mark s.marks)) (chain_append old mid now (turns_from 0 s.marks) (BroughtUp (0 + length s.marks) (Ok mark) ∷ []) s.turns
        (now, subst (λ (k : ℕ). does mid (BroughtUp k (Ok mark)) now) (omega (arith, s.all)) d, refl));
    least_is = least_more least mark s.marks s.least_is;
  }

  -- a log behind them was not
  pub stops : (old mid now : S) (count log least : ℕ) (refusal : Refusal) → log < count → Sofar old mid log least → does mid (BroughtUp log (Err refusal)) now → Settles does count old now (Err refusal)
  stops old mid now count log least refusal less s d = inr (record {
    marks = s.marks;
    before = omega (arith, s.all, less);
    turns = chain_append old mid now (turns_from 0 s.marks) (BroughtUp (length s.marks) (Err refusal) ∷ []) s.turns
        (now, subst (λ (k : ℕ). does mid (BroughtUp k (Err refusal)) now) (sym s.all) d, refl);
  })

  -- a number that none of the turns undoes is at most what each of them told, if it is at most what a log tells that it had reached before
  early : (steps : S → ℕ) → ((s t : S) (turn : Turn) → does s turn t → steps s ≤ steps t) → ((s t : S) (log mark : ℕ) → does s (BroughtUp log (Ok mark)) t → steps s ≤ mark)
      → (old new : S) (log : ℕ) (marks : List ℕ) → Chain does old (turns_from log marks) new → All (λ m. steps old ≤ m) marks
  early steps up tells old new log [] chain = All-nil (λ m. steps old ≤ m)
  early steps up tells old new log (m ∷ ms) (mid, d, rest) =
      let less = up old mid (BroughtUp log (Ok m)) d in
      All-cons (λ m. steps old ≤ m) m ms (tells old mid log m d) (All-weaker (λ m. steps mid ≤ m) (λ m. steps old ≤ m) (λ m e. omega (arith, less, e)) ms (early steps up tells mid new (log + 1) ms rest))

  pub not_early : (steps : S → ℕ) (count n : ℕ) (old new : S) → ((s t : S) (turn : Turn) → does s turn t → steps s ≤ steps t)
      → ((s t : S) (log mark : ℕ) → does s (BroughtUp log (Ok mark)) t → steps s ≤ mark) → Settles does count old new (Ok n) → steps old ≤ n
  not_early steps count n old new up tells s =
      let k = s.least.among.0 in
      subst (λ (m : ℕ). steps old ≤ m) s.least.among.2 (early steps up tells old new 0 s.marks s.turns k n s.least.among.1)

  module _ (reach : S → ℕ → ℕ) (up : (s t : S) (turn mark k : ℕ) → does s (BroughtUp turn (Ok mark)) t → reach s k ≤ reach t k)
      (tells : (s t : S) (turn mark : ℕ) → does s (BroughtUp turn (Ok mark)) t → mark ≤ reach t turn) where
    keeps : (old new : S) (log k : ℕ) (marks : List ℕ) → Chain does old (turns_from log marks) new → reach old k ≤ reach new k
    keeps old new log k [] chain = rw chain (omega arith)
    keeps old new log k (m ∷ ms) (mid, d, rest) = omega (arith, up old mid log m k d, keeps mid new (log + 1) k ms rest)

    reached : (old new : S) (log k : ℕ) (d : ℕ) (marks : List ℕ) → Chain does old (turns_from log marks) new → k < length marks → slice_index_or marks k d ≤ reach new (log + k)
    reached old new log k d [] chain less = absurd (omega (arith, less))
    reached old new log zero d (m ∷ ms) (mid, does, rest) less =
        let there : m ≤ reach new log = omega (arith, tells old mid log m does, keeps mid new (log + 1) log ms rest) in
        subst (λ (at : ℕ). m ≤ reach new at) (omega arith) there
    reached old new log (suc k) d (m ∷ ms) (mid, does, rest) less =
        subst (λ (at : ℕ). slice_index_or ms k d ≤ reach new at) (omega arith) (reached mid new (log + 1) k d ms rest (omega (arith, less)))

    pub is_reached : (count n log : ℕ) (old new : S) → Settles does count old new (Ok n) → log < count → n ≤ reach new log
    is_reached count n log old new s less =
        let within : log < length s.marks = omega (arith, s.all, less) in
        let there : slice_index_or s.marks log 0 ≤ reach new log = subst (λ (at : ℕ). slice_index_or s.marks log 0 ≤ reach new at) (omega arith) (reached old new 0 log 0 s.marks s.turns within) in
        omega (arith, s.least.least log 0 within, there)
