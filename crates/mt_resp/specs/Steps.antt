-- Steps of reading: each gives something or stops.
use Rattle.std.specs.Prelude.{◌≡◌, Result, Ok, Err}
use Rattle.mt_resp.specs.declared.stop.Stop.{Stop}
use Rattle.mt_resp.specs.declared.stop.Stop.TheVariants as stops

-- a step and, if it gives something, the next
infixl 10 ◌>>=◌
abbrev pub ◌>>=◌ : {A B : Type 0} → Result A Stop → (A → Result B Stop) → Result B Stop
(Ok x) >>= f = f x
(Err e) >>= f = Err e

-- why reading gives nothing, unless memory ran out
abbrev pub Fails : {Y : Type 0} → Stop → Result Y Stop → Type 0
Fails stops.Memory read = Unit {0}
Fails stops.Partial read = read ≡ Err stops.Partial
Fails (stops.Bad fault) read = read ≡ Err (stops.Bad fault)

-- what a function returned, seen by view, is what reading gives, unless memory ran out
abbrev pub Gives : {X Y : Type 0} → (X → Y) → Result X Stop → Result Y Stop → Type 0
Gives view (Ok x) read = read ≡ Ok (view x)
Gives view (Err e) read = Fails e read
