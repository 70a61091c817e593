-- Steps of reading, and by which way a test went.
use Rattle.std.proofs.Common.{◌≡◌, Bool, true, false, cond, ◌++◌, Result, Ok, Err, refl, ap, ◌∙◌, append_assoc}
use Rattle.mt_resp.specs.{declared.stop.Stop.Stop, Grammar.Bytes, Steps.◌>>=◌}

abbrev pub ok : {A : Type 0} → A → Result A Stop
ok x = Ok x

-- a step gave something
pub bind_ok : {A B : Type 0} (r : Result A Stop) (f : A → Result B Stop) (y : B) → (r >>= f) ≡ Ok y → (x : A) × (r ≡ Ok x) × (f x ≡ Ok y)
bind_ok (Ok x) f y e = (x, refl, e)
bind_ok (Err s) f y e = absurd cc

-- by which way a test went
pub choose : {A : Type 0} {P : Type 0} (b : Bool) (x y z : A) → cond b x y ≡ z → (b ≡ true → x ≡ z → P) → (b ≡ false → y ≡ z → P) → P
choose true x y z e p q = p refl e
choose false x y z e p q = q refl e

pub either_way : {P : Type 0} (b : Bool) → (b ≡ true → P) → (b ≡ false → P) → P
either_way true p q = p refl
either_way false p q = q refl

pub same_ok : {A : Type 0} (x y : A) → ok x ≡ ok y → x ≡ y
same_ok x y e = cc

-- a text that is read whatever follows is read from bytes that begin with it, also if they go on
pub goes_on_by : {A : Type 0} (read : Bytes → Result (A × Bytes) Stop) (bytes text rest more : Bytes) (v : A) → bytes ≡ text ++ rest
    → ((after : Bytes) → read (text ++ after) ≡ Ok (v, after)) → read (bytes ++ more) ≡ Ok (v, rest ++ more)
goes_on_by read bytes text rest more v parts again =
    ap (λ (x : Bytes). read (x ++ more)) parts ∙ ap read (append_assoc text rest more) ∙ again (rest ++ more)
