-- Pairs with stamps are spelled as those that are shown: for `write_told`.
use Rattle.std.proofs.Common.{◌≡◌, List, ◌∷◌, ◌++◌, ℕ, Option, Result, map, length, sym, subst}
use Rattle.std.proofs.lemmas.{List.length-map, List.Folds.flat_map-map}
use Rattle.std.specs.{List.flat_map, Int.{w32, to_be_bytes}}
use Rattle.mt_rows.specs.{Rows.{Bytes, Columns}, Stamps.{Stamped, unstamped}}
use Rattle.mt_streams.specs.Buffering.{Puts}
use Rattle.mt_wire.specs.{declared.message.Shown.TheVariants.Pairs, declared.message.WireReply.TheVariants.Told}
use Rattle.mt_wire.specs.Replies.{shown_pair, shown_stamped, reply_spelling}

-- the count and the pairs
pairs_text : (ps : List (Bytes × Stamped)) (shown : List (Bytes × Columns)) → map unstamped ps ≡ shown
    → ◌≡◌ {A = Bytes} (length ps ∷ flat_map shown_stamped ps) (length shown ∷ flat_map shown_pair shown)
pairs_text ps shown is =
    subst (λ qs. ◌≡◌ {A = Bytes} (length ps ∷ flat_map shown_stamped ps) (length qs ∷ flat_map shown_pair qs)) is
    (λ i. sym (length-map ps unstamped) i ∷ sym (flat_map-map shown_pair unstamped ps) i)

-- who puts them puts the reply
pub pairs_put : {U E : Type 0} (a b : Option (List ℕ)) (i j : Option ℕ) (k l : List ℕ) (r : Result U E) (ps : List (Bytes × Stamped)) (shown : List (Bytes × Columns)) → map unstamped ps ≡ shown
    → Puts a b i j k l (to_be_bytes w32 (length (6 ∷ length ps ∷ flat_map shown_stamped ps)) ++ 6 ∷ length ps ∷ flat_map shown_stamped ps) r
    → Puts a b i j k l (reply_spelling (Told (Pairs shown))) r
pairs_put a b i j k l r ps shown is = subst (λ (t : List ℕ). Puts a b i j k l (to_be_bytes w32 (length (6 ∷ t)) ++ 6 ∷ t) r) (pairs_text ps shown is)
