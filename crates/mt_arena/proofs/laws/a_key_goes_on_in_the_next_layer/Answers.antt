use Rattle.mt_border.proofs.Edits.{any_entry}
use Rattle.mt_arena.proofs.{Steps.keys_of, NextLayer.{may_make, has_below}}
use Rattle.mt_arena.proofs.laws.a_key_goes_on_in_the_next_layer.Goals as goal

pub returns : goal.returns
returns c = record {
  key = λ v node i arena there inside. (keys_of v.nodes v.trees node there arena.forest).keys i any_entry inside;
  below =
      λ v node i op pair key row stamp arena may has. (may_make v node i op pair key row stamp arena may has, has_below v node i op pair key row stamp arena may has);
}
