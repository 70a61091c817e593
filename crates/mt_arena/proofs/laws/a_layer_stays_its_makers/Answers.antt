use Rattle.mt_arena.proofs.LayerStays.{slot_stays, whole_stays, whole_begun, whole_rewritten}
use Rattle.mt_arena.proofs.laws.a_layer_stays_its_makers.Goals as goal

pub returns : goal.returns
returns c = record {
  slot = λ op maker old new node i what alive step other slot. slot_stays op maker old new step other node i what slot alive;
  layer = λ op maker old new node i t what key row alive step other whole. whole_stays op maker old new step other node i t what key row alive whole;
  made = λ v node i op least what key e pair arena listed forgotten slot has below is. whole_begun v node i op least what key e pair arena listed forgotten slot has below is;
  held = λ v node i t op what held key row arena whole goes_on. whole_rewritten v node i t op what held key row arena whole goes_on;
}
