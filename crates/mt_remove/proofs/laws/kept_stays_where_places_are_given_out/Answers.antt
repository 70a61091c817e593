-- What a removal keeps where places are given out, for the law of it.
use Rattle.mt_remove.proofs.Given.{drop_key_given, removal_given, cleaning_given, removal_holds_given}
use Rattle.mt_remove.proofs.laws.kept_stays_where_places_are_given_out.Goals as goal

pub returns : goal.returns
returns c = record {
  drops = λ o old new task prepared w g h. drop_key_given o old new g task prepared w h;
  kept = λ o old new key w r phase g h. removal_given o old new g key w r phase h;
  cleans = λ old new key r g trees h. cleaning_given old new key r g trees h;
  holds = removal_holds_given;
}
