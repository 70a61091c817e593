-- The first record was taken before the log was read on.
use Rattle.std.proofs.Common.{◌≡◌, ◌++◌, [], ◌∷◌, drop, length, refl, subst, sym, ap, arith, List, Option, Some, None, ◌∙◌}
use Rattle.std.specs.Option.{option_to_list}
use Rattle.mt_rows.specs.declared.record.Record.{Record}
use Rattle.mt_log.specs.Contents.{contents_of}
use Rattle.mt_recover.specs.{Lanes.ReadsOn, Takes.IsWithout, declared.lanes.Lane.Lane}
use Rattle.mt_recover.proofs.records.take_first.Goals as goal

nothing : (rs : List Record) → rs ≡ drop 1 rs → rs ≡ []
nothing [] same = refl
nothing (r ∷ rs) same = absurd (omega (arith, ap length same))

pub returns-clause-on : goal.returns-clause-on
returns-clause-on g c = by c.pop_front-record.result refl
  where
    by : (o : Option Record) → c.pop_front-record.result ≡ o
        → (r : Record) × (mid : Lane) × (c.pop_front-record.result ≡ Some r) × IsWithout r c.args.lane.now mid
        × ReadsOn g.S.Source.logs g.S.Source.follows g.S.Source.left c.args.log c.args.source.now (contents_of c.args.front.now) mid c.fill.new.source (contents_of c.fill.new.front) c.fill.new.lane
    by (Some r) is = (
      r,
      record { read = c.args.lane.now.read; left = c.pop_front-record.new.self },
      is,
      record { read = refl; left = subst (λ (o : Option Record). c.args.lane.now.left.items ≡ option_to_list o ++ c.pop_front-record.new.self.items) is c.pop_front-record.ensures.items },
      c.in_ok-fill.ensures.on,
    )
    by None is = absurd (c.requires.some (nothing c.args.lane.now.left.items
        (subst (λ (o : Option Record). c.args.lane.now.left.items ≡ option_to_list o ++ c.pop_front-record.new.self.items) is c.pop_front-record.ensures.items ∙ c.pop_front-record.ensures.rest)))
