-- the next pair may be put, since its key is missing and its tenant has room; and then one more was put
use Rattle.std.proofs.{Common.{[], ◌∷◌, ◌++◌, sym, ap, ◌∙◌}, lemmas.List.{nil_from_length, append_assoc}}
use Rattle.mt_state.specs.Views.{shown}
use Rattle.mt_core.proofs.Filling.{none_put, may_put, has_more, all_put}
use Rattle.mt_core.proofs.restore.put_all.Goals as goal

pub loop-pair-init : goal.loop-pair-init
loop-pair-init c = record {
  put = none_put (shown c.args.inner.now) c.new-stamps.result c.requires.idle c.requires.fresh;
  left = sym c.into_iter-pair-iterator.ensures.into_iter_gives.0;
}

pub put_alone-requires-clause-pair : goal.put_alone-requires-clause-pair
put_alone-requires-clause-pair c =
    may_put c.args.pairs.items c.requires.distinct c.loop-pair.yielded c.in-Some.pair c.next.new.self.rest.items
    (c.loop-pair.invariant.left ∙ ap (λ ps. c.loop-pair.yielded ++ ps) c.in-Some.ensures.steps.0)
    (shown c.args.inner.now) (shown c.loop-pair.inner) c.loop-pair.stamps c.loop-pair.invariant.put c.requires.limits c.requires.tenants c.requires.quotas

pub loop-pair-preserved : goal.loop-pair-preserved
loop-pair-preserved c =
    let left = c.loop-pair.invariant.left ∙ ap (λ ps. c.loop-pair.yielded ++ ps) c.in-Some.ensures.steps.0 in
    record {
      put =
          has_more c.args.pairs.items c.requires.distinct c.loop-pair.yielded c.in-Some.pair c.next.new.self.rest.items left (shown c.args.inner.now) (shown c.loop-pair.inner)
          c.loop-pair.stamps c.loop-pair.invariant.put (shown c.put_alone.new.inner) c.in_ok-over.over.number c.insert.new.self c.in_ok-over.ensures c.in_ok-insert.ensures.updates;
      left = left ∙ sym (append_assoc c.loop-pair.yielded (c.in-Some.pair ∷ []) c.next.new.self.rest.items);
    }

pub returns : goal.returns
returns c =
    all_put c.args.pairs.items (shown c.args.inner.now) (shown c.loop-pair.inner) c.loop-pair.stamps c.loop-pair.yielded
    (c.loop-pair.invariant.left
    ∙ ap (λ ps. c.loop-pair.yielded ++ ps) (nil_from_length c.loop-pair.pair-iterator.rest.items (sym c.loop-pair.pair-iterator.rest.ok.0 ∙ c.in-None.ensures.steps.0)))
    c.loop-pair.invariant.put
