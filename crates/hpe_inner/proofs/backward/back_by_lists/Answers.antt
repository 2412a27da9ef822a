use Rattle.std.proofs.Common.{sym, ◌∙◌, length, refl}
use Rattle.hpe_inner.proofs.ForwardRow.{eight_at_most, as_many}
use Rattle.hpe_inner.proofs.backward.back_by_lists.Goals as goal

pub slice_bounds-from0-end : goal.slice_bounds-from0-end
slice_bounds-from0-end g c = eight_at_most (length c.args.stage.l.now) (length c.args.stage.counts.now) c.requires.few c.requires.stage.long

pub slice_bounds-back_with-end : goal.slice_bounds-back_with-end
slice_bounds-back_with-end g c = sym (as_many (length c.args.stage.l.now) (length c.args.stage.counts.now) _ c.requires.few c.requires.stage.long refl)

pub slice_bounds-from1-end : goal.slice_bounds-from1-end
slice_bounds-from1-end g c = eight_at_most (length c.args.stage.l.now) (length c.args.stage.counts.now) c.requires.few c.requires.stage.long

pub slice_bounds-back_with-end-2 : goal.slice_bounds-back_with-end-2
slice_bounds-back_with-end-2 g c = sym (as_many (length c.args.stage.l.now) (length c.args.stage.counts.now) _ c.requires.few c.requires.stage.long refl)

pub back_with-requires-clause-from0 : goal.back_with-requires-clause-from0
back_with-requires-clause-from0 g c = as_many (length c.args.stage.l.now) (length c.args.stage.counts.now) _ c.requires.few c.requires.stage.long refl ∙ c.requires.stage.long

pub back_with-requires-clause-from1 : goal.back_with-requires-clause-from1
back_with-requires-clause-from1 g c = as_many (length c.args.stage.l.now) (length c.args.stage.counts.now) _ c.requires.few c.requires.stage.long refl ∙ c.requires.stage.long
