use Rattle.std.proofs.Common.{ap, sym, arith}
use Rattle.hpe_find.specs.Found.{found_of}
use Rattle.hpe_base.proofs.MarkerSearch.{offset_of-short, offset_of-dark, offset_of-at}
use Rattle.hpe_base.proofs.ParameterLemmas.{period_is, period-pos}
use Rattle.hpe_find.proofs.finder.offset_found.Goals as goal

pub returns-then-counts-geometry : goal.returns-then-counts-geometry
returns-then-counts-geometry c =
    let period = period_is c.geometry.result c.args.p.now c.geometry.ensures.value in
    ap found_of (sym (offset_of-short c.args.p.now c.args.counts.now (omega (arith, period))))

pub returns-then-best-eq0 : goal.returns-then-best-eq0
returns-then-best-eq0 c =
    let period = period_is c.geometry.result c.args.p.now c.geometry.ensures.value in
    let leads = c.best_offset-best.ensures in
    let value = leads.value (period-pos c.args.p.now c.geometry.ensures.valid) in
    ap found_of (sym (offset_of-dark c.args.p.now c.args.counts.now _ _ (omega (arith, period)) leads.place value (omega arith)))

pub returns : goal.returns
returns c =
    let period = period_is c.geometry.result c.args.p.now c.geometry.ensures.value in
    let leads = c.best_offset-best.ensures in
    let value = leads.value (period-pos c.args.p.now c.geometry.ensures.valid) in
    ap found_of (sym (offset_of-at c.args.p.now c.args.counts.now _ _ (omega (arith, period)) leads.place value (omega arith)))
