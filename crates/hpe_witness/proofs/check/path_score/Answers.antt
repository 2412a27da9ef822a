use Rattle.std.proofs.Common.{arith, ◌≡◌, ◌+◌, ◌≤◌, ◌<◌, ℕ, List, ℤ, length, take, get_or, Bool, sym, ◌∙◌, ap, ap₂, subst, ◌+ℤ◌, to_z, w32}
use Rattle.std.proofs.lemmas.List.{take_all}
use Rattle.hpe_base.specs.Termination.{terminated}
use Rattle.hpe_base.specs.Sizes.{Within}
use Rattle.hpe_base.specs.Trellis.{walk, ends, IsPath}
use Rattle.hpe_lane.specs.OuterStage.{outer_next}
use Rattle.hpe_trellis.specs.OuterTrellis.{kept_before, outer_edge}
use Rattle.hpe_base.proofs.Trellis.{path-length}
use Rattle.hpe_trellis.proofs.KeptBits.{outer-score-is}
use Rattle.hpe_trellis.proofs.Recursion.{before-mono}
use Rattle.hpe_witness.proofs.EdgeScores.{score_fits, score_is}
use Rattle.hpe_witness.proofs.Paths.{word-path, state-low, score-within, walk-more, ends-more}
use Rattle.hpe_witness.proofs.check.path_score.Goals as goal

pub numbers_at-l-requires-clause-room : goal.numbers_at-l-requires-clause-room
numbers_at-l-requires-clause-room c =
    let n : ℕ = length c.args.u.now + 2 in
    let m : kept_before c.args.columns.now (c.loop-t.t + 1) ≤ kept_before c.args.columns.now n = before-mono c.args.columns.now n (c.loop-t.t + 1) (omega arith) in
    omega (arith, m, c.requires.l)

pub edge_score-score-requires-clause-state : goal.edge_score-score-requires-clause-state
edge_score-score-requires-clause-state c =
    let us : List ℕ = terminated c.args.u.now in
    subst (λ (q : ℕ). q < 4) (sym c.loop-t.invariant.state) (state-low (length c.args.u.now + 2) c.loop-t.t us (omega arith) (word-path c.args.u.now c.requires.bits))

pub overflow_add-score : goal.overflow_add-score
overflow_add-score c =
    let columns : List (List Bool) = c.args.columns.now in
    let n : ℕ = length c.args.u.now + 2 in
    let us : List ℕ = terminated c.args.u.now in
    let cap : kept_before columns n ≤ 15120 = omega (arith, c.requires.l) in
    let small = score-within columns c.args.l.now n c.loop-t.t us c.requires.within cap (omega arith) (word-path c.args.u.now c.requires.bits) in
    score_fits (to_z w32 c.loop-t.score-bits) c.edge_score-score.result (subst (Within 247710960) (sym c.loop-t.invariant.score) small) c.edge_score-score.ensures.size

pub loop-t-preserved : goal.loop-t-preserved
loop-t-preserved c =
    let columns : List (List Bool) = c.args.columns.now in
    let l : List ℤ = c.args.l.now in
    let n : ℕ = length c.args.u.now + 2 in
    let t : ℕ = c.loop-t.t in
    let us : List ℕ = terminated c.args.u.now in
    let path : IsPath 2 n us = word-path c.args.u.now c.requires.bits in
    let cap : kept_before columns n ≤ 15120 = omega (arith, c.requires.l) in
    let small = score-within columns l n t us c.requires.within cap (omega arith) path in
    let s : ℤ = to_z w32 c.loop-t.score-bits in
    let e : ℤ = c.edge_score-score.result in
    let is : e ≡ outer_edge columns l t (ends outer_next 0 (take t us)) (get_or us t 0) =
    c.edge_score-score.ensures.score ∙ c.numbers_at-l.ensures.edge c.loop-t.state c.input_at-input.result ∙ ap₂ (outer_edge columns l t) c.loop-t.invariant.state c.input_at-input.ensures.input in
    record {
      state = ap₂ outer_next c.loop-t.invariant.state c.input_at-input.ensures.input ∙ sym (ends-more (outer_edge columns l) outer_next 2 n us path t c.loop-t-test.true 0);
      score = score_is s e (subst (Within 247710960) (sym c.loop-t.invariant.score) small) c.edge_score-score.ensures.size
          ∙ ap₂ (λ (y z : ℤ). y +ℤ z) c.loop-t.invariant.score is
          ∙ sym (walk-more (outer_edge columns l) outer_next 2 n us path t c.loop-t-test.true 0);
    }

pub returns : goal.returns
returns c =
    let n : ℕ = length c.args.u.now + 2 in
    let us : List ℕ = terminated c.args.u.now in
    let path : IsPath 2 n us = word-path c.args.u.now c.requires.bits in
    let long : length us ≤ c.loop-t.t = omega (arith, path-length 2 n us path) in
    c.loop-t.invariant.score ∙ ap (walk (outer_edge c.args.columns.now c.args.l.now) outer_next 0 0) (take_all c.loop-t.t us long) ∙ sym (outer-score-is c.args.columns.now c.args.l.now n us path)
