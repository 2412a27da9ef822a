use Rattle.std.proofs.Common.{arith, ◌≡◌, ◌≤◌, ◌<◌, ◌+◌, ℕ, List, ℤ, pos, Bool, length, get_or, sym, subst, ap, ◌∙◌}
use Rattle.hpe_base.specs.PathScores.{outer_score}
use Rattle.hpe_base.specs.Sizes.{AllWithin}
use Rattle.hpe_base.specs.ConvolutionalCode.{code_bits}
use Rattle.hpe_lane.proofs.OuterFits.{kept_z}
use Rattle.hpe_trellis.specs.OuterTrellis.{kept_before}
use Rattle.hpe_trellis.proofs.KeptBits.{kept_total}
use Rattle.hpe_witness.specs.BestWord.{IsBest, best_word}
use Rattle.hpe_witness.specs.PathMetrics.{path_metric, metric_rows, survivor_at, traced}
use Rattle.hpe_witness.specs.Potentials.{potential, IsRising}
use Rattle.hpe_witness.proofs.EdgeScores.{potential_is}
use Rattle.hpe_witness.proofs.BestWord.{best-only, best_word-best}
use Rattle.hpe_witness.proofs.BestPath.{path_metric-first, way-is-best}
use Rattle.hpe_witness.proofs.MetricRows.{potential-is, rows-within, rows-rise}
use Rattle.hpe_witness.proofs.best.best_path.Goals as goal

-- what the calls gave, over plain lists
record Found (columns : List (List Bool)) (l : List ℤ) (n : ℕ) (u : List ℕ) (rows : List (List ℤ)) : Type 0 where
  within : AllWithin 16383 l
  cap : kept_before columns (n + 2) ≤ 15120
  long : length u ≡ n
  rows_are : rows ≡ metric_rows columns l (n + 2)
  bits_are : (j : ℕ) → j < n → get_or u j 0 ≡ get_or (traced (survivor_at columns l) (n + 2) 0) j 0

module _ (columns : List (List Bool)) (l : List ℤ) (n : ℕ) (u : List ℕ) (rows : List (List ℤ)) (f : Found columns l n u rows) where
  best : IsBest columns l n u × (outer_score columns l u ≡ path_metric columns l (n + 2) 0)
  best = way-is-best columns l f.within n f.cap u f.long f.bits_are

  word : u ≡ best_word columns l n
  word = best-only columns l n u (best_word columns l n) best.0 (best_word-best columns l n)

  last : potential rows (n + 2) 0 ≡ path_metric columns l (n + 2) 0
  last = potential-is columns l (n + 2) rows f.rows_are (n + 2) 0 (omega arith) (omega arith)

  score : kept_z (potential rows (n + 2) 0) ≡ outer_score columns l u
  score = potential_is (potential rows (n + 2) 0) (rows-within columns l (n + 2) rows f.rows_are f.within f.cap (n + 2) 0) ∙ last ∙ sym best.1

  accepted : (potential rows 0 0 ≡ pos 0) × IsRising columns l (length u + 2) rows × (outer_score columns l u ≡ potential rows (length u + 2) 0) × (kept_z (potential rows (n + 2) 0) ≡ outer_score columns l u)
  accepted = (
    potential-is columns l (n + 2) rows f.rows_are 0 0 (omega arith) (omega arith) ∙ path_metric-first columns l 0,
    subst (λ (k : ℕ). IsRising columns l (k + 2) rows) (sym f.long) (rows-rise columns l (n + 2) rows f.rows_are),
    best.1 ∙ sym last ∙ ap (λ (k : ℕ). potential rows (k + 2) 0) (sym f.long),
    score,
  )

cap_of : (columns : List (List Bool)) (n : ℕ) (l : List ℤ) → ((v : List ℕ) → length v ≡ n + 2 → length l ≡ length (code_bits columns v)) → length l ≤ 15120 → kept_before columns (n + 2) ≤ 15120
cap_of columns n l h k = let e = kept_total columns (n + 2) (length l) h in omega arith

pub metric_rows-requires-clause-l : goal.metric_rows-requires-clause-l
metric_rows-requires-clause-l c = kept_total c.args.columns.now (length c.args.u.now + 2) (length c.args.l.now) c.requires.l

pub trace_back-requires-clause-l : goal.trace_back-requires-clause-l
trace_back-requires-clause-l c = kept_total c.args.columns.now (length c.args.u.now + 2) (length c.args.l.now) c.requires.l

pub returns-clause-word : goal.returns-clause-word
returns-clause-word c =
    let n : ℕ = length c.args.u.now in
    word c.args.columns.now c.args.l.now n c.trace_back.new.u c.metric_rows.new.rows
    (record { within = c.requires.within; cap = cap_of c.args.columns.now n c.args.l.now c.requires.l c.requires.short; long = omega arith; rows_are = c.metric_rows.ensures; bits_are = c.trace_back.ensures })

pub returns-clause-best : goal.returns-clause-best
returns-clause-best c =
    let n : ℕ = length c.args.u.now in
    (best c.args.columns.now c.args.l.now n c.trace_back.new.u c.metric_rows.new.rows
    (record { within = c.requires.within; cap = cap_of c.args.columns.now n c.args.l.now c.requires.l c.requires.short; long = omega arith; rows_are = c.metric_rows.ensures; bits_are = c.trace_back.ensures })).0

pub returns-clause-score : goal.returns-clause-score
returns-clause-score c =
    let n : ℕ = length c.args.u.now in
    score c.args.columns.now c.args.l.now n c.trace_back.new.u c.metric_rows.new.rows
    (record { within = c.requires.within; cap = cap_of c.args.columns.now n c.args.l.now c.requires.l c.requires.short; long = omega arith; rows_are = c.metric_rows.ensures; bits_are = c.trace_back.ensures })

pub returns-clause-size : goal.returns-clause-size
returns-clause-size c =
    let n : ℕ = length c.args.u.now in
    rows-within c.args.columns.now c.args.l.now (n + 2) c.metric_rows.new.rows c.metric_rows.ensures c.requires.within (cap_of c.args.columns.now n c.args.l.now c.requires.l c.requires.short)

pub returns-clause-accepted : goal.returns-clause-accepted
returns-clause-accepted c =
    let n : ℕ = length c.args.u.now in
    accepted c.args.columns.now c.args.l.now n c.trace_back.new.u c.metric_rows.new.rows
    (record { within = c.requires.within; cap = cap_of c.args.columns.now n c.args.l.now c.requires.l c.requires.short; long = omega arith; rows_are = c.metric_rows.ensures; bits_are = c.trace_back.ensures })
