use Rattle.hpe_witness.proofs.best.best_path.Given as goal

abbrev pub ghosts-metric_rows : goal.ghosts-metric_rows
ghosts-metric_rows a = record { name = a.blank.name; parts = a.blank.parts }
